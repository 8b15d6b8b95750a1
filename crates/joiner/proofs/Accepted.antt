-- A set-up is accepted exactly where it is acceptable; the joiner is then the fresh one: the IDs in their order, and every
-- channel with nothing seen and nothing held.
-- Assumes nothing.
use Prim.Native.Nat.{ℕ, ◌-◌, ◌≤◌, ◌<◌}
use Rattle.std.specs.Prelude.{Result, Ok, Err}
use Rattle.refusal.specs.declared.Refusal.{Refusal}
use Rattle.refusal.specs.declared.Refusal.TheVariants.{NoJoiner}
use mathlib.Core.Path.{◌≡◌, refl, sym, ap, ◌∙◌}
use mathlib.Core.Bool.{Bool, true, false, ◌&&◌, cond}
use mathlib.Core.List.{List, [], ◌∷◌, map}
use native.Mathlib.Omega.{arith}
use borrow.Author.Tests.{le-leb, leb-true}
use lib.Dec.{leb}
use lib.ListN.{length, get_or, replicate, length-map, length-append, length-replicate, get_or-append, get_or-map}
use lib.Seq.{take_at}
use Rattle.binding.specs.Header.{senders}
use Rattle.channel.specs.Record.{channel_limit, new_channel, good_channel}
use Rattle.channel.proofs.Cases.{channel_says, sound_good}
use Rattle.joiner.specs.declared.Joiner.{Joiner}
use Rattle.joiner.specs.Setup.{distinct, sender_of, senders_of, channel_at, good, good_sizes, fresh_of, setup_of, Acceptable}
use Rattle.joiner.specs.View.{view_of}
use Rattle.joiner.proofs.Places.{distinct_says, is_distinct}
use Rattle.joiner.proofs.Lookups.{Sizes}
use Rattle.joiner.proofs.Judging.{Good, good_says}
use Rattle.joiner.proofs.Standing.{Standing, good_is}

senders_back : (ids : List ℕ) → map sender_of (map new_channel ids) ≡ ids
senders_back [] = refl
senders_back (x ∷ xs) = ap (◌∷◌ x) (senders_back xs)

module _ (ids : List ℕ) (R : ℕ) (few : length ids ≤ channel_limit) where
  pub fresh-width : length (fresh_of ids R).channels ≡ channel_limit
  unfolding fresh_of
  fresh-width =
      length-append (map new_channel ids) (replicate (channel_limit - length ids) (new_channel 0))
      ∙ omega (arith, length-map ids new_channel, length-replicate (channel_limit - length ids) (new_channel 0))

  pub fresh-channel : (k : ℕ) → k < length ids → channel_at (fresh_of ids R) k ≡ new_channel (get_or ids k 0)
  unfolding fresh_of
  fresh-channel k h =
      get_or-append (map new_channel ids) (replicate (channel_limit - length ids) (new_channel 0)) (new_channel 0) k (omega (arith, length-map ids new_channel))
      ∙ get_or-map new_channel ids k 0

  pub fresh-senders : senders_of (fresh_of ids R) ≡ ids
  unfolding fresh_of
  fresh-senders =
      ap (map sender_of) (take_at (map new_channel ids) (replicate (channel_limit - length ids) (new_channel 0)) (length ids)
      (length-map ids new_channel)) ∙ senders_back ids

  pub fresh-view : (rooms : List ℕ) (k : ℕ) → k < length ids → view_of (fresh_of ids R) rooms k ≡ record { channel = new_channel (get_or ids k 0); bytes = [] }
  fresh-view rooms k h = rw (fresh-channel k h)

  -- what the fresh joiner is judged by
  pub fresh-good : (b : ℕ) → Acceptable ids R b → good (fresh_of ids R) b ≡ true
  unfolding fresh_of
  fresh-good b a = good_is (fresh_of ids R) b fresh-width (record { sizes = sizes; each = each; once = ap distinct fresh-senders ∙ is_distinct ids a.once })
    where
      sizes : Sizes (length ids) R b
      sizes = record { some = a.some; few = a.few; wide = a.wide; narrow = a.narrow; whole = a.whole }

      each : (k : ℕ) → k < length ids → good_channel R (channel_at (fresh_of ids R) k) ≡ true
      each k h = ap (good_channel R) (fresh-channel k h)
          ∙ sound_good R (new_channel (get_or ids k 0)) (record { sender = a.range k h; held = omega arith; last = omega arith })

  pub good-fresh : (b : ℕ) → good (fresh_of ids R) b ≡ true → Acceptable ids R b
  unfolding fresh_of
  good-fresh b e = record {
    some = z.some;
    few = z.few;
    wide = z.wide;
    narrow = z.narrow;
    whole = z.whole;
    range = range;
    once = distinct_says ids (ap distinct (sym fresh-senders) ∙ g.once);
  }
    where
      g : Good (fresh_of ids R) b
      g = good_says (fresh_of ids R) b fresh-width e

      z : Sizes (length ids) R b
      z = g.sizes

      range : (k : ℕ) → k < length ids → get_or ids k 0 < senders
      range k h = (channel_says R (new_channel (get_or ids k 0)) (ap (good_channel R) (sym (fresh-channel k h)) ∙ g.each k h)).sender

module _ (ids : List ℕ) (R b : ℕ) where
  pub accepts : Acceptable ids R b → setup_of ids R b ≡ Ok (fresh_of ids R)
  unfolding setup_of
  accepts a = rw (le-leb (length ids) channel_limit a.few, fresh-good ids R a.few b a)

  module _ {j : Joiner} (e : setup_of ids R b ≡ Ok j) where
    accepted-by : (length ids ≤ channel_limit) × (good (fresh_of ids R) b ≡ true)
    unfolding setup_of
    accepted-by = go (leb (length ids) channel_limit) refl (good (fresh_of ids R) b) refl e
      where
        go : (t : Bool) → leb (length ids) channel_limit ≡ t → (g : Bool) → good (fresh_of ids R) b ≡ g
            → cond (t && g) (Ok (fresh_of ids R)) (Err NoJoiner) ≡ Ok j → (length ids ≤ channel_limit) × (good (fresh_of ids R) b ≡ true)
        go true h true f q = (leb-true (length ids) channel_limit h, f)
        go true h false f q = let z : ◌≡◌ {A = ℕ} 0 1 = cc in absurd (omega arith)
        go false h g f q = let z : ◌≡◌ {A = ℕ} 0 1 = cc in absurd (omega arith)

    pub accepted : Acceptable ids R b
    accepted = good-fresh ids R accepted-by.0 b accepted-by.1

    pub accepted-joiner : j ≡ fresh_of ids R
    accepted-joiner = let q : ◌≡◌ {A = Result Joiner Refusal} (Ok j) (Ok (fresh_of ids R)) = sym e ∙ accepts accepted in cc

    pub accepted-standing : Standing j b
    accepted-standing = rw accepted-joiner (record { width = fresh-width ids R accepted-by.0; well = accepted-by.1 })

-- a joiner of no channels, which `promises` has beside a refusal, is not good: whatever it is handed in with gets 20
pub refused_joiner : (b : ℕ) → good (fresh_of [] 0) b ≡ false
unfolding good good_sizes fresh_of
refused_joiner b = refl

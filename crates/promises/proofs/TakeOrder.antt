-- The order of checks for a set-up and for a datagram that is taken: 20 to 23.
-- Assumes nothing.
use Prim.Native.Nat.{ℕ, ◌≤◌, ◌<◌}
use mathlib.Core.Path.{◌≡◌, refl, sym, subst, ◌∙◌}
use mathlib.Core.Bool.{Bool, true, false, not, cond, ◌&&◌}
use mathlib.Core.List.{List, [], ◌∷◌}
use native.Mathlib.Omega.{arith}
use borrow.Author.Tests.{leb-true, ltb-true, ltb-false, le-leb}
use lib.Dec.{eqb, leb, ltb}
use lib.ListN.{length, get_or}
use Rattle.std.specs.Prelude.{Ok}
use Rattle.refusal.specs.Refusal.{refused}
use Rattle.wire.proofs.Cond.{clash}
use Rattle.binding.specs.Header.{sender_in, version_in}
use Rattle.channel.specs.Record.{channel_limit}
use Rattle.channel.proofs.Cases.{channel_says, sound_good}
use Rattle.channel.proofs.Cases as cases
use Rattle.joiner.specs.declared.Joiner.{Joiner}
use Rattle.joiner.specs.Setup.{senders_of, channel_at, good, fresh_of, setup_of, Acceptable}
use Rattle.joiner.specs.Take.{sent_to, heading_by, judged_of, taken_by, taken_of}
use Rattle.joiner.proofs.Places.{at_place, place_first, distinct_says, is_distinct}
use Rattle.joiner.proofs.Lookups.{senders-length, senders-at}
use Rattle.joiner.proofs.Judging.{Good, good_says}
use Rattle.joiner.proofs.Standing.{good_is}
use Rattle.joiner.proofs.Accepted.{fresh-good, good-fresh}
use Rattle.promises.specs.Checks.{◌when◌, Answers, none}
use Rattle.promises.specs.Order.{CanSetUp, GoodJoiner, take_checks, its_channel, moved, kept_with}
use Rattle.promises.proofs.Checks.{Decides, not_decides, decides_same, unless, unless-then}
use Rattle.promises.proofs.Order.{inside, version_decides}

-- a set-up
acceptable_decides : (ids : List ℕ) (R buffer : ℕ) → Decides (leb (length ids) channel_limit && good (fresh_of ids R) buffer) (Acceptable ids R buffer)
acceptable_decides ids R buffer = record { yes_is = λ e. go (leb (length ids) channel_limit) refl e; no_is = λ e a. clash e (both a) }
  where
    go : (b : Bool) → leb (length ids) channel_limit ≡ b → (b && good (fresh_of ids R) buffer) ≡ true → Acceptable ids R buffer
    go true q e = good-fresh ids R (leb-true (length ids) channel_limit q) buffer e
    go false q e = absurd (clash refl e)

    both : Acceptable ids R buffer → (leb (length ids) channel_limit && good (fresh_of ids R) buffer) ≡ true
    both a = rw (le-leb (length ids) channel_limit a.few, fresh-good ids R a.few buffer a)

-- in 01's numbers
can_decides : (ids : List ℕ) (R buffer : ℕ) → Decides (leb (length ids) channel_limit && good (fresh_of ids R) buffer) (CanSetUp ids R buffer)
can_decides ids R buffer = decides_same (acceptable_decides ids R buffer) there back
  where
    there : Acceptable ids R buffer → CanSetUp ids R buffer
    there a =
        record { some = a.some; few = a.few; wide = a.wide; narrow = a.narrow; whole = a.whole; range = a.range; once = a.once }

    back : CanSetUp ids R buffer → Acceptable ids R buffer
    back a =
        record { some = a.some; few = a.few; wide = a.wide; narrow = a.narrow; whole = a.whole; range = a.range; once = a.once }

pub setup_in_order : (ids : List ℕ) (R buffer : ℕ) → Answers refused (Ok (fresh_of ids R)) (20 when (¬ (CanSetUp ids R buffer)) ∷ []) (setup_of ids R buffer)
unfolding setup_of
setup_in_order ids R buffer =
    unless refused (Ok (fresh_of ids R)) (leb (length ids) channel_limit && good (fresh_of ids R) buffer) 20
    (not_decides (leb (length ids) channel_limit && good (fresh_of ids R) buffer) (can_decides ids R buffer)) none

-- a joiner that is handed in
module _ (j : Joiner) (buffer : ℕ) (w : length j.channels ≡ channel_limit) where
  sound : Good j buffer → GoodJoiner j buffer
  sound g =
      let l : length (senders_of j) ≡ j.count = senders-length j g.sizes.few w in
      let at : (k : ℕ) → k < j.count → get_or (senders_of j) k 0 ≡ (channel_at j k).sender = senders-at j g.sizes.few w in
      let each : (k : ℕ) → k < j.count → cases.Sound j.room (channel_at j k) = λ k h. channel_says j.room (channel_at j k) (g.each k h) in
      record {
        some = g.sizes.some;
        few = g.sizes.few;
        wide = g.sizes.wide;
        narrow = g.sizes.narrow;
        whole = g.sizes.whole;
        range = λ k h. (each k h).sender;
        held = λ k h. (each k h).held;
        last = λ k h. (each k h).last;
        once = λ a b h k e. distinct_says (senders_of j) g.once a b h (omega (arith, l)) (at a (omega arith) ∙ e ∙ sym (at b k));
      }

  well : GoodJoiner j buffer → Good j buffer
  well s =
      let l : length (senders_of j) ≡ j.count = senders-length j s.few w in
      let at : (k : ℕ) → k < j.count → get_or (senders_of j) k 0 ≡ (channel_at j k).sender = senders-at j s.few w in
      record {
        sizes = record { some = s.some; few = s.few; wide = s.wide; narrow = s.narrow; whole = s.whole };
        each = λ k h. sound_good j.room (channel_at j k) (record { sender = s.range k h; held = s.held k h; last = s.last k h });
        once = is_distinct (senders_of j) (λ a b h k e. s.once a b h (omega (arith, l)) (sym (at a (omega (arith, l))) ∙ e ∙ at b (omega (arith, l))));
      }

  good-decides : Decides (good j buffer) (GoodJoiner j buffer)
  good-decides = record { yes_is = λ e. sound (good_says j buffer w e); no_is = λ e s. clash e (good_is j buffer w (well s)) }

  -- 23, where the joiner is good
  module _ (d : List ℕ) (few : j.count ≤ channel_limit) where
    abbrev Nobody : Type 0
    Nobody = (k : ℕ) → k < j.count → ¬ ((channel_at j k).sender ≡ sender_in d)

    sender-decides : Decides (not (ltb (its_channel j d) j.count)) Nobody
    sender-decides = record {
      yes_is = λ e. nobody (yes (ltb (its_channel j d) j.count) refl e);
      no_is = λ e n. no (ltb (its_channel j d) j.count) refl e n;
    }
      where
        l : length (senders_of j) ≡ j.count
        l = senders-length j few w

        at : (k : ℕ) → k < j.count → get_or (senders_of j) k 0 ≡ (channel_at j k).sender
        at = senders-at j few w

        yes : (b : Bool) → ltb (its_channel j d) j.count ≡ b → not b ≡ true → j.count ≤ its_channel j d
        yes true q e = absurd (clash refl e)
        yes false q e = ltb-false (its_channel j d) j.count q

        nobody : j.count ≤ its_channel j d → Nobody
        nobody h k m e = omega (arith, place_first (senders_of j) (sender_in d) k (omega (arith, l)) (at k m ∙ e))

        no : (b : Bool) → ltb (its_channel j d) j.count ≡ b → not b ≡ false → ¬ Nobody
        no true q e n =
            let h : its_channel j d < j.count = ltb-true (its_channel j d) j.count q in
            n (its_channel j d) h (sym (at (its_channel j d) h) ∙ at_place (senders_of j) (sender_in d) (omega (arith, l)))
        no false q e n = clash e refl

-- what `take` answers, by its four tests
take_shape : (j : Joiner) (rooms d : List ℕ) → taken_of j rooms d
    ≡ cond (good j (length rooms))
    (cond (leb 5 (length d) && leb (length d) 65507)
    (cond (eqb (version_in d) 0) (cond (ltb (its_channel j d) j.count) (moved j d) (kept_with j 23)) (kept_with j 22)) (kept_with j 21)) (kept_with j 20)
unfolding taken_of taken_by judged_of heading_by sent_to
take_shape j rooms d = go (good j (length rooms)) refl (leb 5 (length d) && leb (length d) 65507) refl (eqb (version_in d) 0) refl
    (ltb (its_channel j d) j.count) refl
  where
    go : (a : Bool) → good j (length rooms) ≡ a → (b : Bool) → (leb 5 (length d) && leb (length d) 65507) ≡ b → (v : Bool)
        → eqb (version_in d) 0 ≡ v → (k : Bool) → ltb (its_channel j d) j.count ≡ k → taken_of j rooms d
        ≡ cond a (cond b (cond v (cond k (moved j d) (kept_with j 23)) (kept_with j 22)) (kept_with j 21)) (kept_with j 20)
    go false ea b eb v ev k ek = rw ea
    go true ea false eb v ev k ek = rw (ea, eb)
    go true ea true eb false ev k ek = rw (ea, eb, ev)
    go true ea true eb true ev false ek = rw (ea, eb, ev, ek)
    go true ea true eb true ev true ek = rw (ea, eb, ev, ek)

pub take_in_order : (j : Joiner) (rooms d : List ℕ) → length j.channels ≡ 32
    → Answers (kept_with j) (moved j d) (take_checks j (length rooms) d) (taken_of j rooms d)
take_in_order j rooms d w =
    subst (Answers (kept_with j) (moved j d) (take_checks j (length rooms) d)) (sym (take_shape j rooms d))
    (unless-then (kept_with j) (moved j d) (good j (length rooms)) 20 (not_decides (good j (length rooms)) (good-decides j (length rooms) w)) (λ g.
    unless (kept_with j) (moved j d) (leb 5 (length d) && leb (length d) 65507) 21 (inside 5 65507 (length d))
    (unless (kept_with j) (moved j d) (eqb (version_in d) 0) 22 (version_decides d)
    (unless (kept_with j) (moved j d) (ltb (its_channel j d) j.count) 23
    (sender-decides j (length rooms) w d (good_says j (length rooms) w g).sizes.few) none))))

-- How a fresh joiner is made, record by record, and what a set-up answers.
-- Assumes nothing.
use Prim.Native.Nat.{ℕ, suc, ◌+◌, ◌-◌, ◌≤◌, ◌<◌}
use Rattle.std.specs.Prelude.{Ok, Err}
use Rattle.refusal.specs.declared.Refusal.TheVariants.{NoJoiner}
use mathlib.Core.Path.{◌≡◌, sym, ap, ◌∙◌}
use mathlib.Core.Bool.{Bool, true, false}
use mathlib.Core.List.{List, [], ◌∷◌, ◌++◌, map, map-append, append_assoc}
use native.Mathlib.Omega.{arith}
use native.Mathlib.Numerals.{add-one}
use borrow.Author.Tests.{le-leb, lt-leb}
use lib.ListN.{length, get_or, set, take, replicate, length-map}
use lib.Seq.{length-take-le, take-suc, take-length, set_at}
use Rattle.channel.specs.declared.Channel.{Channel}
use Rattle.channel.specs.Record.{channel_limit, new_channel}
use Rattle.joiner.specs.declared.Joiner.{Joiner}
use Rattle.joiner.specs.Setup.{good, fresh_of, setup_of}
use Rattle.joiner.specs.JoinerWords.{joiner_in, words_of}
use Rattle.joiner.proofs.FoundBack.{good_back}

-- the records when those of the first i IDs are made
abbrev pub made_of : List ℕ → ℕ → List Channel
made_of ids i = map new_channel (take i ids) ++ replicate (channel_limit - i) (new_channel 0)

pub made_none : {z : Channel} (ids : List ℕ) → z ≡ new_channel 0 → replicate channel_limit z ≡ made_of ids 0
made_none ids e = ap (replicate channel_limit) e

pub made_more : {cs : List Channel} {x : Channel} (ids : List ℕ) (i : ℕ) → cs ≡ made_of ids i → i < length ids → length ids ≤ channel_limit
    → x ≡ new_channel (get_or ids i 0) → set cs i x ≡ made_of ids (i + 1)
made_more {cs} {x} ids i e h l f =
    let p : List Channel = map new_channel (take i ids) in
    let ys : List Channel = replicate (channel_limit - (i + 1)) (new_channel 0) in
    let n : channel_limit - i ≡ suc (channel_limit - (i + 1)) = omega arith in
    let g : length p ≡ i = length-map (take i ids) new_channel ∙ length-take-le i ids (omega arith) in
    let t : take (i + 1) ids ≡ take i ids ++ (get_or ids i 0 ∷ []) = ap (λ (m : ℕ). take m ids) (add-one i) ∙ take-suc ids i 0 h in
    ap (λ (u : List Channel). set u i x) (e ∙ ap (λ (m : ℕ). p ++ replicate m (new_channel 0)) n)
    ∙ set_at p (new_channel 0) ys x i g
    ∙ ap (λ (u : Channel). p ++ u ∷ ys) f
    ∙ sym (append_assoc p (new_channel (get_or ids i 0) ∷ []) ys)
    ∙ ap (λ (u : List Channel). u ++ ys) (sym (map-append new_channel (take i ids) (get_or ids i 0 ∷ [])) ∙ ap (map new_channel) (sym t))

pub made_all : {cs : List Channel} (ids : List ℕ) (i R : ℕ) → cs ≡ made_of ids i → i ≤ length ids → length ids ≤ i
    → record { channels = cs; count = length ids; room = R } ≡ fresh_of ids R
unfolding fresh_of
made_all {cs} ids i R e h l =
    let n : i ≡ length ids = omega arith in
    let f : cs ≡ map new_channel ids ++ replicate (channel_limit - length ids) (new_channel 0) = e ∙ rw (n, take-length ids) in
    rw f

-- `is_good`
pub judged_good : {t : Bool} {ws : List ℕ} (j : Joiner) (b : ℕ) → length j.channels ≡ channel_limit → ws ≡ words_of j → t ≡ good (joiner_in ws) b → t ≡ good j b
judged_good j b w ew e = e ∙ ap (λ (v : List ℕ). good (joiner_in v) b) ew ∙ good_back j b w

module _ (ids : List ℕ) (R b : ℕ) where
  pub set_up : {t : Bool} {j : Joiner} → length ids ≤ channel_limit → j ≡ fresh_of ids R → t ≡ good j b → t ≡ true → Ok j ≡ setup_of ids R b
  unfolding setup_of
  set_up {t} {j} h e f g =
      let q : good (fresh_of ids R) b ≡ true = ap (λ (i : Joiner). good i b) (sym e) ∙ sym f ∙ g in
      rw (le-leb (length ids) channel_limit h, q, e)

  pub not_good : {t : Bool} {j : Joiner} → length ids ≤ channel_limit → j ≡ fresh_of ids R → t ≡ good j b → t ≡ false → Err NoJoiner ≡ setup_of ids R b
  unfolding setup_of
  not_good {t} {j} h e f g =
      let q : good (fresh_of ids R) b ≡ false = ap (λ (i : Joiner). good i b) (sym e) ∙ sym f ∙ g in
      rw (le-leb (length ids) channel_limit h, q)

  pub too_many : channel_limit < length ids → Err NoJoiner ≡ setup_of ids R b
  unfolding setup_of
  too_many h = rw (lt-leb (length ids) channel_limit h)

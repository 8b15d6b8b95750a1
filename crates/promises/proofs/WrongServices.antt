-- Wrong ways to keep services: a status, or a platform that goes DOWN, computed for each, shows what `ServicesBy` rules out.
-- Assumes nothing.
use Prim.Native.Nat.{ℕ, zero, suc, ◌≤◌, ◌<◌}
use Prim.{tt}
use mathlib.Core.Path.{◌≡◌, refl, sym, ap, ◌∙◌}
use mathlib.Core.Bool.{false, true≢false}
use mathlib.Core.List.{List, [], ◌∷◌, ◌++◌}
use native.Mathlib.Omega.{arith}
use borrow.Author.Tests.{ne_eqb}
use lib.ListN.{replicate}
use Rattle.wire.specs.All.{all_below}
use Rattle.wire.specs.Bytes.{bytes}
use Rattle.services.specs.declared.Availability.{Availability}
use Rattle.services.specs.declared.Availability.TheVariants.{Unheard, Unavailable, Available}
use Rattle.services.specs.Word.{says, told_state, word_for}
use Rattle.services.specs.Block.{availability_in, pair_has_place, pair_told, pairs_told, has_place, all_have_places, status_fits, note_refusal, status_noted}
use Rattle.services.specs.Known.{known, Packed, is_in, with, NoneTwice, known_with}
use Rattle.services.proofs.OnePair.{its_id, not_free, known_more}
use Rattle.promises.specs.Services.{KemptBlock, named_by, start, status, ServicesBy}
use Rattle.promises.specs.WorkedServices.{full, pair}
use Rattle.promises.specs.WrongServices.{dropping, noting_some, told_from_right, first_wins, replacing, forgetting, leaving, NoWrongKeeping}
use Rattle.promises.proofs.SmallTraffic.{octets_are}
use Rattle.promises.proofs.Services.{services}

-- two states differ
abbrev pub numbered : Availability → ℕ
numbered Unheard = 0
numbered Unavailable = 1
numbered Available = 2

-- service 5 told AVAILABLE; UNAVAILABLE and then AVAILABLE; service 6 told; services 257 and 258 told
abbrev pub five : List ℕ
five = bytes 2 1 ++ pair 5 1

abbrev pub twice : List ℕ
twice = bytes 2 2 ++ (pair 5 0 ++ pair 5 1)

abbrev six : List ℕ
six = bytes 2 1 ++ pair 6 1

abbrev pub more : List ℕ
more = bytes 2 2 ++ (pair 257 1 ++ pair 258 1)

-- a block that is full
module _ (n : ℕ) (h : suc n ≤ 256) where
  full-known : known (full (suc n)) ≡ suc n ∷ known (full n)
  full-known =
      known_more (word_for (suc n) 1) (full n) (not_free (suc n) 1 (omega arith))
      ∙ ap (λ (x : ℕ). x ∷ known (full n)) (its_id (suc n) 1 (omega arith))

full_packed : (n : ℕ) → n ≤ 256 → Packed (full n)
unfolding Packed
full_packed zero h = tt
full_packed (suc n) h = (λ e. absurd (true≢false (sym e ∙ not_free (suc n) 1 (omega arith))), full_packed n (omega arith))

not_in : (n x : ℕ) → n ≤ 256 → n < x → is_in x (known (full n)) ≡ false
unfolding known is_in
not_in zero x h l = refl
not_in (suc n) x h l = ap (is_in x) (full-known n h) ∙ rw (ne_eqb (suc n) x (λ e. omega arith)) (not_in n x (omega arith) (omega arith))

full_once : (n : ℕ) → n ≤ 256 → NoneTwice (known (full n))
unfolding known NoneTwice
full_once zero h = tt
full_once (suc n) h = rw (full-known n h) (not_in n (suc n) (omega arith) (omega arith), full_once n (omega arith))

pub kempt : KemptBlock (full 256)
kempt = record { whole = refl; packed = full_packed 256 (omega arith); once = full_once 256 (omega arith) }

-- a 257th service: no number
no_drops : ¬ (ServicesBy dropping)
unfolding known is_in with known_with word_for
no_drops h =
    let z : ◌≡◌ {A = ℕ} 0 63 = h.exactly (full 256) more kempt (octets_are more refl) in
    omega arith

-- one place left and two new services: the first is noted
abbrev almost : List ℕ
almost = full 255 ++ (0 ∷ [])

refused : note_refusal almost more ≡ 63
unfolding all_below pair_has_place pair_told pairs_told has_place all_have_places status_fits note_refusal word_for
refused = refl

no_notes_some : ¬ (ServicesBy noting_some)
unfolding pair_told pairs_told says word_for
no_notes_some h =
    let z : ◌≡◌ {A = ℕ} 2 0 = ap (λ (b : List ℕ). numbered (availability_in b 257)) (h.keeps almost more (λ e. omega (arith, refused))) in
    omega arith

-- a service told twice: the state of the first
no_first_wins : ¬ (ServicesBy first_wins)
unfolding all_below pair_has_place pair_told pairs_told has_place all_have_places status_fits note_refusal told_from_right says told_state word_for
no_first_wins h =
    let b : KemptBlock (replicate 256 0) = services.kept.block (replicate 256 0) start in
    let e = h.last_pair (replicate 256 0) twice b (octets_are twice refl) refl 1 (omega arith) (λ k l m. absurd (omega arith)) in
    let z : ◌≡◌ {A = ℕ} 1 2 = ap numbered e in
    omega arith

-- service 5 and then a status of service 6
abbrev known_five : List ℕ
known_five = status_noted (replicate 256 0) five

no_replaces : ¬ (ServicesBy replacing)
unfolding all_below pair_has_place pair_told pairs_told has_place all_have_places status_fits note_refusal status_noted says told_state word_for
no_replaces h =
    let b : KemptBlock known_five = services.kept.block known_five (status five (octets_are five refl) start) in
    let e = h.others known_five six b (octets_are six refl) refl 5 other in
    let z : ◌≡◌ {A = ℕ} 0 2 = ap numbered e in
    omega arith
  where
    other : (k : ℕ) → k < 1 → ¬ (named_by six k ≡ 5)
    other zero l e = omega arith
    other (suc k) l e = omega arith

-- service 5, and DOWN
heard_five : availability_in (word_for 5 1 ∷ []) 5 ≡ Unheard → ⊥
unfolding says word_for
heard_five e =
    let z : ◌≡◌ {A = ℕ} 2 0 = ap numbered e in
    omega arith

no_forgets : ¬ (ServicesBy forgetting)
unfolding says word_for
no_forgets h =
    let z : ◌≡◌ {A = ℕ} 0 1 = ap numbered (h.down_known (word_for 5 1 ∷ []) 5 heard_five) in
    omega arith

no_leaves : ¬ (ServicesBy leaving)
unfolding says word_for
no_leaves h =
    let z : ◌≡◌ {A = ℕ} 2 1 = ap numbered (h.down_known (word_for 5 1 ∷ []) 5 heard_five) in
    omega arith

pub no_wrong_keeping : NoWrongKeeping
no_wrong_keeping =
    record {
      drops = no_drops;
      notes_some = no_notes_some;
      first-wins = no_first_wins;
      replaces = no_replaces;
      forgets = no_forgets;
      leaves = no_leaves;
    }

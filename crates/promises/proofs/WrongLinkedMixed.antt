-- Wrong ways to keep services, asked for in words: one call for each, and one that asks before it and after it.
-- Assumes nothing.
use Prim.Native.Nat.{ℕ, ◌*◌}
use mathlib.Core.Path.{◌≡◌, refl, sym, subst}
use mathlib.Core.List.{List, [], ◌∷◌}
use native.Mathlib.Omega.{arith}
use lib.ListN.{take, drop, replicate}
use Rattle.wire.specs.All.{all_below}
use Rattle.table.specs.Layout.{lies_in, within}
use Rattle.services.specs.Word.{says, word_for}
use Rattle.services.specs.Block.{pair_has_place, pair_told, pairs_told, has_place, all_have_places, status_fits, note_refusal, status_noted}
use Rattle.partners.specs.Threes.{bit_in, is_three, threes_before}
use Rattle.states.specs.States.{word_of, bit_of, stands_up, count_below}
use Rattle.mixed.specs.Form.{three_form}
use Rattle.mixed.specs.Reading.{any_of}
use Rattle.mixed.specs.Keeping.{note_number, mark_number}
use Rattle.mixed_words.specs.ServiceCalls.{service_number}
use Rattle.promises.specs.Services.{KemptBlock}
use Rattle.promises.specs.WorkedServices.{full}
use Rattle.promises.specs.WorkedMixed.{empty}
use Rattle.promises.specs.WrongServices.{told_from_right}
use Rattle.promises.specs.WrongMixed.{call_by, dropping, noting_some, first_wins, one_block, marking_all, forgetting, both, telling, going_down}
use Rattle.promises.specs.WrongMixed.{almost, five_of_7, five_of_8}
use Rattle.promises.specs.LinkedReplies3.{ServiceIs}
use Rattle.promises.specs.LinkedMixed.{MixedLent, fresh, AllKempt, Stays}
use Rattle.promises.specs.WrongLinkedMixed.{TellsRightly, NoWrongLinkedMixed}
use Rattle.promises.proofs.SmallTraffic.{octets_are}
use Rattle.promises.proofs.WrongServices.{five, twice, more, kempt}
use Rattle.promises.proofs.WrongMixed.{tells7, down7}
use Rattle.promises.proofs.SomeMixed.{is_told}
use Rattle.promises.proofs.LinkedMixed.{linked_mixed}

-- we are platform 1; 7 and 8 speak Issue 3, and 7 is UP; the table is empty
abbrev handed : List ℕ → List ℕ → MixedLent
handed ws m =
    record {
      own = 1;
      partners = both;
      ours = [];
      platform = 0x80 ∷ 0 ∷ 0 ∷ 0 ∷ 0 ∷ [];
      services = ws;
      table = empty;
      message = m;
      output = [];
    }

-- what is told of a service, where that stays
is_same : (i was ws : List ℕ) (j x : ℕ) → Stays i was ws j x → service_number i ws j x ≡ service_number i was j x
is_same i was ws j x h =
    is_told i ws j x (λ (n : ℕ). n ≡ service_number i was j x) (is_told i was j x (λ (n : ℕ). ServiceIs i ws j x n) h)

-- platform 7 has 256 services, and for 8 there are no words
full_kempt : AllKempt both (full 256)
full_kempt j t h =
    let z : threes_before both j ≡ 0 = omega (arith, kempt.whole) in
    subst (λ (k : ℕ). KemptBlock (take 256 (drop (256 * k) (full 256)))) (sym z) kempt

no_drops : ¬ (TellsRightly (call_by dropping))
unfolding lies_in within any_of three_form is_three bit_in count_below all_below pair_told pairs_told says word_for
no_drops h =
    let f = (h (handed (full 256) (telling 7 more))).last_pair (octets_are (telling 7 more) refl, full_kempt) refl 7 (tells7 more) 1
    (omega arith) (λ k l m. absurd (omega arith)) in
    let z : ◌≡◌ {A = ℕ} 0 2 = is_told both _ 7 258 _ f in
    omega arith

no_notes_some : ¬ (TellsRightly (call_by noting_some))
unfolding lies_in within any_of three_form is_three bit_in count_below all_below pair_has_place pair_told pairs_told has_place all_have_places status_fits
    note_refusal note_number says word_for
no_notes_some h =
    let z : ◌≡◌ {A = ℕ} 2 0 =
    is_same both almost _ 7 257 ((h (handed almost (telling 7 more))).refused (λ q. let z : ◌≡◌ {A = ℕ} 63 0 = q in omega arith) 7 257) in
    omega arith

no_first_wins : ¬ (TellsRightly (call_by first_wins))
unfolding lies_in within any_of three_form is_three bit_in count_below all_below pair_has_place pair_told pairs_told has_place all_have_places status_fits
    note_refusal note_number told_from_right says word_for
no_first_wins h =
    let f = (h (handed (replicate 256 0) (telling 7 twice))).last_pair
    (octets_are (telling 7 twice) refl, linked_mixed.kempt both (replicate 256 0) (fresh 256)) refl 7 (tells7 twice) 1
    (omega arith) (λ k l m. absurd (omega arith)) in
    let z : ◌≡◌ {A = ℕ} 1 2 = is_told both _ 7 5 _ f in
    omega arith

no_one_block : ¬ (TellsRightly (call_by one_block))
unfolding lies_in within any_of three_form is_three bit_in count_below all_below pair_has_place pair_told pairs_told has_place all_have_places status_fits
    status_noted says word_for
no_one_block h =
    let z : ◌≡◌ {A = ℕ} 2 0 =
    is_same both (replicate 512 0) _ 7 5
    ((h (handed (replicate 512 0) (telling 8 five))).others 7 5 (λ w. let q : ◌≡◌ {A = ℕ} 8 7 = w.1.1 in omega arith)
    (λ w. let q : ◌≡◌ {A = ℕ} 8 7 = w.1.1 in omega arith)) in
    omega arith

no_marks_all : ¬ (TellsRightly (call_by marking_all))
unfolding lies_in within any_of three_form is_three bit_in count_below stands_up bit_of word_of says word_for
no_marks_all h =
    let z : ◌≡◌ {A = ℕ} 1 2 =
    is_same both five_of_8 _ 8 5
    ((h (handed five_of_8 (going_down 7))).others 8 5 (λ w. let q : ◌≡◌ {A = ℕ} 7 8 = w.1.1 in omega arith)
    (λ w. let q : ◌≡◌ {A = ℕ} 7 8 = w.1.1 in omega arith)) in
    omega arith

no_forgets : ¬ (TellsRightly (call_by forgetting))
unfolding lies_in within any_of three_form is_three bit_in count_below stands_up bit_of word_of mark_number says word_for
no_forgets h =
    let f = (h (handed five_of_7 (going_down 7))).went_down refl 7 down7 5 in
    let g = is_told both five_of_7 7 5 _ f in
    let z : ◌≡◌ {A = ℕ} 0 1 = is_told both _ 7 5 _ g in
    omega arith

pub no_wrong_linked_mixed : NoWrongLinkedMixed
no_wrong_linked_mixed =
    record {
      drops = no_drops;
      notes_some = no_notes_some;
      first-wins = no_first_wins;
      one-block = no_one_block;
      marks_all = no_marks_all;
      forgets = no_forgets;
    }

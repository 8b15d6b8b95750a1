-- Wrong ways to keep services over calls: one message for each shows what `KeepsServices` rules out.
-- Assumes nothing.
use Prim.Native.Nat.{ℕ}
use mathlib.Core.Path.{◌≡◌, refl, ap}
use mathlib.Core.List.{List, []}
use native.Mathlib.Omega.{arith}
use lib.ListN.{replicate}
use Rattle.wire.specs.All.{all_below}
use Rattle.table.specs.Layout.{lies_in, within}
use Rattle.services.specs.Word.{says, word_for}
use Rattle.services.specs.Block.{pair_has_place, pair_told, pairs_told, has_place, all_have_places, status_fits, note_refusal, status_noted, availability_in, marked}
use Rattle.services.specs.Known.{known, is_in, with, known_with}
use Rattle.partners.specs.Threes.{bit_in, is_three}
use Rattle.states.specs.States.{word_of, bit_of, stands_up, count_below}
use Rattle.mixed.specs.Form.{three_form}
use Rattle.mixed.specs.Reading.{any_of}
use Rattle.mixed.specs.Reaction.{operation_for3, on_status3, reaction3}
use Rattle.mixed.specs.Replies.{room_for}
use Rattle.mixed.specs.Keeping.{note_number, with_noted, mark_number, with_marked, kept_number, kept_words}
use Rattle.mixed.specs.Receiving.{is_answer3, settled3, kept3, any_outcome_of, any_words_of}
use Rattle.mixed.specs.Tables.{sections_answer, sections_words}
use Rattle.promises.specs.WorkedServices.{full}
use Rattle.promises.specs.WorkedMixed.{empty}
use Rattle.promises.specs.WrongServices.{told_from_right}
use Rattle.promises.specs.Services.{KemptBlock, start}
use Rattle.promises.specs.MixedServices.{TellsOf, DownOf, KeepsServices}
use Rattle.promises.specs.WrongMixed.{call_by, dropping, noting_some, first_wins, one_block, marking_all, forgetting, both, up, telling, going_down}
use Rattle.promises.specs.WrongMixed.{almost, five_of_7, five_of_8, WrongInOnePlace, NoWrongMixed}
use Rattle.promises.proofs.SmallTraffic.{octets_are}
use Rattle.promises.proofs.Services.{services}
use Rattle.promises.proofs.OurDeeds.{ours_by_deeds}
use Rattle.promises.proofs.WrongServices.{numbered, five, twice, more, kempt}

-- platform 7 tells of services
pub tells7 : (payload : List ℕ) → TellsOf both (telling 7 payload) 7
unfolding is_three bit_in
tells7 payload = ((λ e. omega arith, refl), ((refl, refl), refl))

pub down7 : DownOf 1 both up (going_down 7) 7
unfolding is_three bit_in stands_up bit_of word_of
down7 = ((λ e. omega arith, refl), ((refl, (refl, (refl, refl))), refl))

-- services 257 and 258 told where 256 are known: no number
no_drops : ¬ (KeepsServices (call_by dropping))
unfolding lies_in within any_of three_form is_three bit_in count_below all_below known is_in with known_with word_for
no_drops h =
    let z : ◌≡◌ {A = ℕ} 0 63 = h.exactly empty 1 both [] up [] (full 256) (telling 7 more) 0 7 (octets_are (telling 7 more) refl)
    (record {
      types = (omega arith, omega arith);
      members = (omega arith, omega arith);
      values = (omega arith, omega arith);
      operations = (omega arith, omega arith);
    }) refl (tells7 more) kempt in
    omega arith

-- one place left and two new services: 63, and the first is noted
no_notes_some : ¬ (KeepsServices (call_by noting_some))
unfolding lies_in within any_of three_form is_three bit_in count_below all_below pair_has_place pair_told pairs_told has_place all_have_places status_fits
    note_refusal note_number
    says word_for
no_notes_some h =
    let e = h.refused empty 1 both [] up [] almost (telling 7 more) 0 (λ q. let z : ◌≡◌ {A = ℕ} 63 0 = q in omega arith) in
    let z : ◌≡◌ {A = ℕ} 2 0 = ap (λ (b : List ℕ). numbered (availability_in b 257)) e in
    omega arith

-- a service told twice: the state of the first
no_first_wins : ¬ (KeepsServices (call_by first_wins))
unfolding lies_in within any_of three_form is_three bit_in count_below all_below pair_has_place pair_told pairs_told has_place all_have_places status_fits
    note_refusal note_number told_from_right
    says word_for
no_first_wins h =
    let b : KemptBlock (replicate 256 0) = services.kept.block (replicate 256 0) start in
    let e = h.last_pair empty 1 both [] up [] (replicate 256 0) (telling 7 twice) 0 7 (octets_are (telling 7 twice) refl) refl (tells7 twice) b 1
    (omega arith) (λ k l m. absurd (omega arith)) in
    let z : ◌≡◌ {A = ℕ} 1 2 = ap numbered e in
    omega arith

-- platform 8 tells of service 5: platform 7 has it
no_one_block : ¬ (KeepsServices (call_by one_block))
unfolding lies_in within any_of three_form is_three bit_in count_below all_below pair_has_place pair_told pairs_told has_place all_have_places status_fits
    status_noted says word_for
no_one_block h =
    let e = h.others empty 1 both [] up (replicate 512 0) (telling 8 five) 0 7 refl (λ w. let q : ◌≡◌ {A = ℕ} 8 7 = w.1.1 in omega arith)
    (λ w. let q : ◌≡◌ {A = ℕ} 8 7 = w.1.1 in omega arith) in
    let z : ◌≡◌ {A = ℕ} 2 0 = ap (λ (b : List ℕ). numbered (availability_in b 5)) e in
    omega arith

-- platform 7 goes DOWN: service 5 of platform 8 is marked
no_marks_all : ¬ (KeepsServices (call_by marking_all))
unfolding lies_in within any_of three_form is_three bit_in count_below stands_up bit_of word_of says word_for
no_marks_all h =
    let e = h.others empty 1 both [] up five_of_8 (going_down 7) 0 8 refl (λ w. let q : ◌≡◌ {A = ℕ} 7 8 = w.1.1 in omega arith)
    (λ w. let q : ◌≡◌ {A = ℕ} 7 8 = w.1.1 in omega arith) in
    let z : ◌≡◌ {A = ℕ} 1 2 = ap (λ (b : List ℕ). numbered (availability_in b 5)) e in
    omega arith

-- platform 7 goes DOWN: its service 5 is not known any more
no_forgets : ¬ (KeepsServices (call_by forgetting))
unfolding lies_in within any_of three_form is_three bit_in count_below stands_up bit_of word_of mark_number says word_for
no_forgets h =
    let e = h.down_known empty 1 both [] up [] five_of_7 (going_down 7) 0 7 refl down7 5 (λ q. let z : ◌≡◌ {A = ℕ} 2 0 = ap numbered q in omega arith) in
    let z : ◌≡◌ {A = ℕ} 0 1 = ap numbered e in
    omega arith

elsewhere_right : WrongInOnePlace
unfolding lies_in within any_of three_form is_three bit_in count_below stands_up bit_of word_of all_below says word_for pair_has_place pair_told pairs_told has_place
    all_have_places status_fits note_refusal status_noted marked told_from_right operation_for3 on_status3 reaction3 room_for note_number with_noted mark_number
    with_marked kept_number kept_words is_answer3 settled3 kept3 any_outcome_of any_words_of sections_answer sections_words
elsewhere_right =
    record {
      drops = (refl, refl);
      notes_some = (refl, refl);
      first-wins = (refl, refl);
      one-block = (refl, refl);
      marks_all = (refl, refl);
      forgets = (refl, refl);
    }

pub no_wrong_mixed : NoWrongMixed
no_wrong_mixed =
    record {
      ours = ours_by_deeds;
      elsewhere_right = elsewhere_right;
      drops = no_drops;
      notes_some = no_notes_some;
      first-wins = no_first_wins;
      one-block = no_one_block;
      marks_all = no_marks_all;
      forgets = no_forgets;
    }

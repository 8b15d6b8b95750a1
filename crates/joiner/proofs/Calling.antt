-- What take shows at its returns, with the joiner in words.
-- Assumes nothing.
use Prim.Native.Nat.{ℕ}
use Rattle.std.specs.Prelude.{Option, Result, Ok, Err}
use Rattle.refusal.specs.declared.Refusal.{Refusal}
use Rattle.refusal.specs.Refusal.{number_of}
use Rattle.binding.specs.declared.BindingHeader.{BindingHeader}
use Rattle.channel.specs.declared.Channel.{Channel}
use mathlib.Core.Path.{◌≡◌, sym, ap, ◌∙◌}
use mathlib.Core.List.{List}
use lib.ListN.{length, get_or}
use Rattle.wire.specs.Bytes.{written}
use Rattle.binding.specs.Header.{heading_in}
use Rattle.channel.specs.Outcomes.{number_given}
use Rattle.channel.specs.declared.Step.{Step}
use Rattle.channel.specs.declared.Outcome.{Outcome}
use Rattle.joiner.specs.Setup.{found_of}
use Rattle.joiner.specs.Take.{judged_of, sender_by, judged_by, taken_by, taken_of, put_by, rooms_by, rooms_after}
use Rattle.joiner.specs.declared.Taken.{Taken}
use Rattle.joiner.specs.JoinerWords.{record_at, joiner_in, record_words}
use Rattle.joiner.specs.Calls.{outcome_words, place_in, words_by, take_number, take_words, take_rooms, take_answer}
use Rattle.joiner.proofs.Moving.{step-number, judged_in, words-moved}

-- `take`
module _
    (ws rooms d : List ℕ) {f : Result (Option (ℕ × Channel)) Refusal} {r : Result BindingHeader Refusal} {y R : ℕ} {x : Result (ℕ × Step) Refusal}
    (eR : R ≡ get_or ws 1 0) (er : r ≡ heading_in d) (ey : y ≡ sender_by r) (ef : f ≡ found_of (joiner_in ws) (length rooms) y)
    (ex : x ≡ judged_by f R r (length d)) where
  abbrev taken : Taken
  taken = taken_of (joiner_in ws) rooms d

  judged : x ≡ judged_of (joiner_in ws) (length rooms) d
  judged = judged_in ws (length rooms) d eR er ey ef ex

  module _ (n : Refusal) (m : x ≡ Err n) where
    refused : taken ≡ record { outcome = Err n; joiner = joiner_in ws }
    unfolding taken_of taken_by
    refused = rw (sym judged ∙ m)

    refused-take : number_of n ≡ take_number ws rooms d
    unfolding take_number
    refused-take = sym (ap (λ (t : Taken). number_given t.outcome) refused)

    refused-state : ws ≡ take_words ws rooms d
    unfolding take_words
    refused-state = sym (ap (words_by ws (place_in (joiner_in ws) d)) refused)

    refused-rooms : rooms ≡ take_rooms ws rooms d
    unfolding take_rooms rooms_after rooms_by
    refused-rooms = rw (sym judged ∙ m)

    module _ (out : List ℕ) where
      refused-answer : out ≡ take_answer ws rooms d out
      unfolding take_answer
      refused-answer = sym (ap (λ (t : Taken). outcome_words t.outcome out) refused)

      pub refused_all : {v : ℕ} → v ≡ number_of n →
          (v ≡ take_number ws rooms d) × ((ws ≡ take_words ws rooms d) × ((rooms ≡ take_rooms ws rooms d) × (out ≡ take_answer ws rooms d out)))
      refused_all e = (e ∙ refused-take, (refused-state, (refused-rooms, refused-answer)))

  module _ (k : ℕ) (s : Step) (m : x ≡ Ok (k, s)) where
    moved : judged_of (joiner_in ws) (length rooms) d ≡ Ok (k, s)
    moved = sym judged ∙ m

    taken_is : taken ≡ taken_by (joiner_in ws) (Ok (k, s))
    unfolding taken_of
    taken_is = rw moved

    outcome-is : taken.outcome ≡ Ok s.outcome
    unfolding taken_by
    outcome-is = ap (λ (t : Taken). t.outcome) taken_is

    moved-take : 0 ≡ take_number ws rooms d
    unfolding take_number
    moved-take = step-number s.outcome ∙ ap number_given (sym outcome-is)

    moved-state : {v : List ℕ} → v ≡ written ws (record_at k) (record_words s.channel) → v ≡ take_words ws rooms d
    unfolding take_words
    moved-state e = e ∙ sym (ap (words_by ws (place_in (joiner_in ws) d)) taken_is ∙ words-moved ws (length rooms) d k s moved)

    moved-rooms : {v : List ℕ} → v ≡ put_by rooms s.put d → v ≡ take_rooms ws rooms d
    unfolding take_rooms rooms_after rooms_by
    moved-rooms e = rw moved e

    module _ (out : List ℕ) where
      moved-answer : {v : List ℕ} → v ≡ outcome_words (Ok s.outcome) out → v ≡ take_answer ws rooms d out
      unfolding take_answer
      moved-answer e = e ∙ ap (λ (o : Result Outcome Refusal). outcome_words o out) (sym outcome-is)

      pub moved_all : {u v w : List ℕ} → u ≡ written ws (record_at k) (record_words s.channel) →
          v ≡ put_by rooms s.put d → w ≡ outcome_words (Ok s.outcome) out →
          (0 ≡ take_number ws rooms d) × ((u ≡ take_words ws rooms d) × ((v ≡ take_rooms ws rooms d) × (w ≡ take_answer ws rooms d out)))
      moved_all eu ev ew = (moved-take, (moved-state eu, (moved-rooms ev, moved-answer ew)))

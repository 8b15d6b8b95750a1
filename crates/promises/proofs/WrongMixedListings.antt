-- Wrong lists among partners of both issues: a run of each, computed, shows something else than ours does, which is what the map shows.
-- Assumes nothing.
use Prim.Native.Nat.{ℕ}
use mathlib.Core.Path.{◌≡◌, refl, sym, ap, ◌∙◌}
use mathlib.Core.List.{List, [], ◌∷◌}
use native.Mathlib.Omega.{arith}
use lib.ListN.{replicate}
use Rattle.wire.specs.All.{all_below, above}
use Rattle.table.specs.Layout.{section_at, after, ended, after_values, after_members, after_types, sections_of}
use Rattle.table.specs.Entries.{type_at}
use Rattle.table.specs.Leaf.{base, bytes_of, is_value, width}
use Rattle.table.specs.Fields.{fields_ok}
use Rattle.types.specs.Rules.{pointed_ok, type_ok}
use Rattle.types.specs.Sizes.{size_of, sizes, largest, fits_in_size}
use Rattle.types.specs.Table.{entries_ok, sizes_ok, judged, judging, checked}
use Rattle.operations.specs.Entries.{width_of, kind_at, op_width, op_place, response_at, operation_at, id_at}
use Rattle.operations.specs.Rules.{fields_ok as operationFields, operation_ok, operations_ok}
use Rattle.operations.specs.Search.{index_word, indexed, borne, halved, sought_in, first_below, operation_of}
use Rattle.message3.specs.declared.Stamp.{Stamp}
use Rattle.message3.specs.Writing.{message_bytes3}
use Rattle.partners.specs.Threes.{bit_in, is_three}
use Rattle.pending.specs.Places.{bearing}
use Rattle.pending.specs.Free.{free_within}
use Rattle.pending.specs.PlainMap.{fresh_list}
use Rattle.requests.specs.declared.Sent.{Sent}
use Rattle.requests.specs.declared.Sent.TheVariants.{Refused, Under}
use Rattle.states.specs.States.{word_of, with_word, with_own}
use Rattle.platform.specs.Receiving.{fresh_standing, is_sent}
use Rattle.mixed.specs.Form.{three_form}
use Rattle.mixed.specs.Reading.{any_of}
use Rattle.mixed.specs.Reaction.{operation_for3}
use Rattle.mixed.specs.Receiving.{number_given, is_answer3, response_to3, any_outcome_of, any_list_of}
use Rattle.mixed.specs.Tables.{answer_if, pending_if}
use Rattle.promises.specs.RequestCalls.{send, cancel, Fair, Said, of_send, of_receive, whether, what}
use Rattle.promises.specs.MixedSending.{our_asking}
use Rattle.promises.specs.MixedResponses.{our_any_receiving}
use Rattle.promises.specs.WrongAsking.{six_for_all}
use Rattle.promises.specs.WrongMixedResponses.{any_sender3, left_taken}
use Rattle.promises.specs.MixedRequestCalls.{AnyCall, plain, send_any, receive_any, FairAny, AllFairAny, SaidAny, as_before, of_any, ShownAny}
use Rattle.promises.specs.MixedRequestCalls.{AnyListing, listing_of, our_any_listing, shows_all_any}
use Rattle.promises.specs.MixedRequestRuns.{AsMapByAny}
use Rattle.promises.specs.WrongMixedListings.{counted_apart, NoWrongMixedListing}
use Rattle.promises.proofs.WrongListings.{one, with, one_good}
use Rattle.promises.proofs.MixedRequestRuns.{mixed_request_runs}

-- what a call says: the number that a request got, or the one that refuses
abbrev number_in : Sent → ℕ
number_in (Refused k) = k
number_in (Under n written) = n

abbrev said_before : Said → ℕ
said_before (of_send x) = number_in x
said_before (of_receive x) = 0
said_before (whether b) = 0
said_before (what a) = 0

abbrev told : SaidAny → ℕ
told (as_before x) = said_before x
told (of_any x) = number_given x

abbrev last : List ShownAny → ℕ
last [] = 0
last (x ∷ []) = told x.said
last (x ∷ (y ∷ ys)) = last (y ∷ ys)

abbrev run : AnyListing → List AnyCall → ℕ
run X cs = last (shows_all_any X 1 (fresh_standing 1) fresh_list cs)

-- what a wrong list says last is not what ours says
differs : (X : AnyListing) (cs : List AnyCall) (m n : ℕ) → AllFairAny cs → run X cs ≡ m → run our_any_listing cs ≡ n → ¬ (m ≡ n) → ¬ (AsMapByAny X)
differs X cs m n fair a b d by =
    d (sym a ∙ ap last (by 1 cs _ (mixed_request_runs.map_goes 1 cs fair).0 fair (mixed_request_runs.map_goes 1 cs fair).1) ∙ b)

-- platforms 2 and 3 speak Issue 3; requests under the ID 7, and messages under that ID with number 1
abbrev stamp : Stamp
stamp = record { seconds = 5; nanoseconds = 6 }

abbrev asked : ℕ → AnyCall
asked room = send_any stamp (12 ∷ 0 ∷ 0 ∷ 0 ∷ []) one (with 1) (0 ∷ []) 7 2 [] (replicate room 0)

abbrev comes : ℕ → AnyCall
comes sender = receive_any stamp 0 (12 ∷ 0 ∷ 0 ∷ 0 ∷ []) [] one (with 1) [] (message_bytes3 sender stamp 1 7 1 []) []

-- number 1 is drawn for Issue 6 and given up; room for 20 bytes; a response twice; a message from another platform
abbrev drawn_before : List AnyCall
drawn_before = plain (send one (with 1) (0 ∷ []) 7 4 [] (replicate 20 0)) ∷ plain (cancel 1) ∷ asked 24 ∷ []

abbrev short : List AnyCall
short = asked 20 ∷ []

abbrev twice : List AnyCall
twice = asked 24 ∷ comes 2 ∷ comes 2 ∷ []

abbrev other_sender : List AnyCall
other_sender = asked 24 ∷ comes 3 ∷ []

runs_sent : (run our_any_listing drawn_before ≡ 2) × (run (listing_of counted_apart our_any_receiving) drawn_before ≡ 1) × (run our_any_listing short ≡ 10)
    × (run (listing_of six_for_all our_any_receiving) short ≡ 1)
unfolding index_word indexed borne halved sought_in first_below operation_of width_of kind_at op_width op_place response_at operation_at id_at bearing free_within
    bit_in is_three
runs_sent = (refl, refl, refl, refl)

runs_received : (run our_any_listing twice ≡ 61) × (run (listing_of our_asking left_taken) twice ≡ 0) × (run our_any_listing other_sender ≡ 61)
    × (run (listing_of our_asking any_sender3) other_sender ≡ 0)
unfolding all_below above section_at after ended after_values after_members after_types sections_of type_at base bytes_of is_value width fields_ok
    pointed_ok type_ok size_of sizes largest fits_in_size entries_ok sizes_ok judged judging checked width_of kind_at op_width op_place response_at operation_at
    id_at operationFields operation_ok operations_ok index_word indexed borne halved sought_in first_below operation_of bearing free_within is_sent
    word_of with_word with_own bit_in is_three three_form any_of operation_for3 is_answer3 response_to3 any_outcome_of any_list_of answer_if pending_if
runs_received = (refl, refl, refl, refl)

pub no_wrong_mixed_listing : NoWrongMixedListing
no_wrong_mixed_listing =
    record {
      number_by_issue =
          differs (listing_of counted_apart our_any_receiving) drawn_before 1 2 (first, (tt, (fair 24, tt))) runs_sent.1 runs_sent.0 (λ z. omega arith);
      six-for-all = differs (listing_of six_for_all our_any_receiving) short 1 10 (fair 20, tt) runs_sent.3 runs_sent.2 (λ z. omega arith);
      left-taken =
          differs (listing_of our_asking left_taken) twice 0 61 (fair 24, (one_good, (one_good, tt))) runs_received.1 runs_received.0 (λ z. omega arith);
      any-sender =
          differs (listing_of our_asking any_sender3) other_sender 0 61 (fair 24, (one_good, tt)) runs_received.3 runs_received.2 (λ z. omega arith);
    }
  where
    first : Fair (send one (with 1) (0 ∷ []) 7 4 [] (replicate 20 0))
    first = (one_good, (omega arith, (omega arith, omega arith)))

    fair : (room : ℕ) → FairAny (asked room)
    fair room = (one_good, (omega arith, (omega arith, omega arith)))

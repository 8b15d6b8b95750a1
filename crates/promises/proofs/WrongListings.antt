-- Wrong lists: a run of each, computed, shows something else than ours does, which is what the map shows.
-- Assumes nothing.
use Prim.Native.Nat.{ℕ}
use Rattle.std.specs.Prelude.{Ok}
use mathlib.Core.Path.{◌≡◌, refl, sym, ap, ◌∙◌}
use mathlib.Core.Bool.{cond}
use mathlib.Core.List.{List, [], ◌∷◌, ◌++◌}
use native.Mathlib.Omega.{arith}
use lib.ListN.{replicate}
use Rattle.wire.specs.All.{all_below, above}
use Rattle.table.specs.declared.Sections.{Sections}
use Rattle.table.specs.Layout.{section_at, after, ended, after_values, after_members, after_types, sections_of}
use Rattle.table.specs.Entries.{type_at}
use Rattle.table.specs.Leaf.{base, bytes_of, is_value, width}
use Rattle.table.specs.Fields.{fields_ok}
use Rattle.types.specs.Rules.{pointed_ok, type_ok}
use Rattle.types.specs.Sizes.{size_of, sizes, largest, fits_in_size}
use Rattle.types.specs.Table.{entries_ok, sizes_ok, judged, judging, checked}
use Rattle.operations.specs.Entries.{width_of, kind_at, op_width, op_place, response_at, operation_at, id_at}
use Rattle.operations.specs.Rules.{fields_ok as operationFields, operation_ok, operations_ok}
use Rattle.operations.specs.Search.{index_word, indexed, borne, halved, sought_in, first_below, operation_of}
use Rattle.message.specs.Writing.{message_bytes}
use Rattle.pending.specs.Places.{bearing}
use Rattle.pending.specs.Free.{free_within}
use Rattle.pending.specs.PlainMap.{is_asked, fresh_list}
use Rattle.states.specs.States.{word_of, with_word, with_own}
use Rattle.platform.specs.Reaction.{operation_for, operation_in}
use Rattle.platform.specs.Receiving.{fresh_standing, is_sent, is_answer, response_to, outcome_of, output_of, list_of}
use Rattle.platform.specs.Receiving.{received_by, received_of, left_if, left_of, list_if, list_after}
use Rattle.platform.specs.Noting.{number_given}
use Rattle.promises.specs.RequestCalls.{RequestCall, send, receive, cancel, ask, Fair, AllFair}
use Rattle.promises.specs.RequestCalls.{Said, of_send, of_receive, whether, what, Shown, Listing, our_listing, shows_all}
use Rattle.promises.specs.RequestRuns.{AsMapBy}
use Rattle.promises.specs.WrongListings.{matching_by_number, keeping_entries, freeing_behind, NoWrongListing}
use Rattle.promises.proofs.RequestRuns.{request_runs}

-- what a wrong list shows over these calls is not what ours shows
refuted : (X : Listing) (cs : List RequestCall) → AllFair cs
    → ¬ (shows_all X 1 (fresh_standing 1) fresh_list cs ≡ shows_all our_listing 1 (fresh_standing 1) fresh_list cs) → ¬ (AsMapBy X)
refuted X cs fair d a = d (a 1 cs _ (request_runs.map_goes 1 cs fair).0 fair (request_runs.map_goes 1 cs fair).1)

-- a table of one type and the requests with these IDs
abbrev pub entry : ℕ → List ℕ
entry id = 0 ∷ 0 ∷ 0 ∷ id ∷ 0 ∷ 2 ∷ 0xFF ∷ 0xFF ∷ 0xFF ∷ 0xFF ∷ []

abbrev pub start : List ℕ
start = 0 ∷ 1 ∷ 0 ∷ 0 ∷ 0 ∷ 8 ∷ 0 ∷ 0 ∷ 0 ∷ 0 ∷ 0 ∷ 0 ∷ 0 ∷ 0 ∷ []

abbrev pub one : List ℕ
one = start ++ (0 ∷ 1 ∷ entry 7)

abbrev two : List ℕ
two = start ++ (0 ∷ 2 ∷ (entry 5 ++ entry 7))

abbrev pub with : ℕ → Sections
with n =
    record {
      types = record { at = 2; count = 1 };
      members = record { at = 12; count = 0 };
      values = record { at = 14; count = 0 };
      operations = record { at = 16; count = n };
    }

pub one_good : checked one ≡ Ok (with 1)
unfolding all_below above section_at after ended after_values after_members after_types sections_of type_at base bytes_of is_value width fields_ok
    pointed_ok type_ok size_of sizes largest fits_in_size entries_ok sizes_ok judged judging checked width_of kind_at op_width op_place response_at operation_at
    id_at operationFields operation_ok operations_ok
one_good = refl

two_good : checked two ≡ Ok (with 2)
unfolding all_below above section_at after ended after_values after_members after_types sections_of type_at base bytes_of is_value width fields_ok
    pointed_ok type_ok size_of sizes largest fits_in_size entries_ok sizes_ok judged judging checked width_of kind_at op_width op_place response_at operation_at
    id_at operationFields operation_ok operations_ok
two_good = refl

-- a request under the ID 7 to platform 2, which gets number 1; a message under that ID with that number
abbrev asking : RequestCall
asking = send one (with 1) (0 ∷ []) 7 2 [] (replicate 20 0)

abbrev comes : List ℕ → ℕ → ℕ → RequestCall
comes t n sender = receive t (with n) (message_bytes sender 1 7 1 []) []

-- what the last call says: the number that refuses a message, or whether something is pending
abbrev told : Said → ℕ
told (of_send x) = 0
told (of_receive x) = number_given x
told (whether b) = 0
told (what a) = cond (is_asked a) 1 0

abbrev last : List Shown → ℕ
last [] = 0
last (x ∷ []) = told x.said
last (x ∷ (y ∷ ys)) = last (y ∷ ys)

abbrev run : Listing → List RequestCall → ℕ
run X cs = last (shows_all X 1 (fresh_standing 1) fresh_list cs)

differs : (X : Listing) (cs : List RequestCall) (m n : ℕ) → AllFair cs → run X cs ≡ m → run our_listing cs ≡ n → ¬ (m ≡ n) → ¬ (AsMapBy X)
differs X cs m n fair a b d = refuted X cs fair (λ e. d (sym a ∙ ap last e ∙ b))

-- a message from another platform; a response under another table, in which the ID is another entry's; a request given up
abbrev other_sender : List RequestCall
other_sender = asking ∷ comes one 1 3 ∷ []

abbrev other_table : List RequestCall
other_table = asking ∷ comes two 2 2 ∷ []

abbrev given_up : List RequestCall
given_up = asking ∷ cancel 1 ∷ ask 1 ∷ []

runs : (run our_listing other_sender ≡ 61) × (run matching_by_number other_sender ≡ 0) × (run our_listing other_table ≡ 0)
    × (run keeping_entries other_table ≡ 61) × (run our_listing given_up ≡ 0) × (run freeing_behind given_up ≡ 1)
unfolding all_below above section_at after ended after_values after_members after_types sections_of type_at base bytes_of is_value width fields_ok
    pointed_ok type_ok size_of sizes largest fits_in_size entries_ok sizes_ok judged judging checked width_of kind_at op_width op_place response_at operation_at
    id_at operationFields operation_ok operations_ok index_word indexed borne halved sought_in first_below operation_of bearing free_within
    operation_for operation_in is_sent is_answer response_to outcome_of output_of list_of received_by received_of left_if left_of list_if list_after
    word_of with_word with_own
runs = (refl, refl, refl, refl, refl, refl)

pub no_wrong_listing : NoWrongListing
no_wrong_listing =
    record {
      by_number = differs matching_by_number other_sender 0 61 (fair, (one_good, tt)) runs.1 runs.0 (λ z. omega arith);
      entries_for_ids = differs keeping_entries other_table 61 0 (fair, (two_good, tt)) runs.3 runs.2 (λ z. omega arith);
      place_behind = differs freeing_behind given_up 1 0 (fair, (tt, (tt, tt))) runs.5 runs.4 (λ z. omega arith);
    }
  where
    fair : Fair asking
    fair = (one_good, (omega arith, (omega arith, omega arith)))

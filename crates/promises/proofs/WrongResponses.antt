-- Platforms that take another message for the response, or the same one twice, or none: one message on a small table, computed.
-- Assumes nothing.
use Prim.Native.Nat.{ℕ}
use Rattle.std.specs.Prelude.{Result, Ok, Err}
use Rattle.refusal.specs.declared.Refusal.{Refusal}
use Rattle.std.specs.Prelude.{Option, Some}
use Rattle.std.proofs.lemmas.Option.{some_pair_parts}
use mathlib.Core.Path.{◌≡◌, refl, sym, ap, ◌∙◌}
use mathlib.Core.Bool.{Bool, true, false, cond}
use mathlib.Core.List.{List, [], ◌∷◌}
use native.Mathlib.Omega.{arith}
use lib.ListN.{get_or}
use Rattle.wire.specs.All.{all_below, above}
use Rattle.operations.specs.Entries.{width_of, kind_at, op_width, op_place, response_at, operation_at, id_at}
use Rattle.operations.specs.Rules as rules
use Rattle.pending.specs.Places.{bearing, entered}
use Rattle.pending.specs.Answers.{cancelled}
use Rattle.pending.specs.PlainMap.{fresh_list}
use Rattle.table.specs.declared.Sections.{Sections}
use Rattle.table.specs.Layout.{section_at, after, ended, after_values, after_members, after_types, sections_of}
use Rattle.table.specs.Entries.{type_at}
use Rattle.table.specs.Leaf.{base, bytes_of, width}
use Rattle.table.specs.Fields.{fields_ok}
use Rattle.types.specs.Rules.{pointed_ok, type_ok}
use Rattle.types.specs.Sizes.{size_of, sizes, largest, fits_in_size}
use Rattle.types.specs.Table.{entries_ok, sizes_ok, judged, judging, checked}
use Rattle.message.specs.declared.Header.{Header}
use Rattle.message.specs.declared.Message.TheVariants as message
use Rattle.message.specs.declared.Reading.{Reading}
use Rattle.message.specs.declared.Reading.TheVariants as reading
use Rattle.message.specs.Reading.{read_of}
use Rattle.platform.specs.declared.reactions.Standing.{Standing}
use Rattle.platform.specs.declared.Received.{Received}
use Rattle.platform.specs.Noting.{number_given}
use Rattle.platform.specs.Reaction.{operation_for, operation_in, reaction_to}
use Rattle.platform.specs.Receiving.{fresh_standing, refused, answered, is_sent, is_answer, delivered, response_to, outcome_of, list_of}
use Rattle.platform.specs.Receiving.{index_of, received_by, received_of, list_after}
use Rattle.platform.specs.Receiving as platform
use Rattle.promises.specs.Numbers.{operation}
use Rattle.promises.specs.Reports.{IsSent}
use Rattle.promises.specs.Platforms.{Receiving}
use Rattle.promises.specs.Responses.{ComesUnder, IsAwaited, RespondsBy}
use Rattle.promises.specs.WrongResponses.{Matching, outcome_by, outcome_for, list_by, list_for, matching, rightly, matched_by_number, any_sender}
use Rattle.promises.specs.WrongResponses.{left_in_place, none_taken, NoWrongResponse}
use Rattle.promises.proofs.Numbers.{numbers}
use Rattle.promises.proofs.ByID.{looked, there}
use Rattle.promises.proofs.Responses.{responses}

-- ours in this form
module _ (own : ℕ) (t : List ℕ) (p : Standing) (l m : List ℕ) (room : ℕ) where
  ours_answers : (matching rightly).outcome own t p l m room ≡ received_of own t p l m room
  unfolding received_of received_by outcome_of response_to
  ours_answers = go (checked t)
    where
      by-test : (b : Bool) (r a : Received) → cond b r (cond b r a) ≡ cond b r a
      by-test true r a = refl
      by-test false r a = refl

      by_read : (s : Sections) (f : Option (ℕ × ℕ)) (x : Reading) → outcome_by rightly t f p l x (outcome_of own t s f p l x room) ≡ outcome_of own t s f p l x room
      by_read s f (reading.Refused n) = refl
      by_read s f (reading.Read h k start len) =
          by-test (is_answer t f k) (response_to l f p h start len) (answered p h (reaction_to own t s f p h k start len) room)

      go : (c : Result Sections Refusal) → outcome_for rightly c t p l (read_of own m) (received_by c own t p l m room) ≡ received_by c own t p l m room
      go (Err n) = refl
      go (Ok s) = by_read s (operation_in t s (index_of t s) (read_of own m)) (read_of own m)

  ours_list : (matching rightly).list own t p l m room ≡ list_after own t l m
  unfolding list_after platform.list_if list_of
  ours_list = go (checked t)
    where
      by_read : (f : Option (ℕ × ℕ)) (x : Reading) → list_by rightly t f l x ≡ list_of t f l x
      by_read f (reading.Refused n) = refl
      by_read f (reading.Read h k start len) = refl

      go : (c : Result Sections Refusal) → list_for rightly c t l (read_of own m) ≡ platform.list_if c own t l m
      go (Err n) = refl
      go (Ok s) = by_read (operation_in t s (index_of t s) (read_of own m)) (read_of own m)

-- one type, and two operations: event 7 with no type, and 0x0A0B0C0D, which the message `operation` bears and whose requests we send
abbrev pub t : List ℕ
t =
    0 ∷ 1 ∷ 0 ∷ 0 ∷ 0 ∷ 8 ∷ 0 ∷ 0 ∷ 0 ∷ 0 ∷ 0 ∷ 0 ∷ 0 ∷ 0 ∷ 0 ∷ 2 ∷ 0 ∷ 0 ∷ 0 ∷ 7 ∷ 0 ∷ 0 ∷ 0xFF ∷ 0xFF
    ∷ 0x0A ∷ 0x0B ∷ 0x0C ∷ 0x0D ∷ 0 ∷ 2 ∷ 0xFF ∷ 0xFF ∷ 0 ∷ 0 ∷ []

abbrev pub s : Sections
s =
    record {
      types = record { at = 2; count = 1 };
      members = record { at = 12; count = 0 };
      values = record { at = 14; count = 0 };
      operations = record { at = 16; count = 2 };
    }

abbrev h : Header
h = record { domain = 1; platform = 3; id = 0x0A0B0C0D; payload_size = 2; sequence = 0x05060708 }

abbrev p : Standing
p = fresh_standing 1

pub is_table : checked t ≡ Ok s
unfolding all_below above section_at after ended after_values after_members after_types sections_of type_at width_of kind_at op_width op_place response_at
    operation_at id_at base bytes_of width fields_ok pointed_ok type_ok rules.fields_ok rules.operation_ok rules.operations_ok size_of sizes largest fits_in_size
    entries_ok sizes_ok judged judging checked
is_table = refl

comes : ComesUnder 1 t s operation h 1
comes =
    record {
      table = is_table;
      start = 20;
      len = 2;
      read = numbers.1.operation_read 1 (λ (e : ◌≡◌ {A = ℕ} 1 3). omega (arith, e));
      has = (omega arith, refl);
    }

sent : IsSent t s 1
sent = refl

-- its number is pending, for its ID, and was asked of this platform
abbrev asked : ℕ → List ℕ
asked target = entered fresh_list 0 0x05060708 0x0A0B0C0D target

awaited : IsAwaited (asked 3) h
unfolding bearing
awaited = refl

not-awaited : ¬ (IsAwaited (asked 4) h)
unfolding bearing
not-awaited e = omega (arith, (some_pair_parts 0x0A0B0C0D 0x0A0B0C0D 4 3 e).1)

-- what such a platform answers, and the list after it
module _ (M : Matching) (l : List ℕ) where
  its-operation : operation_in t s (index_of t s) (reading.Read h message.Operation 20 2) ≡ Some (1, 24)
  unfolding operation_in operation_for
  its-operation = looked t s is_table h.id ∙ there t s is_table h.id 1 (omega arith, refl)

  abbrev ours : Received
  ours = received_of 1 t p l operation 0

  answers : (matching M).outcome 1 t p l operation 0 ≡ cond (M.is_it l h) (delivered (Some (1, 24)) p h 20 2) (refused p 61)
  unfolding is_answer is_sent kind_at comes
  answers =
      ap (λ (c : Result Sections Refusal). outcome_for M c t p l (read_of 1 operation) ours) is_table
      ∙ ap (λ (x : Reading). outcome_by M t (operation_in t s (index_of t s) x) p l x ours) comes.read
      ∙ ap (λ (f : Option (ℕ × ℕ)). outcome_by M t f p l (reading.Read h message.Operation 20 2) ours) its-operation

  leaves : (matching M).list 1 t p l operation 0 ≡ cond (M.is_it l h) (M.freed l h.sequence) l
  unfolding is_answer is_sent kind_at comes
  leaves =
      ap (λ (c : Result Sections Refusal). list_for M c t l (read_of 1 operation)) is_table
      ∙ ap (λ (x : Reading). list_by M t (operation_in t s (index_of t s) x) l x) comes.read
      ∙ ap (λ (f : Option (ℕ × ℕ)). list_by M t f l (reading.Read h message.Operation 20 2)) its-operation

-- one that delivers the message though platform 4 was asked
delivers_any : (M : Matching) → M.is_it (asked 4) h ≡ true → RespondsBy (matching M) → ⊥
delivers_any M e r =
    let a : number_given ((matching M).outcome 1 t p (asked 4) operation 0).answer ≡ 61 =
    ap number_given (r.any_other 1 t s p (asked 4) operation [] h 1 comes sent not-awaited).answer in
    let b : number_given ((matching M).outcome 1 t p (asked 4) operation 0).answer ≡ 0 =
    ap (λ (x : Received). number_given x.answer) (answers M (asked 4)) ∙ rw e refl in
    omega arith

by_number : RespondsBy (matching matched_by_number) → ⊥
unfolding bearing
by_number = delivers_any matched_by_number refl

any-sender : RespondsBy (matching any_sender) → ⊥
unfolding bearing
any-sender = delivers_any any_sender refl

-- its place is as it was: what is pending under the number would be there, and is not
left-in-place : RespondsBy (matching left_in_place) → ⊥
unfolding bearing
left-in-place r =
    let X : Receiving = matching left_in_place in
    let a : X.list 1 t p (asked 3) operation 0 ≡ cancelled (asked 3) h.sequence
    = (r.response 1 t s p (asked 3) operation [] h 1 comes sent awaited).list in
    let b : asked 3 ≡ cancelled (asked 3) h.sequence = sym (leaves left_in_place (asked 3)) ∙ a in
    let c : ◌≡◌ {A = ℕ} 0x050607080A0B0C0D 0 = ap (λ (l : List ℕ). get_or l 0 0) b in
    omega arith

none-taken : RespondsBy (matching none_taken) → ⊥
none-taken r =
    let a : number_given ((matching none_taken).outcome 1 t p (asked 3) operation 0).answer ≡ 0 =
    ap number_given (r.response 1 t s p (asked 3) operation [] h 1 comes sent awaited).answer in
    let b : number_given ((matching none_taken).outcome 1 t p (asked 3) operation 0).answer ≡ 61 =
    ap (λ (x : Received). number_given x.answer) (answers none_taken (asked 3)) in
    omega arith

pub no_wrong_response : NoWrongResponse
no_wrong_response =
    record {
      ours = responses;
      ours_answers = ours_answers;
      ours_list = ours_list;
      by_number = by_number;
      any-sender = any-sender;
      left-in-place = left-in-place;
      none-taken = none-taken;
    }

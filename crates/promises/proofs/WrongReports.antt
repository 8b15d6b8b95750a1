-- Platforms that report something else: one operation of a small table, computed.
-- Assumes nothing.
use Prim.Native.Nat.{ℕ, zero, suc, ◌*◌, ◌≤◌}
use Rattle.std.specs.Prelude.{Ok}
use mathlib.Core.Path.{◌≡◌, refl, sym, ap, subst, ◌∙◌}
use mathlib.Core.List.{List, [], ◌∷◌}
use native.Mathlib.Omega.{arith}
use lib.ListN.{length}
use Rattle.table.specs.declared.Sections.{Sections}
use Rattle.wire.specs.All.{all_below, above}
use Rattle.table.specs.Layout.{section_at, after, ended, after_values, after_members, after_types, sections_of}
use Rattle.table.specs.Entries.{type_at, member_at, value_at}
use Rattle.table.specs.Leaf.{base, bytes_of, width}
use Rattle.table.specs.Fields.{fields_ok}
use Rattle.operations.specs.Entries.{width_of, kind_at, op_width, op_place, response_at, operation_at, id_at}
use Rattle.operations.specs.Rules as rules
use Rattle.operations.specs.Search.{first_below, operation_of}
use Rattle.types.specs.Rules.{member_ok, members_ok, pointed_ok, type_ok}
use Rattle.types.specs.Sizes.{sum_of, size_of, sizes, largest, fits_in_size}
use Rattle.types.specs.Table.{entries_ok, sizes_ok, judged, judging, checked}
use Rattle.message.specs.declared.Header.{Header}
use Rattle.message.specs.declared.Message.TheVariants as message
use Rattle.platform.specs.declared.reactions.Standing.{Standing}
use Rattle.platform.specs.declared.reactions.Heard.{Heard}
use Rattle.platform.specs.declared.reactions.Heard.TheVariants as heard
use Rattle.platform.specs.Heard.{kind_in, entry_in, start_in}
use Rattle.platform.specs.declared.Noting.{Noting}
use Rattle.platform.specs.declared.Noting.TheVariants.{Refused, Noted, Response}
use Rattle.platform.specs.Receiving.{fresh_standing, received_of}
use Rattle.promises.specs.Numbers.{operation}
use Rattle.promises.specs.Platforms.{owed_for, reply_length, Receives, Receiving, NotesBy, RepliesBy}
use Rattle.promises.specs.Reports.{HasID, IsKind2, Operated, in_table, not_in_table}
use Rattle.promises.specs.WrongReports.{answering, reported, always_request, payload_from_start, always_first, NoWrongReport}
use Rattle.promises.proofs.Numbers.{numbers}
use Rattle.promises.proofs.Platforms.{replies}
use Rattle.promises.proofs.SmallTraffic.{octets_are}

-- one type, and two operations: event 7 with no type, and versioned data 0x0A0B0C0D, which the message `operation` is
abbrev pub t : List ℕ
t =
    0 ∷ 1 ∷ 0 ∷ 0 ∷ 0 ∷ 8 ∷ 0 ∷ 0 ∷ 0 ∷ 0 ∷ 0 ∷ 0 ∷ 0 ∷ 0 ∷ 0 ∷ 2 ∷ 0 ∷ 0 ∷ 0 ∷ 7 ∷ 0 ∷ 0 ∷ 0xFF ∷ 0xFF
    ∷ 0x0A ∷ 0x0B ∷ 0x0C ∷ 0x0D ∷ 0 ∷ 1 ∷ 0 ∷ 0 ∷ []

abbrev pub s : Sections
s =
    record {
      types = record { at = 2; count = 1 };
      members = record { at = 12; count = 0 };
      values = record { at = 14; count = 0 };
      operations = record { at = 16; count = 2 };
    }

abbrev pub id : ℕ
id = 0x0A0B0C0D

abbrev h : Header
h = record { domain = 1; platform = 3; id = id; payload_size = 2; sequence = 0x05060708 }

abbrev p : Standing
p = fresh_standing 1

pub is_table : checked t ≡ Ok s
unfolding all_below above section_at after ended after_values after_members after_types sections_of type_at member_at value_at id_at operation_at
    width_of kind_at op_width op_place response_at base bytes_of width fields_ok member_ok members_ok pointed_ok type_ok rules.fields_ok rules.operation_ok
    rules.operations_ok sum_of size_of sizes largest fits_in_size
    entries_ok sizes_ok judged judging checked
is_table = refl

-- no ID of the table is of kind 2
pub no-request : ¬ (IsKind2 t s id)
no-request (zero, has, sent) = let e : ◌≡◌ {A = ℕ} 0 2 = sent in omega arith
no-request (suc zero, has, sent) = let e : ◌≡◌ {A = ℕ} 1 2 = sent in omega arith
no-request (suc (suc i), (l, _), sent) = omega arith

receives : Receives 1 t s p operation h message.Operation
receives =
    record {
      platform = omega arith;
      next = omega arith;
      bytes = octets_are operation refl;
      table = is_table;
      start = 20;
      len = 2;
      read = numbers.1.operation_read 1 (λ (e : ◌≡◌ {A = ℕ} 1 3). omega (arith, e));
      no_response = λ k. no-request;
    }

nothing_owed : owed_for 1 t s p h message.Operation ≡ []
unfolding operation_of first_below id_at op_place op_width width_of kind_at
nothing_owed = refl

pub has : HasID t s id 1
has = (omega arith, refl)

has_not : ¬ (HasID t s id 0)
has_not q = let e : 7 ≡ id = q.1 in omega arith

-- what such a platform must report
module _ (X : Receiving) (r : RepliesBy X) where
  notes : NotesBy X 1 t s p [] operation [] h message.Operation (reply_length * length (owed_for 1 t s p h message.Operation))
  notes = r.fit 1 t s p [] operation [] h message.Operation receives (subst (λ o. reply_length * length o ≤ 0) (sym nothing_owed) (omega arith))

  which : (i : ℕ) × HasID t s id i × (notes.heard ≡ heard.Operation i 20 2)
  which = go notes.reports
    where
      go : Operated t s id operation notes.heard → (i : ℕ) × HasID t s id i × (notes.heard ≡ heard.Operation i 20 2)
      go (in_table i k e q) = (i, k, e)
      go (not_in_table n e) = absurd (n 1 has)

-- what can be seen in a report
abbrev heard_in : Noting → Heard
heard_in (Refused n) = heard.Request
heard_in (Noted h x n) = x
heard_in (Response h i start len) = heard.Request

requests : (a : Noting) → kind_in (heard_in (reported always_request a)) ≡ 2
requests (Refused n) = refl
requests (Noted h x n) = refl
requests (Response h i start len) = refl

from_start : (x : Heard) → start_in (payload_from_start x) ≡ 0
from_start (heard.Status x) = refl
from_start heard.Request = refl
from_start (heard.UnknownOperation _) = refl
from_start heard.PullOfAll = refl
from_start (heard.PullOfOne _ i) = refl
from_start (heard.NotVersionedData _) = refl
from_start (heard.Operation i start len) = refl
from_start (heard.NotInTable _) = refl

first : (x : Heard) → kind_in (always_first x) ≡ 7 → entry_in (always_first x) ≡ 0
first (heard.Status x) k = refl
first heard.Request k = refl
first (heard.UnknownOperation _) k = refl
first heard.PullOfAll k = refl
first (heard.PullOfOne id i) k = absurd (omega arith)
first (heard.NotVersionedData id) k = refl
first (heard.Operation i start len) k = refl
first (heard.NotInTable id) k = refl

starts : (a : Noting) → start_in (heard_in (reported payload_from_start a)) ≡ 0
starts (Refused n) = refl
starts (Noted h x n) = from_start x
starts (Response h i start len) = refl

entries : (a : Noting) → kind_in (heard_in (reported always_first a)) ≡ 7 → entry_in (heard_in (reported always_first a)) ≡ 0
entries (Refused n) k = refl
entries (Noted h x n) k = first x k
entries (Response h i start len) k = refl

abbrev given : Noting
given = (received_of 1 t p [] operation 0).answer

always-request : RepliesBy (answering (reported always_request)) → ⊥
always-request r =
    let X : Receiving = answering (reported always_request) in
    let x : Heard = (notes X r).heard in
    let a : kind_in x ≡ 2 = sym (ap (λ (y : Noting). kind_in (heard_in y)) (notes X r).answer) ∙ requests given in
    let b : kind_in x ≡ 7 = ap kind_in (which X r).2 in
    omega arith

payload-from-start : RepliesBy (answering (reported payload_from_start)) → ⊥
payload-from-start r =
    let X : Receiving = answering (reported payload_from_start) in
    let x : Heard = (notes X r).heard in
    let a : start_in x ≡ 0 = sym (ap (λ (y : Noting). start_in (heard_in y)) (notes X r).answer) ∙ starts given in
    let b : start_in x ≡ 20 = ap start_in (which X r).2 in
    omega arith

always-first : RepliesBy (answering (reported always_first)) → ⊥
always-first r =
    let X : Receiving = answering (reported always_first) in
    let x : Heard = (notes X r).heard in
    let y : Noting = reported always_first given in
    let e : heard_in y ≡ x = ap heard_in (notes X r).answer in
    let a : entry_in x ≡ 0 = sym (ap entry_in e) ∙ entries given (ap kind_in (e ∙ (which X r).2)) in
    let b : entry_in x ≡ (which X r).0 = ap entry_in (which X r).2 in
    has_not (subst (HasID t s id) (sym b ∙ a) (which X r).1)

noted : Noting → ℕ
noted (Refused n) = 0
noted (Noted h x n) = 1
noted (Response h i start len) = 0

all-refused : RepliesBy (answering (λ a. Refused 10)) → ⊥
unfolding noted
all-refused r =
    let e : ◌≡◌ {A = ℕ} 0 1 = ap noted (notes (answering (λ a. Refused 10)) r).answer in
    omega arith

pub no_wrong_report : NoWrongReport
no_wrong_report =
    record {
      ours = replies;
      always-request = always-request;
      payload-from-start = payload-from-start;
      always-first = always-first;
      all-refused = all-refused;
    }

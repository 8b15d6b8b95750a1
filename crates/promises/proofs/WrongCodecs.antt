-- No wrong packing meets demand 2: the uint16 258, whose bytes are 01 02.
-- Assumes nothing.
use Prim.Native.Nat.{ℕ, ◌≤◌, ◌<◌}
use Rattle.std.specs.Prelude.{Ok}
use mathlib.Core.Path.{◌≡◌, refl, sym, ap, ◌∙◌}
use mathlib.Core.List.{List, [], ◌∷◌}
use native.Mathlib.Omega.{arith}
use borrow.Author.Tests.{ltb-true}
use lib.ListN.{get_or}
use Rattle.table.specs.declared.Sections.{Sections}
use Rattle.wire.specs.All.{all_below, above}
use Rattle.table.specs.Layout.{section_at, after, ended, after_values, after_members, after_types, sections_of, lies_in, within}
use Rattle.table.specs.Entries.{type_at, member_at, value_at}
use Rattle.table.specs.Leaf.{base, bytes_of, in_signed, finite, is_value, width, allowed}
use Rattle.table.specs.Fields.{fields_ok}
use Rattle.types.specs.Rules.{member_ok, members_ok, pointed_ok, type_ok}
use Rattle.operations.specs.Entries.{op_place}
use Rattle.operations.specs.Rules.{operations_ok}
use Rattle.types.specs.Sizes.{size_of, sizes, largest, fits_in_size}
use Rattle.types.specs.Table.{entries_ok, sizes_ok, judged, judging, checked}
use Rattle.leaf.specs.Forms.{truth, extended, word_of, form, word_at, form_of, Says}
use Rattle.leaf.specs.Choice.{choice}
use Rattle.walk.specs.Tree.{by_kind, look, elements_of, tree_of, trees, tree}
use Rattle.walk.specs.Walk.{answer, left, next, through, item, counted, walk, type_walk}
use Rattle.unpack.specs.Reading.{reader}
use Rattle.pack.specs.Writing.{writer}
use Rattle.payload.specs.Calls.{number_given, stopped_at, went_to, answered, answered_type, answered_in, left_over_by, left_over_in, answered_if, left_if}
use Rattle.payload.specs.Calls.{unpacked}
use Rattle.payload.specs.declared.Answer.{Answer}
use Rattle.payload.specs.declared.Answer.TheVariants.{Refused, Stopped, Gave}
use Rattle.values.specs.Values.{Value, Spoken, Over, Row}
use Rattle.promises.specs.Cases.{table, uint16, uint8, boolean8, up_to_three, lent}
use Rattle.promises.specs.Payloads.{Known, Coding, our_coding, PackGivesBy, UnpackGivesBy, PayloadsBy}
use Rattle.promises.specs.WrongCodecs.{PacksNothing, UnpacksNothing, PacksAlike, copying_plainly, arrays_refused, only_one_is_true}
use Rattle.promises.specs.WrongCodecs.{wide_bytes, room_not_seen, KeepsBy, stores_at_once, NoWrongCodec}
use Rattle.promises.proofs.Demand1.{demand_1}

-- the table of the starred cases
abbrev sections : Sections
sections =
    record {
      types = record { at = 2; count = 7 };
      members = record { at = 60; count = 0 };
      values = record { at = 62; count = 0 };
      operations = record { at = 64; count = 0 };
    }

accepted : checked table ≡ Ok sections
unfolding all_below above section_at after ended after_values after_members after_types sections_of lies_in within type_at member_at
    value_at op_place base bytes_of in_signed finite is_value width allowed fields_ok member_ok members_ok pointed_ok type_ok
    operations_ok size_of sizes largest fits_in_size entries_ok sizes_ok judged judging checked
accepted = refl

-- 258 is a value of uint16
value : Value table sections uint16 (258 ∷ []) (0x01 ∷ 0x02 ∷ [])
unfolding Value Over tree trees tree_of look by_kind elements_of fields_ok type_at base bytes_of is_value width allowed choice form form_of
value = record { it = 258; is = record { in_range = refl; taken = refl; says = (refl, refl) } }

spoken : Spoken table sections uint16 (258 ∷ []) (0x01 ∷ 0x02 ∷ [])
unfolding Spoken Over tree trees tree_of look by_kind elements_of fields_ok type_at base bytes_of is_value width allowed choice form form_of Says
spoken = record { it = 258; is = record { in_range = refl; taken = refl; says = (refl, refl) } }

small : Value table sections uint8 (7 ∷ []) (7 ∷ [])
unfolding Value Over tree trees tree_of look by_kind elements_of fields_ok type_at base bytes_of is_value width allowed choice form form_of
small = record { it = 7; is = record { in_range = refl; taken = refl; says = (refl, refl) } }

known : (i : ℕ) → i < 7 → Known table sections i
known i h = record { accepted = accepted; known = h }

-- what a packing that meets the demand does with it
packing : (C : Coding) → PayloadsBy C → PackGivesBy C table uint16 (258 ∷ []) (lent 2) (0x01 ∷ 0x02 ∷ [])
packing C p = (p table sections uint16 (known uint16 (omega arith))).0.values (258 ∷ []) (0x01 ∷ 0x02 ∷ []) (lent 2) value (omega arith)

packing_small : (C : Coding) → PayloadsBy C → PackGivesBy C table uint8 (7 ∷ []) (lent 2) (7 ∷ [])
packing_small C p = (p table sections uint8 (known uint8 (omega arith))).0.values (7 ∷ []) (7 ∷ []) (lent 2) small (omega arith)

unpacking : (C : Coding) → PayloadsBy C → UnpackGivesBy C table uint16 (0x01 ∷ 0x02 ∷ []) (lent 1) (258 ∷ [])
unpacking C p = (p table sections uint16 (known uint16 (omega arith))).1.forms (258 ∷ []) (0x01 ∷ 0x02 ∷ []) (lent 1) spoken (omega arith)

abbrev given : Answer → ℕ
given (Gave k) = k
given (Refused n) = 0
given (Stopped n s) = 0

pub packs_nothing : (C : Coding) → PacksNothing C → PayloadsBy C → ⊥
packs_nothing C n p = n table uint16 (258 ∷ []) 2 2 (packing C p).0

pub unpacks_nothing : (C : Coding) → UnpacksNothing C → PayloadsBy C → ⊥
unpacks_nothing C n p = n table uint16 (0x01 ∷ 0x02 ∷ []) 1 1 (unpacking C p).0

-- it gives two bytes here, and one there
pub packs_alike : (C : Coding) (a : Answer) → PacksAlike C a → PayloadsBy C → ⊥
packs_alike C a s p =
    let e : ◌≡◌ {A = ℕ} 2 1 =
    ap given (sym (packing C p).0 ∙ s table uint16 (258 ∷ []) 2 ∙ sym (s table uint8 (7 ∷ []) 2) ∙ (packing_small C p).0) in
    absurd (omega (arith, e))

pub plain_copy : PayloadsBy copying_plainly → ⊥
plain_copy p = let e : ◌≡◌ {A = ℕ} 1 2 = ap given (packing copying_plainly p).0 in absurd (omega (arith, e))

-- an array of no elements; a true boolean as 2
empty : Value table sections up_to_three (0 ∷ []) (0 ∷ 0 ∷ 0 ∷ 0 ∷ [])
unfolding Value Over Row tree trees tree_of look by_kind elements_of fields_ok type_at base bytes_of is_value width allowed choice form form_of
empty =
    record {
      it = 0;
      is = record {
        xs₁ = 0 ∷ [];
        xs₂ = [];
        ys₁ = 0 ∷ 0 ∷ 0 ∷ 0 ∷ [];
        ys₂ = [];
        is_xs = refl;
        is_ys = refl;
        first = record { in_range = refl; taken = refl; says = (refl, refl) };
        second = (refl, refl);
      };
    }

true_as_2 : Spoken table sections boolean8 (1 ∷ []) (2 ∷ [])
unfolding Spoken Over tree trees tree_of look by_kind elements_of fields_ok type_at base bytes_of is_value width allowed choice form form_of Says truth
true_as_2 =
    record { it = 1; is = record { in_range = refl; taken = refl; says = (refl, record { byte = 2; octet = omega arith; is = refl; says = refl }) } }

pub arrays-refused : PayloadsBy arrays_refused → ⊥
arrays-refused p =
    let g : PackGivesBy arrays_refused table up_to_three (0 ∷ []) (lent 4) (0 ∷ 0 ∷ 0 ∷ 0 ∷ []) =
    (p table sections up_to_three (known up_to_three (omega arith))).0.values (0 ∷ []) (0 ∷ 0 ∷ 0 ∷ 0 ∷ []) (lent 4) empty (omega arith) in
    let e : ◌≡◌ {A = ℕ} 0 4 = ap given g.0 in
    absurd (omega (arith, e))

pub only-one-is-true : PayloadsBy only_one_is_true → ⊥
only-one-is-true p =
    let g : UnpackGivesBy only_one_is_true table boolean8 (2 ∷ []) (lent 1) (1 ∷ []) =
    (p table sections boolean8 (known boolean8 (omega arith))).1.forms (1 ∷ []) (2 ∷ []) (lent 1) true_as_2 (omega arith) in
    let e : ◌≡◌ {A = ℕ} 0 1 = ap given g.0 in
    absurd (omega (arith, e))

-- 300 is no value of uint8
too_wide : (bs : List ℕ) → Value table sections uint8 (300 ∷ []) bs → ⊥
unfolding Value Over tree trees tree_of look by_kind elements_of fields_ok type_at base bytes_of is_value width allowed choice
too_wide bs v =
    let e : ◌≡◌ {A = ℕ} 300 v.it = ap (λ (x : List ℕ). get_or x 0 0) v.is.says.0 in
    omega (arith, e, ltb-true v.it 256 v.is.in_range)

pub wide-bytes : PayloadsBy wide_bytes → ⊥
wide-bytes p = let o = (p table sections uint8 (known uint8 (omega arith))).0.only (300 ∷ []) (lent 1) 1 refl in too_wide o.0 o.1

pub room-not-seen : PayloadsBy room_not_seen → ⊥
room-not-seen p =
    let l : 1 ≤ 0 = (p table sections uint8 (known uint8 (omega arith))).0.fits (7 ∷ []) [] 1 refl in
    omega (arith, l)

ours_keeps : KeepsBy our_coding
ours_keeps = record { unpack_words = demand_1.changes_nothing.unpack_words; pack_output = demand_1.changes_nothing.pack_output }

-- two float32, the second of which is infinite
abbrev pair : List ℕ
pair = 0 ∷ 2 ∷ 0 ∷ 0 ∷ 0 ∷ 11 ∷ 0 ∷ 0 ∷ 0 ∷ 0 ∷ 0 ∷ 3 ∷ 0 ∷ 0 ∷ 0 ∷ 0 ∷ 0 ∷ 2 ∷ 0 ∷ 0 ∷ 0 ∷ 0 ∷ 0 ∷ 0 ∷ []

abbrev late : List ℕ
late = 0x7F ∷ 0x7F ∷ 0xFF ∷ 0xFF ∷ 0x7F ∷ 0x80 ∷ 0x00 ∷ 0x00 ∷ []

refused_42 : number_given (unpacked pair 1 late 2) ≡ 42
unfolding all_below above section_at after ended after_values after_members after_types sections_of lies_in within type_at member_at
    value_at op_place base bytes_of in_signed finite is_value width allowed fields_ok member_ok members_ok pointed_ok type_ok
    operations_ok size_of sizes largest fits_in_size entries_ok sizes_ok judged judging checked truth extended word_of form word_at form_of
    choice by_kind look elements_of tree_of trees tree answer left next through item counted walk type_walk reader writer stopped_at went_to
    answered answered_type answered_in left_over_by left_over_in answered_if left_if
refused_42 = refl

pub stores-at-once : KeepsBy stores_at_once → ⊥
unfolding all_below above section_at after ended after_values after_members after_types sections_of lies_in within type_at member_at
    value_at op_place base bytes_of in_signed finite is_value width allowed fields_ok member_ok members_ok pointed_ok type_ok
    operations_ok size_of sizes largest fits_in_size entries_ok sizes_ok judged judging checked truth extended word_of form word_at form_of
    choice by_kind look elements_of tree_of trees tree answer left next through item counted walk type_walk reader writer stopped_at went_to
    answered answered_type answered_in left_over_by left_over_in answered_if left_if
stores-at-once k =
    let n : ¬ (number_given (unpacked pair 1 late 2) ≡ 0) = λ (z : number_given (unpacked pair 1 late 2) ≡ 0). let y : ◌≡◌ {A = ℕ} 42 0 =
    sym refused_42 ∙ z in absurd (omega (arith, y)) in
    let e : ◌≡◌ {A = ℕ} 0x7F7FFFFF 9 = ap (λ (x : List ℕ). get_or x 0 0) (k.unpack_words pair 1 late (lent 2) n) in
    absurd (omega (arith, e))

pub no_wrong_codec : NoWrongCodec
no_wrong_codec = record {
  packs_nothing = packs_nothing;
  unpacks_nothing = unpacks_nothing;
  packs_alike = packs_alike;
  plain_copy = plain_copy;
  arrays-refused = arrays-refused;
  only-one-is-true = only-one-is-true;
  wide-bytes = wide-bytes;
  room-not-seen = room-not-seen;
  ours_keeps = ours_keeps;
  stores-at-once = stores-at-once;
}

-- No wrong place meets the laws of Places: inputs of the type that is worked out in WorkedPlaces, and of its parts.
-- Assumes nothing.
use Prim.Native.Nat.{ℕ, zero, suc, ◌+◌, ◌≤◌, ◌<◌}
use mathlib.Core.Path.{◌≡◌, refl, sym, ap, ◌∙◌}
use mathlib.Core.Bool.{Bool, true, false, cond}
use mathlib.Core.List.{List, [], ◌∷◌}
use native.Mathlib.Omega.{arith}
use borrow.Author.Tests.{ltb-true, ltb-false}
use lib.Dec.{ltb}
use lib.ListN.{length, take, length-take}
use lib.Seq.{take-take}
use Rattle.wire.specs.All.{all_below, above}
use Rattle.table.specs.Layout.{section_at, after, ended, after_values, after_members, after_types, sections_of, lies_in, within}
use Rattle.table.specs.Entries.{type_at, member_at, value_at}
use Rattle.table.specs.Leaf.{base, bytes_of, in_signed, finite, is_value, width, allowed}
use Rattle.table.specs.Fields.{fields_ok}
use Rattle.types.specs.Rules.{member_ok, members_ok, pointed_ok, type_ok}
use Rattle.operations.specs.Entries.{op_place}
use Rattle.operations.specs.Rules.{operations_ok}
use Rattle.types.specs.Sizes.{sum_of, size_of, sizes, largest, fits_in_size}
use Rattle.types.specs.Table.{entries_ok, sizes_ok, judged, judging, checked}
use Rattle.leaf.specs.Forms.{truth, extended, word_of, form, word_at, form_of}
use Rattle.leaf.specs.Choice.{choice}
use Rattle.walk.specs.Tree.{by_kind, look, elements_of, tree_of, trees, tree}
use Rattle.walk.specs.Walk.{answer, next, through, item, counted, walk, type_walk}
use Rattle.unpack.specs.Reading.{reader}
use Rattle.pack.specs.Writing.{writer}
use Rattle.payload.specs.declared.Spot.{Spot}
use Rattle.payload.specs.declared.Answer.{Answer}
use Rattle.payload.specs.declared.Answer.TheVariants.{Refused, Stopped, Gave}
use Rattle.payload.specs.Calls.{stopped_at, went_to, answered, answered_type, answered_in, answered_if, unpacked}
use Rattle.promises.specs.Places.{ItemAt, LeftOverAt, widest, WordsGiven, PlacesBy}
use Rattle.promises.specs.Cases.{◌behind◌}
use Rattle.promises.specs.WorkedPlaces.{place_table, float32, up_to_three, nested, bad_float}
use Rattle.promises.specs.WrongPlaces.{respot, is_refused, behind_it, uncounted, at_its_end, output_byte, NoWrongPlace}
use Rattle.promises.proofs.WorkedPlaces.{worked_places}

-- what an answer says, as numbers
abbrev number_in : Answer → ℕ
number_in (Refused k) = k
number_in (Stopped k o) = k
number_in (Gave k) = 0

abbrev at_in : Answer → ℕ
at_in (Refused k) = 0
at_in (Stopped k o) = o.at
at_in (Gave k) = 0

abbrev leaves_in : Answer → ℕ
leaves_in (Refused k) = 0
leaves_in (Stopped k o) = o.leaves
leaves_in (Gave k) = 0

abbrev given_in : Answer → ℕ
given_in (Refused k) = 0
given_in (Stopped k o) = 0
given_in (Gave k) = k

-- a float that is not finite; two arrays, of one element and of none, with a byte left over
abbrev infinite : List ℕ
infinite = 0x7F ∷ 0x80 ∷ 0x00 ∷ 0x00 ∷ []

abbrev one : List ℕ
one = 0x00 ∷ 0x00 ∷ 0x00 ∷ 0x01 ∷ 0x05 ∷ 0x09 ∷ []

abbrev none : List ℕ
none = 0x00 ∷ 0x00 ∷ 0x00 ∷ 0x00 ∷ 0x09 ∷ []

-- the worked type's float, cut off within its bytes: 40 at its first
abbrev Cut : ℕ → Type 0
Cut n = unpacked place_table nested (take n bad_float) 0 ≡ Stopped 40 (8 behind 5)

record Computed : Type 0 where
  cut_at_8 : Cut 8
  cut_at_9 : Cut 9
  cut_at_10 : Cut 10
  cut_at_11 : Cut 11
  one_over : uncounted.unpacks place_table up_to_three one 2 ≡ Stopped 41 (5 behind 1)
  one_whole : uncounted.unpacks place_table up_to_three (take 5 one) 2 ≡ Gave 2
  none_over : (at_its_end 41).unpacks place_table up_to_three none 0 ≡ Stopped 41 (5 behind 1)
  float_there : (at_its_end 40).unpacks place_table float32 infinite 0 ≡ Stopped 42 (0 behind 0)
  float_cut : (at_its_end 40).unpacks place_table float32 (take 1 infinite) 0 ≡ Stopped 40 (1 behind 0)
  count_packed : output_byte.packs place_table up_to_three (1 ∷ []) 0 ≡ Stopped 40 (4 behind 1)

computed : Computed
unfolding all_below above section_at after ended after_values after_members after_types sections_of lies_in within type_at member_at
    value_at op_place base bytes_of in_signed finite is_value width allowed fields_ok member_ok members_ok pointed_ok type_ok
    operations_ok sum_of size_of sizes largest fits_in_size entries_ok sizes_ok judged judging checked truth extended word_of form word_at
    form_of choice by_kind look elements_of tree_of trees tree answer next through item counted walk type_walk reader writer
    stopped_at went_to answered answered_type answered_in answered_if
computed =
    record {
      cut_at_8 = refl;
      cut_at_9 = refl;
      cut_at_10 = refl;
      cut_at_11 = refl;
      one_over = refl;
      one_whole = refl;
      none_over = refl;
      float_there = refl;
      float_cut = refl;
      count_packed = refl;
    }

cut_within : (far : ℕ) → far ≤ 3 → Cut (8 + far)
cut_within zero l = computed.cut_at_8
cut_within (suc zero) l = computed.cut_at_9
cut_within (suc (suc zero)) l = computed.cut_at_10
cut_within (suc (suc (suc zero))) l = computed.cut_at_11
cut_within (suc (suc (suc (suc n)))) l = absurd (omega arith)

-- cut off there, the payload ends too early before there, or behind fewer leaves
behind-it : (far more : ℕ) → 1 ≤ far + more → PlacesBy (behind_it far more) → ⊥
behind-it far more l p =
    let f : ℕ → Spot → Spot = λ k o. cond (is_refused k) (record { at = o.at + far; leaves = o.leaves + more }) o in
    let o : Spot = record { at = 8 + far; leaves = 5 + more } in
    let h : (behind_it far more).unpacks place_table nested bad_float 0 ≡ Stopped 42 o =
    ap (respot f) (worked_places.float_not_finite 0) in
    let i : ItemAt ((behind_it far more).unpacks place_table nested) widest WordsGiven bad_float 42 o =
    (p.unpacking place_table nested).item bad_float 0 42 o h (λ e. omega arith) in
    let m : 8 + far + i.size ≤ 12 = i.whole (λ e. omega arith) in
    let b : List ℕ = take (8 + far) bad_float in
    let s : length b < 8 + far + i.size = omega (arith, i.some, length-take (8 + far) bad_float) in
    let c : Cut (8 + far) = cut_within far (omega (arith, i.some)) in
    let e : Stopped 40 (8 behind 5) ≡ Stopped 40 o =
    sym (ap (respot f) c) ∙ i.cut_off b 0 (take-take (8 + far) (8 + far) bad_float (omega arith)) s in
    let u : ◌≡◌ {A = ℕ} 8 (8 + far) = ap at_in e in
    let v : ◌≡◌ {A = ℕ} 5 (5 + more) = ap leaves_in e in
    omega arith

-- one leaf by its spot, and two words are given
uncounted_counts : PlacesBy uncounted → ⊥
uncounted_counts p =
    let o : Spot = record { at = 5; leaves = 1 } in
    let h : LeftOverAt (uncounted.unpacks place_table up_to_three) WordsGiven one o =
    (p.unpacking place_table up_to_three).left_over one 2 o computed.one_over in
    let n : h.before.count ≡ 1 = h.before.given in
    let e : ◌≡◌ {A = ℕ} 2 h.before.count = ap given_in (sym computed.one_whole ∙ h.before.value 2 (omega arith)) in
    omega arith

left_over_at_end : PlacesBy (at_its_end 41) → ⊥
left_over_at_end p =
    let o : Spot = record { at = 5; leaves = 1 } in
    let l : 5 < 5 = ((p.unpacking place_table up_to_three).left_over none 0 o computed.none_over).inside in
    omega arith

-- of more than one byte, the item begins at 0 though it is cut behind its first; of one byte, that byte alone would be refused
cut_at_end : PlacesBy (at_its_end 40) → ⊥
cut_at_end p = go (ltb 1 i.size) refl
  where
    o : Spot
    o = record { at = 0; leaves = 0 }

    i : ItemAt ((at_its_end 40).unpacks place_table float32) widest WordsGiven infinite 42 o
    i = (p.unpacking place_table float32).item infinite 0 42 o computed.float_there (λ e. omega arith)

    go : (b : Bool) → ltb 1 i.size ≡ b → ⊥
    go true e =
        let l : 1 < 0 + i.size = omega (arith, ltb-true 1 i.size e) in
        let z : ◌≡◌ {A = ℕ} 1 0 = ap at_in (sym computed.float_cut ∙ i.cut_off (take 1 infinite) 0 refl l) in
        omega arith
    go false e =
        let l : 0 + i.size ≤ 1 = omega (arith, ltb-false 1 i.size e) in
        let b : List ℕ = take 1 infinite in
        let z : ◌≡◌ {A = ℕ} 40 42 =
        ap number_in (sym computed.float_cut ∙ i.alike (λ f. omega arith) b 0 (take-take (0 + i.size) 1 infinite l)) in
        omega arith

output-byte : PlacesBy output_byte → ⊥
output-byte p =
    let o : Spot = record { at = 4; leaves = 1 } in
    let z : ◌≡◌ {A = ℕ} 4 1 = (p.packing place_table up_to_three).lies (1 ∷ []) 0 40 o computed.count_packed in
    omega arith

pub no_wrong_place : NoWrongPlace
no_wrong_place =
    record {
      behind-it = behind-it;
      uncounted_counts = uncounted_counts;
      left_over_at_end = left_over_at_end;
      cut_at_end = cut_at_end;
      output-byte = output-byte;
    }

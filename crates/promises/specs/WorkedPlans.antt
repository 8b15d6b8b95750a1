-- 02, request 13: the plans of two small tables, word by word, and payloads by them; and by a plan that is forged. The theorem is in
-- proofs/WorkedPlans.antt.
use Rattle.std.specs.Prelude.{ℕ, ◌≡◌, true, false, List, [], ◌∷◌, ◌++◌, take, drop, replicate}
use Rattle.std.specs.Prelude.{Ok}
use Rattle.table.specs.declared.Sections.{Sections}
use Rattle.types.specs.Table.{checked}
use Rattle.walk.specs.Planned.{is_planned}
use Rattle.plan.specs.Layout.{length_in, laid_number, laid_out}
use Rattle.payload.specs.declared.Answer.TheVariants.{Stopped, Gave}
use Rattle.payload.specs.Calls.{words_in, packed_in}
use Rattle.payload.specs.ByPlans.{unpacked_by, words_by, packed_by, bytes_by}
use Rattle.promises.specs.Cases.{◌behind◌}

abbrev pub plan_table : List ℕ
plan_table =
    0 ∷ 7
    -- kind, of, first and count of each: uint16; an enum of uint8; a record of two uint16 and the enum; an array of uint16, of 3 at
    -- most; two of that record; a record of a uint16 and those two; a record of a uint16 and the array
    ∷ 0 ∷ 0 ∷ 0 ∷ 8 ∷ 0 ∷ 0 ∷ 0 ∷ 0
    ∷ 0 ∷ 1 ∷ 0 ∷ 6 ∷ 0 ∷ 0 ∷ 0 ∷ 2
    ∷ 0 ∷ 2 ∷ 0 ∷ 0 ∷ 0 ∷ 0 ∷ 0 ∷ 3
    ∷ 0 ∷ 4 ∷ 0 ∷ 0 ∷ 0 ∷ 0 ∷ 0 ∷ 3
    ∷ 0 ∷ 3 ∷ 0 ∷ 2 ∷ 0 ∷ 0 ∷ 0 ∷ 2
    ∷ 0 ∷ 2 ∷ 0 ∷ 0 ∷ 0 ∷ 3 ∷ 0 ∷ 2
    ∷ 0 ∷ 2 ∷ 0 ∷ 0 ∷ 0 ∷ 5 ∷ 0 ∷ 2
    -- members of the three records
    ∷ 0 ∷ 7
    ∷ 0 ∷ 0 ∷ 0 ∷ 0 ∷ 0 ∷ 1
    ∷ 0 ∷ 0 ∷ 0 ∷ 4
    ∷ 0 ∷ 0 ∷ 0 ∷ 3
    -- the enum's values, 3 and 5, from byte 76 on
    ∷ 0 ∷ 2
    ∷ 0 ∷ 0 ∷ 0 ∷ 0 ∷ 0 ∷ 0 ∷ 0 ∷ 3
    ∷ 0 ∷ 0 ∷ 0 ∷ 0 ∷ 0 ∷ 0 ∷ 0 ∷ 5
    -- no operations
    ∷ 0 ∷ 0 ∷ []

abbrev pub plan_sections : Sections
plan_sections =
    record {
      types = record { at = 2; count = 7 };
      members = record { at = 60; count = 7 };
      values = record { at = 76; count = 2 };
      operations = record { at = 94; count = 0 };
    }

-- how many types; of each the first run's word, in 32 bits, how many runs and how many leaves, in 16 each, all 0 where it has no plan;
-- and the runs: in 24 bits the byte at which an enum's values stand, in 16 each how many values and how many leaves behind the first,
-- in 8 the code. The uint16 of the last record and the two behind it are one run
abbrev pub plan_words : List ℕ
plan_words =
    7
    ∷ 0x0000000800010001
    ∷ 0x0000000900010001
    ∷ 0x0000000A00020003
    ∷ 0x0000000000000000
    ∷ 0x0000000C00040006
    ∷ 0x0000001000040007
    ∷ 0x0000000000000000
    ∷ 0x0000000000000008
    ∷ 0x00004C0002000006
    ∷ 0x0000000000000108 ∷ 0x00004C0002000006
    ∷ 0x0000000000000108 ∷ 0x00004C0002000006 ∷ 0x0000000000000108 ∷ 0x00004C0002000006
    ∷ 0x0000000000000208 ∷ 0x00004C0002000006 ∷ 0x0000000000000108 ∷ 0x00004C0002000006
    ∷ []

-- Wrong programs that this rules out: a record's second member at the first's place; an enum's leaves without its values; runs of
-- different leaves as one; two runs left as they are where equal leaves meet; one word less taken for enough; a word changed behind
-- the plans, or in words that are too few
pub record PlansAre : Type 0 where
  pub accepted : checked plan_table ≡ Ok plan_sections
  -- one word for the count, 7 for the types and one for each of 1, 1, 3, 6 and 7 leaves
  pub long : length_in plan_table plan_sections ≡ Ok 26
  pub enough : laid_number plan_table plan_sections 26 ≡ 0
  pub too_short : laid_number plan_table plan_sections 25 ≡ 10
  pub laid : laid_out plan_table plan_sections (replicate 27 9) ≡ plan_words ++ replicate 7 9
  pub left : laid_out plan_table plan_sections (replicate 25 9) ≡ replicate 25 9
  -- not the array, not the record with the array in it, and no type that the table does not have
  pub base_planned : is_planned plan_words 0 ≡ true
  pub record_planned : is_planned plan_words 5 ≡ true
  pub array_not : is_planned plan_words 3 ≡ false
  pub array_within_not : is_planned plan_words 6 ≡ false
  pub none_not : is_planned plan_words 7 ≡ false

-- the last of the records that have a plan
abbrev pub outer : ℕ
outer = 5

-- a uint16, and twice two uint16 and the enum
abbrev pub outer_payload : List ℕ
outer_payload =
    0x00 ∷ 0x01 ∷ 0x00 ∷ 0x02 ∷ 0xFF ∷ 0xFE ∷ 0x03 ∷ 0x00 ∷ 0x04 ∷ 0x00 ∷ 0x05 ∷ 0x05 ∷ []

abbrev pub outer_words : List ℕ
outer_words = 1 ∷ 2 ∷ 65534 ∷ 3 ∷ 4 ∷ 5 ∷ 5 ∷ []

-- 4, a uint8 and none of the enum's values, in the enum's first place
abbrev pub bad_enum : List ℕ
bad_enum = take 6 outer_payload ++ (0x04 ∷ drop 7 outer_payload)

abbrev pub bad_enum_words : List ℕ
bad_enum_words = 1 ∷ 2 ∷ 65534 ∷ 4 ∷ 4 ∷ 5 ∷ 5 ∷ []

-- Wrong programs that this rules out: an enum's leaves judged by their base; the length tested first, 40 where a 42 stands before;
-- words stored before the last leaf is judged
pub record ByPlans : Type 0 where
  pub unpacked : unpacked_by plan_words plan_table plan_sections outer outer_payload 7 ≡ Gave 7
  pub words : words_by plan_words plan_table plan_sections outer outer_payload (replicate 8 9) ≡ outer_words ++ (9 ∷ [])
  pub packed : packed_by plan_words plan_table plan_sections outer outer_words 12 ≡ Gave 12
  pub bytes : bytes_by plan_words plan_table plan_sections outer outer_words (replicate 13 9) ≡ outer_payload ++ (9 ∷ [])
  pub enum_bad : unpacked_by plan_words plan_table plan_sections outer bad_enum 7 ≡ Stopped 42 (6 behind 3)
  pub enum_bad_left : words_by plan_words plan_table plan_sections outer bad_enum (replicate 7 9) ≡ replicate 7 9
  pub enum_bad_packed : packed_by plan_words plan_table plan_sections outer bad_enum_words 12 ≡ Stopped 42 (3 behind 3)
  pub bad_then_cut : unpacked_by plan_words plan_table plan_sections outer (take 8 bad_enum) 7 ≡ Stopped 42 (6 behind 3)
  pub cut : unpacked_by plan_words plan_table plan_sections outer (take 8 outer_payload) 7 ≡ Stopped 40 (7 behind 4)

-- uint16; 512 of them, and 513. Wrong programs that this rules out: 512 leaves get none, 513 get one
abbrev pub limit_table : List ℕ
limit_table =
    0 ∷ 3
    ∷ 0 ∷ 0 ∷ 0 ∷ 8 ∷ 0 ∷ 0 ∷ 0 ∷ 0
    ∷ 0 ∷ 3 ∷ 0 ∷ 0 ∷ 0 ∷ 0 ∷ 2 ∷ 0
    ∷ 0 ∷ 3 ∷ 0 ∷ 0 ∷ 0 ∷ 0 ∷ 2 ∷ 1
    ∷ 0 ∷ 0 ∷ 0 ∷ 0 ∷ 0 ∷ 0 ∷ []

abbrev pub limit_sections : Sections
limit_sections =
    record {
      types = record { at = 2; count = 3 };
      members = record { at = 28; count = 0 };
      values = record { at = 30; count = 0 };
      operations = record { at = 32; count = 0 };
    }

pub record AtTheLimit : Type 0 where
  pub accepted : checked limit_table ≡ Ok limit_sections
  pub long : length_in limit_table limit_sections ≡ Ok 517
  pub laid : laid_out limit_table limit_sections (replicate 517 9)
      ≡ (3 ∷ 0x0000000400010001 ∷ 0x0000000500010200 ∷ 0x0000000000000000 ∷ 0x0000000000000008 ∷ 0x000000000001FF08 ∷ []) ++ replicate 511 9

-- any words are plans: in these the two uint16 of type 2, a record of two uint16 and the enum, are two int16. Wrong programs that
-- this rules out: a call that always walks
abbrev pub forged : List ℕ
forged = take 10 plan_words ++ (0x0000000000000103 ∷ drop 11 plan_words)

abbrev pub inner : ℕ
inner = 2

abbrev pub inner_payload : List ℕ
inner_payload = 0xFF ∷ 0xFE ∷ 0x00 ∷ 0x01 ∷ 0x05 ∷ []

abbrev pub inner_words : List ℕ
inner_words = 65534 ∷ 1 ∷ 5 ∷ []

pub record Forged : Type 0 where
  pub walk_words : words_in plan_table plan_sections inner inner_payload (9 ∷ 9 ∷ 9 ∷ []) ≡ inner_words
  pub forged_words : words_by forged plan_table plan_sections inner inner_payload (9 ∷ 9 ∷ 9 ∷ []) ≡ 0xFFFFFFFFFFFFFFFE ∷ 1 ∷ 5 ∷ []
  pub walk_packs : packed_in plan_table plan_sections inner inner_words 5 ≡ Gave 5
  pub forged_refuses : packed_by forged plan_table plan_sections inner inner_words 5 ≡ Stopped 42 (0 behind 0)

pub record WorkedPlans : Type 0 where
  pub plans_are : PlansAre
  pub by_plans : ByPlans
  pub at_the_limit : AtTheLimit
  pub forged_plan : Forged

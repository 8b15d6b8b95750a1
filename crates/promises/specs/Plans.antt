-- 02, request 13, "Fixed plans and a race": what a caller is promised of plans. Those of a table are laid out in lent words, and
-- payloads are unpacked and packed by any words; over the definitions that these calls' contracts cite, on any table bytes and any
-- sections, which no check need have given. The theorem is in proofs/Plans.antt; tables worked out are specs/WorkedPlans.
use Rattle.std.specs.Prelude.{ℕ, ◌≤◌, ◌<◌, ◌≡◌, Bool, true, false, ◌&&◌, List, [], length, get_or}
use Rattle.std.specs.Prelude.{Ok}
use Rattle.refusal.specs.Refusal.{refused}
use Rattle.table.specs.declared.Sections.{Sections}
use Rattle.table.specs.Layout.{within}
use Rattle.table.specs.Entries.{is_type}
use Rattle.walk.specs.Tree.{Tree, leaf, row, array, broken, tree}
use Rattle.walk.specs.Planned.{is_planned}
use Rattle.plan.specs.Leaves.{has_plan}
use Rattle.plan.specs.Layout.{length_in, laid_number, laid_out}
use Rattle.payload.specs.declared.Answer.TheVariants as answer
use Rattle.payload.specs.Calls.{number_given, unpacked_in, words_in, packed_in, bytes_in}
use Rattle.payload.specs.ByPlans.{unpacked_by, words_by, packed_by, bytes_by}

-- by these plans the calls answer and leave what those without plans do: number, place, count and all that is lent; of every type, one
-- that has a plan, one that has none and one that the table does not have; and of every payload and all words, good or refused.
-- Wrong programs that this rules out: the length tested first, 40 where a 42 stands before; an enum's leaves judged by their base;
-- words stored before the last leaf is judged; a refusal for a type without a plan
pub record AsTheWalk (ps t : List ℕ) (s : Sections) (i : ℕ) : Type 0 where
  pub unpacked : (b : List ℕ) (room : ℕ) → unpacked_by ps t s i b room ≡ unpacked_in t s i b room
  pub words : (b words : List ℕ) → words_by ps t s i b words ≡ words_in t s i b words
  pub packed : (ws : List ℕ) (room : ℕ) → packed_by ps t s i ws room ≡ packed_in t s i ws room
  pub bytes : (ws out : List ℕ) → bytes_by ps t s i ws out ≡ bytes_in t s i ws out

-- a type has a plan where its tree is one or more leaves, 512 at most, each at its own place: where no array with a count stands in it
-- and nothing that breaks a rule. Wrong programs that this rules out: 512 leaves get none; 513 get one; a record with an array in it
-- gets one; a plan for a type that the table does not have
pub record WhichHaveOne : Type 0 where
  pub planned : (t : List ℕ) (s : Sections) (ws : List ℕ) → laid_number t s (length ws) ≡ 0
      → (i : ℕ) → is_planned (laid_out t s ws) i ≡ (is_type s i && has_plan (tree t s i))
  pub one_leaf : (code : ℕ) (ok : ℕ → Bool) → has_plan (leaf code ok) ≡ true
  pub row_of_512 : (code : ℕ) (ok : ℕ → Bool) → has_plan (row 512 (λ k. leaf code ok)) ≡ true
  pub row_of_513 : (code : ℕ) (ok : ℕ → Bool) → has_plan (row 513 (λ k. leaf code ok)) ≡ false
  pub no_array : (most : ℕ) (a : Tree) → has_plan (array most a) ≡ false
  pub no_array_within : (n : ℕ) (f : ℕ → Tree) (k most : ℕ) (a : Tree) → k < n → f k ≡ array most a → has_plan (row n f) ≡ false
  pub no_broken_within : (n : ℕ) (f : ℕ → Tree) (k : ℕ) → k < n → f k ≡ broken → has_plan (row n f) ≡ false

-- Wrong programs that this rules out: an output that is too short, and written as far as it goes; a length that is not enough; one
-- word less that is; plans of sections that do not lie in the bytes; words behind the plans changed
pub record LaysOut (t : List ℕ) (s : Sections) : Type 0 where
  -- so many words are enough, and fewer are 10 and stay as they are
  pub enough : (n : ℕ) (ws : List ℕ) → length_in t s ≡ Ok n → n ≤ length ws → laid_number t s (length ws) ≡ 0
  pub too_short : (n : ℕ) (ws : List ℕ) → length_in t s ≡ Ok n → length ws < n
      → (laid_number t s (length ws) ≡ 10) × (laid_out t s ws ≡ ws)
  -- sections outside the bytes are 30
  pub outside : (ws : List ℕ) → within t s ≡ false → (length_in t s ≡ refused 30) × (laid_number t s (length ws) ≡ 30) × (laid_out t s ws ≡ ws)
  -- and any refusal leaves them
  pub stays : (ws : List ℕ) → ¬ (laid_number t s (length ws) ≡ 0) → laid_out t s ws ≡ ws
  -- 131,329 words have room for the plans of any table: the count, 256 types, and 512 leaves of each
  pub most : (n : ℕ) → length_in t s ≡ Ok n → n ≤ 131329
  -- no word behind as many changes
  pub as_long : (ws : List ℕ) → length (laid_out t s ws) ≡ length ws
  pub behind : (n : ℕ) (ws : List ℕ) (k : ℕ) → length_in t s ≡ Ok n → n ≤ k → get_or (laid_out t s ws) k 0 ≡ get_or ws k 0

-- any words as plans, those of another table and forged ones too. Wrong programs that this rules out: a write outside of what is lent;
-- a count above the room; a refusal that leaves words; a type without a plan that goes by the walk before 30 and 44
pub record ByAny (ps t : List ℕ) (s : Sections) (i : ℕ) : Type 0 where
  pub words_long : (b words : List ℕ) → length (words_by ps t s i b words) ≡ length words
  pub bytes_long : (ws out : List ℕ) → length (bytes_by ps t s i ws out) ≡ length out
  pub words_fit : (b : List ℕ) (room n : ℕ) → unpacked_by ps t s i b room ≡ answer.Gave n → n ≤ room
  pub bytes_fit : (ws : List ℕ) (room n : ℕ) → packed_by ps t s i ws room ≡ answer.Gave n → n ≤ room
  pub words_stay : (b words : List ℕ) → ¬ (number_given (unpacked_by ps t s i b (length words)) ≡ 0) → words_by ps t s i b words ≡ words
  pub bytes_stay : (ws out : List ℕ) → ¬ (number_given (packed_by ps t s i ws (length out)) ≡ 0) → bytes_by ps t s i ws out ≡ out
  pub outside : (b : List ℕ) (room : ℕ) → is_planned ps i ≡ false → within t s ≡ false → unpacked_by ps t s i b room ≡ answer.Refused 30
  pub no_type : (b : List ℕ) (room : ℕ) → is_planned ps i ≡ false → within t s ≡ true → is_type s i ≡ false
      → unpacked_by ps t s i b room ≡ answer.Refused 44

pub record Plans : Type 0 where
  -- by the plans that were laid out for the table, whatever stands behind them, and by none
  pub as_the_walk : (t : List ℕ) (s : Sections) (ws : List ℕ) → laid_number t s (length ws) ≡ 0 → (i : ℕ) → AsTheWalk (laid_out t s ws) t s i
  pub without : (t : List ℕ) (s : Sections) (i : ℕ) → AsTheWalk [] t s i
  pub which : WhichHaveOne
  pub lays_out : (t : List ℕ) (s : Sections) → LaysOut t s
  pub by_any : (ps t : List ℕ) (s : Sections) (i : ℕ) → ByAny ps t s i

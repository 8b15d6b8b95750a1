-- 02, request 13, "prove it equal to the walk on every input", of the calls as programs in C have them (include/nyrkovash.h), over their
-- very contracts, on any table bytes and any sections, which no check need have given. Refusals keep what was lent by
-- specs/ExportsKeep, and answers are unique by specs/UniqueCalls. The theorem is in proofs/LinkedPlans.antt.
use Prim.{Unit}
use Rattle.std.specs.Prelude.{Ok}
use Rattle.std.specs.Prelude.{ℕ, ◌≤◌, ◌<◌, ◌≡◌, ◌↔◌, true, false, List, [], ◌∷◌, ◌++◌, length, get_or}
use Rattle.std.specs.Borrow.{Bor, MutBor}
use Rattle.table.specs.declared.Sections.{Sections}
use Rattle.table.specs.Layout.{within}
use Rattle.table.specs.Words.{sections_in, words_of}
use Rattle.types.specs.Table.{checked}
use Rattle.payload.specs.declared.Answer.{Answer}
use Rattle.payload.specs.ByPlans.{unpacked_by, words_by, packed_by, bytes_by}
use Rattle.nyrkovash.proofs.nyr_plans_length.Reads.{Post as nyr-plans-length}
use Rattle.nyrkovash.proofs.nyr_plans.Reads.{Post as nyr-plans}
use Rattle.nyrkovash.proofs.nyr_unpack_by.Reads.{Post as nyr-unpack-by}
use Rattle.nyrkovash.proofs.nyr_pack_by.Reads.{Post as nyr-pack-by}
use Rattle.nyrkovash.proofs.nyr_unpack_in.Reads.{Post as nyr-unpack-in}
use Rattle.nyrkovash.proofs.nyr_pack_in.Reads.{Post as nyr-pack-in}
use Rattle.promises.specs.Linked.{Allows}
use Rattle.promises.specs.LinkedPayloads.{given, given_back, PacksAs, UnpacksAs}
use Rattle.promises.specs.WorkedPlans.{plan_table, plan_sections, forged, inner, inner_payload, inner_words}

-- `nyr_plans_length` and `nyr_plans`: a table, the words of its sections, and a number, or words, lent for the answer
pub record LoadLent (A : Type 0) : Type 0 where
  pub table : List ℕ
  pub sections : List ℕ
  pub answer : A

abbrev pub load_lent : {A : Type 0} → List ℕ → List ℕ → A → LoadLent A
load_lent t ss x = record { table = t; sections = ss; answer = x }

abbrev pub Measures : LoadLent ℕ → ℕ → ℕ → Type 0
Measures = Allows nyr-plans-length (λ k a. load_lent a.0.now a.1.0.now a.1.1.0.now) (λ k e. e.1.1.0.now)

abbrev pub Lays : LoadLent (List ℕ) → ℕ → List ℕ → Type 0
Lays = Allows nyr-plans (λ k a. load_lent a.0.now a.1.0.now a.1.1.0.now) (λ k e. e.1.1.0.now)

-- the calls that unpack and pack: a table, the words of its sections, a type, a payload or words, what these become, and `nyr_walked`
pub record WalkLent : Type 0 where
  pub table : List ℕ
  pub sections : List ℕ
  pub number : ℕ
  pub input : List ℕ
  pub output : List ℕ
  pub walked : List ℕ

abbrev pub walk_lent : List ℕ → List ℕ → ℕ → List ℕ → List ℕ → List ℕ → WalkLent
walk_lent t ss i x y w = record { table = t; sections = ss; number = i; input = x; output = y; walked = w }

pub record WalkLeft : Type 0 where
  pub output : List ℕ
  pub walked : List ℕ

abbrev pub walk_left : List ℕ → List ℕ → WalkLeft
walk_left y w = record { output = y; walked = w }

-- as they are handed: lent, but for the type
abbrev pub Walking : Type 0
Walking = Bor (List ℕ) × (MutBor (List ℕ) × (MutBor (List ℕ) × Unit {0}))

abbrev pub HandedIn : Type 0
HandedIn = Bor (List ℕ) × (Bor (List ℕ) × (ℕ × Walking))

abbrev pub lent_in : HandedIn → WalkLent
lent_in a = walk_lent a.0.now a.1.0.now a.1.1.0 a.1.1.1.0.now a.1.1.1.1.0.now a.1.1.1.1.1.0.now

abbrev pub exit_in : HandedIn → WalkLeft
exit_in e = walk_left e.1.1.1.1.0.now e.1.1.1.1.1.0.now

abbrev pub UnpacksIn : WalkLent → ℕ → WalkLeft → Type 0
UnpacksIn = Allows nyr-unpack-in (λ k a. lent_in a) (λ k e. exit_in e)

abbrev pub PacksIn : WalkLent → ℕ → WalkLeft → Type 0
PacksIn = Allows nyr-pack-in (λ k a. lent_in a) (λ k e. exit_in e)

-- those by plans, which are handed behind the sections
pub record PlansLent : Type 0 where
  pub plans : List ℕ
  pub lent : WalkLent

infix 60 ◌with-plans◌
abbrev pub ◌with-plans◌ : WalkLent → List ℕ → PlansLent
◌with-plans◌ l ps = record { plans = ps; lent = l }

abbrev pub HandedBy : Type 0
HandedBy = Bor (List ℕ) × (Bor (List ℕ) × (Bor (List ℕ) × (ℕ × Walking)))

abbrev pub lent_by : HandedBy → PlansLent
lent_by a = lent_in (a.0, (a.1.0, a.1.1.1)) with-plans a.1.1.0.now

abbrev pub exit_by : HandedBy → WalkLeft
exit_by e = exit_in (e.0, (e.1.0, e.1.1.1))

abbrev pub UnpacksBy : PlansLent → ℕ → WalkLeft → Type 0
UnpacksBy = Allows nyr-unpack-by (λ k a. lent_by a) (λ k e. exit_by e)

abbrev pub PacksBy : PlansLent → ℕ → WalkLeft → Type 0
PacksBy = Allows nyr-pack-by (λ k a. lent_by a) (λ k e. exit_by e)

-- plans that `nyr_plans` left where it gave 0, for the table and the sections of this call
abbrev pub LaidFor : WalkLent → List ℕ → Type 0
LaidFor l ps = (ws : List ℕ) × Lays (load_lent l.table l.sections ws) 0 ps

-- `nyr_plans` on these words, where m are said to be enough. Wrong programs that this rules out: a length that is not enough; one word
-- less that is; an output that is too short, and written as far as it goes; words behind as many changed
pub record LaidIn (m : ℕ) (ws : List ℕ) (n : ℕ) (left : List ℕ) : Type 0 where
  pub enough : m ≤ length ws → n ≡ 0
  pub too_short : length ws < m → (n ≡ 10) × (left ≡ ws)
  pub as_long : length left ≡ length ws
  pub behind : (k : ℕ) → m ≤ k → get_or left k 0 ≡ get_or ws k 0

-- a call by any plans that is to answer and leave this: what is given fits what was lent, which is as long as it was. Wrong programs
-- that this rules out: a write outside of what is lent; a count above the room
pub record GoesBy (a : Answer) (left : List ℕ) (l : WalkLent) (n : ℕ) (r : WalkLeft) : Type 0 where
  pub answer : given_back n r.walked ≡ a
  pub output : r.output ≡ left
  pub as_long : length r.output ≡ length l.output
  pub fits : n ≡ 0 → given r.walked ≤ length l.output

pub record LinkedPlans : Type 0 where
  -- for sections that lie in the bytes there are plans
  pub some : (l : WalkLent) → within l.table (sections_in l.sections) ≡ true → (ps : List ℕ) × LaidFor l ps
  -- by what `nyr_plans` left, a call may give back and leave just what the one on sections may: number, count, place and all that was
  -- lent, of every type, payload and words. Wrong programs that this rules out: those of `AsTheWalk` in specs/Plans; sections that are
  -- read from other words by one call than by the other; a type's plan asked of another number
  pub unpack : (l : WalkLent) (ps : List ℕ) → LaidFor l ps → (n : ℕ) (r : WalkLeft) → UnpacksBy (l with-plans ps) n r ↔ UnpacksIn l n r
  pub pack : (l : WalkLent) (ps : List ℕ) → LaidFor l ps → (n : ℕ) (r : WalkLeft) → PacksBy (l with-plans ps) n r ↔ PacksIn l n r
  -- so with the words that a check left they are the codec that meets demand 2 (specs/LinkedPayloads)
  pub unpack_checked : (l : WalkLent) (ps : List ℕ) → LaidFor l ps
      → (s : Sections) (index : List ℕ) → checked l.table ≡ Ok s → l.sections ≡ words_of s ++ index
      → (n : ℕ) (r : WalkLeft) → UnpacksBy (l with-plans ps) n r → UnpacksAs l.table l.number l.input l.output n r.walked r.output
  pub pack_checked : (l : WalkLent) (ps : List ℕ) → LaidFor l ps
      → (s : Sections) (index : List ℕ) → checked l.table ≡ Ok s → l.sections ≡ words_of s ++ index
      → (n : ℕ) (r : WalkLeft) → PacksBy (l with-plans ps) n r → PacksAs l.table l.number l.input l.output n r.walked r.output
  -- the words that `nyr_plans_length` says are enough, and 131,329 are for any table
  pub long : (t ss : List ℕ) (was m : ℕ) → Measures (load_lent t ss was) 0 m → m ≤ 131329
  pub laid : (t ss : List ℕ) (was m : ℕ) → Measures (load_lent t ss was) 0 m
      → (ws : List ℕ) (n : ℕ) (left : List ℕ) → Lays (load_lent t ss ws) n left → LaidIn m ws n left
  -- 30 just where the sections do not lie in the bytes, and the number of words wherever they do
  pub measures_0 : (t ss : List ℕ) (was n m : ℕ) → Measures (load_lent t ss was) n m → (n ≡ 0) ↔ (within t (sections_in ss) ≡ true)
  pub measures_30 : (t ss : List ℕ) (was n m : ℕ) → Measures (load_lent t ss was) n m → (n ≡ 30) ↔ (within t (sections_in ss) ≡ false)
  pub lays_30 : (t ss ws : List ℕ) (n : ℕ) (left : List ℕ) → Lays (load_lent t ss ws) n left → (n ≡ 30) ↔ (within t (sections_in ss) ≡ false)
  -- by any words, those of another table and forged ones too, the calls answer by the definitions over these
  pub unpack_any : (l : WalkLent) (ps : List ℕ) (n : ℕ) (r : WalkLeft) → UnpacksBy (l with-plans ps) n r
      → GoesBy (unpacked_by ps l.table (sections_in l.sections) l.number l.input (length l.output))
      (words_by ps l.table (sections_in l.sections) l.number l.input l.output) l n r
  pub pack_any : (l : WalkLent) (ps : List ℕ) (n : ℕ) (r : WalkLeft) → PacksBy (l with-plans ps) n r
      → GoesBy (packed_by ps l.table (sections_in l.sections) l.number l.input (length l.output))
      (bytes_by ps l.table (sections_in l.sections) l.number l.input l.output) l n r
  -- plans are obeyed: where one run's code is another (specs/WorkedPlans) so are the words. Wrong programs that this rules out: a call
  -- that always walks
  pub unpack_walked : (index walked : List ℕ) (n : ℕ) (r : WalkLeft)
      → UnpacksIn (walk_lent plan_table (words_of plan_sections ++ index) inner inner_payload (9 ∷ 9 ∷ 9 ∷ []) walked) n r → r.output ≡ inner_words
  pub unpack_forged : (index walked : List ℕ) (n : ℕ) (r : WalkLeft)
      → UnpacksBy (walk_lent plan_table (words_of plan_sections ++ index) inner inner_payload (9 ∷ 9 ∷ 9 ∷ []) walked with-plans forged) n r
      → r.output ≡ 0xFFFFFFFFFFFFFFFE ∷ 1 ∷ 5 ∷ []

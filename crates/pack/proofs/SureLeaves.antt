-- Leaves of a walk that is known to go: of a record's members the words of all that are bases are taken, and those of an array's
-- elements likewise.
-- Assumes nothing.
use Prim.Native.Nat.{ℕ, zero, suc, ◌+◌, ◌-◌, ◌≤◌, ◌<◌}
use mathlib.Core.Path.{◌≡◌, refl, sym, ap, subst, ◌∙◌}
use mathlib.Core.Bool.{true}
use mathlib.Core.Logic.{⊎_elim}
use mathlib.Core.List.{List, [], ◌∷◌}
use native.Mathlib.Nat.{eq-or-lt_of_le}
use native.Mathlib.Omega.{arith}
use lib.ListN.{length, get_or, replicate}
use Rattle.wire.specs.Bytes.{over}
use Rattle.wire.proofs.Cond.{and_left, and_right, and_true}
use Rattle.table.specs.declared.Sections.{Sections}
use Rattle.table.specs.declared.Entry.{Entry}
use Rattle.table.specs.Entries.{member_at}
use Rattle.table.specs.Leaf.{allowed}
use Rattle.leaf.specs.Choice.{choice}
use Rattle.walk.specs.declared.Place.{Place}
use Rattle.walk.specs.Tree.{base_at}
use Rattle.walk.specs.Walk.{Step, on, through, walk, leaf_walk, Going}
use Rattle.walk.specs.Planned.{child_by}
use Rattle.walk.specs.Codes.{firsts, code_at, code_count, codes_of}
use Rattle.walk.proofs.Walks.{through-none}
use Rattle.walk.proofs.Codes.{length-firsts, first-at, code-member, code-base, code_is}
use Rattle.pack_leaves.specs.Stored.{is_there, behind, stored, all_taken, ends, laid, WritesEach}
use Rattle.pack_leaves.specs.StoredRuns.{behind_all, stored_all}
use Rattle.pack_leaves.proofs.Behind.{taken-append, one-taken, written_over}
use Rattle.pack.specs.JudgedRuns.{AllThere}
use Rattle.pack.specs.Writing.{writer, member_written}
use Rattle.pack.specs.Alike.{AllChosen, WritesLeaf}
use Rattle.pack.proofs.JudgedRuns.{rest-on}
use Rattle.pack.proofs.WriteBases.{base-writes}
use Rattle.pack.proofs.AlikeLeaves.{leaf_on}
use Rattle.pack.proofs.Sure.{Goes_on, step_sure, item_sure, base-sure}

-- members from the m-th on
module _ (ws ps t : List ℕ) (s : Sections) (i : ℕ) (e : Entry) (p₀ : Place) (x₀ : List ℕ)
    (whole : Goes_on (through e.count (member_written ws ps t s i e) p₀ x₀)) (m : ℕ) (p : Place) (x : List ℕ)
    (so_far : through m (member_written ws ps t s i e) p₀ x₀ ≡ on p x) where
  abbrev code : ℕ → ℕ
  code = code_at t s i e m

  abbrev Bases : ℕ → Type 0
  Bases n = (k : ℕ) → k < n → (code_at t s i e m k < 13) × (m + k < e.count)

  each-writes : (n : ℕ) → WritesEach ws (firsts (code_at t s i e m) n) m (member_written ws ps t s i e)
  unfolding code_at
  each-writes n k q y inside there =
      let l : k < n = omega (arith, length-firsts (code_at t s i e m) n) in
      base-writes ws t s i (member_at t s (e.first + (m + k))) (get_or (firsts (code_at t s i e m) n) k 0) (first-at (code_at t s i e m) n k l) q y there ps

  first_taken : (n : ℕ) → Bases n → all_taken ws (firsts (code_at t s i e m) n) p.from ≡ true
  unfolding firsts all_taken code_at
  first_taken zero h = refl
  first_taken (suc n) h =
      let cs : List ℕ = firsts (code_at t s i e m) n in
      let f : ℕ → Place → List ℕ → Step = member_written ws ps t s i e in
      let so : length (firsts (code_at t s i e m) n) ≡ n = length-firsts (code_at t s i e m) n in
      let a : all_taken ws (firsts (code_at t s i e m) n) p.from ≡ true = first_taken n (λ k l. h k (omega arith)) in
      let b : (code_at t s i e m n < 13) × (m + n < e.count) = h n (omega arith) in
      let o = written_over ws (firsts (code_at t s i e m) n) m (member_written ws ps t s i e) (each-writes n) p a x p₀ x₀ so_far in
      let q : Place = record { from = p.from + length (firsts (code_at t s i e m) n); to = ends (firsts (code_at t s i e m) n) p.to } in
      let y : List ℕ = laid ws (firsts (code_at t s i e m) n) p x in
      let g = step_sure (member_written ws ps t s i e) p₀ x₀ e.count (m + length (firsts (code_at t s i e m) n)) q y whole (omega (arith, b.1)) o in
      let d : is_there ws (code_at t s i e m n) q.from
      ≡ true = base-sure ws t s i (member_at t s (e.first + (m + length (firsts (code_at t s i e m) n)))) (code_at t s i e m n)
      (ap (code_at t s i e m) (sym so)) b.0 ps q y g in
      taken-append ws (firsts (code_at t s i e m) n) (code_at t s i e m n ∷ []) p.from a
      (one-taken ws (code_at t s i e m n) (p.from + length (firsts (code_at t s i e m) n)) d)

  -- those whose codes are got at once
  pub codes-sure : all_taken ws (codes_of t s i e m 64) p.from ≡ true
  unfolding codes_of code_at
  codes-sure = first_taken (code_count t s i e m 64) bases
    where
      bases : Bases (code_count t s i e m 64)
      bases k l =
          let u : List ℕ = replicate 64 0 in
          let v : List ℕ = over (replicate 64 0) 0 (codes_of t s i e m 64) in
          let c : get_or (over (replicate 64 0) 0 (codes_of t s i e m 64)) k 0
          ≡ code_at t s i e m k = code_is t s i e m (code_count t s i e m 64) (replicate 64 0) refl (over (replicate 64 0) 0 (codes_of t s i e m 64)) refl k
          (get_or (over (replicate 64 0) 0 (codes_of t s i e m 64)) k 0) l refl in (
            omega (
              arith,
              c,
              code-base t s i e m (code_count t s i e m 64) (replicate 64 0) refl (over (replicate 64 0) 0 (codes_of t s i e m 64)) refl k
                  (get_or (over (replicate 64 0) 0 (codes_of t s i e m 64)) k 0) l refl,
            ),
            code-member t s i e m (code_count t s i e m 64) (replicate 64 0) refl k l,
          )

pub going_codes : {P : Place → Type 0} (ws ps t : List ℕ) (s : Sections) (i : ℕ) (e : Entry) {p₀ : Place} {x₀ : List ℕ} {m : ℕ} {p : Place} {x : List ℕ}
    → Going P (member_written ws ps t s i e) e.count 0 p₀ x₀ m p x → (0 < length x₀ → Goes_on (through e.count (member_written ws ps t s i e) p₀ x₀))
    → 0 < length x → all_taken ws (codes_of t s i e m 64) p.from ≡ true
going_codes {P} ws ps t s i e {p₀} {x₀} {m} {p} {x} g whole h =
    codes-sure ws ps t s i e p₀ x₀ (whole (omega (arith, g.as_long))) m p x (g.goes p₀ x₀ (through-none (member_written ws ps t s i e) p₀ x₀))

-- elements from the k-th on, whose steps go where their words are right, and only there
module _ (ws : List ℕ) (code : ℕ) (f : ℕ → Place → List ℕ → Step) (p₀ : Place) (x₀ : List ℕ) (n : ℕ) (whole : Goes_on (through n f p₀ x₀)) (k : ℕ)
    (p : Place) (x : List ℕ) (so_far : through k f p₀ x₀ ≡ on p x) (Right : ℕ → Type 0)
    (goes : (j : ℕ) (q : Place) (y : List ℕ) → Right q.from → f j q y ≡ on (behind code q) (stored ws code q y))
    (tells : (j : ℕ) (q : Place) (y : List ℕ) → Goes_on (f j q y) → Right q.from) where
  all_right : (m : ℕ) → k + m ≤ n → (j : ℕ) → j < m → Right (p.from + j)
  all_right zero h j l = absurd (omega arith)
  all_right (suc m) h j l =
      let a : j ≤ m = omega arith in
      let o = rest-on ws code p x k m f (λ i y b. goes (k + i) (behind_all code p i) y (all_right m (omega arith) i b)) p₀ x₀ so_far in
      ⊎_elim
      (λ (e : j ≡ m). subst (λ (i : ℕ). Right (p.from + i)) (sym e)
      (tells (k + m) (behind_all code p m) (stored_all ws code p m x)
      (step_sure f p₀ x₀ n (k + m) (behind_all code p m) (stored_all ws code p m x) whole (omega arith) o)))
      (λ (b : j < m). all_right m (omega arith) j b)
      (eq-or-lt_of_le a)

  pub rest-right : (m : ℕ) → m ≡ n - k → k ≤ n → (j : ℕ) → j < m → Right (p.from + j)
  rest-right m e h = all_right m (omega arith)

-- of one base code
pub run_sure : (ws ps t : List ℕ) (s : Sections) (i c code : ℕ) → code ≡ base_at t s i c → code < 13 → (p : Place) (x : List ℕ) (n : ℕ)
    → Goes_on (through n (λ k q y. walk (writer ws) (child_by ps t s i c) q y) p x) → AllThere ws code p.from n
unfolding through
run_sure ws ps t s i c code is base p x n whole =
    rest-right ws code (λ k q y. walk (writer ws) (child_by ps t s i c) q y) p x n whole 0 p x refl (λ a. is_there ws code a ≡ true)
    (λ j q y h. base-writes ws t s i c code is q y h ps) (λ j q y h. base-sure ws t s i c code is base ps q y h) n (omega arith) (omega arith)

-- of one entry
pub leaves_sure : (ws t : List ℕ) (s : Sections) (e : Entry) (f : ℕ → Place → List ℕ → Step) → WritesLeaf ws t s e f → (p₀ : Place) (x₀ : List ℕ) (n : ℕ)
    → Goes_on (through n f p₀ x₀) → (k : ℕ) (p : Place) (x : List ℕ) → through k f p₀ x₀ ≡ on p x → k ≤ n → AllChosen ws t s e p.from (n - k)
unfolding leaf_walk writer is_there
leaves_sure ws t s e f writes p₀ x₀ n whole k p x so_far l =
    rest-right ws e.of f p₀ x₀ n whole k p x so_far
    (λ a. (is_there ws e.of a ≡ true) × (choice t s e (get_or ws a 0) ≡ true))
    (λ j q y h. writes j q y ∙ leaf_on ws t s e q y h.0 h.1) (λ j q y h. leaf-there j q y h) (n - k) refl l
  where
    leaf-there : (j : ℕ) (q : Place) (y : List ℕ) → Goes_on (f j q y)
        → (is_there ws e.of q.from ≡ true) × (choice t s e (get_or ws q.from 0) ≡ true)
    leaf-there j q y h =
        let d = item_sure (writer ws) 42 e.of (choice t s e) q y (subst Goes_on (writes j q y) h) in (
          and_true (_) (_) d.0 (and_left (allowed e.of (get_or ws q.from 0)) (choice t s e (get_or ws q.from 0)) d.1),
          and_right (allowed e.of (get_or ws q.from 0)) (choice t s e (get_or ws q.from 0)) d.1,
        )

pub going_leaves : {P : Place → Type 0} {f : ℕ → Place → List ℕ → Step} {n : ℕ} {p₀ : Place} {x₀ : List ℕ} {k : ℕ} {p : Place} {x : List ℕ}
    (ws t : List ℕ) (s : Sections) (e : Entry) → Going P f n 0 p₀ x₀ k p x → (0 < length x₀ → Goes_on (through n f p₀ x₀)) → WritesLeaf ws t s e f
    → 0 < length x → AllChosen ws t s e p.from (n - k)
going_leaves {P} {f} {n} {p₀} {x₀} {k} {p} {x} ws t s e g whole writes h =
    leaves_sure ws t s e f writes p₀ x₀ n (whole (omega (arith, g.as_long))) k p x (g.goes p₀ x₀ (through-none f p₀ x₀)) g.most

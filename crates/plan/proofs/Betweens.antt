-- Words between two places of a list, and lists that are written over from a place on.
-- Assumes nothing.
use Prim.Native.Nat.{ℕ, ◌+◌, ◌-◌, ◌≤◌, ◌<◌}
use mathlib.Core.Path.{◌≡◌, sym, ap, ◌∙◌}
use mathlib.Core.List.{List, [], ◌∷◌, ◌++◌, append_assoc}
use native.Mathlib.Numerals.{add-one}
use native.Mathlib.Omega.{arith}
use lib.ListN.{length, get_or, set, take, drop, length-append, take-append-drop, get_or-append}
use lib.Seq.{length-take-le, take-suc, take_at, drop_at, take-take, get_or-take, drop-drop, drop-append-le, drop-append-add, slice_empty, length-slice}
use Rattle.wire.specs.Bytes.{over}
use Rattle.wire.proofs.Runs.{over_over, take_over, set_over}
use Rattle.plan.specs.Laying.{between}

pub between_none : (a : ℕ) (l : List ℕ) → between a a l ≡ []
unfolding between
between_none a l = slice_empty a l

pub between_same : (a b : ℕ) (l : List ℕ) → a ≡ b → between a b l ≡ []
between_same a b l e = ap (λ (n : ℕ). between a n l) (sym e) ∙ between_none a l

pub length_between : (a b : ℕ) (l : List ℕ) → a ≤ b → b ≤ length l → a + length (between a b l) ≡ b
unfolding between
length_between a b l h k = omega (arith, length-slice a b l k)

pub between_more : (a b : ℕ) (l : List ℕ) → a ≤ b → b < length l → between a (b + 1) l ≡ between a b l ++ (get_or l b 0 ∷ [])
unfolding between
between_more a b l h k =
    ap (λ (n : ℕ). drop a (take n l)) (add-one b) ∙ ap (drop a) (take-suc l b 0 k)
    ∙ drop-append-le a (take b l) (get_or l b 0 ∷ []) (omega (arith, length-take-le b l (omega arith)))

pub between_last : (a b : ℕ) (l : List ℕ) → a < b → b ≤ length l → between a b l ≡ between a (b - 1) l ++ (get_or l (b - 1) 0 ∷ [])
between_last a b l h k =
    let e : b ≡ (b - 1) + 1 = omega arith in
    ap (λ (n : ℕ). between a n l) e ∙ between_more a (b - 1) l (omega arith) (omega arith)

pub between_split : (a b c : ℕ) (l : List ℕ) → a ≤ b → b ≤ c → c ≤ length l → between a c l ≡ between a b l ++ between b c l
unfolding between
between_split a b c l h k m =
    ap (drop a) (sym (take-append-drop b (take c l)))
    ∙ drop-append-le a (take b (take c l)) (drop b (take c l)) (omega (arith, length-take-le b (take c l) (omega (arith, length-take-le c l m))))
    ∙ ap (λ (u : List ℕ). drop a u ++ drop b (take c l)) (take-take b c l k)

-- a part of a beginning
pub between_taken : (a b n : ℕ) (l : List ℕ) → b ≤ n → between a b (take n l) ≡ between a b l
unfolding between
between_taken a b n l h = ap (drop a) (take-take b n l h)

-- what stands before what was written, and what was written
pub between_before : (a b f : ℕ) (l ys : List ℕ) → b ≤ f → f ≤ length l → between a b (over l f ys) ≡ between a b l
between_before a b f l ys h k =
    sym (between_taken a b f (over l f ys) h) ∙ ap (between a b) (take_over l f ys k) ∙ between_taken a b f l h

pub word_before : (f k : ℕ) (l ys : List ℕ) → k < f → f ≤ length l → get_or (over l f ys) k 0 ≡ get_or l k 0
word_before f k l ys h m =
    get_or-append (take f l) (ys ++ drop (f + length ys) l) 0 k (omega (arith, length-take-le f l m)) ∙ get_or-take f l k 0 h

pub between_written : (f : ℕ) (l ys : List ℕ) → f ≤ length l → between f (f + length ys) (over l f ys) ≡ ys
unfolding between
between_written f l ys h =
    let p : List ℕ = take f l ++ ys in
    let d : List ℕ = drop (f + length ys) l in
    let n : length (take f l) ≡ f = length-take-le f l h in
    let m : length p ≡ f + length ys = length-append (take f l) ys ∙ ap (λ (k : ℕ). k + length ys) n in
    ap (drop f) (ap (take (f + length ys)) (sym (append_assoc (take f l) ys d)) ∙ take_at p d (f + length ys) m) ∙ drop_at (take f l) ys f n

-- writing what is there, and writing again from the same place on
pub over_between : (a b : ℕ) (l : List ℕ) → a ≤ b → b ≤ length l → over l a (between a b l) ≡ l
unfolding between
over_between a b l h k =
    let x : List ℕ = drop a (take b l) in
    ap (λ (n : ℕ). take a l ++ (x ++ drop n l)) (length_between a b l h k)
    ∙ ap (λ (u : List ℕ). u ++ (x ++ drop b l)) (sym (take-take a b l h))
    ∙ sym (append_assoc (take a (take b l)) x (drop b l))
    ∙ ap (λ (u : List ℕ). u ++ drop b l) (take-append-drop a (take b l))
    ∙ take-append-drop b l

pub set_between : (a j v : ℕ) (l : List ℕ) → a ≤ j → j < length l → set l j v ≡ over l a (between a j l ++ (v ∷ []))
set_between a j v l h k =
    let x : List ℕ = between a j l in
    let n : a + length x ≡ j = length_between a j l h (omega arith) in
    set_over l j v k
    ∙ ap (λ (u : List ℕ). over u j (v ∷ [])) (sym (over_between a j l h (omega arith)))
    ∙ ap (λ (m : ℕ). over (over l a x) m (v ∷ [])) (sym n)
    ∙ over_over l a x (v ∷ []) (omega (arith, length-append x (v ∷ [])))

pub over_again : (f : ℕ) (l ys zs : List ℕ) → f + length zs ≤ length l → length ys ≤ length zs → over (over l f ys) f zs ≡ over l f zs
over_again f l ys zs h k =
    let p : List ℕ = take f l ++ ys in
    let d : ℕ = length zs - length ys in
    let n : length p ≡ f + length ys = length-append (take f l) ys ∙ ap (λ (k : ℕ). k + length ys) (length-take-le f l (omega arith)) in
    let e : f + length zs ≡ length p + d = omega arith in
    let g : f + length ys + d ≡ f + length zs = omega arith in
    let q : drop (f + length zs) (over l f ys) ≡ drop (f + length zs) l =
    ap (drop (f + length zs)) (sym (append_assoc (take f l) ys (drop (f + length ys) l)))
    ∙ ap (λ (m : ℕ). drop m (p ++ drop (f + length ys) l)) e
    ∙ drop-append-add p (drop (f + length ys) l) d
    ∙ drop-drop d (f + length ys) l
    ∙ ap (λ (m : ℕ). drop m l) g in
    ap (λ (u : List ℕ). u ++ (zs ++ drop (f + length zs) (over l f ys))) (take_over l f ys (omega arith))
    ∙ ap (λ (u : List ℕ). take f l ++ (zs ++ u)) q

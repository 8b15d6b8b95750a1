-- A slice that was made anew for a call, as long as it was: what the call says of it is so of the slice.
-- Assumes nothing.
use Prim.Native.Nat.{ℕ, ◌+◌, ◌-◌, ◌≤◌}
use mathlib.Core.Path.{◌≡◌, sym, ap, subst, ◌∙◌}
use mathlib.Core.Bool.{cond}
use mathlib.Core.List.{List}
use native.Mathlib.Omega.{arith}
use lib.Dec.{leb}
use lib.ListN.{length, take}
use lib.Seq.{take-length}
use Rattle.wire.proofs.Cond.{yes_le}
use Rattle.walk.specs.declared.Place.{Place}
use Rattle.walk.specs.Runs.{code_in, many_in, values_in, place_in}
use Rattle.pack_leaves.specs.StoredRuns.{stored_all}
use Rattle.pack.specs.JudgedRuns.{AllThere}
use Rattle.pack.specs.ByPlan.{AllAmong, AllTaken, RunTaken}
use Rattle.pack.proofs.PlanLeaves.{all_taken}

-- the words of a run are there
pub many_inside : (w from l n : ℕ) → from ≤ l → n ≤ l - from → n ≡ many_in w → from + many_in w ≤ l
many_inside w from l n a b e = omega arith

pub there_anew : (ws : List ℕ) (w from n : ℕ) → from + many_in w ≤ length ws → n ≡ many_in w → from + n ≤ length (take (length ws) ws)
there_anew ws w from n h e = subst (λ (l : List ℕ). from + n ≤ length l) (sym (take-length ws)) (omega arith)

-- they are taken
pub among_anew : (ws t : List ℕ) (w from p n m : ℕ) → AllAmong (take (length ws) ws) (take (length t) t) p n from m → n ≡ values_in w → p ≡ place_in w
    → m ≡ many_in w → AllTaken ws t w from (many_in w)
among_anew ws t w from p n m among count place many =
    all_taken ws t w from n p m count place many
    (subst (λ (l : List ℕ). AllAmong l t p n from m) (take-length ws)
    (subst (λ (l : List ℕ). AllAmong (take (length ws) ws) l p n from m) (take-length t) among))

pub taken_anew : (ws t : List ℕ) (w from code n : ℕ) → AllThere (take (length ws) ws) code from n → AllTaken ws t w from (many_in w) → n ≡ many_in w
    → code ≡ code_in w → from + many_in w ≤ length ws → RunTaken ws t w from
taken_anew ws t w from code n there taken many is inside =
    record {
      inside = inside;
      there = rw (← is, ← many) (subst (λ (l : List ℕ). AllThere l code from n) (take-length ws) there);
      taken = taken;
    }

-- they are stored
pub stored_anew : (ws x y : List ℕ) (code n : ℕ) (p : Place) → p.from + n ≤ length ws
    → y ≡ cond (leb (p.from + n) (length (take (length ws) ws))) (stored_all (take (length ws) ws) code p n x) x → y ≡ stored_all ws code p n x
stored_anew ws x y code n p h e =
    e
    ∙ ap (λ (l : List ℕ). cond (leb (p.from + n) (length l)) (stored_all l code p n x) x) (take-length ws)
    ∙ yes_le (stored_all ws code p n x) x (p.from + n) (length ws) h

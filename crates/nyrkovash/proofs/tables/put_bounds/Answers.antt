-- `nyrkovash::put_bounds` meets its contract: word by word.
-- Assumes nothing.
use native.Mathlib.Omega.{arith}
use lib.ListN.{length-set}
use Rattle.nyrkovash.proofs.Calling.{bounds_put}
use Rattle.nyrkovash.proofs.tables.put_bounds.Goals as goal

pub bounds-words-1 : goal.bounds-words-1
bounds-words-1 c =
    simp length-set (omega arith)

pub bounds-words-2 : goal.bounds-words-2
bounds-words-2 c =
    simp length-set (omega arith)

pub bounds-words-3 : goal.bounds-words-3
bounds-words-3 c =
    simp length-set (omega arith)

pub bounds-words-4 : goal.bounds-words-4
bounds-words-4 c =
    simp length-set (omega arith)

pub bounds-words-5 : goal.bounds-words-5
bounds-words-5 c =
    simp length-set (omega arith)

pub bounds-words-6 : goal.bounds-words-6
bounds-words-6 c =
    simp length-set (omega arith)

pub bounds-words-7 : goal.bounds-words-7
bounds-words-7 c =
    simp length-set (omega arith)

pub returns : goal.returns
returns c =
    search bounds_put

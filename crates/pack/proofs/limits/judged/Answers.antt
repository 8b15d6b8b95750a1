-- `pack::limits::judged` meets its contract: each arm judges by its own code.
-- Assumes nothing.
use Rattle.pack.proofs.Measures.{by_code, none_by_code}
use Rattle.pack.proofs.limits.judged.Goals as goal

pub returns-in-0 : goal.returns-in-0
returns-in-0 c t = by_code _ _ _ _ _ _ c.in-0.is c.judged_each.ensures t

pub returns-in-1 : goal.returns-in-1
returns-in-1 c t = by_code _ _ _ _ _ _ c.in-1.is c.judged_each-in-1.ensures t

pub returns-in-2 : goal.returns-in-2
returns-in-2 c t = by_code _ _ _ _ _ _ c.in-2.is c.judged_each-in-2.ensures t

pub returns-in-3 : goal.returns-in-3
returns-in-3 c t = by_code _ _ _ _ _ _ c.in-3.is c.judged_each-in-3.ensures t

pub returns-in-4 : goal.returns-in-4
returns-in-4 c t = by_code _ _ _ _ _ _ c.in-4.is c.judged_each-in-4.ensures t

pub returns-in-5 : goal.returns-in-5
returns-in-5 c t = by_code _ _ _ _ _ _ c.in-5.is c.judged_each-in-5.ensures t

pub returns-in-6 : goal.returns-in-6
returns-in-6 c t = by_code _ _ _ _ _ _ c.in-6.is c.judged_each-in-6.ensures t

pub returns-in-7 : goal.returns-in-7
returns-in-7 c t = by_code _ _ _ _ _ _ c.in-7.is c.judged_each-in-7.ensures t

pub returns-in-8 : goal.returns-in-8
returns-in-8 c t = by_code _ _ _ _ _ _ c.in-8.is c.judged_each-in-8.ensures t

pub returns-in-9 : goal.returns-in-9
returns-in-9 c t = by_code _ _ _ _ _ _ c.in-9.is c.judged_each-in-9.ensures t

pub returns-in-10 : goal.returns-in-10
returns-in-10 c t = by_code _ _ _ _ _ _ c.in-10.is c.judged_each-in-10.ensures t

pub returns-in-11 : goal.returns-in-11
returns-in-11 c t = by_code _ _ _ _ _ _ c.in-11.is c.judged_each-in-11.ensures t

pub returns-in-12 : goal.returns-in-12
returns-in-12 c t = by_code _ _ _ _ _ _ c.in-12.is c.judged_each-in-12.ensures t

pub returns-in_default : goal.returns-in_default
returns-in_default c t = none_by_code _ _ _ _ t

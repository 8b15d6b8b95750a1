mod WriteReturns
pub mod WriteBases
mod Measures
mod JudgedRuns
mod AlikeLeaves
mod PlanWalks
mod PlanLeaves
mod Anew
mod PlanStores
mod WholeStores
mod WholePlan
mod PlanReturns
mod PlanEach
mod LaidBases
mod Sure
mod SureLeaves

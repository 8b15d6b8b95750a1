-- 01, "What the promises have to say": two outcomes that one promise allows are equal, for the functions of request 13 (02) over
-- their very contracts. The theorem is in proofs/UniquePlans.antt.
use Rattle.promises.specs.Unique.{Answer, Lent}
use Rattle.walk.proofs.plans.plan_of.Reads.{Post as plans-plan-of}
use Rattle.walk.proofs.plans.is_planned.Reads.{Post as plans-is-planned}
use Rattle.walk.proofs.plans.code_in.Reads.{Post as plans-code-in}
use Rattle.walk.proofs.plans.many_in.Reads.{Post as plans-many-in}
use Rattle.walk.proofs.plans.values_in.Reads.{Post as plans-values-in}
use Rattle.walk.proofs.plans.place_in.Reads.{Post as plans-place-in}
use Rattle.plan.proofs.length_in.Reads.{Post as plan-length-in}
use Rattle.plan.proofs.lay.Reads.{Post as plan-lay}
use Rattle.unpack.proofs.read_plan.Reads.{Post as unpack-read-plan}
use Rattle.pack.proofs.write_plan.Reads.{Post as pack-write-plan}
use Rattle.payload.proofs.unpack_parts.Reads.{Post as payload-unpack-parts}
use Rattle.payload.proofs.unpack_plan.Reads.{Post as payload-unpack-plan}
use Rattle.payload.proofs.pack_parts.Reads.{Post as payload-pack-parts}
use Rattle.payload.proofs.pack_plan.Reads.{Post as payload-pack-plan}

-- where a plan stands, and what a run says
pub record RunsUnique : Type 0 where
  pub plan-of : Answer plans-plan-of
  pub is-planned : Answer plans-is-planned
  pub code_in : Answer plans-code-in
  pub many-in : Answer plans-many-in
  pub values-in : Answer plans-values-in
  pub place-in : Answer plans-place-in

-- plans laid out
pub record LaidUnique : Type 0 where
  pub length-in : Answer plan-length-in
  pub lay : Answer plan-lay
  pub lay_plans : Lent plan-lay (λ k e. e.1.1.0.now)

-- payloads by them
pub record ByUnique : Type 0 where
  pub read-plan : Answer unpack-read-plan
  pub read_plan_words : Lent unpack-read-plan (λ k e. e.1.1.1.1.0.now)
  pub write-plan : Answer pack-write-plan
  pub write_plan_out : Lent pack-write-plan (λ k e. e.1.1.1.1.0.now)
  pub unpack-parts : Answer payload-unpack-parts
  pub unpack_parts_words : Lent payload-unpack-parts (λ k e. e.1.1.1.1.1.0.now)
  pub unpack-plan : Answer payload-unpack-plan
  pub unpack_plan_words : Lent payload-unpack-plan (λ k e. e.1.1.1.1.0.now)
  pub pack-parts : Answer payload-pack-parts
  pub pack_parts_out : Lent payload-pack-parts (λ k e. e.1.1.1.1.1.0.now)
  pub pack-plan : Answer payload-pack-plan
  pub pack_plan_out : Lent payload-pack-plan (λ k e. e.1.1.1.1.0.now)

pub record UniquePlans : Type 0 where
  pub runs : RunsUnique
  pub laid : LaidUnique
  pub by : ByUnique

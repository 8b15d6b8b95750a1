-- 02, request 13, over the very contracts: what `plan::lay` leaves, where it answers 0, are plans by which the calls go as the walk; and
-- a call by a plan alone, which asks for no sections, is the one with sections wherever there is a plan. The theorem is in
-- proofs/PlanCalls.antt.
use Rattle.std.specs.Prelude.{ℕ, ◌≡◌, true, length, Ok}
use Rattle.table.specs.declared.Sections.{Sections}
use Rattle.walk.specs.Planned.{is_planned}
use Rattle.plan.proofs.lay.Reads.{Post as plan-lay}
use Rattle.payload.specs.ByPlans.{unpacked_by, words_by, packed_by, bytes_by}
use Rattle.payload.proofs.unpack_plan.Reads.{Post as payload-unpack-plan}
use Rattle.payload.proofs.pack_plan.Reads.{Post as payload-pack-plan}
use Rattle.promises.specs.Plans.{AsTheWalk}

-- whatever a call's promise allows, of what it is handed, its answer and what it leaves, is so
abbrev pub Always : {K : Type 0} {A E : K → Type 0} {B : Type 0}
    → ((k : K) → A k → B → E k → Type 0) → ((k : K) → A k → B → E k → Type 0) → Type 0
Always {K} {A} {E} {B} post so = (k : K) (a : A k) (r : B) (e : E k) → post k a r e → so k a r e

-- Wrong programs that this rules out: plans laid out for other sections, or for one table and never again; a call by a plan alone that
-- asks other leaves of a payload than the one with sections
pub record PlanCalls : Type 0 where
  pub lays : (i : ℕ) → Always plan-lay (λ k a n e. n ≡ Ok tt → AsTheWalk e.1.1.0.now a.0.now a.1.0 i)
  pub unpacks : (s : Sections) → Always payload-unpack-plan (λ k a r e.
      is_planned a.1.0.now a.1.1.0 ≡ true
      → (r ≡ unpacked_by a.1.0.now a.0.now s a.1.1.0 a.1.1.1.0.now (length a.1.1.1.1.0.now))
      × (e.1.1.1.1.0.now ≡ words_by a.1.0.now a.0.now s a.1.1.0 a.1.1.1.0.now a.1.1.1.1.0.now))
  pub packs : (s : Sections) → Always payload-pack-plan (λ k a r e.
      is_planned a.1.0.now a.1.1.0 ≡ true
      → (r ≡ packed_by a.1.0.now a.0.now s a.1.1.0 a.1.1.1.0.now (length a.1.1.1.1.0.now))
      × (e.1.1.1.1.0.now ≡ bytes_by a.1.0.now a.0.now s a.1.1.0 a.1.1.1.0.now a.1.1.1.1.0.now))

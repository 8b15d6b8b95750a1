-- Demand 1, "a refusal changes no channel, room, platform state, sequence number or output byte", for the platform call among partners of
-- both issues (02, request 8), with the list of pending requests and the services' words. Wrong programs that it rules out: 63 with the
-- first pairs noted; a status noted where its replies do not fit; an own number drawn and then 10; a DOWN noted where its sender's services
-- are not there; a refusal that gives back 0. The theorem is in proofs/MixedRefusals.antt.
use Rattle.std.specs.Prelude.{ℕ, ◌≡◌, List, length}
use Rattle.message3.specs.declared.Stamp.{Stamp}
use Rattle.platform.specs.declared.reactions.Standing.{Standing}
use Rattle.mixed.specs.declared.AnyAnswer.TheVariants.{Refused}
use Rattle.mixed.specs.declared.AnyReceived.{AnyReceived}
use Rattle.mixed.specs.Receiving.{number_given}
use Rattle.promises.specs.Checks.{Keeps}
use Rattle.promises.specs.MixedCalls.{TableGiven, answer_on, output_on, list_on, services_on}

-- what is lent or handed, before and after: states and own number, output, list, services
pub record KeptMixed (p : Standing) (out l ws : List ℕ) (r : AnyReceived) (left after words : List ℕ) : Type 0 where
  pub states : Keeps (number_given r.answer) p.states r.standing.states
  pub next : Keeps (number_given r.answer) p.next r.standing.next
  pub output : Keeps (number_given r.answer) out left
  pub list : Keeps (number_given r.answer) l after
  pub services : Keeps (number_given r.answer) ws words

pub record MixedRefusals : Type 0 where
  pub changes_nothing : (g : TableGiven) (own : ℕ) (st : Stamp) (composite : ℕ) (i ours : List ℕ) (p : Standing) (l ws m out : List ℕ) →
      KeptMixed p out l ws (answer_on g own i ours p l ws m (length out)) (output_on g own st composite i ours p ws m out) (list_on g own i l m)
      (services_on g own i ours p ws m (length out))
  -- and 0 is no refusal: so the number tells which it is
  pub never_0 : (g : TableGiven) (own : ℕ) (i ours : List ℕ) (p : Standing) (l ws m : List ℕ) (room n : ℕ) →
      (answer_on g own i ours p l ws m room).answer ≡ Refused n → ¬ (n ≡ 0)

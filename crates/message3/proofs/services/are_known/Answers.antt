-- `message3::services::are_known` meets its contract: `all` asks of each state that it says is there.
-- Assumes nothing.
use mathlib.Core.Path.{◌≡◌, refl, ap, ◌∙◌}
use mathlib.Core.Bool.{true, false}
use native.Mathlib.Omega.{arith}
use borrow.Author.Rules.{rules}
use Rattle.std.proofs.lemmas.Iterator.{cases_from_all, YieldsList-from_range}
use Rattle.wire.specs.All.{all_below}
use Rattle.message3.specs.Platform.{known_state}
use Rattle.message3.proofs.AllAsked.{all-asked}
use Rattle.message3.proofs.services.are_known.Goals as goal

pub returns : goal.returns
returns c =
    let known = known_state c.args.payload.now in
    all-asked known c.number_at.result c.all.result
    (cases_from_all _ _ _ (λ i. known i ≡ true) (λ i. known i ≡ false) c.all.ensures.ran (YieldsList-from_range 0 c.number_at.result
    c.number_at.result refl (omega arith))
    (λ x q k. search rules) (λ x q k. search rules))
    ∙ ap (all_below known) c.number_at.ensures

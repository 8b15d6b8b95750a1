-- `mixed::telling::put_service` meets its contract.
-- Assumes nothing.
use Rattle.mixed.proofs.ToldLaws.{service_put}
use Rattle.mixed.proofs.telling.put_service.Goals as goal

pub returns : goal.returns
returns c =
    search service_put

-- `platform_words::kind_found` meets its contract: by what was found.
-- Assumes nothing.
use Rattle.platform_words.proofs.Asking.{kind-there, no_kind}
use Rattle.platform_words.proofs.sending.kind_found.Goals as goal

pub returns-in-Some : goal.returns-in-Some
returns-in-Some c =
    search kind-there

pub returns-in-None : goal.returns-in-None
returns-in-None c =
    search no_kind

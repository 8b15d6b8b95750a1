-- `mixed_words::on_sections::receive_in` meets its contract: straight from its bytes, or as `mixed` answers it.
-- Assumes nothing.
use Rattle.mixed_words.proofs.OnSections.{told_number, told_words, told-services, told-output, told-heard}
use Rattle.mixed_words.proofs.on_sections.receive_in.Goals as goal

pub returns-in-Some-clause-value : goal.returns-in-Some-clause-value
returns-in-Some-clause-value c =
    search told_number

pub returns-in-Some-clause-platform_after : goal.returns-in-Some-clause-platform_after
returns-in-Some-clause-platform_after c =
    search told_words

pub returns-in-Some-clause-services_after : goal.returns-in-Some-clause-services_after
returns-in-Some-clause-services_after c =
    search told-services

pub returns-in-Some-clause-out_after : goal.returns-in-Some-clause-out_after
returns-in-Some-clause-out_after c =
    search told-output

pub returns-in-Some-clause-heard_after : goal.returns-in-Some-clause-heard_after
returns-in-Some-clause-heard_after c =
    search told-heard

-- 02, request 8: what is known of a partner's service, asked by number.
use Rattle.std.specs.Prelude.{ℕ, cond, List}
use Rattle.services.specs.declared.Availability.{Availability}
use Rattle.services.specs.declared.Availability.TheVariants.{Unheard, Unavailable, Available}
use Rattle.services.specs.Block.{availability_in}
use Rattle.partners.specs.Threes.{is_three}
use Rattle.mixed.specs.Keeping.{block_of}

abbrev pub availability_number : Availability → ℕ
availability_number Unheard = 0
availability_number Unavailable = 1
availability_number Available = 2

-- of a platform that speaks Issue 6, and of one above 255, nothing was heard; a word of its block that is not there counts as 0
abbrev pub service_number : List ℕ → List ℕ → ℕ → ℕ → ℕ
service_number i ws k id = cond (is_three i k) (availability_number (availability_in (block_of i k ws) id)) 0

-- What the call for one message answers, by cases: 01's number, how many reply bytes were written, and what a refusal leaves as it
-- was.
use Rattle.std.specs.Prelude.{ℕ}
use Rattle.platform.specs.declared.Noting.{Noting}
use Rattle.platform.specs.declared.Noting.TheVariants.{Refused, Noted, Response}

-- 0 where nothing is refused
abbrev pub number_given : Noting → ℕ
number_given (Refused n) = n
number_given (Noted h x n) = 0
number_given (Response h i start len) = 0

-- nothing is owed for a response
abbrev pub bytes_in : Noting → ℕ
bytes_in (Refused n) = 0
bytes_in (Noted h x n) = n
bytes_in (Response h i start len) = 0

abbrev pub left_over_by : {A : Type 0} → Noting → A → A → A
left_over_by (Refused n) was new = was
left_over_by (Noted h x n) was new = new
left_over_by (Response h i start len) was new = new

-- What cutting a piece out answers, by cases: 01's number, how many bytes the datagram has, and what a refusal leaves as it was.
use Rattle.std.specs.Prelude.{ℕ}
use Rattle.std.specs.Prelude.{Result, Ok, Err}
use Rattle.refusal.specs.declared.Refusal.{Refusal}
use Rattle.refusal.specs.Refusal.{number_of}

-- 0 where nothing is refused
abbrev pub number_given : Result ℕ Refusal → ℕ
number_given (Err e) = number_of e
number_given (Ok n) = 0

abbrev pub bytes_in : Result ℕ Refusal → ℕ
bytes_in (Err n) = 0
bytes_in (Ok n) = n

abbrev pub left_over_by : {A : Type 0} → Result ℕ Refusal → A → A → A
left_over_by (Err n) was new = was
left_over_by (Ok n) was new = new

-- What is answered of table bytes, by cases: 01's number, 0 where they are a table.
use Rattle.std.specs.Prelude.{ℕ}
use Rattle.std.specs.Prelude.{Result, Ok, Err}
use Rattle.refusal.specs.declared.Refusal.{Refusal}
use Rattle.table.specs.declared.Sections.{Sections}
use Rattle.refusal.specs.Refusal.{number_of}

abbrev pub number_given : Result Sections Refusal → ℕ
number_given (Err e) = number_of e
number_given (Ok s) = 0

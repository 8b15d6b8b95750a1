-- What counting and cutting pieces give back: 01's number, and the pieces or the bytes of the datagram; at a refusal what the
-- caller lent for it stays as it was.
use Rattle.std.specs.Prelude.{ℕ, List, length}
use Rattle.std.specs.Prelude.{Result}
use Rattle.refusal.specs.declared.Refusal.{Refusal}
use Rattle.binding.specs.Cutting.{counted_of, made_of}
use Rattle.binding.specs.Counted as counted
use Rattle.binding.specs.Made as made

abbrev pub count_left : ℕ → Result ℕ Refusal → ℕ
count_left was x = counted.left_over_by x was (counted.pieces_in x)

abbrev pub pieces_number : ℕ → ℕ → ℕ
pieces_number m s = counted.number_given (counted_of m s)

abbrev pub pieces_given : ℕ → ℕ → ℕ → ℕ
pieces_given m s was = count_left was (counted_of m s)

abbrev pub made_left : ℕ → Result ℕ Refusal → ℕ
made_left was x = made.left_over_by x was (made.bytes_in x)

-- for an output, which is `cut_into` afterwards
abbrev pub cut_number : List ℕ → ℕ → ℕ → ℕ → ℕ → List ℕ → ℕ
cut_number msg s sender first i out = made.number_given (made_of msg s sender first i (length out))

abbrev pub cut_given : List ℕ → ℕ → ℕ → ℕ → ℕ → List ℕ → ℕ → ℕ
cut_given msg s sender first i out was = made_left was (made_of msg s sender first i (length out))

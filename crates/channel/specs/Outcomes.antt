-- What an outcome gives back, by cases: 01's number, and 01, Joining: its kind and name, missed, the bytes held or delivered (else
-- 0), and where a delivered message lies. A recording's lines and the words of an answer cite these.
use Rattle.std.specs.Prelude.{ℕ, List, [], ◌∷◌}
use Rattle.std.specs.Prelude.{Result, Ok, Err}
use Rattle.refusal.specs.declared.Refusal.{Refusal}
use Rattle.channel.specs.declared.Slice.{Slice}
use Rattle.channel.specs.declared.Slice.TheVariants.{Datagram, Rooms}
use Rattle.channel.specs.declared.Outcome.{Outcome}
use Rattle.channel.specs.declared.Outcome.TheVariants.{Repeated, Delivered, Held, Stray, TooLong}
use Rattle.refusal.specs.Refusal.{number_of}

-- the number of a refusal, 0 where nothing is refused
abbrev pub number_given : Result Outcome Refusal → ℕ
number_given (Err e) = number_of e
number_given (Ok Repeated) = 0
number_given (Ok (Delivered m p)) = 0
number_given (Ok (Held m n)) = 0
number_given (Ok (Stray m)) = 0
number_given (Ok (TooLong m)) = 0

-- what a refusal leaves as it was
abbrev pub left_over_by : {A : Type 0} → Result Outcome Refusal → A → A → A
left_over_by (Err n) was new = was
left_over_by (Ok Repeated) was new = new
left_over_by (Ok (Delivered m p)) was new = new
left_over_by (Ok (Held m n)) was new = new
left_over_by (Ok (Stray m)) was new = new
left_over_by (Ok (TooLong m)) was new = new

-- the outcome as a number; a refusal is none
abbrev pub kind_in : Result Outcome Refusal → ℕ
kind_in (Err n) = 0
kind_in (Ok Repeated) = 1
kind_in (Ok (Delivered m p)) = 2
kind_in (Ok (Held m n)) = 3
kind_in (Ok (Stray m)) = 4
kind_in (Ok (TooLong m)) = 5

-- refused, repeated, delivered, held, stray, too long, in ASCII
abbrev pub name_of : Result Outcome Refusal → List ℕ
name_of (Err n) = 114 ∷ 101 ∷ 102 ∷ 117 ∷ 115 ∷ 101 ∷ 100 ∷ []
name_of (Ok Repeated) = 114 ∷ 101 ∷ 112 ∷ 101 ∷ 97 ∷ 116 ∷ 101 ∷ 100 ∷ []
name_of (Ok (Delivered m p)) = 100 ∷ 101 ∷ 108 ∷ 105 ∷ 118 ∷ 101 ∷ 114 ∷ 101 ∷ 100 ∷ []
name_of (Ok (Held m n)) = 104 ∷ 101 ∷ 108 ∷ 100 ∷ []
name_of (Ok (Stray m)) = 115 ∷ 116 ∷ 114 ∷ 97 ∷ 121 ∷ []
name_of (Ok (TooLong m)) = 116 ∷ 111 ∷ 111 ∷ 32 ∷ 108 ∷ 111 ∷ 110 ∷ 103 ∷ []

-- every outcome carries missed, which is 0 for a repeated datagram; a refusal yields nothing but its number
abbrev pub missed_in : Result Outcome Refusal → ℕ
missed_in (Err n) = 0
missed_in (Ok Repeated) = 0
missed_in (Ok (Delivered m p)) = m
missed_in (Ok (Held m n)) = m
missed_in (Ok (Stray m)) = m
missed_in (Ok (TooLong m)) = m

-- of the slice that holds a delivered message: which it is, 1 the datagram it came in and 2 the rooms, and its part that is the message
abbrev pub which_slice : Slice → ℕ
which_slice (Datagram p n) = 1
which_slice (Rooms p n) = 2

abbrev pub start_of : Slice → ℕ
start_of (Datagram p n) = p
start_of (Rooms p n) = p

abbrev pub length_of : Slice → ℕ
length_of (Datagram p n) = n
length_of (Rooms p n) = n

-- the bytes held or delivered, else 0: `held` counts the whole length held
abbrev pub bytes_in : Result Outcome Refusal → ℕ
bytes_in (Err n) = 0
bytes_in (Ok Repeated) = 0
bytes_in (Ok (Delivered m p)) = length_of p
bytes_in (Ok (Held m n)) = n
bytes_in (Ok (Stray m)) = 0
bytes_in (Ok (TooLong m)) = 0

-- which slice holds the message and from which byte on, 0 where none is delivered
abbrev pub slice_in : Result Outcome Refusal → ℕ
slice_in (Err n) = 0
slice_in (Ok Repeated) = 0
slice_in (Ok (Delivered m p)) = which_slice p
slice_in (Ok (Held m n)) = 0
slice_in (Ok (Stray m)) = 0
slice_in (Ok (TooLong m)) = 0

abbrev pub start_in : Result Outcome Refusal → ℕ
start_in (Err n) = 0
start_in (Ok Repeated) = 0
start_in (Ok (Delivered m p)) = start_of p
start_in (Ok (Held m n)) = 0
start_in (Ok (Stray m)) = 0
start_in (Ok (TooLong m)) = 0

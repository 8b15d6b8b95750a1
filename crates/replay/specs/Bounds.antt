-- What the program's own functions hand to one another: bounds, so that every part of a buffer lies in it.
use Rattle.std.specs.Prelude.{ℕ, ◌≤◌, ◌≡◌, Option, Some, Result, Ok}
use Rattle.recording.specs.declared.start.Opened.{Opened}
use Rattle.refusal.specs.declared.Refusal.{Refusal}

abbrev pub input_length : ℕ
input_length = 262144

abbrev pub rooms_length : ℕ
rooms_length = 65536

-- a recording that is open has rooms that fit those of the program
abbrev pub RoomsFit : Result (Option Opened) Refusal → Type 0
RoomsFit r = (o : Opened) → r ≡ Ok (Some o) → o.rooms ≤ rooms_length

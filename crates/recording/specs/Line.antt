-- The lines of a recording, byte by byte. 01, What is built: the datagram's number from 0, then `refused` and the number,
-- or the outcome's name, missed, and the bytes held or delivered (else 0).
use Rattle.std.specs.Prelude.{ℕ, List, [], ◌∷◌, ◌++◌}
use Rattle.std.specs.Prelude.{Result, Ok, Err}
use Rattle.refusal.specs.Refusal.{number_of}
use Rattle.refusal.specs.declared.Refusal.{Refusal}
use Rattle.channel.specs.Outcomes.{name_of, missed_in, bytes_in}
use Rattle.channel.specs.declared.Outcome.{Outcome}
use Rattle.channel.specs.declared.Outcome.TheVariants.{Repeated, Delivered, Held, Stray, TooLong}
use Rattle.recording.specs.Decimal.{decimal}
use Rattle.recording.specs.Places.{spaced}
use Rattle.recording.specs.declared.lines.Ending.{Ending}
use Rattle.recording.specs.declared.lines.Ending.TheVariants.{Whole, CutShort, RefusedSetup}

-- every line ends in one LF
abbrev pub line_feed : List ℕ
line_feed = 10 ∷ []

-- no line is longer: three numbers of up to 20 digits, a name of up to 9 letters, three spaces and the LF
abbrev pub line_limit : ℕ
line_limit = 73

-- missed and bytes
abbrev pub counts_of : ℕ → ℕ → List ℕ
counts_of m b = spaced (decimal m) ++ (spaced (decimal b) ++ line_feed)

-- what stands behind the name
abbrev pub values_of : Result Outcome Refusal → List ℕ
values_of (Err e) = spaced (decimal (number_of e)) ++ line_feed
values_of (Ok Repeated) = counts_of (missed_in (Ok Repeated)) (bytes_in (Ok Repeated))
values_of (Ok (Delivered m p)) = counts_of (missed_in (Ok (Delivered m p))) (bytes_in (Ok (Delivered m p)))
values_of (Ok (Held m n)) = counts_of (missed_in (Ok (Held m n))) (bytes_in (Ok (Held m n)))
values_of (Ok (Stray m)) = counts_of (missed_in (Ok (Stray m))) (bytes_in (Ok (Stray m)))
values_of (Ok (TooLong m)) = counts_of (missed_in (Ok (TooLong m))) (bytes_in (Ok (TooLong m)))

-- the line of the datagram with this number, from 0
unfoldable pub line_of : ℕ → Result Outcome Refusal → List ℕ
line_of n o = decimal n ++ (spaced (name_of o) ++ values_of o)

-- `cut short`
abbrev pub cut_short : List ℕ
cut_short = 99 ∷ 117 ∷ 116 ∷ 32 ∷ 115 ∷ 104 ∷ 111 ∷ 114 ∷ 116 ∷ line_feed

-- `setup refused`
abbrev pub setup_refused : List ℕ
setup_refused = 115 ∷ 101 ∷ 116 ∷ 117 ∷ 112 ∷ 32 ∷ 114 ∷ 101 ∷ 102 ∷ 117 ∷ 115 ∷ 101 ∷ 100 ∷ []

abbrev pub refused_line : ℕ → List ℕ
refused_line k = setup_refused ++ (spaced (decimal k) ++ line_feed)

-- the line that a run ends with, if any
abbrev pub ending_of : Ending → List ℕ
ending_of Whole = []
ending_of CutShort = cut_short
ending_of (RefusedSetup k) = refused_line k

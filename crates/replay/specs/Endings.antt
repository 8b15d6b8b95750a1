-- How a replay may end. 01, What is built: a set-up is refused with 20, and with no other number.
use Prim.{Unit}
use Rattle.std.specs.Prelude.{◌≤◌, ◌≡◌, Option, Result, Err}
use Rattle.refusal.specs.Refusal.{number_of}
use Rattle.refusal.specs.declared.Refusal.{Refusal}
use Rattle.recording.specs.declared.lines.Ending.{Ending}
use Rattle.recording.specs.declared.lines.Ending.TheVariants.{Whole, CutShort, RefusedSetup}
use Rattle.recording.specs.declared.start.Opened.{Opened}
use Rattle.replay.specs.Bounds.{input_length}
use Rattle.replay.specs.declared.player.Next.{Next}
use Rattle.replay.specs.declared.player.Next.TheVariants.{Write, Filled, End, Failed}
use Rattle.replay.specs.declared.player.Replayed.{Replayed}
use Rattle.replay.specs.declared.player.Replayed.TheVariants.{Told, Unreadable, Unwritable}

abbrev pub Says20 : Ending → Type 0
Says20 Whole = Unit {0}
Says20 CutShort = Unit {0}
Says20 (RefusedSetup k) = k ≡ 20

abbrev pub Refuses20 : Replayed → Type 0
Refuses20 (Told e) = Says20 e
Refuses20 Unreadable = Unit {0}
Refuses20 Unwritable = Unit {0}

abbrev pub RefusalIs20 : Result (Option Opened) Refusal → Type 0
RefusalIs20 o = (e : Refusal) → o ≡ Err e → number_of e ≡ 20

-- what is filled lies in the input
abbrev pub NextWithin : Next → Type 0
NextWithin Write = Unit {0}
NextWithin (Filled n) = n ≤ input_length
NextWithin (End e) = Says20 e
NextWithin (Failed e) = Unit {0}

-- The lines of a recording as a whole, and a run that takes it in blocks: it plays what has come, writes its lines and reads
-- on, in any order.
use Rattle.std.specs.Prelude.{ℕ, zero, suc, ◌+◌, ◌-◌, List, [], ◌∷◌, ◌++◌, length, take, drop, ◌≢◌}
use Rattle.wire.specs.Bytes.{part}
use Rattle.joiner.specs.declared.Joiner.{Joiner}
use Rattle.joiner.specs.Take.{taken_of, rooms_after}
use Rattle.recording.specs.Line.{line_of}
use Rattle.recording.specs.Datagrams.{next_in}
use Rattle.recording.specs.Play.{State, state_of, following, played}
use Rattle.recording.specs.declared.Coming.{Coming}
use Rattle.recording.specs.declared.Coming.TheVariants.{Datagram, Unfinished, Nothing}

-- what follows a datagram that is all there; else nothing does
unfoldable pub behind_it : (ℕ → ℕ → List ℕ) → Coming → List ℕ
behind_it on (Datagram p n) = on p n
behind_it on Unfinished = []
behind_it on Nothing = []

-- the lines of the datagrams that stand in s from p on: the first has this number, and the joiner and its rooms are handed
-- from one to the next. k is how many may follow
unfoldable pub lines_for : ℕ → List ℕ → Joiner → List ℕ → ℕ → ℕ → List ℕ
lines_for zero s j rooms number p = []
lines_for (suc k) s j rooms number p =
    behind_it
    (λ (q n : ℕ). line_of number (taken_of j rooms (part s q n)).outcome
    ++ lines_for k s (taken_of j rooms (part s q n)).joiner (rooms_after j rooms (part s q n)) (following number) (q + n))
    (next_in s p)

-- all lines that are still to come in a run over s
unfoldable pub lines_from : List ℕ → State → List ℕ
lines_from s st = lines_for (length s - st.run.at) s st.run.joiner st.rooms st.run.number st.run.at

-- the lines that wait in the output
abbrev pub told : State → List ℕ
told st = take st.run.made st.output

-- the run once they are written
abbrev pub emptied : State → State
emptied st = state_of (record { joiner = st.run.joiner; number = st.run.number; at = st.run.at; made = 0 }) st.rooms st.output

-- and once what was not played yet was moved to the front
abbrev pub at_front : State → State
at_front st = state_of (record { joiner = st.run.joiner; number = st.run.number; at = 0; made = st.run.made }) st.rooms st.output

pub data Deed : Type 0 where
  plays : Deed
  writes : Deed
  reads : List ℕ → Deed

-- all that is read
abbrev pub come : List Deed → List ℕ
come [] = []
come (plays ∷ ds) = come ds
come (writes ∷ ds) = come ds
come (reads more ∷ ds) = more ++ come ds

-- all that is written, with s in the input
abbrev pub ran : List Deed → List ℕ → State → List ℕ
ran [] s st = told st
ran (plays ∷ ds) s st = ran ds s (played s st)
ran (writes ∷ ds) s st = told st ++ ran ds s (emptied st)
ran (reads more ∷ ds) s st = ran ds (drop st.run.at s ++ more) (at_front st)

-- nothing whole is left at the end
abbrev pub Over : List Deed → List ℕ → State → Type 0
Over [] s st = (p n : ℕ) → next_in s st.run.at ≢ Datagram p n
Over (plays ∷ ds) s st = Over ds s (played s st)
Over (writes ∷ ds) s st = Over ds s (emptied st)
Over (reads more ∷ ds) s st = Over ds (drop st.run.at s ++ more) (at_front st)

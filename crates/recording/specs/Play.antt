-- Playing: the whole datagrams of an input, taken one after the other, each with its line put into an output.
use Rattle.std.specs.Prelude.{ℕ, zero, suc, ◌+◌, ◌-◌, ◌%◌, ◌^◌, Bool, cond, List, length, nat_le}
use Rattle.wire.specs.Bytes.{written, part}
use Rattle.joiner.specs.Take.{taken_of, rooms_after}
use Rattle.recording.specs.Places.{behind}
use Rattle.recording.specs.Line.{line_limit, line_of}
use Rattle.recording.specs.Datagrams.{next_in}
use Rattle.recording.specs.declared.Run.{Run}
use Rattle.recording.specs.declared.Coming.{Coming}
use Rattle.recording.specs.declared.Coming.TheVariants.{Datagram, Unfinished, Nothing}

-- a run with what is lent to it
pub record State : Type 0 where
  pub run : Run
  pub rooms : List ℕ
  pub output : List ℕ

-- numbers are counted in 64 bits
abbrev pub following : ℕ → ℕ
following n = (n + 1) % 2 ^ 64

abbrev pub state_of : Run → List ℕ → List ℕ → State
state_of r rooms output = record { run = r; rooms = rooms; output = output }

-- one datagram d, which ends at e: taken, and its line put behind those before it
unfoldable pub stepped_of : State → List ℕ → ℕ → State
stepped_of st d e =
    let r = st.run in
    let t = taken_of r.joiner st.rooms d in
    let line = line_of r.number t.outcome in
    state_of
    (record { joiner = t.joiner; number = following r.number; at = e; made = behind (length st.output) r.made line })
    (rooms_after r.joiner st.rooms d)
    (written st.output r.made line)

-- whether the output has room for any line
abbrev pub has_room : State → Bool
has_room st = nat_le (st.run.made + line_limit) (length st.output)

-- the run goes on, in the way `on` says, where a whole datagram is next and there is room for its line
unfoldable pub going_on : List ℕ → State → (State → State) → Coming → State
going_on input st on (Datagram p n) = cond (has_room st) (on (stepped_of st (part input p n) (p + n))) st
going_on input st on Unfinished = st
going_on input st on Nothing = st

-- k is how many datagrams may follow
unfoldable pub played_for : ℕ → List ℕ → State → State
played_for zero input st = st
played_for (suc k) input st = going_on input st (λ (t : State). played_for k input t) (next_in input st.run.at)

-- each datagram takes two bytes or more, so that no more of them follow than there are bytes
unfoldable pub played : List ℕ → State → State
played input st = played_for (length input - st.run.at) input st

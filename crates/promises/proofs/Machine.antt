-- One channel as a machine over the bytes that it holds: what 01's steps 1 to 5 come to where record and room are one value.
-- Assumes nothing.
use Prim.Native.Nat.{ℕ, ◌+◌, ◌-◌, ◌%◌}
use mathlib.Core.Bool.{Bool, true, cond, ◌&&◌}
use mathlib.Core.List.{List, [], ◌∷◌, ◌++◌}
use lib.Dec.{leb, eqb}
use lib.ListN.{length}
use Rattle.binding.specs.declared.MessagePart.{MessagePart}
use Rattle.binding.specs.declared.MessagePart.TheVariants.{Begin, Middle, End, Whole}
use Rattle.binding.specs.Header.{counters}

-- whether a counter was seen, the last counter, and the bytes held
pub record Memory : Type 0 where
  pub seen : Bool
  pub last : ℕ
  pub held : List ℕ

-- a channel and the messages that it delivered on the way there
pub record Passage : Type 0 where
  pub channel : Memory
  pub delivered : List (List ℕ)

abbrev pub at : ℕ → List ℕ → List (List ℕ) → Passage
at c held delivered = record { channel = record { seen = true; last = c; held = held }; delivered = delivered }

abbrev pub missed : Memory → ℕ → ℕ
missed v c = cond v.seen ((c + counters - (v.last + 1)) % counters) 0

abbrev pub kept : Memory → ℕ → List ℕ
kept v c = cond (eqb (missed v c) 0) v.held []

abbrev pub begun : ℕ → ℕ → List ℕ → Passage
begun R c q = cond (leb (length q) R) (at c q []) (at c [] [])

-- step 5, with h held
abbrev pub followed : ℕ → ℕ → List ℕ → List ℕ → Passage → Passage
followed R c h q joined = cond (eqb (length h) 0) (at c [] []) (cond (leb (length h + length q) R) joined (at c [] []))

abbrev pub placed : ℕ → MessagePart → ℕ → List ℕ → List ℕ → Passage
placed R Whole c h q = at c [] (q ∷ [])
placed R Begin c h q = begun R c q
placed R Middle c h q = followed R c h q (at c (h ++ q) [])
placed R End c h q = followed R c h q (at c [] ((h ++ q) ∷ []))

abbrev pub repeats : Memory → ℕ → Bool
repeats v c = v.seen && eqb c v.last

abbrev pub moved : ℕ → Memory → MessagePart → ℕ → List ℕ → Passage
moved R v p c q = cond (repeats v c) (record { channel = v; delivered = [] }) (placed R p c (kept v c) q)

-- a datagram of the channel, as its header and piece say
pub record Event : Type 0 where
  pub mark : MessagePart
  pub counter : ℕ
  pub bytes : List ℕ

abbrev pub move : ℕ → Memory → Event → Passage
move R v e = moved R v e.mark e.counter e.bytes

-- what a run of datagrams delivers, and the channel after it
abbrev pub deliveries : ℕ → Memory → List Event → List (List ℕ)
deliveries R v [] = []
deliveries R v (e ∷ es) = (move R v e).delivered ++ deliveries R (move R v e).channel es

abbrev pub standing : ℕ → Memory → List Event → Memory
standing R v [] = v
standing R v (e ∷ es) = standing R (move R v e).channel es

-- Small traffics for wrong joiners: of one channel, and of two whose pieces come in turn. What the user grants of them is computed.
-- Assumes nothing.
use Prim.Native.Nat.{ℕ, zero, suc, ◌+◌, ◌-◌, ◌<◌}
use mathlib.Core.Path.{◌≡◌, refl}
use mathlib.Core.Bool.{Bool, true, false, ◌&&◌}
use mathlib.Core.List.{List, [], ◌∷◌}
use native.Mathlib.Omega.{arith}
use borrow.Author.Tests.{ltb-true}
use lib.Dec.{ltb}
use lib.ListN.{length, get_or}
use Rattle.wire.proofs.Cond.{both}
use Rattle.wire.specs.Bytes.{Octets}
use Rattle.binding.specs.Header.{counters}
use Rattle.joiner.specs.Setup.{good_sizes, good, fresh_of, setup_of}
use Rattle.promises.specs.Cases.{sender, ids, room}
use Rattle.promises.specs.Senders.{Piece, Message, Sender, Genuine, sent_by, arrives, losses_within, good_messages, complete_of}
use Rattle.promises.specs.Traffic.{Datagram, of_channel, Joining, delivered_by, AreBytes, none, more}
use Rattle.promises.specs.Demand3.{Granted, Demand3For}

-- bytes, by a test
abbrev pub octets : List ℕ → Bool
octets [] = true
octets (x ∷ xs) = ltb x 256 && octets xs

abbrev pub all_octets : List Datagram → Bool
all_octets [] = true
all_octets (d ∷ ds) = octets d && all_octets ds

pub octets_are : (d : List ℕ) → octets d ≡ true → Octets d
octets_are [] e i = omega arith
octets_are (x ∷ xs) e zero = ltb-true x 256 (both (ltb x 256) (octets xs) e).0
octets_are (x ∷ xs) e (suc i) = octets_are xs (both (ltb x 256) (octets xs) e).1 i

all_are : (ds : List Datagram) → all_octets ds ≡ true → AreBytes ds
all_are [] e = none
all_are (d ∷ ds) e = let b = both (octets d) (all_octets ds) e in more (octets_are d b.0) (all_are ds b.1)

-- one channel, a room of 24 bytes: what the user grants of its sender, as tests
pub record Small (s : Sender) : Type 0 where
  pub counter : ltb s.first counters ≡ true
  pub messages : good_messages 24 s.messages ≡ true
  pub losses : losses_within false 0 (sent_by s.messages) ≡ true
  pub bytes : all_octets (arrives sender s) ≡ true
  pub own : of_channel ids 0 (arrives sender s) ≡ arrives sender s

pub granted : (s : Sender) → Small s → Granted ids 24 (room 24) (λ k. s) (arrives sender s)
unfolding good_sizes good fresh_of setup_of
granted s w =
    record {
      set_up = refl;
      genuine = λ k h. record { counter = ltb-true s.first counters w.counter; messages = w.messages; losses = w.losses };
      mixed = mixed;
      bytes = all_are (arrives sender s) w.bytes;
    }
  where
    mixed : (k : ℕ) → k < length ids → of_channel ids k (arrives sender s) ≡ arrives (get_or ids k 0) s
    mixed zero h = w.own
    mixed (suc k) h = absurd (omega (arith, h))

-- what a joiner delivers of its traffic
abbrev pub delivered_of : Joining → Sender → List (List ℕ)
delivered_of J s = delivered_by J ids 0 (J.start ids 24 (room 24)) (room 24) (arrives sender s)

-- how many bytes
abbrev pub total : List (List ℕ) → ℕ
total [] = 0
total (m ∷ ms) = length m + total ms

pub kept : (J : Joining) (s : Sender) → Small s → Demand3For J → delivered_of J s ≡ complete_of s.messages
kept J s w d = d ids 24 (room 24) (λ k. s) (arrives sender s) (granted s w) 0 (omega arith)

-- pieces: one byte that arrives once, that is lost, that arrives twice
abbrev pub one : ℕ → Piece
one x = record { bytes = x ∷ []; copies = 1 }

abbrev pub lost : ℕ → Piece
lost x = record { bytes = x ∷ []; copies = 0 }

abbrev pub twice : ℕ → Piece
twice x = record { bytes = x ∷ []; copies = 2 }

abbrev pub from : ℕ → List Message → Sender
from c ms = record { first = c; messages = ms }

-- a message in two pieces, where the counter wraps
abbrev pub wraps : Sender
wraps = from (counters - 1) ((one 0xAA ∷ one 0xBB ∷ []) ∷ [])

pub small_wraps : Small wraps
small_wraps = record { counter = refl; messages = refl; losses = refl; bytes = refl; own = refl }

-- two whole messages
abbrev pub two : Sender
two = from 7 ((one 0xAA ∷ []) ∷ (one 0xBB ∷ []) ∷ [])

pub small_two : Small two
small_two = record { counter = refl; messages = refl; losses = refl; bytes = refl; own = refl }

-- two channels, whose pieces come in turn
abbrev pub both_ids : List ℕ
both_ids = 0x102 ∷ 0x103 ∷ []

abbrev pub senders : ℕ → Sender
senders zero = from 7 ((one 0xAA ∷ one 0xBB ∷ []) ∷ [])
senders (suc k) = from 7 ((one 0xCC ∷ one 0xDD ∷ []) ∷ [])

abbrev pub in_turn : List Datagram → List Datagram → List Datagram
in_turn [] es = es
in_turn (d ∷ ds) [] = d ∷ ds
in_turn (d ∷ ds) (e ∷ es) = d ∷ e ∷ in_turn ds es

abbrev pub mix : List Datagram
mix = in_turn (arrives 0x102 (senders 0)) (arrives 0x103 (senders 1))

pub granted_mix : Granted both_ids 24 (room 48) senders mix
unfolding good_sizes good fresh_of setup_of
granted_mix = record { set_up = refl; genuine = genuine; mixed = mixed; bytes = all_are mix refl }
  where
    genuine : (k : ℕ) → k < 2 → Genuine 24 (senders k)
    genuine zero h = record { counter = omega arith; messages = refl; losses = refl }
    genuine (suc k) h = record { counter = omega arith; messages = refl; losses = refl }

    mixed : (k : ℕ) → k < 2 → of_channel both_ids k mix ≡ arrives (get_or both_ids k 0) (senders k)
    mixed zero h = refl
    mixed (suc zero) h = refl
    mixed (suc (suc k)) h = absurd (omega (arith, h))

-- the first byte of the first message
abbrev pub first_byte : List (List ℕ) → ℕ
first_byte ms = get_or (get_or ms 0 []) 0 0

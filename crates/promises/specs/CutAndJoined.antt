-- Demand 2: a message that is cut at any piece size and taken from fresh in order is delivered once, whole.
use Rattle.std.specs.Prelude.{ℕ, zero, suc, ◌≤◌, ◌<◌, ◌≡◌, List, [], ◌∷◌, ◌⊎◌, length, get_or, IsOk}
use Rattle.wire.specs.Bytes.{Octets}
use Rattle.binding.specs.Cutting.{piece_count, datagram_of}
use Rattle.joiner.specs.Setup.{setup_of}
use Rattle.promises.specs.Traffic.{Datagram, delivered_on}
use Rattle.promises.specs.Traffic.{fresh}

-- the datagrams of n pieces from piece i on
abbrev pub datagrams_from : List ℕ → ℕ → ℕ → ℕ → ℕ → ℕ → List Datagram
datagrams_from msg s sender first i zero = []
datagrams_from msg s sender first i (suc n) = datagram_of msg s sender first i ∷ datagrams_from msg s sender first (suc i) n

-- a message cut up: the datagrams that `cut` writes, in their order
abbrev pub cut_up : List ℕ → ℕ → ℕ → ℕ → List Datagram
cut_up msg s sender first = datagrams_from msg s sender first 0 (piece_count (length msg) s)

pub record Cut (ids : List ℕ) (R : ℕ) (rooms : List ℕ) (k : ℕ) (msg : List ℕ) (s first : ℕ) : Type 0 where
  pub set_up : IsOk (setup_of ids R (length rooms))
  pub known : k < length ids
  -- what `cut` takes: a message of 1 to 65,560 bytes, a piece size of 1 to 65,503, a counter below M
  pub some : 1 ≤ length msg
  pub most : length msg ≤ 65560
  pub size : 1 ≤ s
  pub piece : s ≤ 65503
  pub counter : first < 65536
  -- one piece, or a message that its room can hold
  pub room : (length msg ≤ s) ⊎ (length msg ≤ R)
  pub bytes : Octets msg

abbrev pub CutAndJoined : Type 0
CutAndJoined =
    (ids : List ℕ) (R : ℕ) (rooms : List ℕ) (k : ℕ) (msg : List ℕ) (s first : ℕ) → Cut ids R rooms k msg s first
    → delivered_on ids k (fresh ids R rooms) rooms (cut_up msg s (get_or ids k 0) first) ≡ msg ∷ []

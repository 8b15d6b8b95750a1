-- Demand 3: "each channel delivers exactly those of its messages whose every piece arrived, in order, once each, and the mix makes
-- no difference". The theorems are in proofs/Demand3.antt.
use Rattle.std.specs.Prelude.{ℕ, ◌<◌, ◌≡◌, List, length, get_or, IsOk}
use Rattle.joiner.specs.Setup.{setup_of}
use Rattle.promises.specs.Senders.{Sender, Genuine, arrives, complete_of}
use Rattle.promises.specs.Traffic.{Datagram, of_channel, Joining, delivered_by, fresh, our_joining, delivered_on, outcomes_on, left_on, AreBytes}

-- what the user grants
pub record Granted (ids : List ℕ) (R : ℕ) (rooms : List ℕ) (sender : ℕ → Sender) (traffic : List Datagram) : Type 0 where
  -- "each sender that was set up": the set-up was accepted; the rooms hold any bytes
  pub set_up : IsOk (setup_of ids R (length rooms))
  -- "number its datagrams in turn ... cut its messages ... lose ... never more than M-2 ... no message cut in two or more is longer
  -- than its room": each channel has a genuine sender, which may start at any counter
  pub genuine : (k : ℕ) → k < length ids → Genuine R (sender k)
  -- "may mix the channels in any way that keeps each one's own order; and may add datagrams that are refused": the datagrams of
  -- channel k in the traffic are just those of its sender that arrive; whatever else is in it is foreign
  pub mixed : (k : ℕ) → k < length ids → of_channel ids k traffic ≡ arrives (get_or ids k 0) (sender k)
  -- a datagram is a string of bytes
  pub bytes : AreBytes traffic

-- "Then each channel delivers exactly those of its messages whose every piece arrived, in order, once each"
abbrev pub Demand3For : Joining → Type 0
Demand3For J =
    (ids : List ℕ) (R : ℕ) (rooms : List ℕ) (sender : ℕ → Sender) (traffic : List Datagram) → Granted ids R rooms sender traffic
    → (k : ℕ) → k < length ids → delivered_by J ids k (J.start ids R rooms) rooms traffic ≡ complete_of (sender k).messages

abbrev pub Demand3 : Type 0
Demand3 = Demand3For our_joining

-- two traffics with the same datagrams of channel k in the same order, genuine or not, and any bytes in the rooms at the start
pub record Alike (ids : List ℕ) (R : ℕ) (rooms rooms' : List ℕ) (k : ℕ) (one other : List Datagram) : Type 0 where
  pub set_up : IsOk (setup_of ids R (length rooms))
  pub as_long : length rooms' ≡ length rooms
  pub known : k < length ids
  pub same : of_channel ids k one ≡ of_channel ids k other
  pub bytes : AreBytes one
  pub bytes' : AreBytes other

-- "and the mix makes no difference": outcomes, deliveries, record and held bytes of channel k are the same
pub record Same (ids : List ℕ) (R : ℕ) (rooms rooms' : List ℕ) (k : ℕ) (one other : List Datagram) : Type 0 where
  pub delivered : delivered_on ids k (fresh ids R rooms) rooms one ≡ delivered_on ids k (fresh ids R rooms') rooms' other
  pub outcomes : outcomes_on ids k (fresh ids R rooms) rooms one ≡ outcomes_on ids k (fresh ids R rooms') rooms' other
  pub left : left_on k (fresh ids R rooms) rooms one ≡ left_on k (fresh ids R rooms') rooms' other

abbrev pub MixMakesNoDifference : Type 0
MixMakesNoDifference =
    (ids : List ℕ) (R : ℕ) (rooms rooms' : List ℕ) (k : ℕ) (one other : List Datagram) → Alike ids R rooms rooms' k one other
    → Same ids R rooms rooms' k one other

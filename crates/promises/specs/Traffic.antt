-- Demand 3: a traffic, the datagrams of one channel in it, and what is delivered on that channel while it is taken.
use Rattle.std.specs.Prelude.{ℕ, Bool, cond, ◌&&◌, List, [], ◌∷◌, ◌++◌, leb, ltb, eqb, length, get_or}
use Rattle.std.specs.Prelude.{Result, Ok, Err}
use Rattle.refusal.specs.declared.Refusal.{Refusal}
use Rattle.wire.specs.Bytes.{Octets}
use Rattle.binding.specs.Header.{version_in, sender_in}
use Rattle.channel.specs.declared.Outcome.{Outcome}
use Rattle.channel.specs.declared.Outcome.TheVariants.{Repeated, Delivered, Held, Stray, TooLong}
use Rattle.joiner.specs.declared.Joiner.{Joiner}
use Rattle.joiner.specs.Setup.{fresh_of, setup_of}
use Rattle.joiner.specs.Take.{taken_of, rooms_after, message_of}
use Rattle.joiner.specs.View.{View, view_of}

-- a datagram is a string of bytes
abbrev pub Datagram : Type 0
Datagram = List ℕ

-- channel k's own: of 5 to 65,507 bytes, of Table 9's version, 0, and with the sender ID that channel k was set up with.
-- A datagram that is no channel's is foreign, and `take` refuses exactly those
abbrev pub is_of : List ℕ → ℕ → Datagram → Bool
is_of ids k d =
    (leb 5 (length d) && leb (length d) 65507)
    && (eqb (version_in d) 0 && (ltb k (length ids) && eqb (get_or ids k 0) (sender_in d)))

-- the datagrams of channel k in a traffic, in their order
abbrev pub of_channel : List ℕ → ℕ → List Datagram → List Datagram
of_channel ids k [] = []
of_channel ids k (d ∷ ds) = cond (is_of ids k d) (d ∷ []) [] ++ of_channel ids k ds

-- what `message` hands back after `take` answered with this outcome: one message where it delivered
abbrev pub handed_back : Result Outcome Refusal → Datagram → List ℕ → List (List ℕ)
handed_back (Ok (Delivered m p)) d rooms = message_of {E = Refusal} (Ok (Delivered m p)) d rooms ∷ []
handed_back (Err n) d rooms = []
handed_back (Ok Repeated) d rooms = []
handed_back (Ok (Held m n)) d rooms = []
handed_back (Ok (Stray m)) d rooms = []
handed_back (Ok (TooLong m)) d rooms = []

-- a joiner, ours or any other: what it remembers beside the rooms lent to it, how it starts from a set-up of these IDs and rooms of
-- R bytes, and what a datagram comes to
pub record Took (State : Type 0) : Type 0 where
  pub outcome : Result Outcome Refusal
  pub state : State
  pub rooms : List ℕ

pub record Joining : Type 1 where
  pub State : Type 0
  pub start : List ℕ → ℕ → List ℕ → State
  pub take : State → List ℕ → Datagram → Took State

-- the messages that a joiner delivers on channel k while it takes a traffic
abbrev pub delivered_by : (J : Joining) → List ℕ → ℕ → J.State → List ℕ → List Datagram → List (List ℕ)
delivered_by J ids k s rooms [] = []
delivered_by J ids k s rooms (d ∷ ds) =
    cond (is_of ids k d) (handed_back (J.take s rooms d).outcome d (J.take s rooms d).rooms) []
    ++ delivered_by J ids k (J.take s rooms d).state (J.take s rooms d).rooms ds

-- the joiner that a set-up gives: of no channels where it was refused
abbrev pub given : Result Joiner Refusal → Joiner
given (Ok j) = j
given (Err e) = fresh_of [] 0

-- the joiner that `setup` answers: "from a fresh start"
abbrev pub fresh : List ℕ → ℕ → List ℕ → Joiner
fresh ids R rooms = given (setup_of ids R (length rooms))

-- our own
abbrev pub our_joining : Joining
our_joining =
    record {
      State = Joiner;
      start = fresh;
      take = λ j rooms d. record { outcome = (taken_of j rooms d).outcome; state = (taken_of j rooms d).joiner; rooms = rooms_after j rooms d };
    }

-- `take` on each datagram of a traffic in turn: the messages delivered on channel k, the outcomes of its datagrams, and its
-- record and held bytes in the end
abbrev pub delivered_on : List ℕ → ℕ → Joiner → List ℕ → List Datagram → List (List ℕ)
delivered_on ids k j rooms ds = delivered_by our_joining ids k j rooms ds

abbrev pub outcomes_on : List ℕ → ℕ → Joiner → List ℕ → List Datagram → List (Result Outcome Refusal)
outcomes_on ids k j rooms [] = []
outcomes_on ids k j rooms (d ∷ ds) =
    cond (is_of ids k d) ((taken_of j rooms d).outcome ∷ []) []
    ++ outcomes_on ids k (taken_of j rooms d).joiner (rooms_after j rooms d) ds

abbrev pub left_on : ℕ → Joiner → List ℕ → List Datagram → View
left_on k j rooms [] = view_of j rooms k
left_on k j rooms (d ∷ ds) = left_on k (taken_of j rooms d).joiner (rooms_after j rooms d) ds

-- every datagram of a traffic is one
pub data AreBytes : List Datagram → Type 0 where
  none : AreBytes []
  more : {d : Datagram} {ds : List Datagram} → Octets d → AreBytes ds → AreBytes (d ∷ ds)

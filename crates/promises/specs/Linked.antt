-- Demand 3 for the calls that a program in C links: a run of `nyr_take` from `nyr_setup`, over their very contracts, whatever
-- these allow. The theorems are in proofs/Linked.antt.
use Rattle.std.specs.Prelude.{ℕ, ◌+◌, ◌*◌, ◌<◌, ◌≡◌, cond, ◌&&◌, List, [], ◌∷◌, ◌++◌, eqb, length, get_or}
use Rattle.std.specs.Prelude.{Result, Ok}
use Rattle.refusal.specs.Refusal.{refused}
use Rattle.refusal.specs.declared.Refusal.{Refusal}
use Rattle.wire.specs.Bytes.{part}
use Rattle.channel.specs.declared.Slice.{Slice}
use Rattle.channel.specs.declared.Slice.TheVariants as slice
use Rattle.channel.specs.declared.Outcome.{Outcome}
use Rattle.channel.specs.declared.Outcome.TheVariants.{Repeated, Delivered, Held, Stray, TooLong}
use Rattle.joiner.specs.Calls.{setup_words, take_number, take_words, take_rooms, take_answer}
use Rattle.joiner.specs.View.{bytes_at}
use Rattle.nyrkovash.proofs.nyr_setup.Reads.{Post as nyr-setup}
use Rattle.nyrkovash.proofs.nyr_take.Reads.{Post as nyr-take}
use Rattle.promises.specs.Order.{CanSetUp}
use Rattle.promises.specs.Senders.{Sender, complete_of}
use Rattle.promises.specs.Traffic.{Datagram, is_of, of_channel, Joining, AreBytes}
use Rattle.promises.specs.Demand3.{Demand3For}
use Rattle.promises.specs.InNumbers.{Given}

-- whatever a call's contract allows: what was lent to it, the number that it answers, and what it leaves
abbrev pub Allows : {K : Type 0} {A E : K → Type 0} {B C : Type 0} → ((k : K) → A k → ℕ → E k → Type 0) → ((k : K) → A k → B) → ((k : K) → E k → C)
    → B → ℕ → C → Type 0
Allows {K} {A} {E} post entry exit was n left =
    (k : K) × ((a : A k) × ((e : E k) × (post k a n e × ((entry k a ≡ was) × (exit k e ≡ left)))))

-- `nyr_setup`: the words where the joiner goes, the IDs, R and the rooms' length; and the words that it leaves
pub record SetupLent : Type 0 where
  pub state : List ℕ
  pub ids : List ℕ
  pub room : ℕ
  pub rooms : ℕ

-- `nyr_take`: the joiner's words, the rooms, a datagram and the words of an answer; and what it leaves of them
pub record TakeLent : Type 0 where
  pub state : List ℕ
  pub rooms : List ℕ
  pub datagram : Datagram
  pub answer : List ℕ

pub record TakeLeft : Type 0 where
  pub state : List ℕ
  pub rooms : List ℕ
  pub answer : List ℕ

-- what the contracts of two such calls allow, ours or any other
pub record Contracts : Type 1 where
  pub SetsUp : SetupLent → ℕ → List ℕ → Type 0
  pub Takes : TakeLent → ℕ → TakeLeft → Type 0

abbrev pub nyr : Contracts
nyr =
    record {
      SetsUp = Allows nyr-setup (λ k a. record { state = a.0.now; ids = a.1.0.now; room = a.1.1.0; rooms = a.1.1.1.0 }) (λ k e. e.0.now);
      Takes = Allows nyr-take
          (λ k a. record { state = a.0.now; rooms = a.1.0.now; datagram = a.1.1.0.now; answer = a.1.1.1.0.now })
          (λ k e. record { state = e.0.now; rooms = e.1.0.now; answer = e.1.1.1.0.now });
    }

-- a call of `nyr_take` in a run: its datagram, its number, and what it left
pub record Call : Type 0 where
  pub datagram : Datagram
  pub number : ℕ
  pub left : TakeLeft

-- a run of `nyr_take` over a traffic, each call on the joiner and the rooms that the one before left; the answer's words hold
-- anything before a call
pub data InTurn (C : Contracts) : List ℕ → List ℕ → List Datagram → List Call → Type 0 where
  over : {ws rooms : List ℕ} → InTurn C ws rooms [] []
  next : {ws rooms out : List ℕ} {d : Datagram} {n : ℕ} {l : TakeLeft} {ds : List Datagram} {cs : List Call}
      → C.Takes (record { state = ws; rooms = rooms; datagram = d; answer = out }) n l → InTurn C l.state l.rooms ds cs
      → InTurn C ws rooms (d ∷ ds) (record { datagram = d; number = n; left = l } ∷ cs)

-- a set-up, and a run from it
pub record SetUpAndRun (C : Contracts) (ids : List ℕ) (R : ℕ) (rooms : List ℕ) (traffic : List Datagram) : Type 0 where
  pub was : List ℕ
  pub number : ℕ
  pub state : List ℕ
  pub sets_up : C.SetsUp (record { state = was; ids = ids; room = R; rooms = length rooms }) number state
  pub calls : List Call
  pub run : InTurn C state rooms traffic calls

-- the answer's five words: outcome, missed, bytes, slice, start. A message lies in the datagram (slice 1) or in the rooms (2)
abbrev pub message_in : ℕ → List ℕ → Datagram → List ℕ → List (List ℕ)
message_in n answer d rooms =
    cond (eqb n 0 && eqb (get_or answer 0 0) 2) (part (cond (eqb (get_or answer 3 0) 1) d rooms) (get_or answer 4 0) (get_or answer 2 0) ∷ []) []

-- what a program in C is given on channel k
abbrev pub delivered_in : List ℕ → ℕ → List Call → List (List ℕ)
delivered_in ids k [] = []
delivered_in ids k (c ∷ cs) =
    cond (is_of ids k c.datagram) (message_in c.number c.left.answer c.datagram c.left.rooms) [] ++ delivered_in ids k cs

-- set-up answers 0; and then each channel delivers exactly those of its messages whose every piece arrived, in order, once each.
-- Of whatever run the contracts allow, and they allow one
pub record AllDelivered (C : Contracts) (ids : List ℕ) (R : ℕ) (rooms : List ℕ) (sender : ℕ → Sender) (traffic : List Datagram) : Type 0 where
  pub some : SetUpAndRun C ids R rooms traffic
  pub accepted : (x : SetUpAndRun C ids R rooms traffic) → x.number ≡ 0
  pub delivered : (x : SetUpAndRun C ids R rooms traffic) (k : ℕ) → k < length ids → delivered_in ids k x.calls ≡ complete_of (sender k).messages

abbrev pub DeliversFor : Contracts → Type 0
DeliversFor C =
    (ids : List ℕ) (R : ℕ) (rooms : List ℕ) (sender : ℕ → Sender) (traffic : List Datagram) → Given ids R rooms sender traffic
    → AllDelivered C ids R rooms sender traffic

abbrev pub Delivers : Type 0
Delivers = DeliversFor nyr

-- the outcome, by the number and the answer's words
abbrev pub slice_from : List ℕ → Slice
slice_from w = cond (eqb (get_or w 3 0) 1) (slice.Datagram (get_or w 4 0) (get_or w 2 0)) (slice.Rooms (get_or w 4 0) (get_or w 2 0))

abbrev pub outcome_from : ℕ → List ℕ → Result Outcome Refusal
outcome_from n w =
    let which = get_or w 0 0 in
    let missed = get_or w 1 0 in
    cond (eqb n 0)
    (cond (eqb which 1) (Ok Repeated)
    (cond (eqb which 2) (Ok (Delivered missed (slice_from w)))
    (cond (eqb which 3) (Ok (Held missed (get_or w 2 0))) (cond (eqb which 4) (Ok (Stray missed)) (Ok (TooLong missed))))))
    (refused n)

abbrev pub outcomes_in : List ℕ → ℕ → List Call → List (Result Outcome Refusal)
outcomes_in ids k [] = []
outcomes_in ids k (c ∷ cs) = cond (is_of ids k c.datagram) (outcome_from c.number c.left.answer ∷ []) [] ++ outcomes_in ids k cs

-- the numbers that the calls answered, as they are: of two that no refusal has `outcome_from` tells the same
abbrev pub numbers_in : List ℕ → ℕ → List Call → List ℕ
numbers_in ids k [] = []
numbers_in ids k (c ∷ cs) = cond (is_of ids k c.datagram) (c.number ∷ []) [] ++ numbers_in ids k cs

-- the linked calls as a joiner, over any words where the joiner goes and any words where an answer goes: so every wrong joiner
-- of WrongJoiners is one that the linked calls are not
abbrev pub linked : List ℕ → List ℕ → Joining
linked was out =
    record {
      State = List ℕ;
      start = λ ids R rooms. setup_words ids R (length rooms) was;
      take = λ ws rooms d.
          record { outcome = outcome_from (take_number ws rooms d) (take_answer ws rooms d out); state = take_words ws rooms d; rooms = take_rooms ws rooms d };
    }

abbrev pub AsAJoiner : Type 0
AsAJoiner = (was out : List ℕ) → Demand3For (linked was out)

-- what a run leaves of the joiner's words and of the rooms
abbrev pub state_in : List ℕ → List Call → List ℕ
state_in ws [] = ws
state_in ws (c ∷ cs) = state_in c.left.state cs

abbrev pub rooms_in : List ℕ → List Call → List ℕ
rooms_in rooms [] = rooms
rooms_in rooms (c ∷ cs) = rooms_in c.left.rooms cs

-- channel k in what was lent: its four words (sender ID, seen, last counter, bytes held), and the bytes that its room holds
pub record ChannelLent : Type 0 where
  pub words : List ℕ
  pub bytes : List ℕ

abbrev pub lying_in : ℕ → ℕ → List ℕ → List ℕ → ChannelLent
lying_in R k ws rooms =
    let p = 2 + 4 * k in
    let held = get_or ws (p + 3) 0 in
    record { words = get_or ws p 0 ∷ get_or ws (p + 1) 0 ∷ get_or ws (p + 2) 0 ∷ held ∷ []; bytes = bytes_at rooms (k * R) held }

-- two traffics with the same datagrams of channel k in the same order, genuine or not, and any bytes in the rooms at the start
pub record AlikeRuns (ids : List ℕ) (R : ℕ) (rooms rooms' : List ℕ) (k : ℕ) (one other : List Datagram) : Type 0 where
  pub set_up : CanSetUp ids R (length rooms)
  pub as_long : length rooms' ≡ length rooms
  pub known : k < length ids
  pub same : of_channel ids k one ≡ of_channel ids k other
  pub bytes : AreBytes one
  pub bytes' : AreBytes other

pub record SameRuns {ids : List ℕ} {R : ℕ} {rooms rooms' : List ℕ} {one other : List Datagram} (k : ℕ) (x : SetUpAndRun nyr ids R rooms one)
    (y : SetUpAndRun nyr ids R rooms' other) : Type 0 where
  pub delivered : delivered_in ids k x.calls ≡ delivered_in ids k y.calls
  pub numbers : numbers_in ids k x.calls ≡ numbers_in ids k y.calls
  pub outcomes : outcomes_in ids k x.calls ≡ outcomes_in ids k y.calls
  pub left : lying_in R k (state_in x.state x.calls) (rooms_in rooms x.calls) ≡ lying_in R k (state_in y.state y.calls) (rooms_in rooms' y.calls)

-- "and the mix makes no difference"
abbrev pub MixMakesNoDifference : Type 0
MixMakesNoDifference =
    (ids : List ℕ) (R : ℕ) (rooms rooms' : List ℕ) (k : ℕ) (one other : List Datagram) → AlikeRuns ids R rooms rooms' k one other
    → (x : SetUpAndRun nyr ids R rooms one) (y : SetUpAndRun nyr ids R rooms' other) → SameRuns k x y

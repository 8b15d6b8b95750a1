-- 01, "What the promises have to say" and "Easy wrong turns": joiners that are wrong, and that none of them meets demand 3. The
-- theorems are in proofs/WrongJoiners.antt.
use Rattle.std.specs.Prelude.{ℕ, ◌≤◌, ◌≡◌, Bool, true, false, cond, ◌&&◌, List, leb, ltb, eqb, length}
use Rattle.std.specs.Prelude.{Result, Ok, Err}
use Rattle.refusal.specs.Refusal.{refused}
use Rattle.refusal.specs.declared.Refusal.{Refusal}
use Rattle.std.specs.Prelude.{Some, None}
use Rattle.binding.specs.Header.{heading_in, piece_in}
use Rattle.binding.specs.declared.BindingHeader.{BindingHeader}
use Rattle.binding.specs.declared.MessagePart.{MessagePart}
use Rattle.binding.specs.declared.MessagePart.TheVariants.{Begin, Middle, End, Whole}
use Rattle.channel.specs.declared.Channel.{Channel}
use Rattle.channel.specs.declared.Room.{Room}
use Rattle.channel.specs.declared.Step.{Step}
use Rattle.channel.specs.declared.Outcome.{Outcome}
use Rattle.channel.specs.declared.Outcome.TheVariants.{Repeated, Delivered, Held, Stray, TooLong}
use Rattle.channel.specs.declared.Slice.{Slice}
use Rattle.channel.specs.Channel.{room_of, repeated, missed_of, noted_of, holding, too_long, placed_of, stepped_of}
use Rattle.joiner.specs.Setup.{channel_at, senders_of, place_of, good}
use Rattle.joiner.specs.declared.Joiner.{Joiner}
use Rattle.joiner.specs.Take.{taken_by, rooms_by}
use Rattle.promises.specs.Traffic.{Datagram, Took, Joining, delivered_by, fresh, our_joining}
use Rattle.promises.specs.Demand3.{Demand3For}

-- the same answer to every datagram, and nothing done
abbrev pub always : Result Outcome Refusal → Joining
always o = record { State = Joiner; start = fresh; take = λ j rooms d. record { outcome = o; state = j; rooms = rooms } }

-- whatever it remembers, it never delivers
abbrev pub NeverDelivers : Joining → Type 0
NeverDelivers J =
    (s : J.State) (rooms : List ℕ) (d : Datagram) (m : ℕ) (p : Slice) → (J.take s rooms d).outcome ≡ Ok (Delivered m p) → ⊥

-- or it delivers one message at most, of whatever traffic from a set-up
abbrev pub DeliversOnce : Joining → Type 0
DeliversOnce J =
    (ids : List ℕ) (k R : ℕ) (rooms : List ℕ) (ds : List Datagram) → length (delivered_by J ids k (J.start ids R rooms) rooms ds) ≤ 1

abbrev pub delivers : Result Outcome Refusal → Bool
delivers (Ok (Delivered m p)) = true
delivers (Err n) = false
delivers (Ok Repeated) = false
delivers (Ok (Held m n)) = false
delivers (Ok (Stray m)) = false
delivers (Ok (TooLong m)) = false

-- ours up to the first message, then "held"
pub record Once : Type 0 where
  pub joiner : Joiner
  pub done : Bool

abbrev pub after_once : Bool → Once → List ℕ → Took Joiner → Took Once
after_once true s rooms t = record { outcome = Ok (Held 0 1); state = s; rooms = rooms }
after_once false s rooms t =
    record { outcome = t.outcome; state = record { joiner = t.state; done = delivers t.outcome }; rooms = t.rooms }

abbrev pub first_only : Joining
first_only =
    record {
      State = Once;
      start = λ ids R rooms. record { joiner = fresh ids R rooms; done = false };
      take = λ s rooms d. after_once s.done s rooms (our_joining.take s.joiner rooms d);
    }

-- a repeated datagram gets the last answer again
pub record LastSaid : Type 0 where
  pub joiner : Joiner
  pub last : Result Outcome Refusal

abbrev pub last_again : Result Outcome Refusal → Result Outcome Refusal → Result Outcome Refusal
last_again o (Err n) = Err n
last_again o (Ok Repeated) = o
last_again o (Ok (Delivered m p)) = Ok (Delivered m p)
last_again o (Ok (Held m n)) = Ok (Held m n)
last_again o (Ok (Stray m)) = Ok (Stray m)
last_again o (Ok (TooLong m)) = Ok (TooLong m)

abbrev pub answered_again : Result Outcome Refusal → Took Joiner → Took LastSaid
answered_again o t =
    record { outcome = last_again o t.outcome; state = record { joiner = t.state; last = last_again o t.outcome }; rooms = t.rooms }

abbrev pub again_answered : Joining
again_answered =
    record {
      State = LastSaid;
      start = λ ids R rooms. record { joiner = fresh ids R rooms; last = Ok Repeated };
      take = λ s rooms d. answered_again s.last (our_joining.take s.joiner rooms d);
    }

-- our_joining, with another step of a channel in the place of steps 1 to 5
abbrev pub Stepping : Type 0
Stepping = Room → Channel → MessagePart → ℕ → ℕ → Step

abbrev pub sent_with : Stepping → Joiner → List ℕ → BindingHeader → Result (ℕ × Step) Refusal
sent_with step j d h =
    let k = place_of (senders_of j) h.sender in
    cond (ltb k j.count) (Ok (k, step (room_of j.room k) (channel_at j k) h.part h.counter (length (piece_in d)))) (refused 23)

abbrev pub heading_with : Stepping → Joiner → List ℕ → Result BindingHeader Refusal → Result (ℕ × Step) Refusal
heading_with step j d (Err n) = Err n
heading_with step j d (Ok h) = sent_with step j d h

abbrev pub judged_with : Stepping → Joiner → ℕ → List ℕ → Result (ℕ × Step) Refusal
judged_with step j b d = cond (good j b) (heading_with step j d (heading_in d)) (refused 20)

abbrev pub took_by : Joiner → List ℕ → Datagram → Result (ℕ × Step) Refusal → Took Joiner
took_by j rooms d x = record { outcome = (taken_by j x).outcome; state = (taken_by j x).joiner; rooms = rooms_by rooms d x }

abbrev pub stepping : Stepping → Joining
stepping step = record { State = Joiner; start = fresh; take = λ j rooms d. took_by j rooms d (judged_with step j (length rooms) d) }

-- steps 1 and 2 by another test of what is repeated
abbrev pub testing : (Channel → ℕ → Bool) → Stepping
testing again room ch p c n =
    cond (again ch c) (record { outcome = Repeated; channel = ch; put = None }) (placed_of room (noted_of ch c) p n (missed_of ch c))

-- "counters compared with greater than": what is not above the last is repeated
abbrev pub not_above : Channel → ℕ → Bool
not_above ch c = ch.seen && leb c ch.last

-- step 1 left out
abbrev pub never : Channel → ℕ → Bool
never ch c = false

-- "a beginning that keeps the old held length", if there is one
abbrev pub begun_over : Room → Channel → ℕ → ℕ → ℕ → Step
begun_over room ch old n m =
    cond (leb n room.size) (record { outcome = Held m n; channel = holding ch (cond (eqb old 0) n old); put = Some room.start }) (too_long ch m)

abbrev pub placed_over : ℕ → Room → Channel → MessagePart → ℕ → ℕ → Step
placed_over old room ch Begin n m = begun_over room ch old n m
placed_over old room ch Whole n m = placed_of room ch Whole n m
placed_over old room ch Middle n m = placed_of room ch Middle n m
placed_over old room ch End n m = placed_of room ch End n m

-- the length held before the datagram came
abbrev pub beginning_keeps : Stepping
beginning_keeps room ch p c n =
    cond (repeated ch c) (record { outcome = Repeated; channel = ch; put = None })
    (placed_over ch.held room (noted_of ch c) p n (missed_of ch c))

-- "a repeated middle appended twice": what is repeated is placed once more
abbrev pub repeated_placed : Stepping
repeated_placed room ch p c n = cond (repeated ch c) (placed_of room ch p n 0) (placed_of room (noted_of ch c) p n (missed_of ch c))

-- "a stray that leaves the last counter as it was"
abbrev pub unless_stray : Channel → Outcome → Channel → Channel
unless_stray old (Stray m) new = old
unless_stray old Repeated new = new
unless_stray old (Delivered m p) new = new
unless_stray old (Held m n) new = new
unless_stray old (TooLong m) new = new

-- nothing is held after a stray in either
abbrev pub stray_forgotten : Stepping
stray_forgotten room ch p c n =
    let s : Step = stepped_of room ch p c n in
    record { outcome = s.outcome; channel = unless_stray (holding ch 0) s.outcome s.channel; put = s.put }

-- every channel in the first one's room
abbrev pub shared_room : Stepping
shared_room room ch p c n = stepped_of (record { start = 0; size = room.size }) ch p c n

-- every channel but the first is passed over
abbrev pub first_channel_only : Stepping
first_channel_only room ch p c n =
    cond (eqb room.start 0) (stepped_of room ch p c n) (record { outcome = Repeated; channel = ch; put = None })

-- with our step it is our_joining; and with the others, and those above, it does not meet demand 3
pub record NoWrongJoiner : Type 1 where
  pub with_our_step : (j : Joiner) (rooms : List ℕ) (d : Datagram) → (stepping stepped_of).take j rooms d ≡ our_joining.take j rooms d
  pub silent : (J : Joining) → NeverDelivers J → Demand3For J → ⊥
  pub constant : (o : Result Outcome Refusal) → Demand3For (always o) → ⊥
  pub once : (J : Joining) → DeliversOnce J → Demand3For J → ⊥
  pub first-only : Demand3For first_only → ⊥
  pub greater_than : Demand3For (stepping (testing not_above)) → ⊥
  pub old_length_kept : Demand3For (stepping beginning_keeps) → ⊥
  pub end-twice : Demand3For again_answered → ⊥
  pub whole_twice : Demand3For (stepping (testing never)) → ⊥
  pub middle-twice : Demand3For (stepping repeated_placed) → ⊥
  pub stray-forgotten : Demand3For (stepping stray_forgotten) → ⊥
  pub shared-room : Demand3For (stepping shared_room) → ⊥
  pub first-channel-only : Demand3For (stepping first_channel_only) → ⊥

-- Demand 3 for the linked calls: what the contracts allow is a run over joiners.
-- Assumes nothing.
use Prim.Native.Nat.{ℕ, ◌-◌, ◌<◌}
use Rattle.promises.proofs.SetUps.{its_joiner, is_accepted}
use Rattle.std.specs.Prelude.{Result}
use Rattle.refusal.specs.declared.Refusal.{Refusal}
use mathlib.Core.Path.{◌≡◌, refl, sym, ap, ap₂, ◌∙◌}
use mathlib.Core.Bool.{Bool, true, false, cond}
use mathlib.Core.List.{List, [], ◌∷◌, ◌++◌, map}
use native.Mathlib.Omega.{arith}
use lib.ListN.{length, get_or, replicate, length-map}
use lib.Seq.{take_at}
use denote.Ref.{Bor, MutBor}
use Rattle.channel.specs.Record.{channel_limit, new_channel}
use Rattle.channel.specs.Outcomes.{number_given as told}
use Rattle.channel.specs.declared.Channel.{Channel}
use Rattle.channel.specs.declared.Outcome.{Outcome}
use Rattle.joiner.specs.declared.Joiner.{Joiner}
use Rattle.joiner.specs.Setup.{channel_at, fresh_of, setup_of, number_given, Acceptable}
use Rattle.joiner.specs.Take.{taken_of, rooms_after}
use Rattle.joiner.specs.JoinerWords.{joiner_words, sender_limit, joiner_in, records_words, words_of}
use Rattle.joiner.specs.Calls.{accepted_words, setup_number, setup_words, take_number, take_words, take_rooms, take_answer}
use Rattle.joiner.proofs.Accepted.{accepts, accepted, fresh-width, fresh-channel}
use Rattle.joiner.proofs.Storing.{words-some, words_length}
use Rattle.joiner.proofs.FoundBack.{words_back}
use Rattle.joiner.proofs.WordsBack.{taken_back}
use Rattle.promises.specs.Order.{CanSetUp}
use Rattle.promises.specs.Traffic.{Datagram, given, is_of, handed_back, delivered_by, fresh, delivered_on, outcomes_on, left_on, AreBytes, none, more}
use Rattle.promises.specs.Linked.{SetupLent, TakeLent, TakeLeft, nyr, Call, InTurn, over, next, SetUpAndRun}
use Rattle.promises.specs.Linked.{Delivers, MixMakesNoDifference}
use Rattle.promises.specs.Linked.{message_in, delivered_in, outcome_from, numbers_in, outcomes_in, state_in, rooms_in, lying_in, linked, AsAJoiner}
use Rattle.promises.proofs.Demand3.{underway, demand_3, mix_makes_no_difference}
use Rattle.promises.proofs.Apart.{Underway, next as then}
use Rattle.promises.proofs.InNumbers.{acceptable, set_ups, granted}
use Rattle.promises.proofs.LinkedRuns.{outcome-is, message-is, words_stay, lying_by, lying_is}

-- a set-up
module _ (ids : List ℕ) (R b : ℕ) (a : Acceptable ids R b) where
  abbrev j : Joiner
  j = fresh_of ids R

  fresh-words : words_of j ≡ j.count ∷ j.room ∷ records_words j.channels
  unfolding fresh_of
  fresh-words = words-some j a.few

  fresh-back : joiner_in (words_of j) ≡ j
  unfolding fresh_of
  fresh-back =
      words_back j (fresh-width ids R a.few) a.few small
      ∙ ap (λ (l : List Channel). record { channels = l ++ replicate (channel_limit - length ids) (new_channel 0); count = length ids; room = R })
      (take_at (map new_channel ids) (replicate (channel_limit - length ids) (new_channel 0)) (length ids) (length-map ids new_channel))
    where
      small : (i : ℕ) → i < length ids → (channel_at j i).sender < sender_limit
      small i h =
          let e : (channel_at j i).sender ≡ get_or ids i 0 = ap (λ (c : Channel). c.sender) (fresh-channel ids R a.few i h) in
          omega (arith, a.range i h)

  set-number : setup_number ids R b ≡ 0
  unfolding setup_number
  set-number = ap number_given (accepts ids R b a)

  set_words : (was : List ℕ) → setup_words ids R b was ≡ words_of j
  unfolding setup_words
  set_words was = ap (λ (x : Result Joiner Refusal). accepted_words x was) (accepts ids R b a)

  set_back : (was : List ℕ) → joiner_in (setup_words ids R b was) ≡ given (setup_of ids R b)
  set_back was = ap joiner_in (set_words was) ∙ fresh-back ∙ sym (ap given (accepts ids R b a))

  set-length : (was : List ℕ) → length (setup_words ids R b was) ≡ joiner_words
  set-length was =
      let w : length j.channels ≡ channel_limit = fresh-width ids R a.few in
      ap length (set_words was ∙ fresh-words) ∙ omega (arith, words_length j.channels)

-- the linked calls as a joiner
as_joiners : (was out ids : List ℕ) (k : ℕ) (ds : List Datagram) (ws rooms : List ℕ) → length ws ≡ joiner_words
    → delivered_by (linked was out) ids k ws rooms ds ≡ delivered_on ids k (joiner_in ws) rooms ds
unfolding take_rooms
as_joiners was out ids k [] ws rooms w = refl
as_joiners was out ids k (d ∷ ds) ws rooms w =
    let here : cond (is_of ids k d) (handed_back ((linked was out).take ws rooms d).outcome d (take_rooms ws rooms d)) []
    ≡ cond (is_of ids k d) (handed_back (taken_of (joiner_in ws) rooms d).outcome d (take_rooms ws rooms d)) [] =
    ap (λ (o : Result Outcome Refusal). cond (is_of ids k d) (handed_back o d (take_rooms ws rooms d)) []) (outcome-is ws rooms d out) in
    let rest = as_joiners was out ids k ds (take_words ws rooms d) (take_rooms ws rooms d) (words_stay ws rooms d ∙ w) in
    ap₂ ◌++◌ here (rest ∙ ap (λ (i : Joiner). delivered_on ids k i (take_rooms ws rooms d) ds) (taken_back ws rooms d w))

pub as_a_joiner : AsAJoiner
as_a_joiner was out ids R rooms sender traffic g k h =
    let a : Acceptable ids R (length rooms) = accepted ids R (length rooms) (its_joiner ids R (length rooms) g.set_up) in
    as_joiners was out ids k traffic (setup_words ids R (length rooms) was) rooms (set-length ids R (length rooms) a was)
    ∙ ap (λ (i : Joiner). delivered_on ids k i rooms traffic) (set_back ids R (length rooms) a was)
    ∙ demand_3 ids R rooms sender traffic g k h

-- one call that the contract allows
module _ {ws rooms out : List ℕ} {d : Datagram} {n : ℕ} {l : TakeLeft}
    (p : nyr.Takes (record { state = ws; rooms = rooms; datagram = d; answer = out }) n l) where
  number-left : n ≡ take_number ws rooms d
  number-left = p.1.1.1.0.0 ∙ ap (λ (y : TakeLent). take_number y.state y.rooms y.datagram) p.1.1.1.1.0

  state-left : l.state ≡ take_words ws rooms d
  state-left =
      ap (λ (y : TakeLeft). y.state) (sym p.1.1.1.1.1) ∙ p.1.1.1.0.1.0
      ∙ ap (λ (y : TakeLent). take_words y.state y.rooms y.datagram) p.1.1.1.1.0

  rooms-left : l.rooms ≡ take_rooms ws rooms d
  rooms-left =
      ap (λ (y : TakeLeft). y.rooms) (sym p.1.1.1.1.1) ∙ p.1.1.1.0.1.1.0
      ∙ ap (λ (y : TakeLent). take_rooms y.state y.rooms y.datagram) p.1.1.1.1.0

  answer-left : l.answer ≡ take_answer ws rooms d out
  answer-left =
      ap (λ (y : TakeLeft). y.answer) (sym p.1.1.1.1.1) ∙ p.1.1.1.0.1.1.1
      ∙ ap (λ (y : TakeLent). take_answer y.state y.rooms y.datagram y.answer) p.1.1.1.1.0

  its-message : message_in n l.answer d l.rooms ≡ handed_back (taken_of (joiner_in ws) rooms d).outcome d (rooms_after (joiner_in ws) rooms d)
  its-message = rw (number-left, answer-left, rooms-left) (message-is ws rooms d out)

  its-number : n ≡ told (taken_of (joiner_in ws) rooms d).outcome
  unfolding take_number
  its-number = number-left

  its-outcome : outcome_from n l.answer ≡ (taken_of (joiner_in ws) rooms d).outcome
  its-outcome = rw (number-left, answer-left) (outcome-is ws rooms d out)

  its-rooms : l.rooms ≡ rooms_after (joiner_in ws) rooms d
  unfolding take_rooms
  its-rooms = rooms-left

  module _ (w : length ws ≡ joiner_words) where
    its_length : length l.state ≡ joiner_words
    its_length = ap length state-left ∙ words_stay ws rooms d ∙ w

    its-joiner : joiner_in l.state ≡ (taken_of (joiner_in ws) rooms d).joiner
    its-joiner = ap joiner_in state-left ∙ taken_back ws rooms d w

-- the number of one outcome, and those of others behind it
told_on : (b : Bool) (o : Result Outcome Refusal) (os : List (Result Outcome Refusal))
    → map told (cond b (o ∷ []) [] ++ os) ≡ cond b (told o ∷ []) [] ++ map told os
told_on true o os = refl
told_on false o os = refl

-- a run that the contracts allow
module _ (ids : List ℕ) (R k : ℕ) (known : k < length ids) where
  pub record InRun (ws rooms : List ℕ) (ds : List Datagram) (cs : List Call) : Type 0 where
    pub delivered : delivered_in ids k cs ≡ delivered_on ids k (joiner_in ws) rooms ds
    pub numbers : numbers_in ids k cs ≡ map told (outcomes_on ids k (joiner_in ws) rooms ds)
    pub outcomes : outcomes_in ids k cs ≡ outcomes_on ids k (joiner_in ws) rooms ds
    pub left : lying_in R k (state_in ws cs) (rooms_in rooms cs) ≡ lying_by (left_on k (joiner_in ws) rooms ds)

  in-run : {ws rooms : List ℕ} {ds : List Datagram} {cs : List Call} → InTurn nyr ws rooms ds cs → length ws ≡ joiner_words → AreBytes ds
      → Underway ids R (joiner_in ws) rooms → InRun ws rooms ds cs
  in-run (over {ws} {rooms}) w none u = record { delivered = refl; numbers = refl; outcomes = refl; left = lying_is ids R k ws rooms known u }
  in-run (next {ws} {rooms} {out} {d} {n} {l} {ds} {cs} p r) w (more o os) u =
      let j : joiner_in l.state ≡ (taken_of (joiner_in ws) rooms d).joiner = its-joiner p w in
      let e : l.rooms ≡ rooms_after (joiner_in ws) rooms d = its-rooms p in
      let v : Underway ids R (joiner_in l.state) l.rooms = rw (j, e) (then ids R k known (joiner_in ws) rooms d u o) in
      let i : InRun l.state l.rooms ds cs = in-run r (its_length p w) os v in
      record {
        delivered = ap₂ ◌++◌ (ap (λ (x : List (List ℕ)). cond (is_of ids k d) x []) (its-message p))
            (i.delivered ∙ ap₂ (λ (x : Joiner) (y : List ℕ). delivered_on ids k x y ds) j e);
        numbers = ap₂ ◌++◌ (ap (λ (x : ℕ). cond (is_of ids k d) (x ∷ []) []) (its-number p))
            (i.numbers ∙ ap₂ (λ (x : Joiner) (y : List ℕ). map told (outcomes_on ids k x y ds)) j e)
            ∙ sym (told_on (is_of ids k d) (taken_of (joiner_in ws) rooms d).outcome
            (outcomes_on ids k (taken_of (joiner_in ws) rooms d).joiner (rooms_after (joiner_in ws) rooms d) ds));
        outcomes = ap₂ ◌++◌ (ap (λ (x : Result Outcome Refusal). cond (is_of ids k d) (x ∷ []) []) (its-outcome p))
            (i.outcomes ∙ ap₂ (λ (x : Joiner) (y : List ℕ). outcomes_on ids k x y ds) j e);
        left = i.left ∙ ap₂ (λ (x : Joiner) (y : List ℕ). lying_by (left_on k x y ds)) j e;
      }

-- from a set-up
module _ (ids : List ℕ) (R : ℕ) (rooms : List ℕ) (ds : List Datagram) (s : CanSetUp ids R (length rooms)) (x : SetUpAndRun nyr ids R rooms ds) where
  ok : Acceptable ids R (length rooms)
  ok = acceptable ids R (length rooms) s

  pub answered : x.number ≡ 0
  answered =
      x.sets_up.1.1.1.0.0 ∙ ap (λ (y : SetupLent). setup_number y.ids y.room y.rooms) x.sets_up.1.1.1.1.0
      ∙ set-number ids R (length rooms) ok

  words : x.state ≡ setup_words ids R (length rooms) x.was
  words =
      sym x.sets_up.1.1.1.1.1 ∙ x.sets_up.1.1.1.0.1
      ∙ ap (λ (y : SetupLent). setup_words y.ids y.room y.rooms y.state) x.sets_up.1.1.1.1.0

  pub start : joiner_in x.state ≡ fresh ids R rooms
  start = ap joiner_in words ∙ set_back ids R (length rooms) ok x.was

  pub ran : (k : ℕ) (h : k < length ids) → AreBytes ds → InRun ids R k h x.state rooms ds x.calls
  ran k h o =
      let u : Underway ids R (joiner_in x.state) rooms =
      rw start (underway ids R rooms (is_accepted (setup_of ids R (length rooms)) (set_ups ids R (length rooms) s))) in
      in-run ids R k h x.run (ap length words ∙ set-length ids R (length rooms) ok x.was) o u

pub the_mix_makes_no_difference : MixMakesNoDifference
the_mix_makes_no_difference ids R rooms rooms' k one other a x y =
    let s : CanSetUp ids R (length rooms) = a.set_up in
    let s' : CanSetUp ids R (length rooms') =
    record { some = s.some; few = s.few; range = s.range; once = s.once; wide = s.wide; narrow = s.narrow; whole = a.as_long ∙ s.whole } in
    let p = ran ids R rooms one s x k a.known a.bytes in
    let q = ran ids R rooms' other s' y k a.known a.bytes' in
    let i : joiner_in x.state ≡ fresh ids R rooms = start ids R rooms one s x in
    let i' : joiner_in y.state ≡ fresh ids R rooms' = start ids R rooms' other s' y in
    let m = mix_makes_no_difference ids R rooms rooms' k one other
    (record { set_up = is_accepted (setup_of ids R (length rooms)) (set_ups ids R (length rooms) s); as_long = a.as_long; known = a.known; same = a.same; bytes = a.bytes; bytes' = a.bytes' }) in
    record {
      delivered = p.delivered ∙ ap (λ (z : Joiner). delivered_on ids k z rooms one) i ∙ m.delivered
          ∙ sym (q.delivered ∙ ap (λ (z : Joiner). delivered_on ids k z rooms' other) i');
      numbers = p.numbers ∙ ap (λ (z : Joiner). map told (outcomes_on ids k z rooms one)) i ∙ ap (map told) m.outcomes
          ∙ sym (q.numbers ∙ ap (λ (z : Joiner). map told (outcomes_on ids k z rooms' other)) i');
      outcomes = p.outcomes ∙ ap (λ (z : Joiner). outcomes_on ids k z rooms one) i ∙ m.outcomes
          ∙ sym (q.outcomes ∙ ap (λ (z : Joiner). outcomes_on ids k z rooms' other) i');
      left = p.left ∙ ap (λ (z : Joiner). lying_by (left_on k z rooms one)) i ∙ ap lying_by m.left
          ∙ sym (q.left ∙ ap (λ (z : Joiner). lying_by (left_on k z rooms' other)) i');
    }

-- a call of each, and a run
abbrev pub lent : List ℕ → Bor (List ℕ)
lent xs = record { ref_ptr = (0, 0); now = xs }

abbrev pub lent_mut : List ℕ → MutBor (List ℕ)
lent_mut xs = record { ref_ptr = (0, 0); ghost_name = 0; now = xs }

takes : (ws rooms : List ℕ) (d : Datagram) (out : List ℕ)
    → nyr.Takes (record { state = ws; rooms = rooms; datagram = d; answer = out }) (take_number ws rooms d)
    (record { state = take_words ws rooms d; rooms = take_rooms ws rooms d; answer = take_answer ws rooms d out })
takes ws rooms d out = (
  ([], ([], ([], ([], tt)))),
  (
    (lent_mut ws, (lent_mut rooms, (lent d, (lent_mut out, tt)))),
    (
      (lent_mut (take_words ws rooms d), (lent_mut (take_rooms ws rooms d), (lent d, (lent_mut (take_answer ws rooms d out), tt)))),
      ((refl, (refl, (refl, refl))), (refl, refl)),
    ),
  ),
)

setting : (ids : List ℕ) (R b : ℕ) (was : List ℕ)
    → nyr.SetsUp (record { state = was; ids = ids; room = R; rooms = b }) (setup_number ids R b) (setup_words ids R b was)
setting ids R b was = (
  ([], ([], tt)),
  ((lent_mut was, (lent ids, (R, (b, tt)))), ((lent_mut (setup_words ids R b was), (lent ids, (R, (b, tt)))), ((refl, refl), (refl, refl)))),
)

abbrev calls_from : List ℕ → List ℕ → List Datagram → List Call
calls_from ws rooms [] = []
calls_from ws rooms (d ∷ ds) =
    let left : TakeLeft = record { state = take_words ws rooms d; rooms = take_rooms ws rooms d; answer = take_answer ws rooms d (replicate 5 0) } in
    record { datagram = d; number = take_number ws rooms d; left = left } ∷ calls_from (take_words ws rooms d) (take_rooms ws rooms d) ds

runs : (ws rooms : List ℕ) (ds : List Datagram) → InTurn nyr ws rooms ds (calls_from ws rooms ds)
runs ws rooms [] = over
runs ws rooms (d ∷ ds) = next (takes ws rooms d (replicate 5 0)) (runs (take_words ws rooms d) (take_rooms ws rooms d) ds)

some_run : (ids : List ℕ) (R : ℕ) (rooms : List ℕ) (traffic : List Datagram) → SetUpAndRun nyr ids R rooms traffic
some_run ids R rooms traffic =
    let was : List ℕ = replicate joiner_words 0 in
    let state : List ℕ = setup_words ids R (length rooms) was in
    record {
      was = was;
      number = setup_number ids R (length rooms);
      state = state;
      sets_up = setting ids R (length rooms) was;
      calls = calls_from state rooms traffic;
      run = runs state rooms traffic;
    }

pub delivers : Delivers
delivers ids R rooms sender traffic g =
    record {
      some = some_run ids R rooms traffic;
      accepted = answered ids R rooms traffic g.set_up;
      delivered = λ x k h. (ran ids R rooms traffic g.set_up x k h g.bytes).delivered
          ∙ ap (λ (i : Joiner). delivered_on ids k i rooms traffic) (start ids R rooms traffic g.set_up x)
          ∙ demand_3 ids R rooms sender traffic (granted ids R rooms sender traffic g) k h;
    }

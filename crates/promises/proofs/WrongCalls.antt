-- No wrong pair of calls meets demand 3: a small traffic for each, computed.
-- Assumes nothing.
use Prim.Native.Nat.{ℕ}
use mathlib.Core.Path.{◌≡◌, refl, sym, ap, ap₂, ◌∙◌}
use mathlib.Core.Bool.{Bool, true, false, cond}
use mathlib.Core.List.{List, [], ◌∷◌, ◌++◌}
use native.Mathlib.Omega.{arith}
use lib.ListN.{length}
use Rattle.channel.specs.Channel.{missed_of, keeping, noted_of, begun_of, followed_of, placed_of, stepped_of}
use Rattle.wire.specs.All.{all_below}
use Rattle.joiner.specs.Setup.{good_sizes, good, fresh_of, setup_of}
use Rattle.joiner.specs.Take.{sent_to, heading_by, judged_of, taken_by, taken_of, put_by, rooms_by, rooms_after, message_of}
use Rattle.joiner.specs.JoinerWords.{joiner_in, words_of}
use Rattle.joiner.specs.Calls.{setup_number, setup_words, take_number, take_words, take_rooms, take_answer}
use Rattle.promises.specs.WrongCalls.{InWords, linked_by, Meets, answering, other_slice, start_for_bytes, from_the_start, never_two}
use Rattle.promises.specs.WrongCalls.{state_left, rooms_left, not_set_up, refuses_setups, refuses_datagrams, saying_nothing, contracts_of, first_only, NoWrongCall}
use Rattle.promises.specs.Cases.{sender, ids, room}
use Rattle.promises.specs.Senders.{arrives}
use Rattle.promises.specs.Traffic.{Datagram, is_of}
use Rattle.promises.specs.InNumbers.{Given}
use Rattle.promises.specs.Linked.{TakeLeft, Call, InTurn, over, next, SetUpAndRun, message_in, delivered_in, DeliversFor}
use Rattle.promises.proofs.InNumbers.{granted_back}
use Rattle.promises.proofs.SmallTraffic.{granted, kept, total, first_byte, wraps, small_wraps, two, small_two, both_ids, senders, mix, granted_mix}
use Rattle.promises.proofs.Linked.{as_a_joiner}

other-slice : Meets (answering other_slice) → ⊥
unfolding missed_of keeping noted_of begun_of followed_of placed_of stepped_of good_sizes good fresh_of setup_of sent_to heading_by judged_of
    taken_by taken_of put_by rooms_by rooms_after message_of all_below joiner_in words_of setup_words take_number take_words take_rooms take_answer
other-slice d =
    let e : ◌≡◌ {A = ℕ} 0x21 0xAA = ap first_byte (kept (linked_by (answering other_slice) [] []) wraps small_wraps (d [] [])) in absurd (omega (arith, e))

start-for-bytes : Meets (answering start_for_bytes) → ⊥
unfolding missed_of keeping noted_of begun_of followed_of placed_of stepped_of good_sizes good fresh_of setup_of sent_to heading_by judged_of
    taken_by taken_of put_by rooms_by rooms_after message_of all_below joiner_in words_of setup_words take_number take_words take_rooms take_answer
start-for-bytes d =
    let e : ◌≡◌ {A = ℕ} 0 2 = ap total (kept (linked_by (answering start_for_bytes) [] []) wraps small_wraps (d [] [])) in absurd (omega (arith, e))

from-the-start : Meets (answering from_the_start) → ⊥
unfolding missed_of keeping noted_of begun_of followed_of placed_of stepped_of good_sizes good fresh_of setup_of sent_to heading_by judged_of
    taken_by taken_of put_by rooms_by rooms_after message_of all_below joiner_in words_of setup_words take_number take_words take_rooms take_answer
from-the-start d =
    let e : ◌≡◌ {A = ℕ} 0x31 0xAA = ap first_byte (kept (linked_by (answering from_the_start) [] []) two small_two (d [] [])) in absurd (omega (arith, e))

never-two : Meets (answering never_two) → ⊥
unfolding missed_of keeping noted_of begun_of followed_of placed_of stepped_of good_sizes good fresh_of setup_of sent_to heading_by judged_of
    taken_by taken_of put_by rooms_by rooms_after message_of all_below joiner_in words_of setup_words take_number take_words take_rooms take_answer
never-two d =
    let e : ◌≡◌ {A = ℕ} 0 2 = ap length (kept (linked_by (answering never_two) [] []) two small_two (d [] [])) in absurd (omega (arith, e))

state-left : Meets state_left → ⊥
unfolding missed_of keeping noted_of begun_of followed_of placed_of stepped_of good_sizes good fresh_of setup_of sent_to heading_by judged_of
    taken_by taken_of put_by rooms_by rooms_after message_of all_below joiner_in words_of setup_words take_number take_words take_rooms take_answer
state-left d =
    let e : ◌≡◌ {A = ℕ} 0 1 = ap length (kept (linked_by state_left [] []) wraps small_wraps (d [] [])) in absurd (omega (arith, e))

rooms-left : Meets rooms_left → ⊥
unfolding missed_of keeping noted_of begun_of followed_of placed_of stepped_of good_sizes good fresh_of setup_of sent_to heading_by judged_of
    taken_by taken_of put_by rooms_by rooms_after message_of all_below joiner_in words_of setup_words take_number take_words take_rooms take_answer
rooms-left d =
    let e : ◌≡◌ {A = ℕ} 0 0xAA = ap first_byte (kept (linked_by rooms_left [] []) wraps small_wraps (d [] [])) in absurd (omega (arith, e))

not-set-up : Meets not_set_up → ⊥
unfolding missed_of keeping noted_of begun_of followed_of placed_of stepped_of good_sizes good fresh_of setup_of sent_to heading_by judged_of
    taken_by taken_of put_by rooms_by rooms_after message_of all_below joiner_in words_of setup_words take_number take_words take_rooms take_answer
not-set-up d =
    let e : ◌≡◌ {A = ℕ} 0 2 = ap length (kept (linked_by not_set_up [] []) two small_two (d [] [])) in absurd (omega (arith, e))

-- two whole messages, granted
given_two : Given ids 24 (room 24) (λ k. two) (arrives sender two)
given_two = granted_back ids 24 (room 24) (λ k. two) (arrives sender two) (granted two small_two)

refuses-setups : DeliversFor refuses_setups → ⊥
refuses-setups d =
    let a = d ids 24 (room 24) (λ k. two) (arrives sender two) given_two in
    let e : ◌≡◌ {A = ℕ} 20 0 = sym a.some.sets_up.0 ∙ a.accepted a.some in
    absurd (omega (arith, e))

-- a datagram that is refused delivers nothing
either : (t : Bool) {xs : List (List ℕ)} → xs ≡ [] → cond t xs [] ≡ []
either true e = e
either false e = refl

all-refused : {ws rooms : List ℕ} {ds : List Datagram} {cs : List Call} → InTurn refuses_datagrams ws rooms ds cs → delivered_in ids 0 cs ≡ []
all-refused over = refl
all-refused (next {ws} {rooms} {out} {d} {n} {l} p r) =
    let m : message_in n l.answer d l.rooms ≡ [] = rw p.0 in
    ap₂ ◌++◌ (either (is_of ids 0 d) m) (all-refused r)

refuses-datagrams : DeliversFor refuses_datagrams → ⊥
refuses-datagrams d =
    let a = d ids 24 (room 24) (λ k. two) (arrives sender two) given_two in
    let e : ◌≡◌ {A = ℕ} 0 2 = ap length (sym (all-refused a.some.run) ∙ a.delivered a.some 0 (omega arith)) in
    absurd (omega (arith, e))

-- calls that answer 23, of which nothing was said
abbrev silent : List ℕ → List ℕ → List Datagram → List Call
silent ws rooms [] = []
silent ws rooms (d ∷ ds) =
    let l : TakeLeft = record { state = ws; rooms = rooms; answer = [] } in
    record { datagram = d; number = 23; left = l } ∷ silent ws rooms ds

silent_run : (ws rooms : List ℕ) (ds : List Datagram) → InTurn saying_nothing ws rooms ds (silent ws rooms ds)
silent_run ws rooms [] = over
silent_run ws rooms (d ∷ ds) = next {out = []} refl (silent_run ws rooms ds)

none_given : (ws rooms : List ℕ) (ds : List Datagram) → delivered_in ids 0 (silent ws rooms ds) ≡ []
none_given ws rooms [] = refl
none_given ws rooms (d ∷ ds) = ap₂ ◌++◌ (either (is_of ids 0 d) refl) (none_given ws rooms ds)

says_nothing : DeliversFor saying_nothing → ⊥
says_nothing d =
    let ds : List Datagram = arrives sender two in
    let a = d ids 24 (room 24) (λ k. two) ds given_two in
    let x : SetUpAndRun saying_nothing ids 24 (room 24) ds = record {
      was = a.some.was;
      number = a.some.number;
      state = a.some.state;
      sets_up = a.some.sets_up;
      calls = silent a.some.state (room 24) ds;
      run = silent_run a.some.state (room 24) ds;
    } in
    let e : ◌≡◌ {A = ℕ} 0 2 = ap length (sym (none_given a.some.state (room 24) ds) ∙ a.delivered x 0 (omega arith)) in
    absurd (omega (arith, e))

-- the run of calls that a contract says all of
module _ (C : InWords) where
  abbrev left_over_by : List ℕ → List ℕ → Datagram → TakeLeft
  left_over_by ws rooms d = record { state = C.state ws rooms d; rooms = C.rooms ws rooms d; answer = C.answer ws rooms d [] }

  abbrev callsBy : List ℕ → List ℕ → List Datagram → List Call
  callsBy ws rooms [] = []
  callsBy ws rooms (d ∷ ds) =
      record { datagram = d; number = C.number ws rooms d; left = left_over_by ws rooms d } ∷ callsBy (C.state ws rooms d) (C.rooms ws rooms d) ds

  run_by : (ws rooms : List ℕ) (ds : List Datagram) → InTurn (contracts_of C) ws rooms ds (callsBy ws rooms ds)
  run_by ws rooms [] = over
  run_by ws rooms (d ∷ ds) = next {out = []} (refl, refl) (run_by (C.state ws rooms d) (C.rooms ws rooms d) ds)

  from-setup : (ids : List ℕ) (R : ℕ) (rooms : List ℕ) (ds : List Datagram) → SetUpAndRun (contracts_of C) ids R rooms ds
  from-setup ids R rooms ds =
      let state : List ℕ = C.setup ids R (length rooms) [] in
      record {
        was = [];
        number = setup_number ids R (length rooms);
        state = state;
        sets_up = (refl, refl);
        calls = callsBy state rooms ds;
        run = run_by state rooms ds;
      }

first-only : DeliversFor (contracts_of first_only) → ⊥
unfolding missed_of keeping noted_of begun_of followed_of placed_of stepped_of good_sizes good fresh_of setup_of sent_to heading_by judged_of
    taken_by taken_of put_by rooms_by rooms_after message_of all_below joiner_in words_of setup_words take_number take_words take_rooms take_answer from-setup
first-only d =
    let a = d both_ids 24 (room 48) senders mix (granted_back both_ids 24 (room 48) senders mix granted_mix) in
    let e : ◌≡◌ {A = ℕ} 0 1 = ap length (a.delivered (from-setup first_only both_ids 24 (room 48) mix) 1 (omega arith)) in
    absurd (omega (arith, e))

pub no_wrong_call : NoWrongCall
no_wrong_call =
    record {
      with_ours = λ was out. refl;
      ours_meet = as_a_joiner;
      other-slice = other-slice;
      start-for-bytes = start-for-bytes;
      from-the-start = from-the-start;
      never-two = never-two;
      state-left = state-left;
      rooms-left = rooms-left;
      not-set-up = not-set-up;
      refuses-setups = refuses-setups;
      refuses-datagrams = refuses-datagrams;
      says_nothing = says_nothing;
      first-only = first-only;
    }

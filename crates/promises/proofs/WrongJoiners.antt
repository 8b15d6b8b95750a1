-- No wrong joiner meets demand 3: a small traffic for each, computed.
-- Assumes nothing.
use Prim.Native.Nat.{ℕ, zero, suc, ◌+◌, ◌-◌, ◌%◌, ◌≤◌, ◌<◌}
use Rattle.std.specs.Prelude.{Result, Ok, Err}
use Rattle.refusal.specs.declared.Refusal.{Refusal}
use Rattle.refusal.specs.declared.Refusal.TheVariants.{NoJoiner}
use Rattle.binding.specs.declared.BindingHeader.{BindingHeader}
use Rattle.channel.specs.declared.Step.{Step}
use mathlib.Core.Path.{◌≡◌, refl, sym, ap, ap₂, ◌∙◌}
use mathlib.Core.Bool.{Bool, true, false, cond, ◌&&◌, true≢false}
use mathlib.Core.List.{List, [], ◌∷◌, ◌++◌}
use native.Mathlib.Omega.{arith}
use native.Mathlib.Nat.{zero-add}
use borrow.Author.Tests.{le-leb}
use lib.ListN.{length, take, replicate}
use Rattle.binding.specs.Header.{counters, heading_in}
use Rattle.binding.specs.declared.MessagePart.TheVariants.{End, Whole}
use Rattle.channel.specs.Channel.{missed_of, keeping, noted_of, begun_of, followed_of, placed_of, stepped_of}
use Rattle.channel.specs.declared.Slice.{Slice}
use Rattle.channel.specs.declared.Outcome.{Outcome}
use Rattle.channel.specs.declared.Outcome.TheVariants.{Repeated, Delivered, Held, Stray, TooLong}
use Rattle.joiner.specs.Setup.{good_sizes, good, fresh_of, setup_of}
use Rattle.joiner.specs.declared.Joiner.{Joiner}
use Rattle.joiner.specs.Take.{sent_to, heading_by, judged_of, taken_by, taken_of, put_by, rooms_by, rooms_after, message_of}
use Rattle.promises.specs.Cases.{sender, datagrams, ids, room}
use Rattle.promises.specs.Senders.{Message, Sender, sent_by, after, arriving, arrives, most_lost, losses_within, good_messages, complete_of}
use Rattle.promises.specs.Traffic.{Datagram, is_of, of_channel, handed_back, Joining, delivered_by, our_joining}
use Rattle.promises.specs.Demand3.{Demand3For}
use Rattle.promises.specs.WrongJoiners.{heading_with, took_by, delivers, always, NeverDelivers, DeliversOnce, first_only}
use Rattle.promises.specs.WrongJoiners.{again_answered, stepping, testing, not_above, never, beginning_keeps, repeated_placed}
use Rattle.promises.specs.WrongJoiners.{stray_forgotten, shared_room, first_channel_only, NoWrongJoiner}
use Rattle.promises.proofs.SmallTraffic.{all_octets, Small, delivered_of, total, kept, one, lost, twice, from, wraps, small_wraps, two, small_two}
use Rattle.promises.proofs.SmallTraffic.{both_ids, senders, mix, granted_mix, first_byte}

our_step : (j : Joiner) (d : List ℕ) (x : Result BindingHeader Refusal) → heading_with stepped_of j d x ≡ heading_by j d x
unfolding sent_to heading_by
our_step j d (Err n) = refl
our_step j d (Ok h) = refl

with_our_step : (j : Joiner) (rooms : List ℕ) (d : Datagram) → (stepping stepped_of).take j rooms d ≡ our_joining.take j rooms d
unfolding judged_of taken_of rooms_after
with_our_step j rooms d = ap (λ (x : Result (ℕ × Step) Refusal). took_by j rooms d (cond (good j (length rooms)) x (Err NoJoiner))) (our_step j d (heading_in d))

-- a joiner that never delivers
module _ (J : Joining) (n : NeverDelivers J) where
  nothing_back : (o : Result Outcome Refusal) (d rooms : List ℕ) → ((m : ℕ) (p : Slice) → o ≡ Ok (Delivered m p) → ⊥) → handed_back o d rooms ≡ []
  nothing_back (Ok (Delivered m p)) d rooms h = absurd (h m p refl)
  nothing_back (Err n) d rooms h = refl
  nothing_back (Ok Repeated) d rooms h = refl
  nothing_back (Ok (Held m n)) d rooms h = refl
  nothing_back (Ok (Stray m)) d rooms h = refl
  nothing_back (Ok (TooLong m)) d rooms h = refl

  either : (t : Bool) {xs : List (List ℕ)} → xs ≡ [] → cond t xs [] ≡ []
  either true e = e
  either false e = refl

  nothing : (k : ℕ) (s : J.State) (rooms : List ℕ) (ds : List Datagram) → delivered_by J ids k s rooms ds ≡ []
  nothing k s rooms [] = refl
  nothing k s rooms (d ∷ ds) =
      let t = J.take s rooms d in
      ap₂ ◌++◌ (either (is_of ids k d) (nothing_back t.outcome d t.rooms (n s rooms d))) (nothing k t.state t.rooms ds)

  pub silent : Demand3For J → ⊥
  silent d =
      let e : ◌≡◌ {A = ℕ} 0 1 = ap length (sym (nothing 0 (J.start ids 24 (room 24)) (room 24) (arrives sender wraps)) ∙ kept J wraps small_wraps d) in
      absurd (omega (arith, e))

-- one answer to every datagram: a message of two pieces is delivered never or twice
not_delivered : (o : Result Outcome Refusal) → delivers o ≡ false → NeverDelivers (always o)
not_delivered o e s rooms d m p q = true≢false (sym (ap delivers q) ∙ e)

pub constant : (o : Result Outcome Refusal) → Demand3For (always o) → ⊥
constant (Ok (Delivered m p)) d = let e : ◌≡◌ {A = ℕ} 2 1 = ap length (kept (always (Ok (Delivered m p))) wraps small_wraps d) in absurd (omega (arith, e))
constant (Err n) d = silent (always (Err n)) (not_delivered (Err n) refl) d
constant (Ok Repeated) d = silent (always (Ok Repeated)) (not_delivered (Ok Repeated) refl) d
constant (Ok (Held m n)) d = silent (always (Ok (Held m n))) (not_delivered (Ok (Held m n)) refl) d
constant (Ok (Stray m)) d = silent (always (Ok (Stray m))) (not_delivered (Ok (Stray m)) refl) d
constant (Ok (TooLong m)) d = silent (always (Ok (TooLong m))) (not_delivered (Ok (TooLong m)) refl) d

pub greater_than : Demand3For (stepping (testing not_above)) → ⊥
unfolding missed_of keeping noted_of begun_of followed_of placed_of stepped_of good_sizes good fresh_of setup_of sent_to heading_by judged_of
    taken_by taken_of put_by rooms_by rooms_after message_of
greater_than d = let e : ◌≡◌ {A = ℕ} 0 1 = ap length (kept (stepping (testing not_above)) wraps small_wraps d) in absurd (omega (arith, e))

pub once : (J : Joining) → DeliversOnce J → Demand3For J → ⊥
once J o d =
    let e : length (delivered_of J two) ≡ 2 = ap length (kept J two small_two d) in
    absurd (omega (arith, e, o ids 0 24 (room 24) (arrives sender two)))

pub first-only : Demand3For first_only → ⊥
unfolding missed_of keeping noted_of begun_of followed_of placed_of stepped_of good_sizes good fresh_of setup_of sent_to heading_by judged_of
    taken_by taken_of put_by rooms_by rooms_after message_of
first-only d = let e : ◌≡◌ {A = ℕ} 1 2 = ap length (kept first_only two small_two d) in absurd (omega (arith, e))

-- a message that lacks its end, and a whole one in two pieces
abbrev broken_off : Sender
broken_off = from 7 ((record { bytes = 0xAA ∷ 0xBB ∷ 0xCC ∷ []; copies = 1 } ∷ lost 0xDD ∷ []) ∷ (one 0xEE ∷ one 0xFF ∷ []) ∷ [])

small_broken_off : Small broken_off
small_broken_off = record { counter = refl; messages = refl; losses = refl; bytes = refl; own = refl }

pub old_length_kept : Demand3For (stepping beginning_keeps) → ⊥
unfolding missed_of keeping noted_of begun_of followed_of placed_of stepped_of good_sizes good fresh_of setup_of sent_to heading_by judged_of
    taken_by taken_of put_by rooms_by rooms_after message_of
old_length_kept d = let e : ◌≡◌ {A = ℕ} 4 2 = ap total (kept (stepping beginning_keeps) broken_off small_broken_off d) in absurd (omega (arith, e))

-- the network repeats the end
abbrev end_twice : Sender
end_twice = from 7 ((one 0xAA ∷ twice 0xBB ∷ []) ∷ [])

small_end_twice : Small end_twice
small_end_twice = record { counter = refl; messages = refl; losses = refl; bytes = refl; own = refl }

pub end-twice : Demand3For again_answered → ⊥
unfolding missed_of keeping noted_of begun_of followed_of placed_of stepped_of good_sizes good fresh_of setup_of sent_to heading_by judged_of
    taken_by taken_of put_by rooms_by rooms_after message_of
end-twice d = let e : ◌≡◌ {A = ℕ} 2 1 = ap length (kept again_answered end_twice small_end_twice d) in absurd (omega (arith, e))

-- the network repeats a whole message
abbrev twice_whole : Sender
twice_whole = from 7 ((twice 0xAA ∷ []) ∷ [])

small_whole_twice : Small twice_whole
small_whole_twice = record { counter = refl; messages = refl; losses = refl; bytes = refl; own = refl }

pub whole_twice : Demand3For (stepping (testing never)) → ⊥
unfolding missed_of keeping noted_of begun_of followed_of placed_of stepped_of good_sizes good fresh_of setup_of sent_to heading_by judged_of
    taken_by taken_of put_by rooms_by rooms_after message_of
whole_twice d = let e : ◌≡◌ {A = ℕ} 2 1 = ap length (kept (stepping (testing never)) twice_whole small_whole_twice d) in absurd (omega (arith, e))

-- the network repeats a middle
abbrev middle_twice : Sender
middle_twice = from 7 ((one 0xAA ∷ twice 0xBB ∷ one 0xCC ∷ []) ∷ [])

small_middle_twice : Small middle_twice
small_middle_twice = record { counter = refl; messages = refl; losses = refl; bytes = refl; own = refl }

pub middle-twice : Demand3For (stepping repeated_placed) → ⊥
unfolding missed_of keeping noted_of begun_of followed_of placed_of stepped_of good_sizes good fresh_of setup_of sent_to heading_by judged_of
    taken_by taken_of put_by rooms_by rooms_after message_of
middle-twice d = let e : ◌≡◌ {A = ℕ} 4 3 = ap total (kept (stepping repeated_placed) middle_twice small_middle_twice d) in absurd (omega (arith, e))

-- n whole messages that are lost, and others behind them: by laws, since they are as many as there are counters
abbrev behind_lost : ℕ → List Message → List Message
behind_lost n ms = replicate n (lost 0 ∷ []) ++ ms

lost_arriving : (n c : ℕ) (ms : List Message) → c < counters → arriving sender c (sent_by (behind_lost n ms)) ≡ arriving sender ((c + n) % counters) (sent_by ms)
lost_arriving zero c ms b = let e : c ≡ (c + 0) % counters = omega (arith, b) in ap (λ (x : ℕ). arriving sender x (sent_by ms)) e
lost_arriving (suc n) c ms b =
    let e : (after c + n) % counters ≡ (c + suc n) % counters = omega arith in
    lost_arriving n (after c) ms (omega arith) ∙ ap (λ (x : ℕ). arriving sender x (sent_by ms)) e

lost_losses : (n g : ℕ) (ms : List Message) → losses_within true g (sent_by (behind_lost n ms)) ≡ losses_within true (g + n) (sent_by ms)
lost_losses zero g ms = let e : g ≡ g + 0 = omega arith in ap (λ (x : ℕ). losses_within true x (sent_by ms)) e
lost_losses (suc n) g ms =
    let e : suc g + n ≡ g + suc n = omega arith in
    lost_losses n (suc g) ms ∙ ap (λ (x : ℕ). losses_within true x (sent_by ms)) e

lost_good : (n : ℕ) (ms : List Message) → good_messages 24 (behind_lost n ms) ≡ good_messages 24 ms
lost_good zero ms = refl
lost_good (suc n) ms = lost_good n ms

lost_complete : (n : ℕ) (ms : List Message) → complete_of (behind_lost n ms) ≡ complete_of ms
lost_complete zero ms = refl
lost_complete (suc n) ms = lost_complete n ms

-- a whole message, a stray end, and a whole message with the counter of the first: all between are lost
abbrev last_one : List Message
last_one = (one 0xDD ∷ []) ∷ []

abbrev way_round : ℕ → Sender
way_round n = from 0 ((one 0xAA ∷ []) ∷ (lost 0xBB ∷ one 0xCC ∷ []) ∷ behind_lost n last_one)

abbrev three : List Datagram
three =
    datagrams
    (record { mark = Whole; counter = 0; piece = 0xAA ∷ [] }
    ∷ record { mark = End; counter = 2; piece = 0xCC ∷ [] }
    ∷ record { mark = Whole; counter = 0; piece = 0xDD ∷ [] }
    ∷ [])

module _ (n : ℕ) (round : (3 + n) % counters ≡ 0) (few : n ≤ most_lost) where
  arrives-three : arrives sender (way_round n) ≡ three
  arrives-three =
      ap (λ (ds : List Datagram). take 2 three ++ ds) (lost_arriving n 3 last_one (omega arith) ∙ ap (λ (c : ℕ). arriving sender c (sent_by last_one)) round)

  small-wayRound : Small (way_round n)
  small-wayRound =
      record {
        counter = refl;
        messages = lost_good n last_one;
        losses = lost_losses n 0 last_one ∙ ap (λ (x : ℕ). losses_within true x (sent_by last_one)) (zero-add n)
            ∙ ap (λ (b : Bool). b && true) (le-leb n most_lost few);
        bytes = ap all_octets arrives-three;
        own = ap (of_channel ids 0) arrives-three ∙ sym arrives-three;
      }

  strays : Demand3For (stepping stray_forgotten) → ⊥
  unfolding missed_of keeping noted_of begun_of followed_of placed_of stepped_of good_sizes good fresh_of setup_of sent_to heading_by judged_of
      taken_by taken_of put_by rooms_by rooms_after message_of
  strays d =
      let J = stepping stray_forgotten in
      let l : length (delivered_of J (way_round n))
      ≡ 1 = ap (λ (ds : List Datagram). length (delivered_by J ids 0 (J.start ids 24 (room 24)) (room 24) ds)) arrives-three in
      let r : length (complete_of (way_round n).messages) ≡ 2 = ap (λ (ms : List (List ℕ)). suc (length ms)) (lost_complete n last_one) in
      let e : ◌≡◌ {A = ℕ} 1 2 = sym l ∙ ap length (kept J (way_round n) small-wayRound d) ∙ r in
      absurd (omega (arith, e))

pub stray-forgotten : Demand3For (stepping stray_forgotten) → ⊥
stray-forgotten = strays (counters - 3) (omega arith) (omega arith)

pub shared-room : Demand3For (stepping shared_room) → ⊥
unfolding missed_of keeping noted_of begun_of followed_of placed_of stepped_of good_sizes good fresh_of setup_of sent_to heading_by judged_of
    taken_by taken_of put_by rooms_by rooms_after message_of
shared-room d = let e : ◌≡◌ {A = ℕ} 0xCC 0xAA = ap first_byte (d both_ids 24 (room 48) senders mix granted_mix 0 (omega arith)) in absurd (omega (arith, e))

pub first-channel-only : Demand3For (stepping first_channel_only) → ⊥
unfolding missed_of keeping noted_of begun_of followed_of placed_of stepped_of good_sizes good fresh_of setup_of sent_to heading_by judged_of
    taken_by taken_of put_by rooms_by rooms_after message_of
first-channel-only d = let e : ◌≡◌ {A = ℕ} 0 1 = ap length (d both_ids 24 (room 48) senders mix granted_mix 1 (omega arith)) in absurd (omega (arith, e))

pub no_wrong_joiner : NoWrongJoiner
no_wrong_joiner =
    record {
      with_our_step = with_our_step;
      silent = silent;
      constant = constant;
      once = once;
      first-only = first-only;
      greater_than = greater_than;
      old_length_kept = old_length_kept;
      end-twice = end-twice;
      whole_twice = whole_twice;
      middle-twice = middle-twice;
      stray-forgotten = stray-forgotten;
      shared-room = shared-room;
      first-channel-only = first-channel-only;
    }

-- A run over a joiner's words is a run over joiners; what a program in C reads out of an answer is what `take` answers by value.
-- Assumes nothing.
use Prim.Native.Nat.{ℕ, ◌+◌, ◌*◌, ◌≤◌, ◌<◌}
use Rattle.std.specs.Prelude.{Result, Ok, Err}
use Rattle.refusal.proofs.Numbers.{name-back}
use Rattle.refusal.specs.Refusal.{refused, number_of}
use Rattle.refusal.specs.declared.Refusal.{Refusal}
use mathlib.Core.Path.{◌≡◌, refl, sym, ap, ◌∙◌}
use mathlib.Core.Bool.{Bool, true, false, cond, not, ◌&&◌}
use mathlib.Core.List.{List, []}
use native.Mathlib.Omega.{arith}
use borrow.Author.Tests.{leb-true, ltb-true, eqb-true, eqb-false}
use lib.Dec.{leb, ltb, eqb}
use lib.ListN.{length, get_or}
use Rattle.wire.proofs.Cond.{and_left, and_right}
use Rattle.wire.proofs.AllBelow.{at-below}
use Rattle.wire.proofs.Runs.{length_written}
use Rattle.binding.specs.Header.{the_version, smallest_datagram, largest_datagram, version_in, heading_in, piece_in}
use Rattle.binding.specs.declared.BindingHeader.{BindingHeader}
use Rattle.channel.specs.Record.{channel_limit}
use Rattle.channel.specs.Outcomes.{number_given, left_over_by}
use Rattle.channel.specs.Channel.{room_of, stepped_of}
use Rattle.channel.specs.declared.Channel.{Channel}
use Rattle.channel.specs.declared.Room.{Room}
use Rattle.channel.specs.declared.Step.{Step}
use Rattle.channel.specs.declared.Slice.TheVariants as slice
use Rattle.channel.specs.declared.Outcome.{Outcome}
use Rattle.channel.specs.declared.Outcome.TheVariants.{Repeated, Delivered, Held, Stray, TooLong}
use Rattle.channel.proofs.Cases.{Stepped, again, whole, begins, stray, long, goes_on, ends, step-cases}
use Rattle.joiner.specs.Setup.{place_of, senders_of, channel_at, good}
use Rattle.joiner.specs.declared.Joiner.{Joiner}
use Rattle.joiner.specs.declared.Taken.{Taken}
use Rattle.joiner.specs.Take.{sent_to, heading_by, judged_of, taken_by, taken_of, rooms_after, message_of}
use Rattle.joiner.specs.JoinerWords.{record_at, sender_limit, record_in, is_record, are_records, is_joiner, joiner_in, record_words}
use Rattle.joiner.specs.Calls.{outcome_words, with_record, place_in, take_number, take_words, take_rooms, take_answer}
use Rattle.joiner.specs.Records.{stored_in}
use Rattle.joiner.specs.View.{View, view_of}
use Rattle.joiner.proofs.Stored.{stored_at, stored_joiner, is-joiner}
use Rattle.joiner.proofs.Standing.{standing_good}
use Rattle.joiner.proofs.Lookups.{senders-length}
use Rattle.promises.specs.Traffic.{Datagram, handed_back}
use Rattle.promises.specs.Linked.{message_in, outcome_from, ChannelLent, lying_in}
use Rattle.promises.proofs.Apart.{Underway}

-- a refusal has a number
abbrev pub numbered : Result Outcome Refusal → Bool
numbered (Err e) = not (eqb (number_of e) 0)
numbered (Ok Repeated) = true
numbered (Ok (Delivered m p)) = true
numbered (Ok (Held m n)) = true
numbered (Ok (Stray m)) = true
numbered (Ok (TooLong m)) = true

step_numbered : {room : Room} {ch : Channel} {c n : ℕ} {p : _} {s : Step} → Stepped room ch c n p s → numbered (Ok s.outcome) ≡ true
step_numbered (again r) = refl
step_numbered (whole r) = refl
step_numbered (begins r f) = refl
step_numbered (stray r z) = refl
step_numbered (long r) = refl
step_numbered (goes_on r z f) = refl
step_numbered (ends r z f) = refl

module _ (j : Joiner) (d : Datagram) where
  abbrev ok : Result (ℕ × Step) Refusal → Type 0
  ok x = numbered (taken_by j x).outcome ≡ true

  sent-numbered : (h : BindingHeader) → ok (sent_to j d h)
  unfolding sent_to taken_by
  sent-numbered h = go (ltb (place_of (senders_of j) h.sender) j.count)
    where
      k : ℕ
      k = place_of (senders_of j) h.sender

      go : (t : Bool) → ok (cond t (Ok (k, stepped_of (room_of j.room k) (channel_at j k) h.part h.counter (length (piece_in d)))) (refused 23))
      go true = step_numbered (step-cases (room_of j.room k) (channel_at j k) h.counter (length (piece_in d)) h.part)
      go false = refl

  heading-numbered : (t v : Bool) (h : BindingHeader) → ok (heading_by j d (cond t (cond v (Ok h) (refused 22)) (refused 21)))
  unfolding heading_by taken_by
  heading-numbered true true h = sent-numbered h
  heading-numbered true false h = refl
  heading-numbered false v h = refl

  judged-numbered : (t : Bool) → ok (cond t (heading_by j d (heading_in d)) (refused 20))
  unfolding taken_by
  judged-numbered true = heading-numbered (leb smallest_datagram (length d) && leb (length d) largest_datagram) (eqb (version_in d) the_version) _
  judged-numbered false = refl

pub taken_numbered : (j : Joiner) (rooms : List ℕ) (d : Datagram) → numbered (taken_of j rooms d).outcome ≡ true
unfolding taken_of judged_of
taken_numbered j rooms d = judged-numbered j d (good j (length rooms))

-- the answer's words read back
refused_back : {B : Type 0} (x y : B) (n : ℕ) → not (eqb n 0) ≡ true → cond (eqb n 0) x y ≡ y
refused_back x y n e = go (eqb n 0) e
  where
    go : (t : Bool) → not t ≡ true → cond t x y ≡ y
    go false q = refl
    go true q = let z : ◌≡◌ {A = ℕ} 0 1 = cc in absurd (omega arith)

outcome_back : (o : Result Outcome Refusal) (out : List ℕ) → numbered o ≡ true → outcome_from (number_given o) (outcome_words o out) ≡ o
outcome_back (Err r) out e = refused_back _ (refused (number_of r)) (number_of r) e ∙ ap Err (name-back r)
outcome_back (Ok Repeated) out e = refl
outcome_back (Ok (Delivered m (slice.Datagram p n))) out e = refl
outcome_back (Ok (Delivered m (slice.Rooms p n))) out e = refl
outcome_back (Ok (Held m n)) out e = refl
outcome_back (Ok (Stray m)) out e = refl
outcome_back (Ok (TooLong m)) out e = refl

no_message : {B : Type 0} (s : Bool) (x : List B) (n : ℕ) → not (eqb n 0) ≡ true → cond (eqb n 0 && s) x [] ≡ []
no_message s x n e = go (eqb n 0) e
  where
    go : (t : Bool) → not t ≡ true → cond (t && s) x [] ≡ []
    go false q = refl
    go true q = let z : ◌≡◌ {A = ℕ} 0 1 = cc in absurd (omega arith)

message_back : (o : Result Outcome Refusal) (out d rooms : List ℕ) → numbered o ≡ true → message_in (number_given o) (outcome_words o out) d rooms ≡ handed_back o d rooms
unfolding message_of
message_back (Err r) out d rooms e = no_message _ _ (number_of r) e
message_back (Ok Repeated) out d rooms e = refl
message_back (Ok (Delivered m (slice.Datagram p n))) out d rooms e = refl
message_back (Ok (Delivered m (slice.Rooms p n))) out d rooms e = refl
message_back (Ok (Held m n)) out d rooms e = refl
message_back (Ok (Stray m)) out d rooms e = refl
message_back (Ok (TooLong m)) out d rooms e = refl

-- so of a datagram taken
module _ (ws rooms : List ℕ) (d : Datagram) (out : List ℕ) where
  abbrev t : Taken
  t = taken_of (joiner_in ws) rooms d

  pub outcome-is : outcome_from (take_number ws rooms d) (take_answer ws rooms d out) ≡ t.outcome
  unfolding take_number take_answer
  outcome-is = outcome_back t.outcome out (taken_numbered (joiner_in ws) rooms d)

  pub message-is : message_in (take_number ws rooms d) (take_answer ws rooms d out) d (take_rooms ws rooms d)
      ≡ handed_back t.outcome d (rooms_after (joiner_in ws) rooms d)
  unfolding take_number take_answer take_rooms
  message-is = message_back t.outcome out d (rooms_after (joiner_in ws) rooms d) (taken_numbered (joiner_in ws) rooms d)

-- the joiner stays one of 130 words
unless_length : (o : Result Outcome Refusal) (old new : List ℕ) → length new ≡ length old → length (left_over_by o old new) ≡ length old
unless_length (Err n) old new e = refl
unless_length (Ok Repeated) old new e = e
unless_length (Ok (Delivered m p)) old new e = e
unless_length (Ok (Held m n)) old new e = e
unless_length (Ok (Stray m)) old new e = e
unless_length (Ok (TooLong m)) old new e = e

pub words_stay : (ws rooms : List ℕ) (d : Datagram) → length (take_words ws rooms d) ≡ length ws
unfolding take_words
words_stay ws rooms d =
    let j : Joiner = joiner_in ws in
    let x : Taken = taken_of j rooms d in
    let k : ℕ = place_in j d in
    unless_length x.outcome ws (with_record ws k x.joiner) (length_written ws (record_at k) (record_words (channel_at x.joiner k)))

-- channel k's words are its record's
seen_word : (w : ℕ) → w < 2 → cond (eqb w 1) 1 0 ≡ w
seen_word w h = go (eqb w 1) refl
  where
    go : (t : Bool) → eqb w 1 ≡ t → cond t 1 0 ≡ w
    go true e = sym (eqb-true w 1 e)
    go false e = let n : ¬ (w ≡ 1) = eqb-false w 1 e in omega (arith, n)

abbrev pub lying_by : View → ChannelLent
lying_by v = record { words = record_words v.channel; bytes = v.bytes }

pub lying_is : (ids : List ℕ) (R k : ℕ) (ws rooms : List ℕ) → k < length ids → Underway ids R (joiner_in ws) rooms
    → lying_in R k ws rooms ≡ lying_by (view_of (joiner_in ws) rooms k)
lying_is ids R k ws rooms h u =
    let i : is_joiner ws ≡ true = is-joiner ws (length rooms) u.stands.well in
    let s : joiner_in ws ≡ stored_in ws = stored_joiner ws i in
    let n : ℕ = get_or ws 0 0 in
    let few : n ≤ channel_limit = leb-true n channel_limit (and_left (leb n channel_limit) (are_records ws n) i) in
    let c : (joiner_in ws).count ≡ n = ap (λ (j : Joiner). j.count) s in
    let m : (joiner_in ws).count ≡ length ids =
    sym (senders-length (joiner_in ws) (standing_good u.stands).sizes.few u.stands.width) ∙ ap length u.senders in
    let l : k < n = omega arith in
    let r : is_record ws k ≡ true = at-below (is_record ws) n k (and_right (leb n channel_limit) (are_records ws n) i) l in
    let w : get_or ws (2 + 4 * k + 1) 0 < 2 =
    ltb-true (get_or ws (record_at k + 1) 0) 2 (and_right (ltb (get_or ws (record_at k) 0) sender_limit) (ltb (get_or ws (record_at k + 1) 0) 2) r) in
    let e : channel_at (joiner_in ws) k ≡ record_in ws k = ap (λ (j : Joiner). channel_at j k) s ∙ stored_at ws few k l in
    let size : (joiner_in ws).room ≡ R = u.size in
    rw (e, size, seen_word (get_or ws (2 + 4 * k + 1) 0) w)

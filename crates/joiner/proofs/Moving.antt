-- A joiner in its words that a datagram moves: the step that was taken, and the record that it leaves.
-- Assumes nothing.
use Prim.Native.Nat.{ℕ, ◌≤◌, ◌<◌}
use Rattle.std.specs.Prelude.{Option, Result, Ok, Err}
use Rattle.refusal.specs.declared.Refusal.{Refusal}
use Rattle.refusal.specs.declared.Refusal.TheVariants.{NoJoiner}
use Rattle.binding.specs.declared.BindingHeader.{BindingHeader}
use mathlib.Core.Path.{◌≡◌, refl, sym, ap, ◌∙◌}
use mathlib.Core.Bool.{Bool, true, false, cond}
use mathlib.Core.List.{List, []}
use native.Mathlib.Omega.{arith}
use borrow.Author.Tests.{leb-true}
use lib.Dec.{leb}
use lib.ListN.{length, get_or}
use lib.Seq.{get_or-set_same}
use Rattle.wire.specs.Bytes.{written}
use Rattle.wire.proofs.Cond.{and_left}
use Rattle.binding.specs.Header.{heading_in, part_carried, counter_in, piece_in}
use Rattle.channel.specs.Record.{channel_limit, new_channel}
use Rattle.channel.specs.declared.Channel.{Channel}
use Rattle.channel.specs.Channel.{room_of}
use Rattle.channel.specs.Outcomes.{number_given, left_over_by}
use Rattle.channel.specs.declared.Step.{Step}
use Rattle.channel.proofs.Cases.{Stepped, step-cases}
use Rattle.channel.specs.declared.Outcome.{Outcome}
use Rattle.channel.specs.declared.Outcome.TheVariants.{Repeated, Delivered, Held, Stray, TooLong}
use Rattle.joiner.specs.Setup.{fresh_of, channel_at, found_of}
use Rattle.joiner.specs.declared.Joiner.{Joiner}
use Rattle.joiner.specs.Take.{judged_of, sender_by, judged_by, taken_by, changed}
use Rattle.joiner.proofs.Judging.{Moved, judged-by, judged-moved, good-sizes}
use Rattle.joiner.specs.JoinerWords.{record_at, are_records, channels_in, is_joiner, joiner_in, record_words}
use Rattle.joiner.proofs.Stored.{stored-length, none_good, stored_joiner}
use Rattle.joiner.specs.Calls.{with_record, place_in, words_by}

-- a step that was taken
pub step-changes : (o : Outcome) (old new : List ℕ) → left_over_by (Ok o) old new ≡ new
step-changes Repeated old new = refl
step-changes (Delivered m p) old new = refl
step-changes (Held m n) old new = refl
step-changes (Stray m) old new = refl
step-changes (TooLong m) old new = refl

pub step-number : (o : Outcome) → 0 ≡ number_given (Ok o)
step-number Repeated = refl
step-number (Delivered m p) = refl
step-number (Held m n) = refl
step-number (Stray m) = refl
step-number (TooLong m) = refl

-- a joiner with a channel is one that the words are
pub some_joiner : (ws : List ℕ) (k : ℕ) → k < (joiner_in ws).count → is_joiner ws ≡ true
unfolding joiner_in fresh_of
some_joiner ws k h = go (is_joiner ws) h
  where
    go : (b : Bool) → k < (cond b (record { channels = channels_in ws (get_or ws 0 0); count = get_or ws 0 0; room = get_or ws 1 0 }) (fresh_of [] 0)).count → b ≡ true
    go true q = refl
    go false q = absurd (omega arith)

pub counted : (ws : List ℕ) (k : ℕ) → k < (joiner_in ws).count → k < get_or ws 0 0
unfolding joiner_in fresh_of
counted ws k h = go (is_joiner ws) h
  where
    go : (b : Bool) → k < (cond b (record { channels = channels_in ws (get_or ws 0 0); count = get_or ws 0 0; room = get_or ws 1 0 })
        (fresh_of [] 0)).count → k < get_or ws 0 0
    go true q = q
    go false q = absurd (omega arith)

-- words that are a joiner's
few_words : (ws : List ℕ) → is_joiner ws ≡ true → get_or ws 0 0 ≤ channel_limit
few_words ws e = leb-true (get_or ws 0 0) channel_limit (and_left (leb (get_or ws 0 0) channel_limit) (are_records ws (get_or ws 0 0)) e)

pub channels_length : (ws : List ℕ) → length (joiner_in ws).channels ≡ channel_limit
unfolding joiner_in fresh_of
channels_length ws = go (is_joiner ws) refl
  where
    go : (t : Bool) → is_joiner ws ≡ t
        → length (cond t (record { channels = channels_in ws (get_or ws 0 0); count = get_or ws 0 0; room = get_or ws 1 0 }) (fresh_of [] 0)).channels ≡ channel_limit
    go true e = stored-length ws (few_words ws e)
    go false e = refl

-- a room's size is the second word's, wherever it is asked for
same_room : {f : Result (Option (ℕ × Channel)) Refusal} (ws : List ℕ) (b y : ℕ) (r : Result BindingHeader Refusal) (n : ℕ)
    → f ≡ found_of (joiner_in ws) b y → judged_by f (get_or ws 1 0) r n ≡ judged_by f (joiner_in ws).room r n
unfolding found_of judged_by
same_room {f} ws b y r n e = go (is_joiner ws) refl
  where
    go : (t : Bool) → is_joiner ws ≡ t → judged_by f (get_or ws 1 0) r n ≡ judged_by f (joiner_in ws).room r n
    go true q = rw (stored_joiner ws q)
    go false q = let bad : f ≡ Err NoJoiner = e ∙ rw (none_good ws b q) in rw bad

pub judged_in : {f : Result (Option (ℕ × Channel)) Refusal} {r : Result BindingHeader Refusal} {y R : ℕ} {x : Result (ℕ × Step) Refusal}
    (ws : List ℕ) (b : ℕ) (d : List ℕ) → R ≡ get_or ws 1 0 → r ≡ heading_in d → y ≡ sender_by r → f ≡ found_of (joiner_in ws) b y → x ≡ judged_by f R r (length d) → x ≡ judged_of (joiner_in ws) b d
judged_in {f} {r} {y} {R} {x} ws b d eR er ey ef ex =
    judged-by (joiner_in ws) b d (channels_length ws) er ey ef (ex ∙ ap (λ (q : ℕ). judged_by f q r (length d)) eR ∙ same_room ws b y r (length d) ef)

-- the record that a step leaves
module _ (ws : List ℕ) (b : ℕ) (d : List ℕ) (k : ℕ) (s : Step) (e : judged_of (joiner_in ws) b d ≡ Ok (k, s)) where
  abbrev j : Joiner
  j = joiner_in ws

  pub moves : Moved j b d k s
  moves = judged-moved j b d k s e

  pub steps : Stepped (room_of j.room k) (channel_at j k) (counter_in d) (length (piece_in d)) (part_carried d) s
  steps = rw moves.step (step-cases (room_of j.room k) (channel_at j k) (counter_in d) (length (piece_in d)) (part_carried d))

  known : k < channel_limit
  known = omega (arith, (good-sizes j b moves.well).few, moves.known)

  pub words-moved : words_by ws (place_in j d) (taken_by j (Ok (k, s))) ≡ written ws (record_at k) (record_words s.channel)
  unfolding taken_by
  words-moved =
      let new : List ℕ = with_record ws (place_in j d) (changed j k s.channel) in
      let w : length j.channels ≡ channel_limit = channels_length ws in
      step-changes s.outcome ws new
      ∙ ap (λ (i : ℕ). with_record ws i (changed j k s.channel)) (sym moves.channel)
      ∙ ap (λ (c : Channel). written ws (record_at k) (record_words c)) (get_or-set_same j.channels k s.channel (new_channel 0) (omega (arith, known)))

-- The records of a joiner in its words, against the joiner that they stand for.
-- Assumes nothing.
use Prim.Native.Nat.{ℕ, zero, suc, ◌+◌, ◌-◌, ◌≤◌, ◌<◌}
use mathlib.Core.Path.{◌≡◌, refl, sym, ap, ◌∙◌}
use mathlib.Core.Bool.{Bool, true, false, ◌&&◌}
use mathlib.Core.List.{List, [], ◌∷◌, ◌++◌, append_assoc}
use native.Mathlib.Omega.{arith}
use borrow.Author.Tests.{ltb-true, ltb-false, lt-ltb, leb-true, le-leb}
use lib.Dec.{leb, ltb}
use lib.ListN.{length, get_or, replicate, length-append, length-replicate}
use lib.Seq.{get_or-append-add}
use Rattle.wire.proofs.Cond.{and_left, and_right, and_true}
use Rattle.wire.proofs.AllBelow.{at-below, all-below}
use Rattle.binding.specs.Header.{senders, counters}
use Rattle.channel.specs.Record.{channel_limit, new_channel, good_channel}
use Rattle.channel.specs.declared.Channel.{Channel}
use Rattle.joiner.specs.Setup.{fresh_of, channel_at, channels_of, distinct, every, good_sizes, good}
use Rattle.joiner.proofs.Places.{every-at, every-by}
use Rattle.joiner.proofs.Lookups.{channels_length, channels-at}
use Rattle.joiner.specs.JoinerWords.{record_at, sender_limit, seen_limit, record_in, is_record, are_records, records_in, is_joiner, joiner_in}
use Rattle.joiner.specs.Records.{Sized, stored_in, senders_in, good_record, good_records, are_good}

pub records_length : (ws : List ℕ) (n : ℕ) → length (records_in ws n) ≡ n
records_length ws zero = refl
records_length ws (suc n) = length-append (records_in ws n) (record_in ws n ∷ []) ∙ omega (arith, records_length ws n)

-- record k, whatever stands behind the records
record-at : (ws : List ℕ) (n k : ℕ) (r : List Channel) → k < n → get_or (records_in ws n ++ r) k (new_channel 0) ≡ record_in ws k
record-at ws zero k r h = absurd (omega arith)
record-at ws (suc n) k r h =
    ap (λ (u : List Channel). get_or u k (new_channel 0)) (append_assoc (records_in ws n) (record_in ws n ∷ []) r)
    ∙ go (ltb k n) refl (λ l. record-at ws n k (record_in ws n ∷ r) l)
  where
    go : (t : Bool) → ltb k n ≡ t → (k < n → get_or (records_in ws n ++ (record_in ws n ∷ r)) k (new_channel 0) ≡ record_in ws k)
        → get_or (records_in ws n ++ (record_in ws n ∷ r)) k (new_channel 0) ≡ record_in ws k
    go true e f = f (ltb-true k n e)
    go false e f =
        let s : k ≡ length (records_in ws n) + 0 = omega (arith, records_length ws n, ltb-false k n e) in
        let q : n ≡ k = omega (arith, ltb-false k n e) in
        ap (λ (m : ℕ). get_or (records_in ws n ++ (record_in ws n ∷ r)) m (new_channel 0)) s
        ∙ get_or-append-add (records_in ws n) (record_in ws n ∷ r) 0 (new_channel 0)
        ∙ ap (record_in ws) q

module _ (ws : List ℕ) (few : get_or ws 0 0 ≤ channel_limit) where
  pub stored-length : length (stored_in ws).channels ≡ channel_limit
  stored-length =
      let n : ℕ = get_or ws 0 0 in
      length-append (records_in ws n) (replicate (channel_limit - n) (new_channel 0))
      ∙ omega (arith, records_length ws n, length-replicate (channel_limit - n) (new_channel 0))

  pub stored_at : (k : ℕ) → k < get_or ws 0 0 → channel_at (stored_in ws) k ≡ record_in ws k
  stored_at k h = record-at ws (get_or ws 0 0) k (replicate (channel_limit - get_or ws 0 0) (new_channel 0)) h

-- what a good record says
pub record InRange (ws : List ℕ) (k : ℕ) : Type 0 where
  pub sender : get_or ws (record_at k) 0 < senders
  pub seen : get_or ws (record_at k + 1) 0 < seen_limit
  pub last : get_or ws (record_at k + 2) 0 < counters
  pub held : get_or ws (record_at k + 3) 0 ≤ get_or ws 1 0

module _ (ws : List ℕ) (k : ℕ) where
  abbrev first : Bool
  first = ltb (get_or ws (record_at k) 0) senders

  abbrev second : Bool
  second = ltb (get_or ws (record_at k + 1) 0) seen_limit

  abbrev third : Bool
  third = ltb (get_or ws (record_at k + 2) 0) counters

  abbrev fourth : Bool
  fourth = leb (get_or ws (record_at k + 3) 0) (get_or ws 1 0)

  pub kept-says : good_record ws k ≡ true → InRange ws k
  kept-says e =
      let p : (first && second) ≡ true = and_left (first && second) (third && fourth) e in
      let q : (third && fourth) ≡ true = and_right (first && second) (third && fourth) e in
      record {
        sender = ltb-true (get_or ws (record_at k) 0) senders (and_left first second p);
        seen = ltb-true (get_or ws (record_at k + 1) 0) seen_limit (and_right first second p);
        last = ltb-true (get_or ws (record_at k + 2) 0) counters (and_left third fourth q);
        held = leb-true (get_or ws (record_at k + 3) 0) (get_or ws 1 0) (and_right third fourth q);
      }

  pub says-kept : InRange ws k → good_record ws k ≡ true
  says-kept h =
      rw (
        lt-ltb (get_or ws (record_at k) 0) senders h.sender,
        lt-ltb (get_or ws (record_at k + 1) 0) seen_limit h.seen,
        lt-ltb (get_or ws (record_at k + 2) 0) counters h.last,
        le-leb (get_or ws (record_at k + 3) 0) (get_or ws 1 0) h.held,
      )

  pub kept_record : InRange ws k → is_record ws k ≡ true
  kept_record h =
      let s : get_or ws (record_at k) 0 < sender_limit = omega (arith, h.sender) in
      rw (lt-ltb (get_or ws (record_at k) 0) sender_limit s, lt-ltb (get_or ws (record_at k + 1) 0) seen_limit h.seen)

  pub kept-channel : InRange ws k → good_channel (get_or ws 1 0) (record_in ws k) ≡ true
  kept-channel h =
      rw (
        lt-ltb (get_or ws (record_at k) 0) senders h.sender,
        le-leb (get_or ws (record_at k + 3) 0) (get_or ws 1 0) h.held,
        lt-ltb (get_or ws (record_at k + 2) 0) counters h.last,
      )

  pub channel-kept : is_record ws k ≡ true → good_channel (get_or ws 1 0) (record_in ws k) ≡ true → good_record ws k ≡ true
  channel-kept e f =
      let a : first ≡ true = and_left first (fourth && third) f in
      let b : second ≡ true = and_right (ltb (get_or ws (record_at k) 0) sender_limit) second e in
      let c : (fourth && third) ≡ true = and_right first (fourth && third) f in
      rw (a, b, and_right fourth third c, and_left fourth third c)

-- words that are no joiner are not good, whatever the rooms
pub none_good : (ws : List ℕ) (b : ℕ) → is_joiner ws ≡ false → good (joiner_in ws) b ≡ false
unfolding joiner_in good good_sizes fresh_of
none_good ws b e = rw e

pub stored_joiner : (ws : List ℕ) → is_joiner ws ≡ true → joiner_in ws ≡ stored_in ws
unfolding joiner_in
stored_joiner ws e = rw e

pub is-joiner : (ws : List ℕ) (b : ℕ) → good (joiner_in ws) b ≡ true → is_joiner ws ≡ true
is-joiner ws b g = go (is_joiner ws) refl
  where
    go : (t : Bool) → is_joiner ws ≡ t → t ≡ true
    go true e = refl
    go false e = sym (none_good ws b e) ∙ g

same_answer : (a b : Bool) → (a ≡ true → b ≡ true) → (b ≡ true → a ≡ true) → a ≡ b
same_answer true b f g = sym (f refl)
same_answer false true f g = g refl
same_answer false false f g = refl

module _ (ws : List ℕ) (b : ℕ) (z : Sized ws) where
  abbrev n : ℕ
  n = get_or ws 0 0

  abbrev R : ℕ
  R = get_or ws 1 0

  pub well-joiner : are_good ws ≡ true → is_joiner ws ≡ true
  unfolding are_good
  well-joiner e =
      let g : good_records ws n ≡ true = and_left (good_records ws n) (distinct (senders_in ws)) e in
      let r : are_records ws n ≡ true = all-below (is_record ws) n (λ k h. kept_record ws k (kept-says ws k (at-below (good_record ws) n k g h))) in
      rw (le-leb n channel_limit z.few, r)

  channel-is : (k : ℕ) → k < n → get_or (channels_of (stored_in ws)) k (new_channel 0) ≡ record_in ws k
  channel-is k h = channels-at (stored_in ws) z.few (stored-length ws z.few) k h ∙ stored_at ws z.few k h

  count_is : length (channels_of (stored_in ws)) ≡ n
  count_is = channels_length (stored_in ws) z.few (stored-length ws z.few)

  -- the look's verdict is the joiner's
  pub good-well : good_sizes n R b ≡ true → good (joiner_in ws) b ≡ are_good ws
  unfolding good are_good
  good-well s = same_answer (good (joiner_in ws) b) (are_good ws) there back
    where
      chs : List Channel
      chs = channels_of (stored_in ws)

      there : good (joiner_in ws) b ≡ true → are_good ws ≡ true
      there g =
          let i : is_joiner ws ≡ true = is-joiner ws b g in
          let a : are_records ws n ≡ true = and_right (leb n channel_limit) (are_records ws n) i in
          let e : good (stored_in ws) b ≡ true = rw (stored_joiner ws i) at g in
          let q : (every (good_channel R) chs && distinct (senders_in ws))
          ≡ true = and_right (good_sizes n R b) (every (good_channel R) chs && distinct (senders_in ws)) e in
          let v : every (good_channel R) chs ≡ true = and_left (every (good_channel R) chs) (distinct (senders_in ws)) q in
          and_true (good_records ws n) (distinct (senders_in ws))
          (all-below (good_record ws) n
          (λ k h. channel-kept ws k (at-below (is_record ws) n k a h)
          (ap (good_channel R) (sym (channel-is k h)) ∙ every-at (good_channel R) (new_channel 0) chs k v (omega (arith, count_is)))))
          (and_right (every (good_channel R) chs) (distinct (senders_in ws)) q)

      back : are_good ws ≡ true → good (joiner_in ws) b ≡ true
      back e =
          let g : good_records ws n ≡ true = and_left (good_records ws n) (distinct (senders_in ws)) e in
          let d : distinct (senders_in ws) ≡ true = and_right (good_records ws n) (distinct (senders_in ws)) e in
          let v : every (good_channel R) chs ≡ true = every-by (good_channel R) (new_channel 0) chs (λ k h. go k (omega (arith, count_is)) g) in
          rw (stored_joiner ws (well-joiner e)) (rw (s, v, d))
        where
          go : (k : ℕ) → k < n → good_records ws n ≡ true → good_channel R (get_or chs k (new_channel 0)) ≡ true
          go k h g = ap (good_channel R) (channel-is k h) ∙ kept-channel ws k (kept-says ws k (at-below (good_record ws) n k g h))

-- The words of a joiner read back as that joiner: after a set-up that was accepted, and after every datagram.
-- Assumes nothing.
use Prim.Native.Nat.{ℕ, zero, suc, ◌+◌, ◌-◌, ◌≤◌, ◌<◌}
use mathlib.Core.Path.{◌≡◌, refl, sym, ap, ◌∙◌}
use mathlib.Core.Bool.{Bool, true, false}
use mathlib.Core.List.{List, [], ◌∷◌, ◌++◌}
use native.Mathlib.Omega.{arith}
use native.Mathlib.Nat.{add-zero}
use borrow.Author.Tests.{leb-true, ltb-true, ltb-false, lt-ltb, le-leb, eqb-true, eqb-false}
use lib.Dec.{leb, ltb, eqb}
use lib.ListN.{length, get_or, set, take, drop, replicate}
use lib.Seq.{length-take-le, set_at, set-append_left, get_or-append-add}
use Rattle.wire.specs.Bytes.{over, written}
use Rattle.wire.proofs.Runs.{written_in}
use Rattle.wire.proofs.Numbers.{read_before, read_behind}
use Rattle.channel.specs.Record.{channel_limit, new_channel}
use Rattle.channel.specs.declared.Channel.{Channel}
use Rattle.joiner.specs.Take.{changed}
use Rattle.wire.proofs.Cond.{and_left, and_right}
use Rattle.wire.proofs.AllBelow.{at-below, all-below}
use Rattle.joiner.specs.JoinerWords.{record_at, joiner_words, sender_limit, record_in, is_record, are_records, records_in}
use Rattle.joiner.specs.JoinerWords.{channels_in, is_joiner, joiner_in, record_words}
use Rattle.joiner.proofs.Stored.{records_length}
use Rattle.joiner.proofs.Storing.{seen_back, seen_small}

-- a word that was written is read
at_written : (ws : List ℕ) (p : ℕ) (b : List ℕ) (n : ℕ) → p ≤ length ws → get_or (over ws p b) (p + n) 0 ≡ get_or (b ++ drop (p + length b) ws) n 0
at_written ws p b n h =
    let t : length (take p ws) ≡ p = length-take-le p ws h in
    ap (λ (q : ℕ). get_or (over ws p b) (q + n) 0) (sym t) ∙ get_or-append-add (take p ws) (b ++ drop (p + length b) ws) n 0

-- one record written
module _ (ws : List ℕ) (k : ℕ) (ch : Channel) (w : length ws ≡ joiner_words) (l : k < channel_limit) where
  abbrev after : List ℕ
  after = over ws (record_at k) (record_words ch)

  word : (n : ℕ) → get_or after (record_at k + n) 0 ≡ get_or (record_words ch ++ drop (record_at k + 4) ws) n 0
  word n = at_written ws (record_at k) (record_words ch) n (omega arith)

  first : get_or after (record_at k) 0 ≡ ch.sender
  first = ap (λ (q : ℕ). get_or after q 0) (sym (add-zero (record_at k))) ∙ word 0

  own : record_in after k ≡ ch
  own = rw (first, word 1, word 2, word 3, seen_back ch.seen)

  own_is : ch.sender < sender_limit → is_record after k ≡ true
  own_is h = rw (first, word 1, lt-ltb ch.sender sender_limit h, seen_small ch.seen)

  before-is : (q : ℕ) → q < record_at k → get_or after q 0 ≡ get_or ws q 0
  before-is q h = read_before 0 ws (record_at k) (record_words ch) q (omega arith) (omega arith)

  behind-is : (q : ℕ) → record_at k + 4 ≤ q → get_or after q 0 ≡ get_or ws q 0
  behind-is q h = read_behind 0 ws (record_at k) (record_words ch) q (omega arith) (omega arith)

  other_word : (i n : ℕ) → n < 4 → (i ≡ k → ⊥) → get_or after (record_at i + n) 0 ≡ get_or ws (record_at i + n) 0
  other_word i n h d = go (ltb i k) refl
    where
      go : (b : Bool) → ltb i k ≡ b → get_or after (record_at i + n) 0 ≡ get_or ws (record_at i + n) 0
      go true e = before-is (record_at i + n) (omega (arith, ltb-true i k e))
      go false e = behind-is (record_at i + n) (let g : k < i = omega (arith, ltb-false i k e, d) in omega arith)

  other-first : (i : ℕ) → (i ≡ k → ⊥) → get_or after (record_at i) 0 ≡ get_or ws (record_at i) 0
  other-first i d = rw (add-zero (record_at i)) at (other_word i 0 (omega arith) d)

  other : (i : ℕ) → (i ≡ k → ⊥) → record_in after i ≡ record_in ws i
  other i d = rw (other-first i d, other_word i 1 (omega arith) d, other_word i 2 (omega arith) d, other_word i 3 (omega arith) d)

  other-is : (i : ℕ) → (i ≡ k → ⊥) → is_record after i ≡ is_record ws i
  other-is i d = rw (other-first i d, other_word i 1 (omega arith) d)

  still-records : ch.sender < sender_limit → (n : ℕ) → are_records ws n ≡ true → are_records after n ≡ true
  still-records h n e = all-below (is_record after) n (λ i l. go i (eqb i k) refl (at-below (is_record ws) n i e l))
    where
      go : (i : ℕ) (b : Bool) → eqb i k ≡ b → is_record ws i ≡ true → is_record after i ≡ true
      go i true q f = rw (eqb-true i k q) (own_is h)
      go i false q f = other-is i (eqb-false i k q) ∙ f

  records-below : (n : ℕ) → n ≤ k → records_in after n ≡ records_in ws n
  records-below zero h = refl
  records-below (suc n) h = rw (records-below n (omega arith), other n (λ e. omega arith))

  records-with : (n : ℕ) → k < n → records_in after n ≡ set (records_in ws n) k ch
  records-with zero h = absurd (omega arith)
  records-with (suc n) h = go (eqb n k) refl (λ g. records-with n g)
    where
      go : (b : Bool) → eqb n k ≡ b → (k < n → records_in after n ≡ set (records_in ws n) k ch) → records_in after (suc n) ≡ set (records_in ws (suc n)) k ch
      go true q f =
          let e : n ≡ k = eqb-true n k q in
          rw (e, records-below k (omega arith), own, set_at (records_in ws k) (record_in ws k) [] ch k (records_length ws k))
      go false q f =
          let g : k < n = omega (arith, eqb-false n k q) in
          rw (f g, other n (eqb-false n k q), set-append_left (records_in ws n) (record_in ws n ∷ []) k ch (omega (arith, records_length ws n)))

  channels-with : (n : ℕ) → k < n → channels_in after n ≡ set (channels_in ws n) k ch
  channels-with n h =
      ap (λ (u : List Channel). u ++ replicate (channel_limit - n) (new_channel 0)) (records-with n h)
      ∙ sym (set-append_left (records_in ws n) (replicate (channel_limit - n) (new_channel 0)) k ch (omega (arith, records_length ws n)))

-- words of a joiner with one record written are the words of the joiner with that record
pub record_back : (ws : List ℕ) (k : ℕ) (ch : Channel) → length ws ≡ joiner_words → is_joiner ws ≡ true → k < get_or ws 0 0 → ch.sender < sender_limit →
    joiner_in (written ws (record_at k) (record_words ch)) ≡ changed (joiner_in ws) k ch
unfolding joiner_in
record_back ws k ch w e h s =
    let n : ℕ = get_or ws 0 0 in
    let f : n ≤ channel_limit = leb-true n channel_limit (and_left (leb n channel_limit) (are_records ws n) e) in
    let l : k < channel_limit = omega arith in
    let v : List ℕ = over ws (record_at k) (record_words ch) in
    let a : written ws (record_at k) (record_words ch) ≡ v = written_in ws (record_at k) (record_words ch) (omega arith) in
    let e0 : get_or v 0 0 ≡ n = before-is ws k ch w l 0 (omega arith) in
    let e1 : get_or v 1 0 ≡ get_or ws 1 0 = before-is ws k ch w l 1 (omega arith) in
    let r : are_records v n ≡ true = still-records ws k ch w l s n (and_right (leb n channel_limit) (are_records ws n) e) in
    let c : channels_in v n ≡ set (channels_in ws n) k ch = channels-with ws k ch w l n h in
    rw (a, e, e0, e1, le-leb n channel_limit f, r, c)

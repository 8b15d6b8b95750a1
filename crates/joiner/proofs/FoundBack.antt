-- A joiner in its words is found as it is: the look at its words is the look at the joiner.
-- Assumes nothing.
use Prim.Native.Nat.{ℕ, zero, suc, ◌+◌, ◌-◌, ◌*◌, ◌≤◌, ◌<◌}
use Rattle.std.specs.Prelude.{Option, Some, None, Result, Ok, Err}
use Rattle.refusal.specs.declared.Refusal.{Refusal}
use Rattle.refusal.specs.declared.Refusal.TheVariants.{NoJoiner}
use mathlib.Core.Path.{◌≡◌, refl, sym, ap, ◌∙◌}
use mathlib.Core.Bool.{Bool, true, false, ◌&&◌, cond}
use mathlib.Core.List.{List, [], ◌∷◌, ◌++◌, map}
use native.Mathlib.Omega.{arith}
use native.Mathlib.Nat.{add-zero}
use borrow.Author.Tests.{ltb-true, leb-true, leb-false, lt-ltb, le-leb}
use lib.Dec.{leb, ltb}
use lib.ListN.{length, get_or, take, replicate, get_or-append}
use lib.Seq.{take-suc, take_at, get_or-append-add}
use Rattle.wire.proofs.Cond.{and_left, and_right}
use Rattle.wire.specs.All.{all_below}
use Rattle.wire.proofs.AllBelow.{all-below}
use Rattle.binding.specs.Header.{senders, counters}
use Rattle.channel.specs.Record.{channel_limit, new_channel, good_channel}
use Rattle.channel.specs.declared.Channel.{Channel}
use Rattle.joiner.specs.Setup.{sender_of, channel_at, channels_of, senders_of, place_of, distinct, every, good_sizes, good, found_of}
use Rattle.joiner.specs.declared.Joiner.{Joiner}
use Rattle.joiner.proofs.Places.{not_true_false, every-at}
use Rattle.joiner.proofs.Lookups.{channels_length, channels-at}
use Rattle.joiner.specs.JoinerWords.{record_at, joiner_words, sender_limit, record_in, is_record, are_records, records_in}
use Rattle.joiner.specs.JoinerWords.{is_joiner, joiner_in, record_words, records_words, words_of}
use Rattle.joiner.specs.Records.{stored_in}
use Rattle.joiner.proofs.Stored.{records_length, stored_at, none_good, stored_joiner}
use Rattle.joiner.proofs.Storing.{seen_back, seen_small, words-some, words-none}

-- the words of a joiner
record_word : (chs : List Channel) (i m : ℕ) → i < length chs → m < 4 →
    get_or (records_words chs) (4 * i + m) 0 ≡ get_or (record_words (get_or chs i (new_channel 0))) m 0
record_word [] i m h l = absurd (omega arith)
record_word (c ∷ cs) zero m h l =
    let e : 4 * 0 + m ≡ m = omega arith in
    ap (λ (q : ℕ). get_or (record_words c ++ records_words cs) q 0) e ∙ get_or-append (record_words c) (records_words cs) 0 m l
record_word (c ∷ cs) (suc i) m h l =
    let e : 4 * suc i + m ≡ 4 + (4 * i + m) = omega arith in
    ap (λ (q : ℕ). get_or (record_words c ++ records_words cs) q 0) e ∙ get_or-append-add (record_words c) (records_words cs) (4 * i + m) 0
    ∙ record_word cs i m (omega arith) l

module _ (n R : ℕ) (chs : List Channel) where
  abbrev all : List ℕ
  all = n ∷ R ∷ records_words chs

  module _ (i : ℕ) (h : i < length chs) where
    word : (m : ℕ) → m < 4 → get_or all (record_at i + m) 0 ≡ get_or (record_words (get_or chs i (new_channel 0))) m 0
    word m l =
        let e : record_at i + m ≡ 2 + (4 * i + m) = omega arith in
        ap (λ (q : ℕ). get_or all q 0) e ∙ get_or-append-add (n ∷ R ∷ []) (records_words chs) (4 * i + m) 0 ∙ record_word chs i m h l

    first : get_or all (record_at i) 0 ≡ (get_or chs i (new_channel 0)).sender
    first = ap (λ (q : ℕ). get_or all q 0) (sym (add-zero (record_at i))) ∙ word 0 (omega arith)

    record_is : record_in all i ≡ get_or chs i (new_channel 0)
    record_is = rw (first, word 1 (omega arith), word 2 (omega arith), word 3 (omega arith), seen_back (get_or chs i (new_channel 0)).seen)

    is_one : (get_or chs i (new_channel 0)).sender < sender_limit → is_record all i ≡ true
    is_one s = rw (first, word 1 (omega arith), lt-ltb (get_or chs i (new_channel 0)).sender sender_limit s, seen_small (get_or chs i (new_channel 0)).seen)

  records-are : (k : ℕ) → k ≤ length chs → records_in all k ≡ take k chs
  records-are zero h = refl
  records-are (suc k) h = rw (records-are k (omega arith), record_is k (omega arith), take-suc chs k (new_channel 0) (omega arith))

  all-records : (k : ℕ) → k ≤ length chs → ((i : ℕ) → i < k → (get_or chs i (new_channel 0)).sender < sender_limit) → are_records all k ≡ true
  all-records k h s = all-below (is_record all) k (λ i l. is_one i (omega arith) (s i l))

none_found : (j : Joiner) (b x : ℕ) → good j b ≡ false → found_of j b x ≡ (Err NoJoiner)
unfolding found_of
none_found j b x e = rw e

-- a joiner of no more channels than there can be
module _ (j : Joiner) (w : length j.channels ≡ channel_limit) (h : j.count ≤ channel_limit) where
  abbrev ws : List ℕ
  ws = j.count ∷ j.room ∷ records_words j.channels

  abbrev stored : Joiner
  stored = stored_in ws

  records-of : records_in ws j.count ≡ channels_of j
  records-of = records-are j.count j.room j.channels j.count (omega arith)

  same-channels : channels_of stored ≡ channels_of j
  same-channels = take_at (records_in ws j.count) (replicate (channel_limit - j.count) (new_channel 0)) j.count (records_length ws j.count) ∙ records-of

  same_at : (k : ℕ) → k < j.count → channel_at stored k ≡ channel_at j k
  same_at k l = stored_at ws h k l ∙ record_is j.count j.room j.channels k (omega arith)

  same_good : (b : ℕ) → good stored b ≡ good j b
  unfolding good
  same_good b = ap (λ (l : List Channel). good_sizes j.count j.room b && (every (good_channel j.room) l && distinct (map sender_of l))) same-channels

  same-found : (b x : ℕ) → found_of stored b x ≡ found_of j b x
  unfolding found_of
  same-found b x =
      ap (λ (t : Bool). cond t (there stored (place_of (senders_of stored) x)) (Err NoJoiner)) (same_good b)
      ∙ ap (λ (l : List Channel). cond (good j b) (there stored (place_of (map sender_of l) x)) (Err NoJoiner)) same-channels
      ∙ ap (λ (f : Result (Option (ℕ × Channel)) Refusal). cond (good j b) f (Err NoJoiner))
      (go (place_of (senders_of j) x) (ltb (place_of (senders_of j) x) j.count) refl)
    where
      there : Joiner → ℕ → Result (Option (ℕ × Channel)) Refusal
      there i k = Ok (cond {A = Option (ℕ × Channel)} (ltb k j.count) (Some (k, channel_at i k)) None)

      go : (k : ℕ) (t : Bool) → ltb k j.count ≡ t → there stored k ≡ there j k
      go k true q = ap (λ (c : Channel). Ok (cond {A = Option (ℕ × Channel)} (ltb k j.count) (Some (k, c)) None)) (same_at k (ltb-true k j.count q))
      go k false q = rw q

  good-joiner : (b : ℕ) → good j b ≡ true → is_joiner ws ≡ true
  unfolding good
  good-joiner b g =
      rw (le-leb j.count channel_limit h, all-records j.count j.room j.channels j.count (omega arith) (λ i l. small i l))
    where
      each : every (good_channel j.room) (channels_of j) ≡ true
      each =
          and_left (every (good_channel j.room) (channels_of j)) (distinct (senders_of j))
          (and_right (good_sizes j.count j.room b) (every (good_channel j.room) (channels_of j) && distinct (senders_of j)) g)

      small : (i : ℕ) → i < j.count → (channel_at j i).sender < sender_limit
      small i l =
          let ch : Channel = channel_at j i in
          let ok : Channel → Bool = good_channel j.room in
          let f : get_or (channels_of j) i (new_channel 0) ≡ ch = channels-at j h w i l in
          let q : i < length (channels_of j) = omega (arith, channels_length j h w) in
          let e : good_channel j.room ch ≡ true = ap ok (sym f) ∙ every-at ok (new_channel 0) (channels_of j) i each q in
          omega (arith, ltb-true ch.sender senders (and_left (ltb ch.sender senders) (leb ch.held j.room && ltb ch.last counters) e))

  not-joiner : (b : ℕ) → is_joiner ws ≡ false → good j b ≡ false
  not-joiner b q = not_true_false (good j b) no
    where
      no : good j b ≡ true → ⊥
      no g =
          let y : true ≡ false = sym (good-joiner b g) ∙ q in
          let z : ◌≡◌ {A = ℕ} 0 1 = cc in
          omega arith

  found-stored : (b x : ℕ) → found_of (joiner_in ws) b x ≡ found_of j b x
  found-stored b x = go (is_joiner ws) refl
    where
      go : (t : Bool) → is_joiner ws ≡ t → found_of (joiner_in ws) b x ≡ found_of j b x
      go true q = ap (λ (i : Joiner). found_of i b x) (stored_joiner ws q) ∙ same-found b x
      go false q = none_found (joiner_in ws) b x (none_good ws b q) ∙ sym (none_found j b x (not-joiner b q))

  good-stored : (b : ℕ) → good (joiner_in ws) b ≡ good j b
  good-stored b = go (is_joiner ws) refl
    where
      go : (t : Bool) → is_joiner ws ≡ t → good (joiner_in ws) b ≡ good j b
      go true q = ap (λ (i : Joiner). good i b) (stored_joiner ws q) ∙ same_good b
      go false q = none_good ws b q ∙ sym (not-joiner b q)

  -- the joiner of j's channels; where the records past the count are fresh, as after a set-up, it is j itself
  pub words_back : ((i : ℕ) → i < j.count → (channel_at j i).sender < sender_limit) →
      joiner_in (words_of j) ≡ record { channels = channels_of j ++ replicate (channel_limit - j.count) (new_channel 0); count = j.count; room = j.room }
  words_back s =
      let c : are_records ws j.count ≡ true = all-records j.count j.room j.channels j.count (omega arith) s in
      let i : is_joiner ws ≡ true = rw (le-leb j.count channel_limit h, c) in
      ap joiner_in (words-some j h) ∙ stored_joiner ws i
      ∙ ap (λ (l : List Channel). record { channels = l ++ replicate (channel_limit - j.count) (new_channel 0); count = j.count; room = j.room }) records-of

-- one of more channels than there can be
none_in : (b : ℕ) → good (joiner_in (replicate joiner_words 0)) b ≡ false
unfolding all_below joiner_in good good_sizes
none_in b = refl

too_many : (j : Joiner) (b : ℕ) → leb j.count channel_limit ≡ false → good j b ≡ false
unfolding good good_sizes
too_many j b q = go (leb 1 j.count) refl
  where
    go : (t : Bool) → leb 1 j.count ≡ t → good j b ≡ false
    go true p = rw (p, q)
    go false p = rw p

-- the laws of the one look
pub good_back : (j : Joiner) (b : ℕ) → length j.channels ≡ channel_limit → good (joiner_in (words_of j)) b ≡ good j b
good_back j b w = go (leb j.count channel_limit) refl
  where
    go : (t : Bool) → leb j.count channel_limit ≡ t → good (joiner_in (words_of j)) b ≡ good j b
    go true q =
        let h : j.count ≤ channel_limit = leb-true j.count channel_limit q in
        ap (λ (v : List ℕ). good (joiner_in v) b) (words-some j h) ∙ good-stored j w h b
    go false q = ap (λ (v : List ℕ). good (joiner_in v) b) (sym (words-none j (leb-false j.count channel_limit q))) ∙ none_in b ∙ sym (too_many j b q)

pub found_back : (j : Joiner) (b x : ℕ) → length j.channels ≡ channel_limit → found_of (joiner_in (words_of j)) b x ≡ found_of j b x
found_back j b x w = go (leb j.count channel_limit) refl
  where
    go : (t : Bool) → leb j.count channel_limit ≡ t → found_of (joiner_in (words_of j)) b x ≡ found_of j b x
    go true q =
        let h : j.count ≤ channel_limit = leb-true j.count channel_limit q in
        ap (λ (v : List ℕ). found_of (joiner_in v) b x) (words-some j h) ∙ found-stored j w h b x
    go false q =
        ap (λ (v : List ℕ). found_of (joiner_in v) b x) (sym (words-none j (leb-false j.count channel_limit q)))
        ∙ none_found (joiner_in (replicate joiner_words 0)) b x (none_in b)
        ∙ sym (none_found j b x (too_many j b q))

pub looked : {f : Result (Option (ℕ × Channel)) Refusal} {ws : List ℕ} (j : Joiner) (b x : ℕ) → length j.channels ≡ channel_limit → ws ≡ words_of j →
    f ≡ found_of (joiner_in ws) b x → f ≡ found_of j b x
looked j b x w ew ef = ef ∙ ap (λ (v : List ℕ). found_of (joiner_in v) b x) ew ∙ found_back j b x w

-- What the functions of the look show at their returns.
-- Assumes nothing.
use Prim.Native.Nat.{ℕ, ◌+◌, ◌≤◌, ◌<◌}
use Rattle.std.specs.Prelude.{Option, Some, None, Ok, Err}
use Rattle.refusal.specs.declared.Refusal.TheVariants.{NoJoiner}
use mathlib.Core.Path.{◌≡◌, refl, sym, ap, ◌∙◌}
use mathlib.Core.Bool.{Bool, true, false, ◌&&◌, ◌||◌, cond}
use mathlib.Core.List.{List}
use native.Mathlib.Nat.{zero-add}
use native.Mathlib.Omega.{arith}
use borrow.Author.Count.{below_more}
use borrow.Author.Tests.{ltb-true, ltb-false, leb-true, lt-ltb, le-ltb}
use mir.Syntax.{w16}
use mir.Val.{Fits}
use lib.Bits.{bit_or}
use lib.Dec.{leb, ltb}
use lib.ListN.{length, get_or}
use Rattle.wire.proofs.Cond.{and_left, and_right, and_true, neither}
use Rattle.std.specs.Bool.{MatchBool}
use Rattle.std.specs.List.{range_with_len, AllWithin, HoldsAt}
use Rattle.std.proofs.lemmas.List.FromFn.{length-range_with_len, get_or-range_with_len}
use Rattle.wire.specs.All.{all_below}
use Rattle.wire.proofs.AllBelow.{at-below, all-below, stop-below}
use Rattle.wire.proofs.Bits.{or_left, or_right}
use Rattle.binding.specs.Header.{senders, counters}
use Rattle.channel.specs.Record.{channel_limit, good_channel}
use Rattle.channel.specs.declared.Channel.{Channel}
use Rattle.joiner.specs.Setup.{place_of, distinct, sender_of, senders_of, channels_of, channel_at, every, good_sizes, good, found_of}
use Rattle.joiner.specs.declared.Joiner.{Joiner}
use Rattle.joiner.proofs.Places.{not_true_false, is_distinct}
use Rattle.joiner.proofs.Lookups.{few_channels, senders-length, senders-at, found_here, found_nowhere, twice, never-twice}
use Rattle.joiner.specs.JoinerWords.{record_at, joiner_words, seen_limit, record_in, joiner_in}
use Rattle.joiner.specs.Records.{Sized, stored_in, senders_in, good_record, good_records, are_good, found_at}
use Rattle.joiner.proofs.Stored.{stored-length, stored_at, kept-says, says-kept, stored_joiner, is-joiner, well-joiner, good-well}

-- `find` and `are_distinct`
module _ (ws : List ℕ) (z : Sized ws) where
  sender-is : (k : ℕ) → k < get_or ws 0 0 → (channel_at (stored_in ws) k).sender ≡ get_or ws (record_at k) 0
  sender-is k h = ap sender_of (stored_at ws z.few k h)

  module _ (x i : ℕ) (none : (k : ℕ) → k < i → get_or ws (record_at k) 0 ≡ x → ⊥) where
    none_before : i ≤ get_or ws 0 0 → (k : ℕ) → k < i → (channel_at (stored_in ws) k).sender ≡ x → ⊥
    none_before l k h e = none k h (sym (sender-is k (omega arith)) ∙ e)

    pub found_first : i < get_or ws 0 0 → get_or ws (record_at i) 0 ≡ x → i ≡ place_of (senders_in ws) x
    found_first l e = found_here (stored_in ws) z.few (stored-length ws z.few) x i (none_before (omega arith)) (omega arith) (sender-is i l ∙ e)

    pub found_none : i ≤ get_or ws 0 0 → get_or ws 0 0 ≤ i → get_or ws 0 0 ≡ place_of (senders_in ws) x
    found_none l m =
        let e : get_or ws 0 0 ≡ i = omega arith in
        e ∙ found_nowhere (stored_in ws) z.few (stored-length ws z.few) x i (none_before l) (omega arith) (omega arith)

  pub stands-twice : {p : ℕ} (i : ℕ) → i < get_or ws 0 0 → p ≡ place_of (senders_in ws) (get_or ws (record_at i) 0) → p < i → false ≡ distinct (senders_in ws)
  stands-twice i l e h =
      twice (stored_in ws) z.few (stored-length ws z.few) i (omega arith) (e ∙ ap (place_of (senders_in ws)) (sym (sender-is i l))) h

  pub stands-once : (i : ℕ) → ((k : ℕ) → k < i → k ≤ place_of (senders_in ws) (get_or ws (record_at k) 0)) → i ≤ get_or ws 0 0
      → get_or ws 0 0 ≤ i → true ≡ distinct (senders_in ws)
  stands-once i f l m = never-twice (stored_in ws) z.few (stored-length ws z.few) i go (omega arith)
    where
      go : (k : ℕ) → k < i → k ≤ place_of (senders_in ws) (channel_at (stored_in ws) k).sender
      go k h = rw (sender-is k (omega arith)) (f k h)

-- `rise`
-- what is known of the first i records: their IDs rise and are below `next`, and each word is within what they were put
-- together to
pub record Risen (ws : List ℕ) (i next seens lasts : ℕ) : Type 0 where
  pub below : (k : ℕ) → k < i → get_or ws (record_at k) 0 < next
  pub pairs : (a b : ℕ) → a < b → b < i → get_or ws (record_at a) 0 < get_or ws (record_at b) 0
  pub seen : (k : ℕ) → k < i → get_or ws (record_at k + 1) 0 ≤ seens
  pub last : (k : ℕ) → k < i → get_or ws (record_at k + 2) 0 ≤ lasts
  pub held : (k : ℕ) → k < i → get_or ws (record_at k + 3) 0 ≤ get_or ws 1 0

pub risen_none : (ws : List ℕ) → Risen ws 0 0 0 0
risen_none ws =
    record {
      below = λ k h. absurd (omega arith);
      pairs = λ a b h l. absurd (omega arith);
      seen = λ k h. absurd (omega arith);
      last = λ k h. absurd (omega arith);
      held = λ k h. absurd (omega arith);
    }

module _ (ws : List ℕ) (i : ℕ) where
  abbrev id : ℕ
  id = get_or ws (record_at i) 0

  abbrev seenIt : ℕ
  seenIt = get_or ws (record_at i + 1) 0

  abbrev lastIt : ℕ
  lastIt = get_or ws (record_at i + 2) 0

  pub risen-more : (next seens lasts : ℕ) → Risen ws i next seens lasts → (ltb id next || ltb (get_or ws 1 0) (get_or ws (record_at i + 3) 0)) ≡ false
      → Risen ws (i + 1) (id + 1) (bit_or seens seenIt) (bit_or lasts lastIt)
  risen-more next seens lasts old e =
      record {
        below = below_more (λ k. get_or ws (record_at k) 0 < id + 1) i (λ k h. omega (arith, rises k h)) (omega arith);
        pairs = λ a b h l. below_more (λ m. a < m → get_or ws (record_at a) 0 < get_or ws (record_at m) 0) i (λ m k g. old.pairs a m g k) (λ g. rises a g) b l h;
        seen = below_more (λ k. get_or ws (record_at k + 1) 0 ≤ bit_or seens seenIt) i
            (λ k h. omega (arith, old.seen k h, or_left seens seenIt)) (or_right seens seenIt);
        last = below_more (λ k. get_or ws (record_at k + 2) 0 ≤ bit_or lasts lastIt) i
            (λ k h. omega (arith, old.last k h, or_left lasts lastIt)) (or_right lasts lastIt);
        held = below_more (λ k. get_or ws (record_at k + 3) 0 ≤ get_or ws 1 0) i old.held fits;
      }
    where
      this : next ≤ id
      this = ltb-false id next (neither (ltb id next) (ltb (get_or ws 1 0) (get_or ws (record_at i + 3) 0)) e).0

      rises : (a : ℕ) → a < i → get_or ws (record_at a) 0 < id
      rises a h = omega (arith, this, old.below a h)

      fits : get_or ws (record_at i + 3) 0 ≤ get_or ws 1 0
      fits = ltb-false (get_or ws 1 0) (get_or ws (record_at i + 3) 0) (neither (ltb id next) (ltb (get_or ws 1 0) (get_or ws (record_at i + 3) 0)) e).1

pub risen_all : (ws : List ℕ) (i next seens lasts : ℕ) → Sized ws → get_or ws 0 0 ≤ i → Risen ws i next seens lasts
    → (leb next senders && (ltb seens seen_limit && ltb lasts counters)) ≡ true → are_good ws ≡ true
unfolding are_good
risen_all ws i next seens lasts z m r e = and_true (good_records ws (get_or ws 0 0)) (distinct (senders_in ws))
    (all-below (good_record ws) (get_or ws 0 0) kept) (is_distinct (senders_in ws) once)
  where
    rest : (ltb seens seen_limit && ltb lasts counters) ≡ true
    rest = and_right (leb next senders) (ltb seens seen_limit && ltb lasts counters) e

    few-ids : next ≤ senders
    few-ids = leb-true next senders (and_left (leb next senders) (ltb seens seen_limit && ltb lasts counters) e)

    all_seen : seens < seen_limit
    all_seen = ltb-true seens seen_limit (and_left (ltb seens seen_limit) (ltb lasts counters) rest)

    all-last : lasts < counters
    all-last = ltb-true lasts counters (and_right (ltb seens seen_limit) (ltb lasts counters) rest)

    kept : (k : ℕ) → k < get_or ws 0 0 → good_record ws k ≡ true
    kept k h =
        let q : k < i = omega arith in
        says-kept ws k
        (record {
          sender = omega (arith, r.below k q, few-ids);
          seen = omega (arith, r.seen k q, all_seen);
          last = omega (arith, r.last k q, all-last);
          held = r.held k q;
        })

    once : (a b : ℕ) → a < b → b < length (senders_in ws) → get_or (senders_in ws) a 0 ≡ get_or (senders_in ws) b 0 → ⊥
    once a b h k f =
        let w : length (stored_in ws).channels ≡ channel_limit = stored-length ws z.few in
        let c : b < get_or ws 0 0 = omega (arith, senders-length (stored_in ws) z.few w) in
        let p : get_or ws (record_at a) 0 < get_or ws (record_at b) 0 = r.pairs a b h (omega arith) in
        let x : get_or (senders_in ws) a 0 ≡ get_or ws (record_at a) 0 = senders-at (stored_in ws) z.few w a (omega arith)
        ∙ ap sender_of (stored_at ws z.few a (omega arith)) in
        let y : get_or (senders_in ws) b 0 ≡ get_or ws (record_at b) 0 = senders-at (stored_in ws) z.few w b c ∙ ap sender_of (stored_at ws z.few b c) in
        omega arith

-- `record_in` and `found`
module _ (ws : List ℕ) (k : ℕ) where
  pub id_fits : good_record ws k ≡ true → Fits w16 (get_or ws (record_at k) 0)
  id_fits e = record { fits = omega (arith, (kept-says ws k e).sender) }

  module _ (e : are_good ws ≡ true) {n : ℕ} (en : n ≡ get_or ws 0 0) where
    pub good_one : k < n → good_record ws k ≡ true
    unfolding are_good
    good_one h = at-below (good_record ws) (get_or ws 0 0) k (and_left (good_records ws (get_or ws 0 0)) (distinct (senders_in ws)) e) (omega arith)

    pub found-one : {ch : Channel} → k < n → ch ≡ record_in ws k → Some (k, ch) ≡ found_at ws k
    unfolding found_at
    found-one h f = let l : k < get_or ws 0 0 = omega arith in rw (lt-ltb k (get_or ws 0 0) l, f)

    pub found-no-one : n ≤ k → None ≡ found_at ws k
    unfolding found_at
    found-no-one h = let l : get_or ws 0 0 ≤ k = omega arith in rw (le-ltb k (get_or ws 0 0) l)

-- `each_is_good`: what `all` over the records' places answers
pub each-good : (t : Bool) (f : ℕ → Bool) (n : ℕ) →
    MatchBool t (AllWithin (λ k. f k ≡ true) (range_with_len 0 n) 0 (length (range_with_len 0 n)))
    ((k : ℕ) × (k < length (range_with_len 0 n)) × HoldsAt (λ k. f k ≡ false) (range_with_len 0 n) k)
    → t ≡ all_below f n
each-good true f n h =
    sym (all-below f n (λ i l. rw (get_or-range_with_len 0 n i 0 l ∙ zero-add i) at (h i 0 (omega arith) (omega (arith, length-range_with_len 0 n)))))
each-good false f n h =
    let l : h.0 < n = omega (arith, h.1, length-range_with_len 0 n) in
    stop-below f n h.0 false (sym (rw (get_or-range_with_len 0 n h.0 0 l ∙ zero-add h.0) at (h.2 0))) refl l

-- `are_good` and `are_each_good`
pub good_rising : {t : Bool} (ws : List ℕ) → (t ≡ true → are_good ws ≡ true) → t ≡ true → true ≡ are_good ws
good_rising ws f e = sym (f e)

module _ {t : Bool} (ws : List ℕ) (e : t ≡ good_records ws (get_or ws 0 0)) where
  pub good-apart : {u : Bool} → t ≡ true → u ≡ distinct (senders_in ws) → u ≡ are_good ws
  unfolding are_good
  good-apart f g = g ∙ rw (sym e ∙ f)

  pub not_good : t ≡ false → false ≡ are_good ws
  unfolding are_good
  not_good f = rw (sym e ∙ f)

-- `look`
pub so_good : {t : Bool} (ws : List ℕ) → t ≡ are_good ws → t ≡ true → are_good ws ≡ true
so_good ws e f = sym e ∙ f

sizes_good : (j : Joiner) (b : ℕ) → good j b ≡ true → good_sizes j.count j.room b ≡ true
unfolding good
sizes_good j b e = and_left (good_sizes j.count j.room b) (every (good_channel j.room) (channels_of j) && distinct (senders_of j)) e

module _ (ws : List ℕ) (b x : ℕ) where
  bad : good (joiner_in ws) b ≡ false → (Err NoJoiner) ≡ found_of (joiner_in ws) b x
  unfolding found_of
  bad e = rw e

  module _ {t : Bool} (e : t ≡ good_sizes (get_or ws 0 0) (get_or ws 1 0) b) where
    none-sized : t ≡ false → good (joiner_in ws) b ≡ false
    none-sized f = not_true_false (good (joiner_in ws) b) no
      where
        no : good (joiner_in ws) b ≡ true → ⊥
        no g =
            let j : joiner_in ws ≡ stored_in ws = stored_joiner ws (is-joiner ws b g) in
            let q : good (stored_in ws) b ≡ true = rw j at g in
            let s : good_sizes (get_or ws 0 0) (get_or ws 1 0) b ≡ true = sizes_good (stored_in ws) b q in
            let y : true ≡ false = sym s ∙ sym e ∙ f in
            let z : ◌≡◌ {A = ℕ} 0 1 = cc in
            omega arith

    pub not-sized : t ≡ false → false ≡ good (joiner_in ws) b
    not-sized f = sym (none-sized f)

    pub bad-sizes : t ≡ false → (Err NoJoiner) ≡ found_of (joiner_in ws) b x
    bad-sizes f = bad (none-sized f)

    module _ (f : t ≡ true) (w : length ws ≡ joiner_words) where
      pub sized : Sized ws
      sized = record { words = w; few = few_channels (get_or ws 0 0) (get_or ws 1 0) b (sym e ∙ f) }

      well : good (joiner_in ws) b ≡ are_good ws
      well = good-well ws b sized (sym e ∙ f)

      pub records-good : {u : Bool} → u ≡ are_good ws → u ≡ good (joiner_in ws) b
      records-good g = g ∙ sym well

      pub bad-records : {u : Bool} → u ≡ are_good ws → u ≡ false → (Err NoJoiner) ≡ found_of (joiner_in ws) b x
      bad-records g h = bad (well ∙ sym g ∙ h)

      pub found_in : {u : Bool} {p : ℕ} {r : Option (ℕ × Channel)} → u ≡ are_good ws → u ≡ true → p ≡ place_of (senders_in ws) x → r ≡ found_at ws p → Ok r
          ≡ found_of (joiner_in ws) b x
      unfolding found_of found_at
      found_in {u} {p} {r} g h ep er =
          let j : joiner_in ws ≡ stored_in ws = stored_joiner ws (well-joiner ws b sized (sym g ∙ h)) in
          ap Ok (er ∙ ap (found_at ws) ep ∙ go (place_of (senders_in ws) x) (ltb (place_of (senders_in ws) x) (get_or ws 0 0)) refl) ∙ rw (well ∙ sym g ∙ h, j)
        where
          go : (k : ℕ) (t : Bool) → ltb k (get_or ws 0 0) ≡ t → found_at ws k
              ≡ cond {A = Option (ℕ × Channel)} (ltb k (get_or ws 0 0)) (Some (k, channel_at (stored_in ws) k)) None
          go k true q = rw (q, stored_at ws sized.few k (ltb-true k (get_or ws 0 0) q))
          go k false q = rw q

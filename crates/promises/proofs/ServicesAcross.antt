-- Our services, told to a partner that asks for all of them.
-- Assumes nothing.
use Prim.Native.Nat.{ℕ, zero, suc, ◌+◌, ◌-◌, ◌*◌, ◌/◌, ◌^◌, ◌≤◌, ◌<◌}
use mathlib.Core.Path.{◌≡◌, refl, sym, ap, ap₂, ◌∙◌}
use mathlib.Core.Bool.{Bool, true, false, cond}
use mathlib.Core.List.{List, [], ◌∷◌, ◌++◌, append-nil}
use native.Mathlib.Omega.{arith}
use borrow.Author.Tests.{le-leb, ltb-true, ltb-false}
use lib.Dec.{eqb, ltb, leb}
use lib.ListN.{length, get_or, take, drop, replicate, length-append, take-append-drop}
use Rattle.wire.specs.Bytes.{Octets, number}
use Rattle.wire.proofs.Numbers.{octets_drop, octets_take}
use Rattle.wire.proofs.Cond.{yes_le}
use Rattle.table.specs.declared.Sections.{Sections}
use Rattle.message3.specs.declared.Header3.{Header3}
use Rattle.message3.specs.declared.Message3.{Message3}
use Rattle.message3.specs.declared.Message3.TheVariants.{AvailabilityStatus, AvailabilityStatusRequest, Operation}
use Rattle.message3.specs.Platform.{services_bytes, kind_in3}
use Rattle.message3.proofs.Told.{pair_at, length_services, service-told, state-told}
use Rattle.services.specs.declared.Availability.TheVariants.{Unavailable, Available}
use Rattle.services.specs.Word.{told_state}
use Rattle.services.specs.Block.{availability_in, pairs_in, pair_id, pair_state, status_fits, note_refusal, status_noted}
use Rattle.services.specs.Known.{known, is_in, with, known_with, last_told}
use Rattle.services.proofs.Exactly.{fits-exactly}
use Rattle.services.proofs.Afterwards.{fresh_packed, never-named, last-named, by-fitting, no-refusal, noted-state, noted_long}
use Rattle.partners.specs.Threes.{is_three, block_start}
use Rattle.partners.proofs.Counting.{blocks-apart}
use Rattle.mixed.specs.declared.AnyReading.TheVariants as reading
use Rattle.mixed.specs.declared.AnyAnswer.TheVariants.{Three}
use Rattle.mixed.specs.declared.AnyReceived.{AnyReceived}
use Rattle.mixed.specs.declared.reactions.Heard3.TheVariants.{Services}
use Rattle.mixed.specs.Reading.{any_of}
use Rattle.mixed.specs.Reaction.{reaction3}
use Rattle.mixed.specs.Replies.{deed_bytes}
use Rattle.mixed.specs.Keeping.{with_noted, kept_words}
use Rattle.promises.specs.Owed3.{MixedCall, id_of, state_of, all_ours, OwedReply3, tells_these, owed_for3, bytes_owed, reply_header3, HeardAs3}
use Rattle.promises.specs.Replies3.{our_output, our_words, our_outcome, our_receiving3, Receives3, block_at, Countable}
use Rattle.promises.specs.ServicesAcross.{word_at, Hears, Learns, ServicesAcross}
use Rattle.promises.proofs.BlockAnew.{anew, front_same, block_new, rest-same, before-it, behind-it}
use Rattle.promises.proofs.ReplyBytes3.{laid_reply, tells-sound, reads-reply, length_all, good_ours}
use Rattle.promises.proofs.Received3.{sequence-lt, from-another}
use Rattle.promises.proofs.Replying3.{list-is, front-is, taken_is, output-left, words_left}

-- one of our services, and how many pairs tell of them
all_at : (ws : List ℕ) (k : ℕ) → k < length ws → pair_at (all_ours ws) k ≡ (id_of (get_or ws k 0), state_of (get_or ws k 0))
all_at [] k h = absurd (omega arith)
all_at (w ∷ ws) zero h = refl
all_at (w ∷ ws) (suc k) h = all_at ws k (omega arith)

module _ (ours : List ℕ) where
  abbrev P : List ℕ
  P = services_bytes (all_ours ours)

  count_is : pairs_in P ≡ length ours
  count_is = omega (arith, length_services (all_ours ours), length_all ours)

  module _ (k : ℕ) (h : k < length ours) where
    inside : k < length (all_ours ours)
    inside = omega (arith, h, length_all ours)

    id_is : pair_id P k ≡ id_of (get_or ours k 0)
    id_is =
        let z : 8 * k + 4 ≡ 4 + 8 * k = omega arith in
        ap (number 2 P) z ∙ service-told (all_ours ours) (good_ours ours) k inside ∙ ap (λ (p : ℕ × ℕ). p.0) (all_at ours k h)

    state_is : pair_state P k ≡ state_of (get_or ours k 0)
    state_is =
        let z : 8 * k + 8 ≡ 8 + 8 * k = omega arith in
        ap (number 2 P) z ∙ state-told (all_ours ours) (good_ours ours) k inside ∙ ap (λ (p : ℕ × ℕ). p.1) (all_at ours k h)

told_is : (w : ℕ) → told_state (state_of w) ≡ cond (eqb (w / 2 ^ 32) 2) Available Unavailable
unfolding told_state
told_is w = go (eqb (w / 2 ^ 32) 2)
  where
    go : (b : Bool) → cond (eqb (cond b 1 0) 1) Available Unavailable ≡ cond b Available Unavailable
    go true = refl
    go false = refl

-- what we write where all are asked for
abbrev asking : Message3
asking = AvailabilityStatusRequest 0xFFFFFFFF

module _ (c : MixedCall) (s : Sections) (h : Header3) (r : Receives3 c s h asking) (few : length c.ours < 2 ^ 29)
    (room : 28 + 8 * length c.ours ≤ length c.output) where
  abbrev o : OwedReply3
  o = tells_these h.sequence (all_ours c.ours)

  owed-long : bytes_owed (owed_for3 c s h asking) ≡ 28 + 8 * length c.ours
  owed-long = omega (arith, length_all c.ours)

  answer-is : take (28 + 8 * length c.ours) (our_output c) ≡ laid_reply c o
  answer-is =
      ap (λ (n : ℕ). take n (our_output c)) (sym owed-long)
      ∙ front-is c s h asking r (λ e. few) tt (omega (arith, room, owed-long))
      ∙ append-nil (laid_reply c o)

  heard-by : HeardAs3 h.platform c (laid_reply c o) o
  heard-by =
      reads-reply c h.platform r.widths.seconds r.widths.nanoseconds (λ e. from-another c s h asking r (sym e)) o
      (tells-sound h.sequence (sequence-lt c s h asking r) (all_ours c.ours) (good_ours c.ours) (omega (arith, few, length_all c.ours)))

-- the partner that hears it
module _ (c d : MixedCall) (s : Sections) (h : Header3) (q : Hears our_receiving3 c d s h) where
  abbrev n : ℕ
  n = length (all_ours c.ours)

  abbrev its-header : Header3
  its-header = reply_header3 c (tells_these h.sequence (all_ours c.ours))

  message-is : d.message ≡ laid_reply c (tells_these h.sequence (all_ours c.ours))
  message-is = q.carried ∙ answer-is c s h q.asked q.few q.room

  payload-is : drop 24 d.message ≡ P c.ours
  payload-is = ap (drop 24) message-is

  reads : any_of d.partners d.own d.message ≡ reading.Three its-header (AvailabilityStatus n) 24 (28 + 8 * n - 24)
  reads =
      ap₂ (any_of d.partners) q.who message-is
      ∙ (heard-by c s h q.asked q.few q.room).reads d.partners q.set_up

  no_other : (k : Message3) → ¬ (kind_in3 k ≡ 6) → ¬ (AvailabilityStatus n ≡ k)
  no_other k z e = z (sym (ap kind_in3 e))

  received : Receives3 d q.its_sections its-header (AvailabilityStatus n)
  received =
      record {
        widths = q.widths;
        bytes = q.bytes;
        table = q.its_table;
        start = 24;
        len = 28 + 8 * n - 24;
        read = reads;
        no_response = λ e. absurd (no_other Operation (λ z. omega (arith, z)) e);
      }

  countable : Countable d (AvailabilityStatus n)
  countable e = absurd (no_other asking (λ z. omega (arith, z)) e)

  abbrev at : ℕ
  at = block_start d.partners c.own

  -- our block before it, and after it
  abbrev block : List ℕ
  block = block_at d c.own d.services

  abbrev after : List ℕ
  after = status_noted block (drop 24 d.message)

  after-long : length after ≡ 256
  after-long = noted_long block (drop 24 d.message) ∙ q.kempt.whole

  words_are : our_words d ≡ anew d.services after at q.there after-long
  unfolding reaction3 kept_words with_noted
  words_are =
      words_left d q.its_sections its-header (AvailabilityStatus n) received countable (q.there, q.takes) (omega arith)
      ∙ yes_le (anew d.services after at q.there after-long) d.services (at + 256) (length d.services) q.there

  taken : our_outcome d ≡ record { standing = d.standing; answer = Three its-header (Services n) 0 }
  unfolding reaction3
  taken = taken_is d q.its_sections its-header (AvailabilityStatus n) received countable (q.there, q.takes) (omega arith)

  output-same : our_output d ≡ d.output
  unfolding reaction3 deed_bytes
  output-same =
      output-left d q.its_sections its-header (AvailabilityStatus n) received countable (q.there, q.takes) (omega arith)
      ∙ take-append-drop 0 d.output

  -- what is known of a service of ours
  its-state : (x : ℕ) → availability_in (block_at d c.own (our_words d)) x
      ≡ last_told (availability_in block x) (P c.ours) (pairs_in (P c.ours)) x
  its-state x =
      ap (λ (v : List ℕ). availability_in (take 256 (drop at v)) x) words_are
      ∙ ap (λ (v : List ℕ). availability_in v x) (block_new d.services after at q.there after-long)
      ∙ noted-state block (drop 24 d.message) (octets_drop 24 d.message q.bytes) q.kempt.packed
      (no-refusal block (drop 24 d.message) q.takes) x
      ∙ ap (λ (p : List ℕ). last_told (availability_in block x) p (pairs_in p) x) payload-is

  of_ours : (k : ℕ) → k < length c.ours → ((j : ℕ) → k < j → j < length c.ours → ¬ (id_of (word_at c j) ≡ id_of (word_at c k)))
      → availability_in (block_at d c.own (our_words d)) (id_of (word_at c k)) ≡ cond (eqb (word_at c k / 2 ^ 32) 2) Available Unavailable
  of_ours k l last =
      let m : pairs_in (P c.ours) ≡ length c.ours = count_is c.ours in
      its-state (id_of (word_at c k))
      ∙ last-named (availability_in block (id_of (word_at c k))) (P c.ours) (id_of (word_at c k)) (pairs_in (P c.ours)) k (omega arith)
      (id_is c.ours k l)
      (λ j a z e. let f : j < length c.ours = omega arith in last j a f (sym (id_is c.ours j f) ∙ e))
      ∙ ap told_state (state_is c.ours k l) ∙ told_is (word_at c k)

  of_others : (x : ℕ) → ((k : ℕ) → k < length c.ours → ¬ (id_of (word_at c k) ≡ x))
      → availability_in (block_at d c.own (our_words d)) x ≡ availability_in block x
  of_others x none =
      let m : pairs_in (P c.ours) ≡ length c.ours = count_is c.ours in
      its-state x
      ∙ never-named (availability_in block x) (P c.ours) x (pairs_in (P c.ours))
      (λ k z e. let f : k < length c.ours = omega arith in none k f (sym (id_is c.ours k f) ∙ e))

  other_blocks : (j : ℕ) → is_three d.partners j ≡ true → ¬ (j ≡ c.own) → block_at d j (our_words d) ≡ block_at d j d.services
  other_blocks j e z = ap (block_at d j) words_are ∙ go (ltb j c.own) refl
    where
      go : (t : Bool) → ltb j c.own ≡ t
          → block_at d j (anew d.services after at q.there after-long) ≡ block_at d j d.services
      go true t =
          before-it d.services after at q.there after-long (block_start d.partners j)
          (blocks-apart d.partners j c.own (ltb-true j c.own t) e)
      go false t =
          let l : c.own ≤ j = ltb-false j c.own t in
          let m : c.own < j = omega (arith, l, z) in
          behind-it d.services after at q.there after-long (block_start d.partners j) (blocks-apart d.partners c.own j m q.set_up)

  learns : Learns our_receiving3 c d h
  learns =
      record {
        answer = ap (λ (x : AnyReceived). x.answer) taken ∙ ap (λ (k : ℕ). Three its-header (Services k) 0) (length_all c.ours);
        of_ours = of_ours;
        of_others = of_others;
        in_front = ap (take at) words_are ∙ front_same d.services after at q.there after-long;
        behind = ap (drop (at + 256)) words_are ∙ rest-same d.services after at q.there after-long;
        other_blocks = other_blocks;
        standing = ap (λ (x : AnyReceived). x.standing) taken;
        output = output-same;
        list = list-is d q.its_sections its-header (AvailabilityStatus n) received;
      }

-- fresh words: each pair needs one more place at the most
with_most : (ks : List ℕ) (x : ℕ) → length (with ks x) ≤ length ks + 1
unfolding with
with_most ks x = go (is_in x ks)
  where
    go : (b : Bool) → length (cond b ks (ks ++ (x ∷ []))) ≤ length ks + 1
    go true = omega arith
    go false = omega (arith, length-append ks (x ∷ []))

known_most : (s : List ℕ) (i : ℕ) → length (known_with [] s i) ≤ i
unfolding known_with
known_most s zero = omega arith
known_most s (suc i) =
    let h : length (known_with [] s i) ≤ i = known_most s i in
    let w : length (with (known_with [] s i) (pair_id s i)) ≤ length (known_with [] s i) + 1 = with_most (known_with [] s i) (pair_id s i) in
    omega arith

fresh_known : known (replicate 256 0) ≡ []
unfolding known
fresh_known = refl

fresh_takes : (c : MixedCall) (s : Sections) (h : Header3) → Receives3 c s h asking → length c.ours ≤ 256
    → 28 + 8 * length c.ours ≤ length c.output → Octets (our_output c)
    → note_refusal (replicate 256 0) (drop 24 (take (28 + 8 * length c.ours) (our_output c))) ≡ 0
fresh_takes c s h r few room bytes =
    let N : ℕ = 28 + 8 * length c.ours in
    let A : List ℕ = drop 24 (take N (our_output c)) in
    let e : A ≡ P c.ours = ap (drop 24) (answer-is c s h r (omega arith) room) in
    let z : Octets A = octets_drop 24 (take N (our_output c)) (octets_take N (our_output c) bytes) in
    let m : pairs_in A ≡ length c.ours = ap pairs_in e ∙ count_is c.ours in
    let l : length (known_with [] A (pairs_in A)) ≤ pairs_in A = known_most A (pairs_in A) in
    let f : status_fits (replicate 256 0) A ≡ true =
    fits-exactly (replicate 256 0) A z (fresh_packed 256) refl
    ∙ ap (λ (ks : List ℕ). leb (length (known_with ks A (pairs_in A))) 256) fresh_known
    ∙ le-leb (length (known_with [] A (pairs_in A))) 256 (omega arith) in
    by-fitting (replicate 256 0) A true f

pub services_across : ServicesAcross
services_across = record { learns = learns; fresh_takes = fresh_takes }

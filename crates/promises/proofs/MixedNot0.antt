-- No refusal of the platform call among partners of both issues is 0.
-- Assumes nothing.
use Prim.Native.Nat.{ℕ, zero, suc}
use Rattle.std.specs.Prelude.{Option}
use mathlib.Core.Path.{◌≡◌, refl, sym, ap, ◌∙◌}
use mathlib.Core.Bool.{Bool, true, false, cond}
use mathlib.Core.List.{List}
use native.Mathlib.Omega.{arith}
use borrow.Author.Tests.{eqb-false}
use lib.Dec.{eqb, ltb}
use Rattle.wire.specs.Bytes.{part}
use Rattle.table.specs.declared.Sections.{Sections}
use Rattle.pending.specs.Answers.{is_response}
use Rattle.message.specs.declared.Reading.{Reading}
use Rattle.message.specs.declared.Reading.TheVariants as six
use Rattle.message.specs.Header.{sender_in}
use Rattle.message.specs.Refusal.{no_room, frame_refusal, read_refusal}
use Rattle.message.specs.Reading.{reading_out, read_of}
use Rattle.message.specs.Reading as reads
use Rattle.message3.specs.declared.Header3.{Header3}
use Rattle.message3.specs.declared.Reading3.{Reading3}
use Rattle.message3.specs.declared.Reading3.TheVariants as three
use Rattle.message3.specs.Refusal.{read_refusal3}
use Rattle.message3.specs.Reading.{answered3, read_out3, read_of3}
use Rattle.partners.specs.Threes.{is_three}
use Rattle.platform.specs.declared.reactions.Standing.{Standing}
use Rattle.platform.specs.declared.reactions.Reaction.{Reaction}
use Rattle.platform.specs.declared.Noting.{Noting}
use Rattle.platform.specs.declared.Noting.TheVariants as noting
use Rattle.platform.specs.Replies.{owed_length}
use Rattle.platform.specs.Reaction.{operation_in, reaction_to}
use Rattle.platform.specs.Receiving.{refused as unread, taken, answered, not_awaited, is_answer, delivered, response_to, outcome_of, outcome_in}
use Rattle.mixed.specs.declared.AnyReading.{AnyReading}
use Rattle.mixed.specs.declared.AnyReading.TheVariants as reading
use Rattle.mixed.specs.declared.AnyAnswer.{AnyAnswer}
use Rattle.mixed.specs.declared.AnyAnswer.TheVariants.{Refused, Three, ThreeResponse}
use Rattle.mixed.specs.declared.AnyReceived.{AnyReceived}
use Rattle.mixed.specs.declared.reactions.Heard3.{Heard3}
use Rattle.mixed.specs.declared.reactions.Reaction3.{Reaction3}
use Rattle.mixed.specs.Form.{three_form}
use Rattle.mixed.specs.Reading.{other_issue, from_six, from_three, any_of}
use Rattle.mixed.specs.Reaction.{operation_for3, reaction3}
use Rattle.mixed.specs.Keeping.{kept_number}
use Rattle.mixed.specs.Receiving.{from_noting, refused_any, is_answer3, delivered3, response_to3, taken3}
use Rattle.mixed.specs.Receiving.{settled3, any_outcome_of}
use Rattle.mixed.proofs.Issues.{if-three, if-other, if-six}
use Rattle.promises.specs.MixedCalls.{TableGiven, answer_on}
use Rattle.promises.proofs.MixedCalls.{Way, refused, goes}
use Rattle.promises.proofs.MixedRooms.{length_for, short_by, settled-as}

-- an answer that is none
pub never : {n k : ℕ} {h : Header3} {x : Heard3} → Three h x k ≡ Refused n → ⊥
never e = let z : ◌≡◌ {A = ℕ} 0 3 = cc in omega arith

pub never_delivered : {n k start len : ℕ} {h : Header3} → ThreeResponse h k start len ≡ Refused n → ⊥
never_delivered e = let z : ◌≡◌ {A = ℕ} 0 4 = cc in omega arith

pub was_refused : (x : Noting) (n : ℕ) → from_noting x ≡ Refused n → x ≡ noting.Refused n
was_refused (noting.Refused k) n e = ap noting.Refused (let z : Refused k ≡ Refused n = e in cc)
was_refused (noting.Noted h x k) n e = let z : ◌≡◌ {A = ℕ} 0 1 = cc in absurd (omega arith)
was_refused (noting.Response h k start len) n e = let z : ◌≡◌ {A = ℕ} 0 2 = cc in absurd (omega arith)

-- no refusal is 0: what reading gives
six_not_0 : (own : ℕ) (m : List ℕ) (k : ℕ) → read_of own m ≡ six.Refused k → ¬ (k ≡ 0)
six_not_0 own m k e = go (read_refusal own m) e
  where
    go : (r : ℕ) → reads.answered r (reading_out m) ≡ six.Refused k → ¬ (k ≡ 0)
    go zero q z = let d : ◌≡◌ {A = ℕ} 1 0 = cc in omega arith
    go (suc r) q z = let d : suc r ≡ k = cc in omega arith

three_not_0 : (own : ℕ) (m : List ℕ) (k : ℕ) → read_of3 own m ≡ three.Refused k → ¬ (k ≡ 0)
three_not_0 own m k e = go (read_refusal3 own m) e
  where
    go : (r : ℕ) → answered3 r (read_out3 m) ≡ three.Refused k → ¬ (k ≡ 0)
    go zero q z = let d : ◌≡◌ {A = ℕ} 1 0 = cc in omega arith
    go (suc r) q z = let d : suc r ≡ k = cc in omega arith

other_not_0 : (n : ℕ) → ¬ (other_issue n ≡ 0)
other_not_0 zero e = omega arith
other_not_0 (suc zero) e = omega arith
other_not_0 (suc (suc zero)) e = omega arith
other_not_0 (suc (suc (suc n))) e = omega arith

same_number : {a b : ℕ} → reading.Refused a ≡ reading.Refused b → a ≡ b
same_number e = cc

pub any_not_0 : (i : List ℕ) (own : ℕ) (m : List ℕ) (k : ℕ) → any_of i own m ≡ reading.Refused k → ¬ (k ≡ 0)
any_not_0 i own m k e = go (three_form i m) refl (is_three i (sender_in m)) refl
  where
    of-six : (x : Reading) → read_of own m ≡ x → from_six x ≡ reading.Refused k → ¬ (k ≡ 0)
    of-six (six.Refused n) q f z = six_not_0 own m n q (same_number f ∙ z)
    of-six (six.Read h x start len) q f z = let d : ◌≡◌ {A = ℕ} 1 0 = cc in omega arith

    of_three : (x : Reading3) → read_of3 own m ≡ x → from_three x ≡ reading.Refused k → ¬ (k ≡ 0)
    of_three (three.Refused n) q f z = three_not_0 own m n q (same_number f ∙ z)
    of_three (three.Read h x start len) q f z = let d : ◌≡◌ {A = ℕ} 2 0 = cc in omega arith

    go : (a : Bool) → three_form i m ≡ a → (b : Bool) → is_three i (sender_in m) ≡ b → ¬ (k ≡ 0)
    go true ea b eb z = of_three (read_of3 own m) refl (sym (if-three i own m ea) ∙ e) z
    go false ea true eb z = other_not_0 (frame_refusal m) (same_number (sym (if-other i own m ea eb) ∙ e) ∙ z)
    go false ea false eb z = of-six (read_of own m) refl (sym (if-six i own m ea eb) ∙ e) z

-- and what the call gives
module _ (own : ℕ) (i ours : List ℕ) (p : Standing) (l ws m : List ℕ) (room n : ℕ) where
  abbrev Not0 : AnyAnswer → Type 0
  Not0 a = a ≡ Refused n → ¬ (n ≡ 0)

  refused-not-0 : (k : ℕ) → ¬ (k ≡ 0) → Not0 (Refused k)
  refused-not-0 k h e z = h (let d : k ≡ n = cc in d ∙ z)

  response-not-0 : (f : Option (ℕ × ℕ)) (h : Header3) (start len : ℕ) → Not0 (response_to3 l f p h start len).answer
  unfolding response_to3
  response-not-0 f h start len = go (is_response l h.sequence h.id h.platform)
    where
      go : (b : Bool) → Not0 (cond b (delivered3 f p h start len) (refused_any p not_awaited)).answer
      go true e = absurd (never_delivered e)
      go false e = refused-not-0 61 (λ z. omega arith) e

  settled-not-0 : (h : Header3) (x : Reaction3) (payload : List ℕ) → Not0 (settled3 i ours p h x payload ws room).answer
  unfolding settled3
  settled-not-0 h x payload e =
      go (eqb short 0) refl (eqb k 0) refl (sym (ap (λ (y : AnyReceived). y.answer) (settled-as k p h x ours x.deed room)) ∙ e)
    where
      k : ℕ
      k = kept_number i h.platform x.deed payload ws

      short : ℕ
      short = short_by ours x.deed room

      go : (a : Bool) → eqb short 0 ≡ a → (b : Bool) → eqb k 0 ≡ b
          → Not0 (cond a (cond b (taken3 h x (length_for ours x.deed)) (refused_any p k)) (refused_any p short)).answer
      go true ea true eb q = absurd (never q)
      go true ea false eb q = refused-not-0 k (eqb-false k 0 eb) q
      go false ea b eb q = refused-not-0 short (eqb-false short 0 ea) q

  platform-not-0 : (t : List ℕ) (s : Sections) (f : Option (ℕ × ℕ)) (x : Reading) → read_of own m ≡ x → (outcome_of own t s f p l x room).answer ≡ noting.Refused n
      → ¬ (n ≡ 0)
  unfolding outcome_of response_to answered
  platform-not-0 t s f (six.Refused k) e q z = six_not_0 own m k e (let d : k ≡ n = cc in d ∙ z)
  platform-not-0 t s f (six.Read h k start len) e q z =
      go (is_answer t f k) (is_response l h.sequence h.id h.platform) (ltb room (owed_length x.owed)) q
    where
      x : Reaction
      x = reaction_to own t s f p h k start len

      go : (a b d : Bool)
          → (cond a (cond b (delivered f p h start len) (unread p not_awaited)) (cond d (unread p no_room) (taken h x (owed_length x.owed)))).answer
          ≡ noting.Refused n → ⊥
      go true true d y = let w : ◌≡◌ {A = ℕ} 2 0 = cc in omega arith
      go true false d y = let w : ◌≡◌ {A = ℕ} 61 0 = cc in omega arith
      go false b true y = let w : ◌≡◌ {A = ℕ} 10 0 = cc in omega arith
      go false b false y = let w : ◌≡◌ {A = ℕ} 1 0 = cc in omega arith

  read-not-0 : (t : List ℕ) (s : Sections) (index : List ℕ) (x : AnyReading) → any_of i own m ≡ x
      → Not0 (any_outcome_of own i ours t s index p l ws m room x).answer
  unfolding any_outcome_of
  read-not-0 t s index (reading.Refused k) q e = refused-not-0 k (any_not_0 i own m k q) e
  read-not-0 t s index (reading.Six h k start len) q e =
      platform-not-0 t s (operation_in t s index (read_of own m)) (read_of own m) refl (was_refused (outcome_in own t s index p l m room).answer n e)
  read-not-0 t s index (reading.Three h k start len) q e = go (is_answer3 t f k) e
    where
      f : Option (ℕ × ℕ)
      f = operation_for3 t s index h k

      go : (b : Bool) → Not0 (cond b (response_to3 l f p h start len)
          (settled3 i ours p h (reaction3 own ours t s f p h k start len) (part m start len) ws room)).answer
      go true = response-not-0 f h start len
      go false = settled-not-0 h (reaction3 own ours t s f p h k start len) (part m start len)

  pub call-not-0 : (g : TableGiven) → Way g → Not0 (answer_on g own i ours p l ws m room).answer
  call-not-0 g (refused k r) e =
      refused-not-0 k r.number (sym (ap (λ (x : AnyReceived). x.answer) (r.answer own i ours p l ws m room)) ∙ e)
  call-not-0 g (goes t s index r) e =
      read-not-0 t s index (any_of i own m) refl (sym (ap (λ (x : AnyReceived). x.answer) (r.answer own i ours p l ws m room)) ∙ e)

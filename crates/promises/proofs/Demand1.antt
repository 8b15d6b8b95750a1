-- Demand 1.
-- Assumes nothing.
use Prim.Native.Nat.{ℕ}
use Rattle.std.specs.Prelude.{Result, Ok, Err}
use Rattle.refusal.specs.declared.Refusal.{Refusal}
use mathlib.Core.Path.{◌≡◌, refl, ap}
use mathlib.Core.List.{List, [], ◌∷◌}
use lib.ListN.{length}
use Rattle.wire.specs.Bytes.{over}
use Rattle.table.specs.declared.Sections.{Sections}
use Rattle.types.specs.Table.{checked}
use Rattle.message.specs.Writing.{message_bytes, write_of, number_given as write_number}
use Rattle.message.specs.Writing as writes
use Rattle.message.specs.declared.Writing.{Writing}
use Rattle.message.specs.declared.Writing.TheVariants as writing
use Rattle.binding.specs.Cutting.{made_of, datagram_of}
use Rattle.binding.specs.Made.{number_given as cut_number}
use Rattle.binding.specs.Made as makes
use Rattle.channel.specs.declared.Outcome.{Outcome}
use Rattle.channel.specs.declared.Outcome.TheVariants as outcome
use Rattle.channel.specs.Outcomes.{number_given as take_number}
use Rattle.joiner.specs.Take.{taken_of}
use Rattle.joiner.proofs.Standing.{refusal-keeps-joiner, refusal-keeps-rooms}
use Rattle.payload.specs.declared.Answer.{Answer}
use Rattle.payload.specs.declared.Answer.TheVariants as answer
use Rattle.walk.specs.Walk.{Codec, left, type_walk}
use Rattle.unpack.specs.Reading.{reader}
use Rattle.pack.specs.Writing.{writer}
use Rattle.walk.specs.Walk.{start}
use Rattle.payload.specs.Calls.{number_given, answered_in, left_over_by, left_over_in, answered_if, left_if}
use Rattle.platform.specs.declared.reactions.Standing.{Standing}
use Rattle.platform.specs.declared.Received.{Received}
use Rattle.platform.specs.declared.Noting.{Noting}
use Rattle.platform.specs.declared.Noting.TheVariants as noting
use Rattle.platform.specs.Receiving.{received_of, left_of, list_after, sections_outcome, sections_output, sections_list}
use Rattle.platform.specs.Noting.{number_given as receive_number}
use Rattle.platform.proofs.Unchanged.{Unchanged, refusal-changes-nothing, sections-refusal-changes-nothing}
use Rattle.promises.specs.Checks.{CheckOf, Answers, Keeps, none, this, next}
use Rattle.promises.specs.Order.{InOrder}
use Rattle.promises.specs.Demand1.{Kept, ChangesNothing, Demand1}
use Rattle.promises.proofs.Order.{read_in_order, write_in_order, header_in_order, pieces_in_order, cut_in_order}
use Rattle.promises.proofs.TakeOrder.{setup_in_order, take_in_order}
use Rattle.promises.proofs.TableOrder.{table_in_order}
use Rattle.promises.proofs.NumbersInOrder.{numbers_in_order, table_number_in_order}
use Rattle.promises.proofs.PayloadOrder.{payload_in_order}
use Rattle.promises.proofs.ReceiveOrder.{receive_in_order, receive_checked_in_order}

-- one answer
one : {R A : Type 0} (refuse : R → A) (good : A) (cs : List (CheckOf R)) (x y : A)
    → Answers refuse good cs x → Answers refuse good cs y → x ≡ y
one refuse good [] x y none none = refl
one refuse good (c ∷ cs) x y (this a) (this b) = refl
one refuse good (c ∷ cs) x y (this a) (next n b) = absurd (n a)
one refuse good (c ∷ cs) x y (next n a) (this b) = absurd (n b)
one refuse good (c ∷ cs) x y (next n a) (next m b) = one refuse good cs x y a b

-- a refusal by its number
pub write_keeps : (x : Writing) (out new : List ℕ) → Keeps (write_number x) out (writes.left_over_by x out new)
write_keeps (writing.Refused n) out new k = refl
write_keeps (writing.Written n) out new k = absurd (k refl)

cut_keeps : (x : Result ℕ Refusal) (out new : List ℕ) → Keeps (cut_number x) out (makes.left_over_by x out new)
cut_keeps (Err n) out new k = refl
cut_keeps (Ok n) out new k = absurd (k refl)

taken_refused : (x : Result Outcome Refusal) → ¬ (take_number x ≡ 0) → (e : Refusal) × (x ≡ Err e)
taken_refused (Err e) k = (e, refl)
taken_refused (Ok outcome.Repeated) k = absurd (k refl)
taken_refused (Ok (outcome.Delivered m p)) k = absurd (k refl)
taken_refused (Ok (outcome.Held m n)) k = absurd (k refl)
taken_refused (Ok (outcome.Stray m)) k = absurd (k refl)
taken_refused (Ok (outcome.TooLong m)) k = absurd (k refl)

left_keeps : (a : Answer) (x y : List ℕ) → Keeps (number_given a) x (left_over_by a x y)
unfolding left_over_by
left_keeps (answer.Refused n) x y k = refl
left_keeps (answer.Stopped n s) x y k = refl
left_keeps (answer.Gave n) x y k = absurd (k refl)

in_keeps : (c : Codec) (n : ℕ) (t : List ℕ) (s : Sections) (i : ℕ) (x : List ℕ) → Keeps (number_given (answered_in c n t s i (length x))) x (left_over_in c n t s i x)
unfolding left_over_in
in_keeps c n t s i x = left_keeps (answered_in c n t s i (length x)) x (left (type_walk c t s i start x))

if_keeps : (r : Result Sections Refusal) (c : Codec) (n : ℕ) (t : List ℕ) (i : ℕ) (x : List ℕ) → Keeps (number_given (answered_if r c n t i (length x))) x (left_if r c n t i x)
unfolding answered_if left_if
if_keeps (Err m) c n t i x k = refl
if_keeps (Ok s) c n t i x k = in_keeps c n t s i x k

noting_refused : (x : Noting) → ¬ (receive_number x ≡ 0) → x ≡ noting.Refused (receive_number x)
noting_refused (noting.Refused n) k = refl
noting_refused (noting.Noted h x n) k = absurd (k refl)
noting_refused (noting.Response h i _ len) k = absurd (k refl)

module _ (own : ℕ) (t : List ℕ) (p : Standing) (l m out : List ℕ) where
  receive-kept : ¬ (receive_number (received_of own t p l m (length out)).answer ≡ 0)
      → Unchanged p out l (received_of own t p l m (length out)) (left_of own t p m out) (list_after own t l m)
  receive-kept k =
      let r : Received = received_of own t p l m (length out) in
      refusal-changes-nothing own p (receive_number r.answer) out l t m (noting_refused r.answer k)

  checked-kept : (s : Sections) (index : List ℕ) → ¬ (receive_number (sections_outcome own t s index p l m (length out)).answer ≡ 0)
      → Unchanged p out l (sections_outcome own t s index p l m (length out)) (sections_output own t s index p m out) (sections_list own t s index l m)
  checked-kept s index k =
      let r : Received = sections_outcome own t s index p l m (length out) in
      sections-refusal-changes-nothing own p (receive_number r.answer) out l t s index m (noting_refused r.answer k)

kept : (p : Standing) (out l : List ℕ) (r : Received) (left after : List ℕ) → (¬ (receive_number r.answer ≡ 0) → Unchanged p out l r left after)
    → Kept p out l r left after
kept p out l r left after u =
    record {
      states = λ k. ap (λ (x : Standing). x.states) (u k).standing;
      next = λ k. ap (λ (x : Standing). x.next) (u k).standing;
      output = λ k. (u k).output;
      list = λ k. (u k).list;
    }

changes_nothing : ChangesNothing
changes_nothing =
    record {
      write_output = λ own domain id seq payload out. write_keeps (write_of domain id payload (length out)) out
          (over out 0 (message_bytes own domain id seq payload));
      cut_output = λ msg s sender counter i out. cut_keeps (made_of msg s sender counter i (length out)) out
          (over out 0 (datagram_of msg s sender counter i));
      take_joiner = λ j rooms d k. let r = taken_refused (taken_of j rooms d).outcome k in refusal-keeps-joiner j rooms d r.0 r.1;
      take-rooms = λ j rooms d k. let r = taken_refused (taken_of j rooms d).outcome k in refusal-keeps-rooms j rooms d r.0 r.1;
      unpack_words = λ t i b words. if_keeps (checked t) (reader b) (length b) t i words;
      unpack_in_words = λ t s i b words. in_keeps (reader b) (length b) t s i words;
      pack_output = λ t i ws out. if_keeps (checked t) (writer ws) (length ws) t i out;
      pack_in_output = λ t s i ws out. in_keeps (writer ws) (length ws) t s i out;
      receive = λ own t p l m out. kept p out l (received_of own t p l m (length out)) (left_of own t p m out) (list_after own t l m)
          (receive-kept own t p l m out);
      receive-checked = λ own t s index p l m out.
          kept p out l (sections_outcome own t s index p l m (length out)) (sections_output own t s index p m out) (sections_list own t s index l m)
          (checked-kept own t p l m out s index);
    }

in_order : InOrder
in_order = record {
  read = read_in_order;
  write = write_in_order;
  header = header_in_order;
  setup = setup_in_order;
  take = take_in_order;
  pieces = pieces_in_order;
  cut = cut_in_order;
}

pub demand_1 : Demand1
demand_1 =
    record {
      in_order = in_order;
      table_in_order = table_in_order;
      numbers_in_order = numbers_in_order;
      table_number_in_order = table_number_in_order;
      payload_in_order = payload_in_order;
      receive_in_order = receive_in_order;
      receive_checked_in_order = receive_checked_in_order;
      one_answer = one;
      changes_nothing = changes_nothing;
    }

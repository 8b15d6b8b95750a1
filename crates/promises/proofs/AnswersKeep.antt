-- What an answer leaves of what was lent for it: a refusal all of it, case by case of what is answered. ExportsKeep cites it of each
-- exported call. Assumes nothing.
use Prim.Native.Nat.{ℕ}
use Rattle.std.specs.Prelude.{Result, Ok, Err}
use Rattle.refusal.specs.declared.Refusal.{Refusal}
use mathlib.Core.Path.{◌≡◌, refl, ◌∙◌}
use mathlib.Core.Bool.{Bool, true, false, cond}
use mathlib.Core.List.{List}
use native.Mathlib.Omega.{arith}
use Rattle.binding.specs.Counted.{number_given as countNumber}
use Rattle.binding.specs.Made.{number_given as cut_number}
use Rattle.joiner.specs.declared.Joiner.{Joiner}
use Rattle.channel.specs.declared.Outcome.{Outcome}
use Rattle.channel.specs.declared.Outcome.TheVariants.{Repeated, Delivered, Held, Stray, TooLong}
use Rattle.channel.specs.Outcomes.{left_over_by, number_given as outcomeNumber}
use Rattle.joiner.specs.Setup.{setup_of, number_given as verdictNumber}
use Rattle.joiner.specs.Take.{taken_of}
use Rattle.joiner.specs.JoinerWords.{joiner_in}
use Rattle.joiner.specs.Calls.{accepted_words, setup_number, setup_words, outcome_words, place_in, with_record}
use Rattle.joiner.specs.Calls.{take_number, take_words, take_rooms, take_answer}
use Rattle.message.specs.Reading.{number_given as number_read}
use Rattle.message.specs.declared.Reading.{Reading}
use Rattle.message.specs.declared.Reading.TheVariants as reading
use Rattle.message.specs.Writing.{number_given as write_number}
use Rattle.message.specs.declared.Writing.{Writing}
use Rattle.message.specs.declared.Writing.TheVariants as writing
use Rattle.mixed.specs.Reading.{number_given as any_number}
use Rattle.mixed.specs.declared.AnyReading.{AnyReading}
use Rattle.mixed.specs.declared.AnyReading.TheVariants as mixed
use Rattle.table.specs.declared.Sections.{Sections}
use Rattle.table.specs.Layout.{cut_short}
use Rattle.table.specs.Checked.{number_given as check_number}
use Rattle.payload.specs.declared.Answer.{Answer}
use Rattle.payload.specs.declared.Answer.TheVariants as answer
use Rattle.payload.specs.Calls as payload
use Rattle.payload.specs.ByPlans.{answered_by}
use Rattle.walk.specs.Walk.{Codec}
use Rattle.plan.specs.Length.{number_given as lengthNumber}
use Rattle.platform.specs.declared.Noting.{Noting}
use Rattle.platform.specs.declared.Noting.TheVariants as noting
use Rattle.platform.specs.Noting.{number_given}
use Rattle.platform_words.specs.HeardWords.{answer_words}
use Rattle.nyrkovash.specs.PieceCalls.{count_left, made_left}
use Rattle.nyrkovash.specs.MessageCalls.{read_left, write_left}
use Rattle.nyrkovash.specs.IssueCalls.{any_left}
use Rattle.nyrkovash.specs.TableCalls.{sections_left}
use Rattle.nyrkovash.specs.PayloadCalls.{walked_left}
use Rattle.nyrkovash.specs.PlanCalls.{length_left}
use Rattle.promises.specs.Checks.{Keeps, Outside}
use Rattle.promises.specs.ExportsKeep.{WordsKept}
use Rattle.promises.proofs.Checks.{not_outside}
use Rattle.promises.proofs.Numbered.{Numbered, by-numbered}
use Rattle.promises.proofs.Demand1.{demand_1}

-- what was lent for an answer
pub count_keeps : (was : ℕ) (x : Result ℕ Refusal) → Keeps (countNumber x) was (count_left was x)
count_keeps was (Err n) k = refl
count_keeps was (Ok n) k = absurd (k refl)

pub made_keeps : (was : ℕ) (x : Result ℕ Refusal) → Keeps (cut_number x) was (made_left was x)
made_keeps was (Err n) k = refl
made_keeps was (Ok n) k = absurd (k refl)

pub read_keeps : (was : List ℕ) (x : Reading) → Keeps (number_read x) was (read_left was x)
read_keeps was (reading.Refused n) k = refl
read_keeps was (reading.Read h m s l) k = absurd (k refl)

pub write_keeps : (was : ℕ) (x : Writing) → Keeps (write_number x) was (write_left was x)
write_keeps was (writing.Refused n) k = refl
write_keeps was (writing.Written n) k = absurd (k refl)

pub any_keeps : (was : List ℕ) (x : AnyReading) → Keeps (any_number x) was (any_left was x)
any_keeps was (mixed.Refused n) k = refl
any_keeps was (mixed.Six h m s l) k = absurd (k refl)
any_keeps was (mixed.Three h m s l) k = absurd (k refl)

pub check_keeps : (t was : List ℕ) (x : Result Sections Refusal) → Keeps (check_number x) was (sections_left t was x)
check_keeps t was (Err n) k = refl
check_keeps t was (Ok s) k = absurd (k refl)

walked_keeps : (was : List ℕ) (x : Answer) → Numbered x → WordsKept (payload.number_given x) was (walked_left was x)
walked_keeps was (answer.Refused n) h = record { given = λ k. refl; spot = λ o. (refl, refl); all = λ o k. refl }
walked_keeps was (answer.Stopped n s) h =
    let inside : ¬ (Outside 40 43 n) = not_outside 40 43 n h.0 h.1 in
    record { given = λ k. refl; spot = λ o. absurd (inside o); all = λ o. absurd (inside o) }
walked_keeps was (answer.Gave n) h = record { given = λ k. absurd (k refl); spot = λ o. (refl, refl); all = λ o k. absurd (k refl) }

pub found_keeps : (b : Bool) (was x : List ℕ) → Keeps (cond b 0 cut_short) was (cond b x was)
found_keeps true was x k = absurd (k refl)
found_keeps false was x k = refl

-- plans
pub length_keeps : (was : ℕ) (x : Result ℕ Refusal) → Keeps (lengthNumber x) was (length_left was x)
length_keeps was (Err n) k = refl
length_keeps was (Ok n) k = absurd (k refl)

-- joining
accepted_keeps : (was : List ℕ) (x : Result Joiner Refusal) → Keeps (verdictNumber x) was (accepted_words x was)
accepted_keeps was (Ok j) k = absurd (k refl)
accepted_keeps was (Err e) k = refl

pub setup_keeps : (ids : List ℕ) (R b : ℕ) (ws : List ℕ) → Keeps (setup_number ids R b) ws (setup_words ids R b ws)
unfolding setup_number setup_words
setup_keeps ids R b ws = accepted_keeps ws (setup_of ids R b)

outcome_keeps : (was : List ℕ) (o : Result Outcome Refusal) → Keeps (outcomeNumber o) was (outcome_words o was)
outcome_keeps was (Err n) k = refl
outcome_keeps was (Ok Repeated) k = absurd (k refl)
outcome_keeps was (Ok (Delivered m p)) k = absurd (k refl)
outcome_keeps was (Ok (Held m n)) k = absurd (k refl)
outcome_keeps was (Ok (Stray m)) k = absurd (k refl)
outcome_keeps was (Ok (TooLong m)) k = absurd (k refl)

record_keeps : (was new : List ℕ) (o : Result Outcome Refusal) → Keeps (outcomeNumber o) was (left_over_by o was new)
record_keeps was new (Err n) k = refl
record_keeps was new (Ok Repeated) k = absurd (k refl)
record_keeps was new (Ok (Delivered m p)) k = absurd (k refl)
record_keeps was new (Ok (Held m n)) k = absurd (k refl)
record_keeps was new (Ok (Stray m)) k = absurd (k refl)
record_keeps was new (Ok (TooLong m)) k = absurd (k refl)

module _ (ws rooms d : List ℕ) where
  pub state-keeps : Keeps (take_number ws rooms d) ws (take_words ws rooms d)
  unfolding take_number take_words
  state-keeps =
      let t = taken_of (joiner_in ws) rooms d in
      record_keeps ws (with_record ws (place_in (joiner_in ws) d) t.joiner) t.outcome

  pub rooms-keeps : Keeps (take_number ws rooms d) rooms (take_rooms ws rooms d)
  unfolding take_number take_rooms
  rooms-keeps = demand_1.changes_nothing.take-rooms (joiner_in ws) rooms d

  pub answer_keeps : (was : List ℕ) → Keeps (take_number ws rooms d) was (take_answer ws rooms d was)
  unfolding take_number take_answer
  answer_keeps was = outcome_keeps was (taken_of (joiner_in ws) rooms d).outcome

-- one message at a platform
pub heard_keeps : (was : List ℕ) (x : Noting) → Keeps (number_given x) was (answer_words x was)
heard_keeps was (noting.Refused n) k = refl
heard_keeps was (noting.Noted h x n) k = absurd (k refl)
heard_keeps was (noting.Response h i start len) k = absurd (k refl)

-- a request given up
pub none_given_up : (b : Bool) (n : ℕ) → n ≡ cond b 1 0 → n ≡ 0 → b ≡ false
none_given_up true n e z = absurd (omega (arith, e, z))
none_given_up false n e z = refl

-- what a contract says of the number and of what was lent
pub by : {B : Type 0} {n m : ℕ} {was left z : B} → n ≡ m → left ≡ z → Keeps m was z → Keeps n was left
by e f g k = f ∙ g (λ z. k (e ∙ z))

pub by_walked : {n : ℕ} {was left : List ℕ} (x : Answer) → n ≡ payload.number_given x → left ≡ walked_left was x → Numbered x
    → WordsKept n was left
by_walked {n} {was} {left} x e f h = rw (e, f) (walked_keeps was x h)

pub by_plans : {n : ℕ} {was left : List ℕ} (c : Codec) (m : ℕ) (ps t : List ℕ) (s : Sections) (i room : ℕ)
    → n ≡ payload.number_given (answered_by c m ps t s i room) → left ≡ walked_left was (answered_by c m ps t s i room) → WordsKept n was left
by_plans c m ps t s i room e f = by_walked (answered_by c m ps t s i room) e f (by-numbered c m t ps s i room)

-- 01, "Easy wrong turns": "two platforms would answer for ever"; 02, request 8: nor do they where partners speak either issue. Two platforms
-- that answer each other, each of which has the other set up as one issue; what is under way are bytes, which may arrive in any order or be
-- lost. At each arrival the receiver may lend any table, sections and index, list of pending requests, words of services, services of its
-- own, timestamp, composite ID and output, which may be too short.
-- Wrong programs that it rules out: UP while UP answered again; a status of services answered with a request for them; a pull of all of
-- Issue 3 answered with UNKNOWN_OPERATION, as Issue 6 has it (specs/WrongMixedExchange). The theorem is in proofs/MixedExchange.antt.
use Rattle.std.specs.Prelude.{ℕ, zero, suc, ◌+◌, ◌≤◌, ◌<◌, ◌≡◌, Bool, true, false, not, cond, List, [], ◌∷◌, ◌++◌, eqb, length, take, drop}
use Rattle.wire.specs.Bytes.{number}
use Rattle.message3.specs.declared.Stamp.{Stamp}
use Rattle.partners.specs.Threes.{is_three}
use Rattle.platform.specs.declared.reactions.Standing.{Standing}
use Rattle.platform.specs.declared.reactions.Reply.TheVariants.{StatusUp}
use Rattle.platform.specs.Replies.{reply_bytes}
use Rattle.platform.specs.Receiving.{fresh_standing}
use Rattle.mixed.specs.declared.AnyAnswer.{AnyAnswer}
use Rattle.mixed.specs.declared.AnyAnswer.TheVariants.{Refused, Six, SixResponse, Three, ThreeResponse}
use Rattle.mixed.specs.declared.AnyReceived.{AnyReceived}
use Rattle.mixed.specs.Replies.{status_message}
use Rattle.promises.specs.MixedCalls.{TableGiven, answer_on, output_on}

-- what is lent when a message arrives
pub record Lent : Type 0 where
  pub table : TableGiven
  pub ours : List ℕ
  pub list : List ℕ
  pub services : List ℕ
  pub stamp : Stamp
  pub composite : ℕ
  pub output : List ℕ

-- what the call then answers, and what it leaves in the output: own number, who speaks Issue 3, what is lent, what is kept, the message
abbrev pub answer_to : ℕ → List ℕ → Lent → Standing → List ℕ → AnyReceived
answer_to own i c p m = answer_on c.table own i c.ours p c.list c.services m (length c.output)

abbrev pub output_to : ℕ → List ℕ → Lent → Standing → List ℕ → List ℕ
output_to own i c p m = output_on c.table own c.stamp c.composite i c.ours p c.services m c.output

-- how many bytes of replies it says it wrote
abbrev pub written_by : AnyAnswer → ℕ
written_by (Refused n) = 0
written_by (Six h x n) = n
written_by (SixResponse h i start len) = 0
written_by (Three h x n) = n
written_by (ThreeResponse h i start len) = 0

-- those bytes as messages, one behind another: each is as long as its header and its payload, whose size stands where its version has it
abbrev pub said_length : List ℕ → ℕ
said_length s = cond (eqb (number 0 s 2) 2) (20 + number 2 s 12) (24 + number 2 s 16)

abbrev pub messages_in : ℕ → List ℕ → List (List ℕ)
messages_in zero s = []
messages_in (suc n) [] = []
messages_in (suc n) (b ∷ s) = take (said_length (b ∷ s)) (b ∷ s) ∷ messages_in n (drop (said_length (b ∷ s)) (b ∷ s))

abbrev pub messages_sent : AnyReceived → List ℕ → List (List ℕ)
messages_sent r out = messages_in (written_by r.answer) (take (written_by r.answer) out)

-- a platform, ours or any other, to which a message comes: what it keeps then, and the messages that it sends back
pub record Answering : Type 0 where
  pub kept : ℕ → List ℕ → Lent → Standing → List ℕ → Standing
  pub sent : ℕ → List ℕ → Lent → Standing → List ℕ → List (List ℕ)

abbrev pub our_answering : Answering
our_answering =
    record {
      kept = λ own i c p m. (answer_to own i c p m).standing;
      sent = λ own i c p m. messages_sent (answer_to own i c p m) (output_to own i c p m);
    }

-- two of them: their numbers, and who speaks Issue 3 to each
pub record Two : Type 0 where
  pub a : ℕ
  pub b : ℕ
  pub threes_of_a : List ℕ
  pub threes_of_b : List ℕ

-- what they keep, and the messages that are under way to each
pub record Pair : Type 0 where
  pub a : Standing
  pub b : Standing
  pub to_a : List (List ℕ)
  pub to_b : List (List ℕ)

-- a message under way arrives, or is lost
pub data Step (X : Answering) (w : Two) : Pair → Pair → Type 0 where
  arrives_at_a : (c : Lent) (p q : Standing) (before after to_b : List (List ℕ)) (m : List ℕ)
      → Step X w (record { a = p; b = q; to_a = before ++ (m ∷ after); to_b = to_b })
      (record { a = X.kept w.a w.threes_of_a c p m; b = q; to_a = before ++ after; to_b = to_b ++ X.sent w.a w.threes_of_a c p m })
  arrives_at_b : (c : Lent) (p q : Standing) (before after to_a : List (List ℕ)) (m : List ℕ)
      → Step X w (record { a = p; b = q; to_a = to_a; to_b = before ++ (m ∷ after) })
      (record { a = p; b = X.kept w.b w.threes_of_b c q m; to_a = to_a ++ X.sent w.b w.threes_of_b c q m; to_b = before ++ after })
  lost_to_a : (p q : Standing) (before after to_b : List (List ℕ)) (m : List ℕ)
      → Step X w (record { a = p; b = q; to_a = before ++ (m ∷ after); to_b = to_b }) (record { a = p; b = q; to_a = before ++ after; to_b = to_b })
  lost_to_b : (p q : Standing) (before after to_a : List (List ℕ)) (m : List ℕ)
      → Step X w (record { a = p; b = q; to_a = to_a; to_b = before ++ (m ∷ after) }) (record { a = p; b = q; to_a = to_a; to_b = before ++ after })

-- n messages after one another
pub data Exchange (X : Answering) (w : Two) : ℕ → Pair → Pair → Type 0 where
  none : (x : Pair) → Exchange X w zero x x
  more : (n : ℕ) (x y z : Pair) → Step X w x y → Exchange X w n y z → Exchange X w (suc n) x z

-- a status UP, in the form of Issue 3 or of Issue 6; and a platform's, in the form in which it has the other set up
pub record Status : Type 0 where
  pub stamp : Stamp
  pub composite : ℕ
  pub number : ℕ

abbrev pub status_in : Bool → ℕ → Status → List ℕ
status_in three own u = cond three (status_message own u.stamp u.composite u.number) (reply_bytes own (StatusUp u.number))

-- what it starts: the one message under way, to b from a, or to a from b
abbrev pub starts_from_a : Two → Standing → Standing → Bool → Status → Pair
starts_from_a w p q three u = record { a = p; b = q; to_a = []; to_b = status_in three w.a u ∷ [] }

abbrev pub starts_from_b : Two → Standing → Standing → Bool → Status → Pair
starts_from_b w p q three u = record { a = p; b = q; to_a = status_in three w.b u ∷ []; to_b = [] }

-- statuses of both under way at once, as where both start: how many, from each, and in which form
abbrev pub statuses_of : ℕ → List (Bool × Status) → List (List ℕ)
statuses_of own [] = []
statuses_of own (u ∷ us) = status_in u.0 own u.1 ∷ statuses_of own us

abbrev pub starts_from_both : Two → Standing → Standing → List (Bool × Status) → List (Bool × Status) → Pair
starts_from_both w p q us vs = record { a = p; b = q; to_a = statuses_of w.b vs; to_b = statuses_of w.a us }

-- two platforms of the 256
pub record Apart (w : Two) : Type 0 where
  pub one : w.a < 256
  pub other : w.b < 256
  pub two : w.a ≡ w.b → ⊥

-- from x at most `most` messages, and none under way after as many
pub record SilentAfter (X : Answering) (w : Two) (x : Pair) (most : ℕ) : Type 0 where
  pub at_most : (n : ℕ) (z : Pair) → Exchange X w n x z → n ≤ most
  pub then_none : (z : Pair) → Exchange X w most x z → (z.to_a ≡ []) × (z.to_b ≡ [])

abbrev pub StatusSilentAfter : Answering → Two → Bool → Bool → ℕ → Type 0
StatusSilentAfter X w ofA ofB most =
    (p q : Standing) (u : Status) → SilentAfter X w (starts_from_a w p q ofA u) most × SilentAfter X w (starts_from_b w p q ofB u) most

-- whatever the two keep and whatever their set-ups: 9 for a status in either form, and one more for each further status; 7 where neither has the
-- other for Issue 3; and 1 where each has the other for another issue and the status is as its sender has it
pub record FallSilentBy (X : Answering) : Type 0 where
  pub always : (w : Two) → Apart w → (ofA ofB : Bool) → StatusSilentAfter X w ofA ofB 9
  pub crossing : (w : Two) → Apart w → (p q : Standing) (us vs : List (Bool × Status))
      → SilentAfter X w (starts_from_both w p q us vs) (8 + length us + length vs)
  pub two_sixes : (w : Two) → Apart w → is_three w.threes_of_a w.b ≡ false → is_three w.threes_of_b w.a ≡ false → (ofA ofB : Bool)
      → StatusSilentAfter X w ofA ofB 7
  pub at_odds : (w : Two) → Apart w → is_three w.threes_of_a w.b ≡ not (is_three w.threes_of_b w.a)
      → StatusSilentAfter X w (is_three w.threes_of_a w.b) (is_three w.threes_of_b w.a) 1

-- and as many are reached: by two that start, 1 and 2, which have each other for Issue 3, for Issue 6, or for another
abbrev pub both : List ℕ → List ℕ → Two
both i j = record { a = 1; b = 2; threes_of_a = i; threes_of_b = j }

abbrev pub first_status : Status
first_status = record { stamp = record { seconds = 0; nanoseconds = 0 }; composite = 0; number = 0 }

abbrev pub Reached : Answering → List ℕ → List ℕ → Bool → ℕ → Type 0
Reached X i j three n = (z : Pair) × Exchange X (both i j) n (starts_from_a (both i j) (fresh_standing 1) (fresh_standing 2) three first_status) z

abbrev pub speak_three : List ℕ
speak_three = 6 ∷ 0 ∷ 0 ∷ 0 ∷ []

abbrev pub speak_six : List ℕ
speak_six = 0 ∷ 0 ∷ 0 ∷ 0 ∷ []

pub record MixedSilence : Type 0 where
  pub silent : FallSilentBy our_answering
  pub nine_by_threes : Reached our_answering speak_three speak_three true 9
  pub ten_by_crossing : (z : Pair) × Exchange our_answering (both speak_three speak_three) 10
      (starts_from_both (both speak_three speak_three) (fresh_standing 1) (fresh_standing 2) ((true, first_status) ∷ []) ((true, first_status) ∷ [])) z
  pub seven_by_sixes : Reached our_answering speak_six speak_six false 7
  pub one_at_odds : Reached our_answering speak_three speak_six true 1

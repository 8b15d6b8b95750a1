-- 01, "Easy wrong turns": "UP while already UP answered again: two platforms would answer for ever". Such platforms do not fall
-- silent. The theorems are in proofs/WrongPlatforms.antt.
use Rattle.std.specs.Prelude.{ℕ, zero, suc, ◌≤◌, cond, List, [], ◌∷◌, ◌++◌}
use Rattle.std.specs.Prelude.{Option}
use Rattle.table.specs.declared.Sections.{Sections}
use Rattle.message.specs.declared.Header.{Header}
use Rattle.message.specs.declared.Status.TheVariants.{Down, Up}
use Rattle.message.specs.declared.Message.{Message}
use Rattle.message.specs.declared.Message.TheVariants as message
use Rattle.message.specs.declared.Reading.{Reading}
use Rattle.message.specs.declared.Reading.TheVariants as reading
use Rattle.message.specs.Reading.{read_of}
use Rattle.states.specs.States.{stands_up}
use Rattle.platform.specs.declared.reactions.Standing.{Standing}
use Rattle.platform.specs.declared.reactions.Heard.TheVariants as heard
use Rattle.platform.specs.declared.reactions.Reply.{Reply}
use Rattle.platform.specs.declared.reactions.Reply.TheVariants.{StatusUp, PullAll}
use Rattle.platform.specs.declared.reactions.Owed.TheVariants as owed
use Rattle.platform.specs.declared.reactions.Reaction.{Reaction}
use Rattle.pending.specs.Free.{drawn}
use Rattle.platform.specs.Replies.{reply_bytes}
use Rattle.platform.specs.Reaction.{reaction_to}
use Rattle.platform.specs.Receiving.{answered}
use Rattle.platform.specs.Exchange.{written, Setting, keeps, sends, Pair, started}
use Rattle.promises.specs.Platforms.{Starts}

-- a platform, ours or any other: what `own` keeps of a message of `other`, and what it sends back
pub record Answering : Type 0 where
  pub kept : ℕ → ℕ → Setting → Standing → Reply → Standing
  pub sent : ℕ → ℕ → Setting → Standing → Reply → List Reply

abbrev pub our_answering : Answering
our_answering = record { kept = keeps; sent = sends }

-- the exchanges of platform/specs/Exchange between two such platforms
pub data StepBy (X : Answering) (a b : ℕ) : Pair → Pair → Type 0 where
  at_a : (c : Setting) (p q : Standing) (before after to_b : List Reply) (r : Reply)
      → StepBy X a b (record { a = p; b = q; to_a = before ++ (r ∷ after); to_b = to_b })
      (record { a = X.kept a b c p r; b = q; to_a = before ++ after; to_b = to_b ++ X.sent a b c p r })
  at_b : (c : Setting) (p q : Standing) (before after to_a : List Reply) (r : Reply)
      → StepBy X a b (record { a = p; b = q; to_a = to_a; to_b = before ++ (r ∷ after) })
      (record { a = p; b = X.kept b a c q r; to_a = to_a ++ X.sent b a c q r; to_b = before ++ after })
  to_a_lost : (p q : Standing) (before after to_b : List Reply) (r : Reply)
      → StepBy X a b (record { a = p; b = q; to_a = before ++ (r ∷ after); to_b = to_b }) (record { a = p; b = q; to_a = before ++ after; to_b = to_b })
  to_b_lost : (p q : Standing) (before after to_a : List Reply) (r : Reply)
      → StepBy X a b (record { a = p; b = q; to_a = to_a; to_b = before ++ (r ∷ after) }) (record { a = p; b = q; to_a = to_a; to_b = before ++ after })

pub data ExchangeBy (X : Answering) (a b : ℕ) : ℕ → Pair → Pair → Type 0 where
  ended : (x : Pair) → ExchangeBy X a b zero x x
  goes_on : (n : ℕ) (x y z : Pair) → StepBy X a b x y → ExchangeBy X a b n y z → ExchangeBy X a b (suc n) x z

abbrev pub FallSilentBy : Answering → Type 0
FallSilentBy X =
    (a b : ℕ) (p q : Standing) (number : ℕ) → Starts a b p q number → (n : ℕ) (z : Pair) → ExchangeBy X a b n (started p q number) z → n ≤ 7

-- our_answering with another reaction to a message
abbrev pub Reacting : Type 0
Reacting = ℕ → List ℕ → Sections → Option (ℕ × ℕ) → Standing → Header → Message → ℕ → ℕ → Reaction

abbrev pub kept_by : Reacting → ℕ → Setting → Standing → Reading → Standing
kept_by react own c p (reading.Refused n) = p
kept_by react own c p (reading.Read h m start len) = (answered p h (react own c.table c.sections c.looked p h m start len) c.room).standing

abbrev pub replies_by : Reacting → ℕ → Setting → Standing → Reading → List Reply
replies_by react own c p (reading.Refused n) = []
replies_by react own c p (reading.Read h m start len) = written (react own c.table c.sections c.looked p h m start len) c.room

abbrev pub reacting : Reacting → Answering
reacting react =
    record {
      kept = λ own other c p r. kept_by react own c p (read_of own (reply_bytes other r));
      sent = λ own other c p r. replies_by react own c p (read_of own (reply_bytes other r));
    }

-- UP from a platform that is UP: the state stays, and the two replies are owed again
abbrev pub again_up : Standing → Reaction
again_up p =
    record {
      standing = record { states = p.states; next = drawn (drawn p.next) };
      heard = heard.Status Up;
      owed = owed.Two (StatusUp p.next) (PullAll (drawn p.next));
    }

abbrev pub up_answered_again : Reacting
up_answered_again own t s f p h (message.PlatformStatus Up) start len =
    cond (stands_up own p.states h.platform) (again_up p) (reaction_to own t s f p h (message.PlatformStatus Up) start len)
up_answered_again own t s f p h (message.PlatformStatus Down) start len = reaction_to own t s f p h (message.PlatformStatus Down) start len
up_answered_again own t s f p h message.PlatformStatusRequest start len = reaction_to own t s f p h message.PlatformStatusRequest start len
up_answered_again own t s f p h (message.UnknownOperation id) start len = reaction_to own t s f p h (message.UnknownOperation id) start len
up_answered_again own t s f p h (message.VersionedDataPull id) start len = reaction_to own t s f p h (message.VersionedDataPull id) start len
up_answered_again own t s f p h message.Operation start len = reaction_to own t s f p h message.Operation start len

pub record NoWrongPlatform : Type 0 where
  pub ours_silent : FallSilentBy our_answering
  pub up-answered-again : FallSilentBy (reacting up_answered_again) → ⊥

-- Two platforms that answer each other: what each sends on receiving a message, and the exchanges that can follow. Messages
-- under way may arrive in any order or be lost; each platform may have any table, and lend any output.
use Rattle.std.specs.Prelude.{ℕ, zero, suc, cond, List, [], ◌∷◌, ◌++◌, ltb}
use Rattle.std.specs.Prelude.{Option}
use Rattle.table.specs.declared.Sections.{Sections}
use Rattle.message.specs.declared.Reading.{Reading}
use Rattle.message.specs.declared.Reading.TheVariants as reading
use Rattle.message.specs.Reading.{read_of}
use Rattle.platform.specs.declared.reactions.Standing.{Standing}
use Rattle.platform.specs.declared.reactions.Reply.{Reply}
use Rattle.platform.specs.declared.reactions.Reply.TheVariants.{StatusUp}
use Rattle.platform.specs.declared.reactions.Reaction.{Reaction}
use Rattle.platform.specs.Replies.{replies, reply_bytes, owed_length}
use Rattle.platform.specs.Reaction.{reaction_to}
use Rattle.platform.specs.Receiving.{is_answer, outcome_of}

-- the replies that a call writes: all that are owed, or none where they don't fit
abbrev pub written : Reaction → ℕ → List Reply
written x room = cond (ltb room (owed_length x.owed)) [] (replies x.owed)

unfoldable pub sent_of : ℕ → List ℕ → Sections → Option (ℕ × ℕ) → Standing → Reading → ℕ → List Reply
sent_of own t s f p (reading.Refused n) room = []
sent_of own t s f p (reading.Read h m start len) room = cond (is_answer t f m) [] (written (reaction_to own t s f p h m start len) room)

-- a platform with its table, what was looked up in it, its list of pending requests, and the output that is lent
pub record Setting : Type 0 where
  pub table : List ℕ
  pub sections : Sections
  pub looked : Option (ℕ × ℕ)
  pub list : List ℕ
  pub room : ℕ

-- platform `own` receives the reply r of the platform `other`: what it keeps, and what it sends back
unfoldable pub keeps : ℕ → ℕ → Setting → Standing → Reply → Standing
keeps own other c p r = (outcome_of own c.table c.sections c.looked p c.list (read_of own (reply_bytes other r)) c.room).standing

unfoldable pub sends : ℕ → ℕ → Setting → Standing → Reply → List Reply
sends own other c p r = sent_of own c.table c.sections c.looked p (read_of own (reply_bytes other r)) c.room

-- what the platforms a and b keep, and the messages that are under way to each
pub record Pair : Type 0 where
  pub a : Standing
  pub b : Standing
  pub to_a : List Reply
  pub to_b : List Reply

-- a message under way arrives, or is lost
pub data Step (a b : ℕ) : Pair → Pair → Type 0 where
  arrives_at_a : (c : Setting) (p q : Standing) (before after to_b : List Reply) (r : Reply)
      → Step a b (record { a = p; b = q; to_a = before ++ (r ∷ after); to_b = to_b })
      (record { a = keeps a b c p r; b = q; to_a = before ++ after; to_b = to_b ++ sends a b c p r })
  arrives_at_b : (c : Setting) (p q : Standing) (before after to_a : List Reply) (r : Reply)
      → Step a b (record { a = p; b = q; to_a = to_a; to_b = before ++ (r ∷ after) })
      (record { a = p; b = keeps b a c q r; to_a = to_a ++ sends b a c q r; to_b = before ++ after })
  lost_to_a : (p q : Standing) (before after to_b : List Reply) (r : Reply)
      → Step a b (record { a = p; b = q; to_a = before ++ (r ∷ after); to_b = to_b }) (record { a = p; b = q; to_a = before ++ after; to_b = to_b })
  lost_to_b : (p q : Standing) (before after to_a : List Reply) (r : Reply)
      → Step a b (record { a = p; b = q; to_a = to_a; to_b = before ++ (r ∷ after) }) (record { a = p; b = q; to_a = to_a; to_b = before ++ after })

-- n messages after one another
pub data Exchange (a b : ℕ) : ℕ → Pair → Pair → Type 0 where
  none : (x : Pair) → Exchange a b zero x x
  more : (n : ℕ) (x y z : Pair) → Step a b x y → Exchange a b n y z → Exchange a b (suc n) x z

-- an exchange that a's status UP starts, whatever the two keep; and the most messages that it can have
abbrev pub started : Standing → Standing → ℕ → Pair
started p q n = record { a = p; b = q; to_a = []; to_b = StatusUp n ∷ [] }

abbrev pub longest_exchange : ℕ
longest_exchange = 7

-- A refusal changes nothing: no state, no own number and no byte of the output; and the replies that a call writes stand at
-- the output's start, the rest of it as it was.
-- Assumes nothing.
use Prim.Native.Nat.{ℕ, ◌≤◌}
use Rattle.std.specs.Prelude.{Result, Ok, Err}
use Rattle.refusal.specs.declared.Refusal.{Refusal}
use Rattle.std.specs.Prelude.{Option}
use mathlib.Core.Path.{◌≡◌, refl, sym, ap, ◌∙◌}
use mathlib.Core.Bool.{Bool, true, false, cond}
use mathlib.Core.List.{List, [], ◌∷◌, ◌++◌, append-nil}
use native.Mathlib.Omega.{arith}
use borrow.Author.Tests.{ltb-false}
use lib.Dec.{ltb}
use lib.ListN.{length, drop, length-drop}
use lib.Seq.{take_all}
use Rattle.wire.specs.Bytes.{over, part}
use Rattle.wire.proofs.Runs.{part_in, part_over}
use Rattle.table.specs.declared.Sections.{Sections}
use Rattle.pending.specs.Answers.{is_response, cancelled}
use Rattle.table.specs.Layout.{cut_short, within}
use Rattle.types.specs.Table.{checked}
use Rattle.message.specs.declared.Header.{Header}
use Rattle.message.specs.declared.Reading.{Reading}
use Rattle.message.specs.declared.Reading.TheVariants as reading
use Rattle.message.specs.Header.{header_length, payload_size_in, payload_in}
use Rattle.message.specs.Refusal.{no_room, read_refusal}
use Rattle.message.specs.Reading.{read_of}
use Rattle.message.proofs.Accepted.{Readable, readable}
use Rattle.platform.specs.declared.reactions.Standing.{Standing}
use Rattle.platform.specs.declared.Noting.TheVariants.{Refused, Noted, Response}
use Rattle.platform.specs.declared.Received.{Received}
use Rattle.platform.specs.declared.reactions.Reply.{Reply}
use Rattle.platform.specs.declared.reactions.Owed.{Owed}
use Rattle.platform.specs.declared.reactions.Owed.TheVariants as owed
use Rattle.platform.specs.declared.reactions.Reaction.{Reaction}
use Rattle.platform.specs.Replies.{reply_bytes, replies, owed_bytes, owed_length}
use Rattle.platform.specs.Reaction.{operation_in, reaction_to}
use Rattle.platform.specs.Receiving.{refused, taken, answered, laid_out, not_awaited, is_answer, delivered, response_to, list_answered}
use Rattle.platform.specs.Receiving.{outcome_of, output_of, list_of, outcome_in, output_in, list_in, index_of}
use Rattle.platform.specs.Receiving.{received_by, received_of, left_if, left_of, list_if, list_after, sections_outcome, sections_output, sections_list}
use Rattle.platform.specs.Noting.{bytes_in}
use Rattle.platform.specs.Exchange.{written, sent_of}
use Rattle.platform.proofs.ReplyBytes.{length_owed}

never : {n k : ℕ} {h : Header} {x : _} → Noted h x k ≡ Refused n → ⊥
never e = let z : ◌≡◌ {A = ℕ} 0 1 = cc in omega arith

never_delivered : {n i start len : ℕ} {h : Header} → Response h i start len ≡ Refused n → ⊥
never_delivered e = let z : ◌≡◌ {A = ℕ} 0 2 = cc in omega arith

-- what stays where the answer is a refusal
pub record Unchanged (p : Standing) (out l : List ℕ) (r : Received) (left after : List ℕ) : Type 0 where
  pub standing : r.standing ≡ p
  pub output : left ≡ out
  pub list : after ≡ l

module _ (own : ℕ) (p : Standing) (n : ℕ) (out l : List ℕ) where
  abbrev Stays : Received → List ℕ → List ℕ → Type 0
  Stays r left after = Unchanged p out l r left after

  answered-unchanged : (h : Header) (x : Reaction) → (answered p h x (length out)).answer ≡ Refused n
      → Stays (answered p h x (length out)) (laid_out own x out) l
  unfolding answered laid_out
  answered-unchanged h x e = go (ltb (length out) (owed_length x.owed)) refl e
    where
      go : (b : Bool) → ltb (length out) (owed_length x.owed) ≡ b → (cond b (refused p no_room) (taken h x (owed_length x.owed))).answer
          ≡ Refused n → Stays (answered p h x (length out)) (laid_out own x out) l
      go true q k = rw q (record { standing = refl; output = refl; list = refl })
      go false q k = absurd (never k)

  response-unchanged : (f : Option (ℕ × ℕ)) (h : Header) (start len : ℕ) → (response_to l f p h start len).answer ≡ Refused n
      → Stays (response_to l f p h start len) out (list_answered l h)
  unfolding response_to
  response-unchanged f h start len e = go (is_response l h.sequence h.id h.platform) e
    where
      go : (b : Bool) → (cond b (delivered f p h start len) (refused p not_awaited)).answer ≡ Refused n
          → Stays (cond b (delivered f p h start len) (refused p not_awaited)) out (cond b (cancelled l h.sequence) l)
      go true k = absurd (never_delivered k)
      go false k = record { standing = refl; output = refl; list = refl }

  outcome-unchanged : (t : List ℕ) (s : Sections) (f : Option (ℕ × ℕ)) (x : Reading) → (outcome_of own t s f p l x (length out)).answer ≡ Refused n
      → Stays (outcome_of own t s f p l x (length out)) (output_of own t s f p x out) (list_of t f l x)
  unfolding outcome_of output_of list_of
  outcome-unchanged t s f (reading.Refused k) e = record { standing = refl; output = refl; list = refl }
  outcome-unchanged t s f (reading.Read h m start len) e = go (reaction_to own t s f p h m start len) (is_answer t f m) e
    where
      go : (x : Reaction) (b : Bool) → (cond b (response_to l f p h start len) (answered p h x (length out))).answer ≡ Refused n
          → Stays (cond b (response_to l f p h start len) (answered p h x (length out))) (cond b out (laid_out own x out)) (cond b (list_answered l h) l)
      go x true k = response-unchanged f h start len k
      go x false k = answered-unchanged h x k

  -- the call on table bytes
  pub refusal-changes-nothing : (t m : List ℕ) → (received_of own t p l m (length out)).answer ≡ Refused n
      → Stays (received_of own t p l m (length out)) (left_of own t p m out) (list_after own t l m)
  unfolding received_of left_of list_after received_by left_if list_if
  refusal-changes-nothing t m e = go (checked t) e
    where
      go : (c : Result Sections Refusal) → (received_by c own t p l m (length out)).answer ≡ Refused n
          → Stays (received_by c own t p l m (length out)) (left_if c own t p m out) (list_if c own t l m)
      go (Err k) q = record { standing = refl; output = refl; list = refl }
      go (Ok s) q = outcome-unchanged t s (operation_in t s (index_of t s) (read_of own m)) (read_of own m) q

  -- the call on sections
  pub sections-refusal-changes-nothing : (t : List ℕ) (s : Sections) (index m : List ℕ) → (sections_outcome own t s index p l m (length out)).answer
      ≡ Refused n → Stays (sections_outcome own t s index p l m (length out)) (sections_output own t s index p m out) (sections_list own t s index l m)
  unfolding sections_outcome sections_output sections_list
  sections-refusal-changes-nothing t s index m e = go (within t s) e
    where
      go : (b : Bool) → (cond b (outcome_in own t s index p l m (length out)) (refused p cut_short)).answer ≡ Refused n
          → Stays (cond b (outcome_in own t s index p l m (length out)) (refused p cut_short)) (cond b (output_in own t s index p m out) out)
          (cond b (list_in own t s index l m) l)
      go true q = outcome-unchanged t s (operation_in t s index (read_of own m)) (read_of own m) q
      go false q = record { standing = refl; output = refl; list = refl }

-- the bytes of replies, one behind another
abbrev pub all_bytes : ℕ → List Reply → List ℕ
all_bytes own [] = []
all_bytes own (r ∷ rs) = reply_bytes own r ++ all_bytes own rs

owed-bytes : (own : ℕ) (o : Owed) → owed_bytes own o ≡ all_bytes own (replies o)
unfolding owed_bytes
owed-bytes own owed.Nothing = refl
owed-bytes own (owed.One r) = sym (append-nil (reply_bytes own r))
owed-bytes own (owed.Two r q) = ap (λ (u : List ℕ). reply_bytes own r ++ u) (sym (append-nil (reply_bytes own q)))

-- what a call says that it wrote is the replies that it sends
module _ (own : ℕ) (p : Standing) (out l : List ℕ) where
  laid-is-sent : (h : Header) (x : Reaction) → part (laid_out own x out) 0 (bytes_in (answered p h x (length out)).answer)
      ≡ all_bytes own (written x (length out))
  unfolding answered laid_out
  laid-is-sent h x = go (ltb (length out) (owed_length x.owed)) refl
    where
      go : (b : Bool) → ltb (length out) (owed_length x.owed) ≡ b
          → part (cond b out (over out 0 (owed_bytes own x.owed))) 0
          (bytes_in (cond b (refused p no_room) (taken h x (owed_length x.owed))).answer) ≡ all_bytes own (cond b [] (replies x.owed))
      go true q = part_in out 0 0 (omega arith)
      go false q =
          let l : length (owed_bytes own x.owed) ≡ owed_length x.owed = length_owed own x.owed in
          let k : owed_length x.owed ≤ length out = ltb-false (length out) (owed_length x.owed) q in
          ap (part (over out 0 (owed_bytes own x.owed)) 0) (sym l) ∙ part_over out 0 (owed_bytes own x.owed) (omega arith) ∙ owed-bytes own x.owed

  none-is-sent : (f : Option (ℕ × ℕ)) (h : Header) (start len : ℕ) → part out 0 (bytes_in (response_to l f p h start len).answer) ≡ []
  unfolding response_to
  none-is-sent f h start len = go (is_response l h.sequence h.id h.platform)
    where
      go : (b : Bool) → part out 0 (bytes_in (cond b (delivered f p h start len) (refused p not_awaited)).answer) ≡ []
      go true = part_in out 0 0 (omega arith)
      go false = part_in out 0 0 (omega arith)

  pub written-is-sent : (t : List ℕ) (s : Sections) (f : Option (ℕ × ℕ)) (x : Reading)
      → part (output_of own t s f p x out) 0 (bytes_in (outcome_of own t s f p l x (length out)).answer) ≡ all_bytes own (sent_of own t s f p x (length out))
  unfolding outcome_of output_of sent_of
  written-is-sent t s f (reading.Refused k) = part_in out 0 0 (omega arith)
  written-is-sent t s f (reading.Read h m start len) = go (reaction_to own t s f p h m start len) (is_answer t f m)
    where
      go : (x : Reaction) (b : Bool) → part (cond b out (laid_out own x out)) 0
          (bytes_in (cond b (response_to l f p h start len) (answered p h x (length out))).answer) ≡ all_bytes own (cond b [] (written x (length out)))
      go x true = none-is-sent f h start len
      go x false = laid-is-sent h x

-- where an operation's payload is said to stand, the payload stands
pub payload_stands : (own : ℕ) (m : List ℕ) → read_refusal own m ≡ 0 → part m header_length (payload_size_in m) ≡ payload_in m
payload_stands own m e =
    let a : Readable own m = readable own m e in
    let l = a.long in
    let z = a.size in
    part_in m header_length (payload_size_in m) (omega arith) ∙ take_all (payload_size_in m) (drop header_length m) (omega (arith, length-drop header_length m))

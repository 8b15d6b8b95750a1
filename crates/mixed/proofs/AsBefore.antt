-- 02, request 8, "Issue 6 if unsaid": a message that has not Issue 3's form, and whose sender does not speak Issue 3, is answered as
-- `platform` answers it, whoever else speaks Issue 3; and no word of services changes.
-- Assumes nothing.
use Prim.Native.Nat.{ℕ}
use Rattle.std.specs.Prelude.{Result, Ok, Err}
use Rattle.refusal.specs.declared.Refusal.{Refusal}
use mathlib.Core.Path.{◌≡◌, refl, sym, ap, ◌∙◌}
use mathlib.Core.Bool.{Bool, true, false, cond}
use mathlib.Core.List.{List}
use Rattle.table.specs.declared.Sections.{Sections}
use Rattle.table.specs.Layout.{within}
use Rattle.types.specs.Table.{checked}
use Rattle.message.specs.declared.Reading.{Reading}
use Rattle.message.specs.declared.Reading.TheVariants as six
use Rattle.message.specs.Header.{sender_in}
use Rattle.message.specs.Reading.{read_of}
use Rattle.message3.specs.declared.Stamp.{Stamp}
use Rattle.partners.specs.Threes.{is_three}
use Rattle.platform.specs.declared.reactions.Standing.{Standing}
use Rattle.platform.specs.declared.Noting.TheVariants as noting
use Rattle.platform.specs.Reaction.{operation_in}
use Rattle.platform.specs.Receiving.{outcome_of, output_of, list_of, outcome_in, output_in, list_in, index_of, received_by, received_of, left_if, left_of}
use Rattle.platform.specs.Receiving.{list_if, list_after, sections_outcome, sections_output, sections_list}
use Rattle.mixed.specs.Form.{three_form}
use Rattle.mixed.specs.Reading.{from_six, any_of}
use Rattle.mixed.specs.Receiving.{from_received, refused_any, any_outcome_of, any_output_of, any_list_of, any_words_of, any_outcome, any_output, any_list, any_words}
use Rattle.mixed.specs.Tables.{sections_answer, sections_out, sections_pending, sections_words, answer_if, out_if, pending_if, words_if}
use Rattle.mixed.proofs.Issues.{if-six}

module _ (own : ℕ) (i ours t : List ℕ) (s : Sections) (index : List ℕ) (p : Standing) (ws m : List ℕ) (e : three_form i m ≡ false)
    (f : is_three i (sender_in m) ≡ false) where
  its-reading : any_of i own m ≡ from_six (read_of own m)
  its-reading = if-six i own m e f

  pub outcome-before : (l : List ℕ) (room : ℕ) → any_outcome own i ours t s index p l ws m room ≡ from_received (outcome_in own t s index p l m room)
  unfolding any_outcome_of outcome_of
  outcome-before l room = ap (any_outcome_of own i ours t s index p l ws m room) its-reading ∙ go (read_of own m) refl
    where
      go : (x : Reading) → read_of own m ≡ x → any_outcome_of own i ours t s index p l ws m room (from_six x) ≡ from_received (outcome_in own t s index p l m room)
      go (six.Refused n) q = ap (λ (x : Reading). from_received (outcome_of own t s (operation_in t s index x) p l x room)) (sym q)
      go (six.Read h k start len) q = refl

  pub output-before : (st : Stamp) (c : ℕ) (out : List ℕ) → any_output own st c i ours t s index p ws m out ≡ output_in own t s index p m out
  unfolding any_output_of output_of
  output-before st c out = ap (any_output_of own st c i ours t s index p ws m out) its-reading ∙ go (read_of own m) refl
    where
      go : (x : Reading) → read_of own m ≡ x → any_output_of own st c i ours t s index p ws m out (from_six x) ≡ output_in own t s index p m out
      go (six.Refused n) q = ap (λ (x : Reading). output_of own t s (operation_in t s index x) p x out) (sym q)
      go (six.Read h k start len) q = refl

  pub list-before : (l : List ℕ) → any_list own i t s index l m ≡ list_in own t s index l m
  unfolding any_list_of list_of
  list-before l = ap (any_list_of own t s index l m) its-reading ∙ go (read_of own m) refl
    where
      go : (x : Reading) → read_of own m ≡ x → any_list_of own t s index l m (from_six x) ≡ list_in own t s index l m
      go (six.Refused n) q = ap (λ (x : Reading). list_of t (operation_in t s index x) l x) (sym q)
      go (six.Read h k start len) q = refl

  pub words-before : (room : ℕ) → any_words own i ours t s index p ws m room ≡ ws
  unfolding any_words_of
  words-before room = ap (any_words_of own i ours t s index p ws m room) its-reading ∙ go (read_of own m)
    where
      go : (x : Reading) → any_words_of own i ours t s index p ws m room (from_six x) ≡ ws
      go (six.Refused n) = refl
      go (six.Read h k start len) = refl

  -- on sections
  pub sections-before : (l : List ℕ) (room : ℕ) → sections_answer own i ours t s index p l ws m room ≡ from_received (sections_outcome own t s index p l m room)
  unfolding sections_answer sections_outcome
  sections-before l room = go (within t s)
    where
      go : (b : Bool) → cond b (any_outcome own i ours t s index p l ws m room) (refused_any p 30)
          ≡ from_received (cond b (outcome_in own t s index p l m room) (record { standing = p; answer = noting.Refused 30 }))
      go true = outcome-before l room
      go false = refl

  pub sections-output-before : (st : Stamp) (c : ℕ) (out : List ℕ) → sections_out own st c i ours t s index p ws m out ≡ sections_output own t s index p m out
  unfolding sections_out sections_output
  sections-output-before st c out = ap (λ (o : List ℕ). cond (within t s) o out) (output-before st c out)

  pub sections-list-before : (l : List ℕ) → sections_pending own i t s index l m ≡ sections_list own t s index l m
  unfolding sections_pending sections_list
  sections-list-before l = ap (λ (o : List ℕ). cond (within t s) o l) (list-before l)

  pub sections-words-before : (room : ℕ) → sections_words own i ours t s index p ws m room ≡ ws
  unfolding sections_words
  sections-words-before room = ap (λ (o : List ℕ). cond (within t s) o ws) (words-before room) ∙ go (within t s)
    where
      go : (b : Bool) → cond b ws ws ≡ ws
      go true = refl
      go false = refl

-- on table bytes
module _ (own : ℕ) (i ours t : List ℕ) (p : Standing) (ws m : List ℕ) (e : three_form i m ≡ false) (f : is_three i (sender_in m) ≡ false) where
  pub answer-before : (l : List ℕ) (room : ℕ) → answer_if (checked t) own i ours t p l ws m room ≡ from_received (received_of own t p l m room)
  unfolding answer_if received_of received_by
  answer-before l room = go (checked t)
    where
      go : (k : Result Sections Refusal) → answer_if k own i ours t p l ws m room ≡ from_received (received_by k own t p l m room)
      go (Err n) = refl
      go (Ok s) = outcome-before own i ours t s (index_of t s) p ws m e f l room

  pub left-before : (st : Stamp) (c : ℕ) (out : List ℕ) → out_if (checked t) own st c i ours t p ws m out ≡ left_of own t p m out
  unfolding out_if left_of left_if
  left-before st c out = go (checked t)
    where
      go : (k : Result Sections Refusal) → out_if k own st c i ours t p ws m out ≡ left_if k own t p m out
      go (Err n) = refl
      go (Ok s) = output-before own i ours t s (index_of t s) p ws m e f st c out

  pub pending-before : (l : List ℕ) → pending_if (checked t) own i t l m ≡ list_after own t l m
  unfolding pending_if list_after list_if
  pending-before l = go (checked t)
    where
      go : (k : Result Sections Refusal) → pending_if k own i t l m ≡ list_if k own t l m
      go (Err n) = refl
      go (Ok s) = list-before own i ours t s (index_of t s) p ws m e f l

  pub kept-before : (room : ℕ) → words_if (checked t) own i ours t p ws m room ≡ ws
  unfolding words_if
  kept-before room = go (checked t)
    where
      go : (k : Result Sections Refusal) → words_if k own i ours t p ws m room ≡ ws
      go (Err n) = refl
      go (Ok s) = words-before own i ours t s (index_of t s) p ws m e f room

-- 02, request 8: the one call for one message on a table that was checked before, and on table bytes: 30 to 33 come first, and change
-- nothing.
use Rattle.std.specs.Prelude.{ℕ, cond, List}
use Rattle.std.specs.Prelude.{Result, Ok, Err}
use Rattle.refusal.specs.declared.Refusal.{Refusal}
use Rattle.refusal.specs.Refusal.{number_of}
use Rattle.table.specs.declared.Sections.{Sections}
use Rattle.table.specs.Layout.{cut_short, within}
use Rattle.message3.specs.declared.Stamp.{Stamp}
use Rattle.platform.specs.declared.reactions.Standing.{Standing}
use Rattle.platform.specs.Receiving.{index_of}
use Rattle.mixed.specs.declared.AnyReceived.{AnyReceived}
use Rattle.mixed.specs.Receiving.{refused_any, any_outcome, any_output, any_list, any_words}
use Rattle.refusal.specs.Refusal.{number_of}

-- on sections: 30 where these don't lie in the bytes
unfoldable pub sections_answer : ℕ → List ℕ → List ℕ → List ℕ → Sections → List ℕ → Standing → List ℕ → List ℕ → List ℕ → ℕ → AnyReceived
sections_answer own i ours t s index p l ws m room = cond (within t s) (any_outcome own i ours t s index p l ws m room) (refused_any p cut_short)

unfoldable pub sections_out : ℕ → Stamp → ℕ → List ℕ → List ℕ → List ℕ → Sections → List ℕ → Standing → List ℕ → List ℕ → List ℕ → List ℕ
sections_out own st c i ours t s index p ws m out = cond (within t s) (any_output own st c i ours t s index p ws m out) out

unfoldable pub sections_pending : ℕ → List ℕ → List ℕ → Sections → List ℕ → List ℕ → List ℕ → List ℕ
sections_pending own i t s index l m = cond (within t s) (any_list own i t s index l m) l

unfoldable pub sections_words : ℕ → List ℕ → List ℕ → List ℕ → Sections → List ℕ → Standing → List ℕ → List ℕ → ℕ → List ℕ
sections_words own i ours t s index p ws m room = cond (within t s) (any_words own i ours t s index p ws m room) ws

-- on table bytes, by an index of its own
unfoldable pub answer_if : Result Sections Refusal → ℕ → List ℕ → List ℕ → List ℕ → Standing → List ℕ → List ℕ → List ℕ → ℕ → AnyReceived
answer_if (Err e) own i ours t p l ws m room = refused_any p (number_of e)
answer_if (Ok s) own i ours t p l ws m room = any_outcome own i ours t s (index_of t s) p l ws m room

unfoldable pub out_if : Result Sections Refusal → ℕ → Stamp → ℕ → List ℕ → List ℕ → List ℕ → Standing → List ℕ → List ℕ → List ℕ → List ℕ
out_if (Err e) own st c i ours t p ws m out = out
out_if (Ok s) own st c i ours t p ws m out = any_output own st c i ours t s (index_of t s) p ws m out

unfoldable pub pending_if : Result Sections Refusal → ℕ → List ℕ → List ℕ → List ℕ → List ℕ → List ℕ
pending_if (Err e) own i t l m = l
pending_if (Ok s) own i t l m = any_list own i t s (index_of t s) l m

unfoldable pub words_if : Result Sections Refusal → ℕ → List ℕ → List ℕ → List ℕ → Standing → List ℕ → List ℕ → ℕ → List ℕ
words_if (Err e) own i ours t p ws m room = ws
words_if (Ok s) own i ours t p ws m room = any_words own i ours t s (index_of t s) p ws m room

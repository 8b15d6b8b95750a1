-- 02, request 8: the platform call among partners of both issues, in one word for both ways in which it is handed a table. The statements
-- about it are in specs/MixedRefusals, MixedOrder and MixedServices.
use Rattle.std.specs.Prelude.{ℕ, List}
use Rattle.table.specs.declared.Sections.{Sections}
use Rattle.types.specs.Table.{checked}
use Rattle.message3.specs.declared.Stamp.{Stamp}
use Rattle.platform.specs.declared.reactions.Standing.{Standing}
use Rattle.mixed.specs.declared.AnyReceived.{AnyReceived}
use Rattle.mixed.specs.Tables.{sections_answer, sections_out, sections_pending, sections_words, answer_if, out_if, pending_if, words_if}

-- a table: its bytes, which the call checks; or bytes with the sections and the index that an earlier check handed back
pub data TableGiven : Type 0 where
  bytes : List ℕ → TableGiven
  sections : List ℕ → Sections → List ℕ → TableGiven

-- the call: table; own number, who speaks Issue 3, our services; what is kept, pending requests, services; message; room for replies.
-- What it answers, with the states and the own number after it; what it leaves in the output, the list and the services' words
abbrev pub answer_on : TableGiven → ℕ → List ℕ → List ℕ → Standing → List ℕ → List ℕ → List ℕ → ℕ → AnyReceived
answer_on (bytes t) own i ours p l ws m room = answer_if (checked t) own i ours t p l ws m room
answer_on (sections t s index) own i ours p l ws m room = sections_answer own i ours t s index p l ws m room

abbrev pub output_on : TableGiven → ℕ → Stamp → ℕ → List ℕ → List ℕ → Standing → List ℕ → List ℕ → List ℕ → List ℕ
output_on (bytes t) own st c i ours p ws m out = out_if (checked t) own st c i ours t p ws m out
output_on (sections t s index) own st c i ours p ws m out = sections_out own st c i ours t s index p ws m out

abbrev pub list_on : TableGiven → ℕ → List ℕ → List ℕ → List ℕ → List ℕ
list_on (bytes t) own i l m = pending_if (checked t) own i t l m
list_on (sections t s index) own i l m = sections_pending own i t s index l m

abbrev pub services_on : TableGiven → ℕ → List ℕ → List ℕ → Standing → List ℕ → List ℕ → ℕ → List ℕ
services_on (bytes t) own i ours p ws m room = words_if (checked t) own i ours t p ws m room
services_on (sections t s index) own i ours p ws m room = sections_words own i ours t s index p ws m room

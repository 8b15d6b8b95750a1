-- 02, request 8: on a table that is accepted, the platform call among partners of both issues gives on the sections and the index that a check
-- left what it gives on the table's bytes, whatever the message. So what is promised of the one holds of the other. Ruled out: an operation of
-- Issue 3 looked up in another way where a program has checked its table before. The theorem is in proofs/MixedOnSections.antt.
use Rattle.std.specs.Prelude.{ℕ, ◌≤◌, ◌≡◌, List, length}
use Rattle.std.specs.Prelude.{Ok}
use Rattle.table.specs.declared.Sections.{Sections}
use Rattle.types.specs.Table.{checked}
use Rattle.mixed.specs.Tables.{sections_answer, sections_out, sections_pending, sections_words}
use Rattle.promises.specs.Lookups.{laid}
use Rattle.promises.specs.Owed3.{MixedCall}
use Rattle.promises.specs.Replies3.{our_outcome, our_output, our_list, our_words}

-- the call c with these sections, and the index laid into these words
pub record AsOnBytes3 (c : MixedCall) (s : Sections) (words : List ℕ) : Type 0 where
  pub answer : sections_answer c.own c.partners c.ours c.table s (laid c.table s words) c.standing c.pending c.services c.message
      (length c.output) ≡ our_outcome c
  pub output : sections_out c.own c.stamp c.composite c.partners c.ours c.table s (laid c.table s words) c.standing c.services
      c.message c.output ≡ our_output c
  pub list : sections_pending c.own c.partners c.table s (laid c.table s words) c.pending c.message ≡ our_list c
  pub services : sections_words c.own c.partners c.ours c.table s (laid c.table s words) c.standing c.services c.message
      (length c.output) ≡ our_words c

abbrev pub MixedOnSections : Type 0
MixedOnSections =
    (c : MixedCall) (s : Sections) (words : List ℕ) → checked c.table ≡ Ok s → s.operations.count ≤ length words → AsOnBytes3 c s words

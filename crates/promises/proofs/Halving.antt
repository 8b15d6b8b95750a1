-- How many looks a search by halving takes, what a forged index can lead to, and what `nyr_find` tells of a table that was checked.
-- Assumes nothing.
use Prim.Native.Nat.{ℕ}
use Rattle.std.specs.Prelude.{Ok}
use Rattle.std.specs.Prelude.{Option, Some, None}
use mathlib.Core.Path.{◌≡◌, refl, ap, ap₂, ◌∙◌}
use mathlib.Core.Bool.{true}
use mathlib.Core.List.{List}
use Rattle.wire.proofs.Cond.{yes-if}
use Rattle.table.specs.declared.Sections.{Sections}
use Rattle.table.specs.Layout.{cut_short, within}
use Rattle.table.specs.Words.{sections_in, index_in}
use Rattle.types.specs.Table.{checked}
use Rattle.types.proofs.Accepted.{accepted, is_within}
use Rattle.operations.specs.Entries.{width_of, kind_at, op_width, response_at, operation_at}
use Rattle.operations.specs.Search.{halved, sought_in, borne}
use Rattle.operations.proofs.Halving as laws
use Rattle.nyrkovash.specs.TableCalls.{found_words, find_number, find_answer}
use Rattle.promises.specs.Rules32.{operation_place}
use Rattle.promises.specs.Lookups.{laid, looked_up}
use Rattle.promises.specs.LinkedReplies.{CheckLeft}
use Rattle.promises.specs.Halving.{told_of, Halving}
use Rattle.promises.proofs.Lookups.{lookups}
use Rattle.promises.proofs.LinkedPayloads.{sections_back}

-- what is told of what was found at entry i
entry_told : (t : List ℕ) (s : Sections) (i : ℕ) → found_words t (Some (i, operation_place t s i)) ≡ told_of t s i
unfolding operation_at kind_at response_at
entry_told t s i = refl

-- a call on the words that the check left, by its contract
module _ (t : List ℕ) (s : Sections) (words ss : List ℕ) (id : ℕ) (e : checked t ≡ Ok s) (c : CheckLeft t s words ss) where
  its_sections : sections_in ss ≡ s
  its_sections = sections_back t s ss (laid t s words) e c.0

  its-index : index_in ss ≡ laid t s words
  its-index = ap index_in c.0

  inside : within t s ≡ true
  inside = is_within t s (accepted t s e)

  pub finds-number : (n : ℕ) → n ≡ find_number t (sections_in ss) → n ≡ 0
  finds-number n p = p ∙ ap (find_number t) its_sections ∙ yes-if 0 cut_short inside

  pub finds-answer : (was x : List ℕ) (f : Option (ℕ × ℕ)) → x ≡ find_answer t (sections_in ss) (index_in ss) id was → looked_up t s words id ≡ f → x ≡ found_words t f
  finds-answer was x f p q =
      p ∙ ap₂ (λ (y : Sections) (index : List ℕ). find_answer t y index id was) its_sections its-index
      ∙ yes-if (found_words t (looked_up t s words id)) was inside ∙ ap (found_words t) q

pub halving : Halving
unfolding sought_in halved borne op_width width_of kind_at
halving =
    record {
      eleven_looks = λ t index count id h. laws.eleven_looks t index id count h;
      found_by_eleven = refl;
      missed_by_ten = refl;
      forged = λ t index count id i p e. let b = laws.found-bears t index id count i p e in (b.0, b.3, b.2);
      past_the_bytes = refl;
      another_id = refl;
      on_accepted = lookups;
      finds = λ s words i k a n e p ok c h q.
          let t = a.0.now in
          let l = lookups.looks_up t s words a.1.1.0 ok c.1 in (
            finds-number t s words a.1.0.now a.1.1.0 ok c n p.0,
            finds-answer t s words a.1.0.now a.1.1.0 ok c _ _ (Some (i, operation_place t s i)) p.1 (l.each i h q) ∙ entry_told t s i,
          );
      finds_none = λ s words k a n e p ok c h.
          let t = a.0.now in
          let l = lookups.looks_up t s words a.1.1.0 ok c.1 in (
            finds-number t s words a.1.0.now a.1.1.0 ok c n p.0,
            finds-answer t s words a.1.0.now a.1.1.0 ok c _ _ None p.1 (l.none.1 h),
          );
    }

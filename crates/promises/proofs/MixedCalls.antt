-- What the platform call among partners of both issues comes to, whichever way its table is handed over: its table is refused, and nothing
-- changes; or the sections that its operations are looked up in lie in the table's bytes.
-- Assumes nothing.
use Prim.Native.Nat.{ℕ}
use Rattle.refusal.specs.Refusal.{number_of}
use Rattle.std.specs.Prelude.{Result, Ok, Err}
use Rattle.refusal.specs.declared.Refusal.{Refusal}
use mathlib.Core.Path.{◌≡◌, refl, sym, ap, ◌∙◌}
use mathlib.Core.Bool.{Bool, true, false}
use mathlib.Core.List.{List}
use native.Mathlib.Omega.{arith}
use Rattle.table.specs.declared.Sections.{Sections}
use Rattle.table.specs.Layout.{within}
use Rattle.types.specs.Table.{checked}
use Rattle.types.proofs.Accepted.{accepted, is_within}
use Rattle.message3.specs.declared.Stamp.{Stamp}
use Rattle.wire.proofs.Cond.{yes-if, no-if}
use Rattle.platform.specs.declared.reactions.Standing.{Standing}
use Rattle.platform.specs.Receiving.{index_of}
use Rattle.mixed.specs.declared.AnyReceived.{AnyReceived}
use Rattle.mixed.specs.Receiving.{refused_any, any_outcome, any_output, any_list, any_words}
use Rattle.mixed.specs.Tables.{sections_answer, sections_out, sections_pending, sections_words, answer_if, out_if, pending_if, words_if}
use Rattle.promises.specs.TableOrder.{sections_in}
use Rattle.promises.specs.MixedServices.{GoodTable}
use Rattle.promises.specs.MixedCalls.{TableGiven, bytes, sections, answer_on, output_on, list_on, services_on}
use Rattle.promises.proofs.PayloadOrder.{lie_decides}
use Rattle.promises.proofs.Numbered.{TableNumbered, table_numbered}

pub record Refuses (g : TableGiven) (n : ℕ) : Type 0 where
  pub bad : ¬ (GoodTable g)
  pub number : ¬ (n ≡ 0)
  pub answer : (own : ℕ) (i ours : List ℕ) (p : Standing) (l ws m : List ℕ) (room : ℕ) → answer_on g own i ours p l ws m room ≡ refused_any p n
  pub output : (own : ℕ) (st : Stamp) (c : ℕ) (i ours : List ℕ) (p : Standing) (ws m out : List ℕ) → output_on g own st c i ours p ws m out ≡ out
  pub list : (own : ℕ) (i l m : List ℕ) → list_on g own i l m ≡ l
  pub services : (own : ℕ) (i ours : List ℕ) (p : Standing) (ws m : List ℕ) (room : ℕ) → services_on g own i ours p ws m room ≡ ws

pub record Goes (g : TableGiven) (t : List ℕ) (s : Sections) (index : List ℕ) : Type 0 where
  pub inside : within t s ≡ true
  pub answer : (own : ℕ) (i ours : List ℕ) (p : Standing) (l ws m : List ℕ) (room : ℕ) →
      answer_on g own i ours p l ws m room ≡ any_outcome own i ours t s index p l ws m room
  pub output : (own : ℕ) (st : Stamp) (c : ℕ) (i ours : List ℕ) (p : Standing) (ws m out : List ℕ) →
      output_on g own st c i ours p ws m out ≡ any_output own st c i ours t s index p ws m out
  pub list : (own : ℕ) (i l m : List ℕ) → list_on g own i l m ≡ any_list own i t s index l m
  pub services : (own : ℕ) (i ours : List ℕ) (p : Standing) (ws m : List ℕ) (room : ℕ) →
      services_on g own i ours p ws m room ≡ any_words own i ours t s index p ws m room

pub data Way (g : TableGiven) : Type 0 where
  refused : (n : ℕ) → Refuses g n → Way g
  goes : (t : List ℕ) (s : Sections) (index : List ℕ) → Goes g t s index → Way g

on_bytes : (t : List ℕ) (x : Result Sections Refusal) → checked t ≡ x → TableNumbered x → Way (bytes t)
unfolding answer_if out_if pending_if words_if
on_bytes t (Err k) e h =
    refused (number_of k) (record {
      bad = λ (f : checked t ≡ Ok (sections_in t)).
          let q : Err k ≡ Ok (sections_in t) = sym e ∙ f in
          let z : ◌≡◌ {A = ℕ} 0 1 = cc in
          omega arith;
      number = λ z. omega (arith, h.0);
      answer = λ own i ours p l ws m room. ap (λ (x : Result Sections Refusal). answer_if x own i ours t p l ws m room) e;
      output = λ own st c i ours p ws m out. ap (λ (x : Result Sections Refusal). out_if x own st c i ours t p ws m out) e;
      list = λ own i l m. ap (λ (x : Result Sections Refusal). pending_if x own i t l m) e;
      services = λ own i ours p ws m room. ap (λ (x : Result Sections Refusal). words_if x own i ours t p ws m room) e;
    })
on_bytes t (Ok s) e h =
    goes t s (index_of t s) (record {
      inside = is_within t s (accepted t s e);
      answer = λ own i ours p l ws m room. ap (λ (x : Result Sections Refusal). answer_if x own i ours t p l ws m room) e;
      output = λ own st c i ours p ws m out. ap (λ (x : Result Sections Refusal). out_if x own st c i ours t p ws m out) e;
      list = λ own i l m. ap (λ (x : Result Sections Refusal). pending_if x own i t l m) e;
      services = λ own i ours p ws m room. ap (λ (x : Result Sections Refusal). words_if x own i ours t p ws m room) e;
    })

on_sections : (t : List ℕ) (s : Sections) (index : List ℕ) (b : Bool) → within t s ≡ b → Way (sections t s index)
unfolding sections_answer sections_out sections_pending sections_words
on_sections t s index true e =
    goes t s index (record {
      inside = e;
      answer = λ own i ours p l ws m room. yes-if {A = AnyReceived} _ _ e;
      output = λ own st c i ours p ws m out. yes-if _ _ e;
      list = λ own i l m. yes-if _ _ e;
      services = λ own i ours p ws m room. yes-if _ _ e;
    })
on_sections t s index false e =
    refused 30 (record {
      bad = (lie_decides t s).no_is e;
      number = λ z. omega arith;
      answer = λ own i ours p l ws m room. no-if {A = AnyReceived} _ _ e;
      output = λ own st c i ours p ws m out. no-if _ _ e;
      list = λ own i l m. no-if _ _ e;
      services = λ own i ours p ws m room. no-if _ _ e;
    })

pub way : (g : TableGiven) → Way g
way (bytes t) = on_bytes t (checked t) refl (table_numbered t)
way (sections t s index) = on_sections t s index (within t s) refl

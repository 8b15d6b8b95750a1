-- Whichever way a table is handed over: what a message comes to is a refusal, by which nothing changes, or goes by some sections and some index.
-- Assumes nothing.
use Prim.Native.Nat.{ℕ}
use mathlib.Core.Path.{◌≡◌, sym, subst}
use mathlib.Core.List.{List}
use lib.ListN.{length}
use Rattle.table.specs.declared.Sections.{Sections}
use Rattle.platform.specs.declared.reactions.Standing.{Standing}
use Rattle.mixed.specs.declared.AnyReceived.{AnyReceived}
use Rattle.mixed.specs.Receiving.{refused_any, any_outcome, any_output}
use Rattle.promises.specs.MixedExchange.{Lent, answer_to, output_to}
use Rattle.promises.proofs.MixedCalls.{Way, refused, goes, way}

module _ (own : ℕ) (i : List ℕ) (c : Lent) (p : Standing) (m : List ℕ) where
  abbrev pub answerBy : List ℕ → Sections → List ℕ → AnyReceived
  answerBy t s index = any_outcome own i c.ours t s index p c.list c.services m (length c.output)

  abbrev pub outputBy : List ℕ → Sections → List ℕ → List ℕ
  outputBy t s index = any_output own c.stamp c.composite i c.ours t s index p c.services m c.output

  pub by_table : (P : AnyReceived → List ℕ → Type 0) → ((n : ℕ) → P (refused_any p n) c.output)
      → ((t : List ℕ) (s : Sections) (index : List ℕ) → P (answerBy t s index) (outputBy t s index)) → P (answer_to own i c p m) (output_to own i c p m)
  by_table P refusal result = go (way c.table)
    where
      both : (a : AnyReceived) (o : List ℕ) → answer_to own i c p m ≡ a → output_to own i c p m ≡ o → P a o → P (answer_to own i c p m) (output_to own i c p m)
      both a o e f x =
          subst (λ (r : AnyReceived). P r (output_to own i c p m)) (sym e) (subst (λ (out : List ℕ). P a out) (sym f) x)

      go : Way c.table → P (answer_to own i c p m) (output_to own i c p m)
      go (refused n w) =
          both (refused_any p n) c.output (w.answer own i c.ours p c.list c.services m (length c.output))
          (w.output own c.stamp c.composite i c.ours p c.services m c.output) (refusal n)
      go (goes t s index w) =
          both (answerBy t s index) (outputBy t s index) (w.answer own i c.ours p c.list c.services m (length c.output))
          (w.output own c.stamp c.composite i c.ours p c.services m c.output) (result t s index)

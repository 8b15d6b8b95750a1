-- A message that arrives, by its sender's issue and by whichever call, makes the sum smaller, also where it is refused.
-- Assumes nothing.
use Prim.Native.Nat.{ℕ, ◌<◌}
use mathlib.Core.Path.{◌≡◌, refl, sym, ap, subst, ◌∙◌}
use mathlib.Core.List.{List}
use native.Mathlib.Omega.{arith}
use lib.ListN.{length}
use Rattle.table.specs.declared.Sections.{Sections}
use Rattle.message.specs.declared.Reading.{Reading}
use Rattle.message.specs.declared.Reading.TheVariants.{Read}
use Rattle.message3.specs.declared.Stamp.{Stamp}
use Rattle.partners.specs.Threes.{is_three}
use Rattle.platform.specs.declared.reactions.Standing.{Standing}
use Rattle.platform.specs.Reaction.{operation_in}
use Rattle.platform.specs.Receiving.{outcome_of, output_of}
use Rattle.mixed.specs.declared.AnyReading.{AnyReading}
use Rattle.mixed.specs.declared.AnyReading.TheVariants as reading
use Rattle.mixed.specs.declared.AnyReceived.{AnyReceived}
use Rattle.mixed.specs.Reading.{any_of}
use Rattle.mixed.specs.Reaction.{operation_for3}
use Rattle.mixed.specs.Receiving.{from_received, any_outcome_of, any_output_of}
use Rattle.mixed.proofs.NoCrossing.{six_is_six, three_is_three}
use Rattle.promises.specs.MixedExchange.{Lent, answer_to, output_to}
use Rattle.promises.proofs.MixedByTable.{by_table}
use Rattle.promises.proofs.MixedWeights.{cost6, cost, cost_pos, Bears}
use Rattle.promises.proofs.MixedHeld.{After, nothing-sent}
use Rattle.promises.proofs.MixedThrees.{three-lighter}
use Rattle.promises.proofs.MixedSixes.{six-lighter}

module _ (own other : ℕ) (i j : List ℕ) (p : Standing) (small : own < 256) (hp : other < 256) (d : other ≡ own → ⊥) where
  -- a message by its sender's issue
  module _ (st : Stamp) (c : ℕ) (ours t : List ℕ) (s : Sections) (index l ws m out : List ℕ) where
    abbrev A : AnyReading → AnyReceived
    A x = any_outcome_of own i ours t s index p l ws m (length out) x

    abbrev O : AnyReading → List ℕ
    O x = any_output_of own st c i ours t s index p ws m out x

    any-lighter : (x : AnyReading) → any_of i own m ≡ x → Bears other x → After own other i j p (cost x) (A x) (O x)
    unfolding any_outcome_of any_output_of outcome_of output_of
    any-lighter (reading.Refused n) e b = nothing-sent own other i j p 1 (omega arith)
    any-lighter (reading.Three h k start len) e b =
        let z = three_is_three i own m h k start len e in
        three-lighter own other i j p hp d ours t s (operation_for3 t s index h k) h b (ap (is_three i) (sym b) ∙ z.0) start len st c l ws m out k
    any-lighter (reading.Six h k start len) e b =
        let z = six_is_six i own m h k start len e in
        subst (λ (y : Reading). After own other i j p (cost6 k) (from_received (outcome_of own t s (operation_in t s index y) p l y (length out)))
        (output_of own t s (operation_in t s index y) p y out)) (sym z.2)
        (six-lighter own other i j p small hp d t s (operation_in t s index (Read h k start len)) h b (ap (is_three i) (sym b) ∙ z.0) start len l out k)

  -- and by any table
  pub arrival_lighter : (c : Lent) (m : List ℕ) → Bears other (any_of i own m)
      → After own other i j p (cost (any_of i own m)) (answer_to own i c p m) (output_to own i c p m)
  arrival_lighter c m b =
      by_table own i c p m (λ (r : AnyReceived) (o : List ℕ). After own other i j p (cost (any_of i own m)) r o)
      (λ (n : ℕ). nothing-sent own other i j p (cost (any_of i own m)) (cost_pos (any_of i own m)))
      (λ (t : List ℕ) (s : Sections) (index : List ℕ).
      any-lighter c.stamp c.composite c.ours t s index c.list c.services m c.output (any_of i own m) refl b)

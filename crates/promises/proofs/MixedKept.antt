-- A refusal of the platform call among partners of both issues leaves all that was lent as it was, in lent words.
-- Assumes nothing.
use Prim.Native.Nat.{ℕ}
use mathlib.Core.Path.{◌≡◌, refl, ap, ◌∙◌}
use mathlib.Core.List.{List, ◌++◌}
use lib.ListN.{length, take, take-append-drop}
use Rattle.platform.specs.declared.reactions.Standing.{Standing}
use Rattle.mixed.specs.declared.AnyAnswer.{AnyAnswer}
use Rattle.mixed.specs.declared.AnyAnswer.TheVariants.{Refused, Six, SixResponse, Three, ThreeResponse}
use Rattle.mixed.specs.declared.AnyReceived.{AnyReceived}
use Rattle.mixed.specs.Receiving.{number_given}
use Rattle.platform_words.specs.Words.{standing_length, standing_in, pending_in, standing_words}
use Rattle.mixed_words.specs.HeardWords.{stamp_in, own_composite, any_answer_words, any_left_by, any_platform_after}
use Rattle.promises.specs.Checks.{Keeps}
use Rattle.promises.specs.MixedCalls.{TableGiven, answer_on, output_on, list_on, services_on}
use Rattle.promises.specs.MixedRefusals.{KeptMixed}
use Rattle.promises.proofs.MixedRefusals.{mixed_refusals}

words_with : (ws l : List ℕ) (p : Standing) (a : AnyAnswer) → ¬ (number_given a ≡ 0) → l ≡ pending_in ws
    → any_left_by a (take standing_length ws) (standing_words p) ++ l ≡ ws
words_with ws l p (Refused n) d e = ap (λ (y : List ℕ). take standing_length ws ++ y) e ∙ take-append-drop standing_length ws
words_with ws l p (Six h x n) d e = absurd (d refl)
words_with ws l p (SixResponse h i start len) d e = absurd (d refl)
words_with ws l p (Three h x n) d e = absurd (d refl)
words_with ws l p (ThreeResponse h i start len) d e = absurd (d refl)

answer_keeps : (was : List ℕ) (a : AnyAnswer) → Keeps (number_given a) was (any_answer_words a was)
answer_keeps was (Refused n) d = refl
answer_keeps was (Six h x n) d = absurd (d refl)
answer_keeps was (SixResponse h i start len) d = absurd (d refl)
answer_keeps was (Three h x n) d = absurd (d refl)
answer_keeps was (ThreeResponse h i start len) d = absurd (d refl)

module _ (g : TableGiven) (own : ℕ) (st i ours ws sv m out : List ℕ) where
  abbrev outcome : AnyReceived
  outcome = answer_on g own i ours (standing_in ws) (pending_in ws) sv m (length out)

  kept : KeptMixed (standing_in ws) out (pending_in ws) sv outcome (output_on g own (stamp_in st) (own_composite st) i ours (standing_in ws) sv m out)
      (list_on g own i (pending_in ws) m) (services_on g own i ours (standing_in ws) sv m (length out))
  kept = mixed_refusals.changes_nothing g own (stamp_in st) (own_composite st) i ours (standing_in ws) (pending_in ws) sv m out

  pub mixed-words-keep : Keeps (number_given outcome.answer) ws (any_platform_after outcome ws (list_on g own i (pending_in ws) m))
  mixed-words-keep d = words_with ws _ outcome.standing outcome.answer d (kept.list d)

  pub mixed-services-keep : Keeps (number_given outcome.answer) sv (services_on g own i ours (standing_in ws) sv m (length out))
  mixed-services-keep = kept.services

  pub mixed-output-keeps : Keeps (number_given outcome.answer) out (output_on g own (stamp_in st) (own_composite st) i ours (standing_in ws) sv m out)
  mixed-output-keeps = kept.output

  pub mixed-heard-keeps : (was : List ℕ) → Keeps (number_given outcome.answer) was (any_answer_words outcome.answer was)
  mixed-heard-keeps was = answer_keeps was outcome.answer

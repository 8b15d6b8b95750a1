-- Platforms that answer UP while UP do not fall silent: eight messages of an exchange, computed.
-- Assumes nothing.
use Prim.Native.Nat.{ℕ, ◌≤◌}
use mathlib.Core.Path.{◌≡◌}
use mathlib.Core.List.{[]}
use native.Mathlib.Omega.{arith}
use Rattle.operations.specs.Rules.{has_data}
use Rattle.wire.specs.All.{all_below}
use Rattle.states.specs.States.{word_of, with_word, bit_of, stands_up, turned, with_own}
use Rattle.platform.specs.Replies.{reply_bytes}
use Rattle.platform.specs.Reaction.{coming_up, on_state, on_status, on_pull_all, on_pull, reaction_to}
use Rattle.platform.specs.Receiving.{fresh_standing, answered}
use Rattle.platform.specs.Exchange.{Pair, Step, Exchange, started}
use Rattle.platform.specs.Exchange.Step.{arrives_at_a, arrives_at_b, lost_to_a, lost_to_b}
use Rattle.platform.specs.Exchange.Exchange.{none, more}
use Rattle.promises.specs.WrongPlatforms.{our_answering, StepBy, at_a, at_b, to_a_lost, to_b_lost, ExchangeBy, ended}
use Rattle.promises.specs.WrongPlatforms.{goes_on, FallSilentBy, reacting, up_answered_again, NoWrongPlatform}
use Rattle.promises.proofs.Platforms.{bare, fall_silent}

step : {a b : ℕ} {x y : Pair} → StepBy our_answering a b x y → Step a b x y
step (at_a c p q before after to_b r) = arrives_at_a c p q before after to_b r
step (at_b c p q before after to_a r) = arrives_at_b c p q before after to_a r
step (to_a_lost p q before after to_b r) = lost_to_a p q before after to_b r
step (to_b_lost p q before after to_a r) = lost_to_b p q before after to_a r

exchange : {a b n : ℕ} {x z : Pair} → ExchangeBy our_answering a b n x z → Exchange a b n x z
exchange (ended x) = none x
exchange (goes_on n x y z s e) = more n x y z (step s) (exchange e)

ours_silent : FallSilentBy our_answering
ours_silent a b p q number s n z e = fall_silent.at_most a b p q number s n z (exchange e)

eight : (z : Pair) × ExchangeBy (reacting up_answered_again) 1 2 8 (started (fresh_standing 1) (fresh_standing 2) 0) z
unfolding all_below word_of with_word bit_of stands_up turned with_own has_data reply_bytes coming_up on_state on_status on_pull_all on_pull reaction_to answered
eight = (
  _,
  goes_on 7 _ _ _ (at_b bare _ _ [] [] [] _)
      (goes_on 6 _ _ _ (at_a bare _ _ [] _ _ _)
      (goes_on 5 _ _ _ (at_b bare _ _ [] _ _ _)
      (goes_on 4 _ _ _ (at_a bare _ _ [] _ _ _)
      (goes_on 3 _ _ _ (at_a bare _ _ [] _ _ _)
      (goes_on 2 _ _ _ (at_a bare _ _ [] _ _ _)
      (goes_on 1 _ _ _ (at_b bare _ _ [] _ _ _)
      (goes_on 0 _ _ _ (at_b bare _ _ [] _ _ _)
      (ended _)))))))),
)

pub up-answered-again : FallSilentBy (reacting up_answered_again) → ⊥
up-answered-again f =
    let h : 8 ≤ 7 =
    f 1 2 (fresh_standing 1) (fresh_standing 2) 0
    (record {
      one = omega arith;
      other = omega arith;
      two = λ (e : ◌≡◌ {A = ℕ} 1 2). absurd (omega (arith, e));
      next_of_one = omega arith;
      next_of_other = omega arith;
      number_fits = omega arith;
    })
    8 eight.0 eight.1 in
    absurd (omega (arith, h))

pub no_wrong_platform : NoWrongPlatform
no_wrong_platform = record { ours_silent = ours_silent; up-answered-again = up-answered-again }

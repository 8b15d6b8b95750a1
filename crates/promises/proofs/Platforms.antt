-- Platforms: states, replies, silence.
-- Assumes nothing.
use mathlib.Core.Path.{refl}
use Rattle.std.specs.Prelude.{None}
use mathlib.Core.List.{[]}
use Rattle.table.specs.declared.Section.{Section}
use Rattle.operations.specs.Rules.{has_data}
use Rattle.wire.specs.All.{all_below}
use Rattle.states.specs.States.{word_of, with_word, bit_of, stands_up, turned, with_own}
use Rattle.platform.specs.Replies.{reply_bytes}
use Rattle.platform.specs.Reaction.{coming_up, on_state, on_status, on_pull_all, on_pull, reaction_to}
use Rattle.platform.specs.Receiving.{fresh_standing, answered, is_answer, outcome_of}
use Rattle.platform.specs.Exchange.{sent_of, Setting, keeps, sends, Pair, Exchange, started, longest_exchange}
use Rattle.platform.specs.Exchange.Step.{arrives_at_a, arrives_at_b}
use Rattle.platform.specs.Exchange.Exchange.{none, more}
use Rattle.states.proofs.Ups.{own_is_up, others_start_down, above_is_down, count_is}
use Rattle.platform.proofs.Silence.{falls-silent, silence-after-seven}
use Rattle.promises.specs.Platforms.{StatesAre, Replies, FallSilent}
use Rattle.promises.proofs.Replying.{notes, too_short}

pub states_are : StatesAre
states_are =
    record {
      own_is_up = own_is_up;
      others_start_down = others_start_down;
      none_above_255 = above_is_down;
      numbers_start_at_0 = λ own. refl;
      counted = count_is;
    }

-- two platforms with no versioned data that start: both status, both pulls, and both answers to the pulls
abbrev empty : Section
empty = record { at = 0; count = 0 }

abbrev pub bare : Setting
bare =
    record {
      table = [];
      sections = record { types = empty; members = empty; values = empty; operations = empty };
      looked = None;
      list = [];
      room = 48;
    }

reached : (z : Pair) × Exchange 1 2 longest_exchange (started (fresh_standing 1) (fresh_standing 2) 0) z
unfolding all_below word_of with_word bit_of stands_up turned with_own has_data reply_bytes coming_up on_state on_status on_pull_all on_pull reaction_to
    answered is_answer outcome_of sent_of keeps sends
reached = (
  _,
  more 6 _ _ _ (arrives_at_b bare _ _ [] [] [] _)
      (more 5 _ _ _ (arrives_at_a bare _ _ [] _ _ _)
      (more 4 _ _ _ (arrives_at_a bare _ _ [] _ _ _)
      (more 3 _ _ _ (arrives_at_b bare _ _ [] _ _ _)
      (more 2 _ _ _ (arrives_at_b bare _ _ [] _ _ _)
      (more 1 _ _ _ (arrives_at_b bare _ _ [] _ _ _)
      (more 0 _ _ _ (arrives_at_a bare _ _ [] _ _ _)
      (none _))))))),
)

pub fall_silent : FallSilent
fall_silent =
    record {
      at_most = λ a b p q number s. falls-silent a b s.one s.other s.two p q number s.next_of_one s.next_of_other s.number_fits;
      then_none = λ a b p q number s. silence-after-seven a b s.one s.other s.two p q number s.next_of_one s.next_of_other s.number_fits;
      reached = reached;
    }

pub replies : Replies
replies = record { fit = notes; do_not_fit = too_short }

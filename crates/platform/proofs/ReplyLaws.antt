-- What the writing of replies comes to at its returns.
-- Assumes nothing.
use Prim.Native.Nat.{ℕ, ◌≤◌, ◌<◌}
use mathlib.Core.Path.{◌≡◌, sym, ap, ◌∙◌}
use mathlib.Core.List.{List}
use native.Mathlib.Omega.{arith}
use lib.ListN.{length}
use Rattle.wire.specs.Bytes.{over, written}
use Rattle.wire.proofs.Runs.{written_in}
use Rattle.wire.proofs.Cond.{yes_lt, no_lt}
use Rattle.message.specs.declared.Header.{Header}
use Rattle.platform.specs.declared.reactions.Standing.{Standing}
use Rattle.platform.specs.declared.reactions.Reaction.{Reaction}
use Rattle.platform.specs.Replies.{owed_bytes, owed_length}
use Rattle.platform.proofs.ReplyBytes.{length_owed}
use Rattle.platform.specs.declared.Received.{Received}
use Rattle.platform.specs.Receiving.{refused, taken, answered, laid_out}

-- the replies fit, or 10
module _ (p : Standing) (h : Header) (x : Reaction) (w : ℕ) (e : w ≡ owed_length x.owed) where
  pub too_long : (room : ℕ) (r : Received) → room < w → r ≡ refused p 10 → r ≡ answered p h x room
  unfolding answered
  too_long room r l d = d ∙ sym (yes_lt {A = Received} (refused p 10) (taken h x (owed_length x.owed)) room (owed_length x.owed) (omega arith))

  pub fitting : (room : ℕ) (r : Received) → w ≤ room → r ≡ taken h x w → r ≡ answered p h x room
  unfolding answered
  fitting room r l d = d ∙ ap (taken h x) e
      ∙ sym (no_lt {A = Received} (refused p 10) (taken h x (owed_length x.owed)) room (owed_length x.owed) (omega arith))

module _ (own : ℕ) (x : Reaction) (w : ℕ) (e : w ≡ owed_length x.owed) (out : List ℕ) where
  pub left_as_it_was : length out < w → out ≡ laid_out own x out
  unfolding laid_out
  left_as_it_was l = sym (yes_lt out (over out 0 (owed_bytes own x.owed)) (length out) (owed_length x.owed) (omega arith))

  pub laid : (o : List ℕ) → w ≤ length out → o ≡ written out 0 (owed_bytes own x.owed) → o ≡ laid_out own x out
  unfolding laid_out
  laid o l d =
      let n : length (owed_bytes own x.owed) ≡ owed_length x.owed = length_owed own x.owed in
      d ∙ written_in out 0 (owed_bytes own x.owed) (omega arith)
      ∙ sym (no_lt out (over out 0 (owed_bytes own x.owed)) (length out) (owed_length x.owed) (omega arith))

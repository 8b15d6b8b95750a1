-- What a mixed call does with the list of pending requests is a turn of request 1's, or nothing.
-- Assumes nothing.
use Prim.Native.Nat.{ℕ}
use Rattle.std.specs.Prelude.{Ok}
use mathlib.Core.Path.{◌≡◌, refl, sym, subst}
use mathlib.Core.Bool.{Bool, true, false, cond}
use mathlib.Core.List.{List}
use Rattle.table.specs.declared.Sections.{Sections}
use Rattle.types.specs.Table.{checked}
use Rattle.pending.specs.Answers.{is_response}
use Rattle.pending.specs.Turns.{whether}
use Rattle.platform.specs.declared.reactions.Standing.{Standing}
use Rattle.mixed.specs.Receiving.{refused_any}
use Rattle.promises.specs.MixedResponses.{ToReceive, AnyHeader, id_of, number_of, sender_of, response_as}
use Rattle.promises.specs.MixedTurns.{AnsweredBy, delivered, not-awaited, ReceiveTurn, arrives, passes, MixedTurns}
use Rattle.promises.proofs.MixedReceipts.{judged, listed_by}
use Rattle.promises.proofs.AnyReceipts.{AnyReceipt, response, other, receipt-of}

answered_by : (p : Standing) (h : AnyHeader) (i len : ℕ) (b : Bool)
    → AnsweredBy p h i len (whether b) (cond b (record { standing = p; answer = response_as h i len }) (refused_any p 61))
answered_by p h i len true = delivered
answered_by p h i len false = not-awaited

receives : (x : ToReceive) (s : Sections) (p : Standing) (l : List ℕ) → checked x.table ≡ Ok s → ReceiveTurn x p l
receives x s p l e = go (receipt-of x s e)
  where
    go : AnyReceipt x s → ReceiveTurn x p l
    go (response h i len c) =
        arrives h i len (listed_by x s i len h c p l)
        (subst (AnsweredBy p h i len (whether (is_response l (number_of h) (id_of h) (sender_of h)))) (sym (judged x s i len h c p l))
        (answered_by p h i len (is_response l (number_of h) (id_of h) (sender_of h))))
    go (other absent same stays) = passes (stays p l) (same p l)

pub mixed_turns : MixedTurns
mixed_turns = record { sends = λ x. refl; receives = receives }

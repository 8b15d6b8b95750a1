-- On any whole list without a number twice: a request that is given up, or answered, is pending no more, and every other one is as
-- it was. The map that such a list is like is the one that the list itself tells.
-- Assumes nothing.
use Rattle.std.proofs.Common.{◌≡◌, ℕ, true, false, cond, eqb, List, length, refl, ap, ◌∙◌}
use Rattle.std.specs.Prelude.{Option, None}
use Rattle.wire.proofs.Cond.{yes-eq, no_eq, yes-if}
use Rattle.pending.specs.Answers.{awaited_of, cancelled, is_response, responded}
use Rattle.pending.specs.Counted.{how_many}
use Rattle.pending.specs.PlainMap.{Map, asks, used, Once, LikeMap}
use Rattle.pending.proofs.AsMap.{response-by, cancelled-like}

module _ (l : List ℕ) (whole : length l ≡ 128) (once : Once l) where
  abbrev its_map : Map
  its_map = record { under = awaited_of l; count = how_many (used l) 64 }

  like-its-map : LikeMap l its_map
  like-its-map = record { whole = whole; once = once; looked = λ n. refl; counted = refl }

  module _ (n : ℕ) where
    after : (x : ℕ) → awaited_of (cancelled l n) x ≡ cond (eqb x n) None (awaited_of l x)
    after x = (cancelled-like l its_map like-its-map n).looked x

    pub gone : awaited_of (cancelled l n) n ≡ None
    gone = after n ∙ yes-eq None (awaited_of l n) n n refl

    pub others_stay : (x : ℕ) → (x ≡ n → ⊥) → awaited_of (cancelled l n) x ≡ awaited_of l x
    others_stay x h = after x ∙ no_eq None (awaited_of l x) x n h

    pub still-once : Once (cancelled l n)
    still-once = (cancelled-like l its_map like-its-map n).once

    -- "it is delivered once and its place is free again"
    module _ (id sender : ℕ) (e : is_response l n id sender ≡ true) where
      as-cancelled : responded l n id sender ≡ cancelled l n
      as-cancelled = yes-if (cancelled l n) l e

      pub answered-gone : awaited_of (responded l n id sender) n ≡ None
      answered-gone = ap (λ (r : List ℕ). awaited_of r n) as-cancelled ∙ gone

      pub answered-others : (x : ℕ) → (x ≡ n → ⊥) → awaited_of (responded l n id sender) x ≡ awaited_of l x
      answered-others x h = ap (λ (r : List ℕ). awaited_of r x) as-cancelled ∙ others_stay x h

      pub not_again : is_response (responded l n id sender) n id sender ≡ false
      not_again = response-by (responded l n id sender) n id sender ∙ ap (λ (a : Option (ℕ × ℕ)). asks a id sender) answered-gone

-- What the functions of `receiving` and `answers` come to at their returns.
-- Assumes nothing.
use Prim.Native.Nat.{ℕ}
use Rattle.std.specs.Prelude.{Option}
use mathlib.Core.Path.{◌≡◌, refl, sym, ap, ◌∙◌}
use mathlib.Core.Bool.{Bool, true, false}
use mathlib.Core.List.{List}
use lib.ListN.{length}
use Rattle.wire.specs.Bytes.{over}
use Rattle.wire.proofs.Cond.{yes-eq, no_eq}
use Rattle.pending.specs.Answers.{is_response}
use Rattle.message3.specs.declared.Stamp.{Stamp}
use Rattle.message3.specs.declared.Header3.{Header3}
use Rattle.message3.specs.declared.Message3.{Message3}
use Rattle.message3.specs.declared.Message3.TheVariants as message3
use Rattle.platform.specs.declared.reactions.Standing.{Standing}
use Rattle.platform.specs.Receiving.{is_sent}
use Rattle.mixed.specs.declared.AnyReceived.{AnyReceived}
use Rattle.mixed.specs.declared.reactions.Reaction3.{Reaction3}
use Rattle.mixed.specs.declared.reactions.Room.{Room}
use Rattle.mixed.specs.declared.reactions.Room.TheVariants.{Short, Enough}
use Rattle.mixed.specs.Replies.{deed_bytes, room_for}
use Rattle.mixed.specs.Keeping.{kept_number, kept_words}
use Rattle.mixed.specs.Receiving.{refused_any, is_answer3, delivered3, response_to3, taken3, settled_by, laid_out_by, kept_by}
use Rattle.mixed.specs.Receiving.{settled3, laid3, kept3}

-- a response
module _ (t : List ℕ) (f : Option (ℕ × ℕ)) where
  pub of_operation : (m : Message3) (r : Bool) → m ≡ message3.Operation → r ≡ is_sent t f → r ≡ is_answer3 t f m
  unfolding is_answer3
  of_operation m r e a = rw e a

  pub of-another : (m : Message3) → (m ≡ message3.Operation → ⊥) → false ≡ is_answer3 t f m
  unfolding is_answer3
  of-another (message3.PlatformStatus x c) k = refl
  of-another message3.PlatformStatusRequest k = refl
  of-another (message3.AvailabilityStatus n) k = refl
  of-another (message3.AvailabilityStatusRequest id) k = refl
  of-another (message3.UnknownOperation id) k = refl
  of-another (message3.ServiceNotAvailable id) k = refl
  of-another (message3.VersionedDataPull id) k = refl
  of-another (message3.CompositeChangeRequest c) k = refl
  of-another (message3.CompositeChangeRequestAck a) k = refl
  of-another message3.Operation k = absurd (k refl)

module _ (l : List ℕ) (f : Option (ℕ × ℕ)) (p : Standing) (h : Header3) (start len : ℕ) (b : Bool) (e : b ≡ is_response l h.sequence h.id h.platform)
    (r : AnyReceived) where
  pub is-awaited : b ≡ true → r ≡ delivered3 f p h start len → r ≡ response_to3 l f p h start len
  unfolding response_to3
  is-awaited t d = rw (← e, t) d

  pub not-awaited : b ≡ false → r ≡ refused_any p 61 → r ≡ response_to3 l f p h start len
  unfolding response_to3
  not-awaited t d = rw (← e, t) d

-- services and replies
module _ (own : ℕ) (t : Stamp) (c : ℕ) (i ours : List ℕ) (p : Standing) (h : Header3) (x : Reaction3) (payload ws : List ℕ) where
  module _ (room : ℕ) (q : Room) (e : q ≡ room_for ours x.deed room) where
    pub short : (n : ℕ) (r : AnyReceived) → q ≡ Short n → r ≡ refused_any p n → r ≡ settled3 i ours p h x payload ws room
    unfolding settled3
    short n r f d = d ∙ ap (λ (y : Room). settled_by y (kept_number i h.platform x.deed payload ws) p h x) (sym f ∙ e)

    pub short-words : (n : ℕ) → q ≡ Short n → ws ≡ kept3 i ours h x payload ws room
    unfolding kept3
    short-words n f = ap (λ (y : Room). kept_by y (kept_words i h.platform x.deed payload ws) ws) (sym f ∙ e)

    pub enough-words : (n : ℕ) (a : List ℕ) → q ≡ Enough n → a ≡ kept_words i h.platform x.deed payload ws → a ≡ kept3 i ours h x payload ws room
    unfolding kept3
    enough-words n a f d = d ∙ ap (λ (y : Room). kept_by y (kept_words i h.platform x.deed payload ws) ws) (sym f ∙ e)

    module _ (n k : ℕ) (f : q ≡ Enough n) (g : k ≡ kept_number i h.platform x.deed payload ws) where
      settled-by : settled_by (Enough n) k p h x ≡ settled3 i ours p h x payload ws room
      unfolding settled3
      settled-by =
          ap (λ (y : ℕ). settled_by (Enough n) y p h x) g
          ∙ ap (λ (y : Room). settled_by y (kept_number i h.platform x.deed payload ws) p h x) (sym f ∙ e)

      pub all-kept : (r : AnyReceived) → k ≡ 0 → r ≡ taken3 h x n → r ≡ settled3 i ours p h x payload ws room
      all-kept r z d = d ∙ sym (yes-eq {A = AnyReceived} (taken3 h x n) (refused_any p k) k 0 z) ∙ settled-by

      pub not-kept : (r : AnyReceived) → (k ≡ 0 → ⊥) → r ≡ refused_any p k → r ≡ settled3 i ours p h x payload ws room
      not-kept r z d = d ∙ sym (no_eq {A = AnyReceived} (taken3 h x n) (refused_any p k) k 0 z) ∙ settled-by

  module _ (out : List ℕ) (q : Room) (e : q ≡ room_for ours x.deed (length out)) where
    abbrev bytes_of : List ℕ
    bytes_of = over out 0 (deed_bytes own t c ours x.deed)

    pub short-output : (n : ℕ) → q ≡ Short n → out ≡ laid3 own t c i ours h x payload ws out
    unfolding laid3
    short-output n f = ap (λ (y : Room). laid_out_by y (kept_number i h.platform x.deed payload ws) bytes_of out) (sym f ∙ e)

    module _ (n k : ℕ) (f : q ≡ Enough n) (g : k ≡ kept_number i h.platform x.deed payload ws) where
      laid_by : laid_out_by (Enough n) k bytes_of out ≡ laid3 own t c i ours h x payload ws out
      unfolding laid3
      laid_by =
          ap (λ (y : ℕ). laid_out_by (Enough n) y bytes_of out) g
          ∙ ap (λ (y : Room). laid_out_by y (kept_number i h.platform x.deed payload ws) bytes_of out) (sym f ∙ e)

      pub all_laid : (o : List ℕ) → k ≡ 0 → o ≡ bytes_of → o ≡ laid3 own t c i ours h x payload ws out
      all_laid o z d = d ∙ sym (yes-eq bytes_of out k 0 z) ∙ laid_by

      pub not-laid : (k ≡ 0 → ⊥) → out ≡ laid3 own t c i ours h x payload ws out
      not-laid z = sym (no_eq bytes_of out k 0 z) ∙ laid_by

-- The operation that a message of Issue 6 is, by the words of the table's sections; found, these lie in the table.
-- Assumes nothing.
use Prim.Native.Nat.{ℕ, ◌-◌}
use Rattle.std.specs.Prelude.{Option, Some, None}
use mathlib.Core.Path.{◌≡◌, refl, sym, ap, ap₂, ◌∙◌}
use mathlib.Core.Bool.{Bool, true, false, cond}
use mathlib.Core.List.{List}
use lib.ListN.{length, take, drop}
use Rattle.wire.specs.Bytes.{number}
use Rattle.wire.proofs.Cond.{yes-if, no-if}
use Rattle.table.specs.declared.Sections.{Sections}
use Rattle.table.specs.Layout.{within}
use Rattle.table.specs.Words.{bounds_words, sections_in, index_in}
use Rattle.operations.specs.Search.{sought_in}
use Rattle.message.specs.Header.{platform_domain, domain_in, sender_in, id_in}
use Rattle.message.specs.Refusal.{read_refusal}
use Rattle.partners.specs.Threes.{is_three}
use Rattle.platform_words.specs.Within.{operation_heard}
use Rattle.platform_words.proofs.Behind.{lent-behind}
use Rattle.platform_words.proofs.Straight.{never, of_platform, unread, was_read}
use Rattle.mixed_words.specs.Within.{six_operation, six_in, operation_in}

-- `operation_in`
module _ {s : Sections} {b : Bool} (t ss : List ℕ) (id : ℕ) (es : s ≡ sections_in ss) (eb : b ≡ within t s) where
  is_within : within t (sections_in ss) ≡ b
  is_within = ap (within t) (sym es) ∙ sym eb

  abbrev found : Option (ℕ × ℕ)
  found = sought_in t (index_in ss) (sections_in ss).operations.count id

  pub lies : {x : Option (ℕ × ℕ)} → b ≡ true → x ≡ sought_in t (take (length ss - 8) (drop 8 ss)) s.operations.count id → x ≡ operation_in t ss id
  unfolding operation_in
  lies y ex =
      ex ∙ ap₂ (λ (y : Sections) (index : List ℕ). sought_in t index y.operations.count id) es (lent-behind bounds_words ss)
      ∙ sym (yes-if {A = Option (ℕ × ℕ)} found None (is_within ∙ y))

  pub lies-not : b ≡ false → None ≡ operation_in t ss id
  unfolding operation_in
  lies-not n = sym (no-if {A = Option (ℕ × ℕ)} found None (is_within ∙ n))

-- `six_operation`
module _ (own : ℕ) (i t ss m : List ℕ) (d : ℕ) (ed : d ≡ domain_in m) where
  abbrev heard : Option (ℕ × ℕ)
  heard = operation_heard own t (sections_in ss) (index_in ss) m

  both : (b : Bool) → None ≡ cond {A = Option (ℕ × ℕ)} b None None
  both true = refl
  both false = refl

  by_three : None ≡ six_operation own i t (sections_in ss) (index_in ss) m → None ≡ six_in own i t ss m
  unfolding six_in
  by_three e = both (within t (sections_in ss)) ∙ ap (λ (x : Option (ℕ × ℕ)). cond (within t (sections_in ss)) x None) e

  not-heard : None ≡ heard → None ≡ six_in own i t ss m
  unfolding six_operation
  not-heard e = by_three (both (is_three i (sender_in m)) ∙ ap (cond (is_three i (sender_in m)) None) e)

  pub of-domain-0 : d ≡ platform_domain → None ≡ six_in own i t ss m
  of-domain-0 z = not-heard (of_platform own t (sections_in ss) (index_in ss) m d ed z)

  module _ (zd : d ≡ platform_domain → ⊥) (n : ℕ) (en : n ≡ read_refusal own m) where
    pub not_read : (n ≡ 0 → ⊥) → None ≡ six_in own i t ss m
    not_read z = not-heard (unread own t (sections_in ss) (index_in ss) m d ed zd n en z)

    module _ {b : Bool} {k : ℕ} (z : n ≡ 0) (ek : k ≡ number 2 m 4) (eb : b ≡ is_three i k) where
      is-three : is_three i (sender_in m) ≡ b
      is-three = ap (is_three i) (sym ek) ∙ sym eb

      pub of_three : b ≡ true → None ≡ six_in own i t ss m
      unfolding six_operation
      of_three y = by_three (sym (yes-if {A = Option (ℕ × ℕ)} None heard (is-three ∙ y)))

      pub looked-up : {x : Option (ℕ × ℕ)} {id : ℕ} → b ≡ false → id ≡ id_in m → x ≡ operation_in t ss id → x ≡ six_in own i t ss m
      unfolding six_in operation_in six_operation
      looked-up {id = id} w ei ex =
          ex ∙ ap (λ (x : Option (ℕ × ℕ)). cond (within t (sections_in ss)) x None)
          (was_read own t (sections_in ss) (index_in ss) m d ed zd n en {id = id} z ei refl
          ∙ sym (no-if {A = Option (ℕ × ℕ)} None heard (is-three ∙ w)))

-- one that was found
module _ {f : Option (ℕ × ℕ)} (own : ℕ) (i t ss m : List ℕ) (e q : ℕ) (ef : f ≡ six_in own i t ss m) (at : f ≡ Some (e, q)) where
  pub is_found : (within t (sections_in ss) ≡ true) × (six_operation own i t (sections_in ss) (index_in ss) m ≡ Some (e, q))
  unfolding six_in
  is_found = go (within t (sections_in ss)) refl (sym ef ∙ at)
    where
      go : (b : Bool) → within t (sections_in ss) ≡ b
          → cond b (six_operation own i t (sections_in ss) (index_in ss) m) None ≡ Some (e, q)
          → (within t (sections_in ss) ≡ true) × (six_operation own i t (sections_in ss) (index_in ss) m ≡ Some (e, q))
      go true eb h = (eb, h)
      go false eb h = absurd (never h)

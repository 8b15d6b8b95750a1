-- What the rules of what a type's entry points to come to, return by return.
-- Assumes nothing.
use Rattle.std.proofs.Common.{◌≡◌, ℕ, ◌+◌, ◌<◌, ◌≤◌, Bool, true, false, eqb, List, refl, ap, le-ltb, lt-ltb, eq-eqb}
use Rattle.table.specs.declared.Sections.{Sections}
use Rattle.table.specs.declared.Entry.{Entry}
use Rattle.wire.specs.All.{all_below}
use Rattle.table.specs.Entries.{member_at}
use Rattle.types.specs.Values.{values_ok}
use Rattle.types.specs.Rules.{member_ok, members_ok, pointed_ok}
use Rattle.wire.proofs.AllBelow.{next-below, stop-below}

-- what an entry points to
module _ (t : List ℕ) (s : Sections) (i : ℕ) (e : Entry) where
  pub points-to-values : (r : Bool) → e.kind ≡ 1 → r ≡ values_ok t s e → r ≡ pointed_ok t s i e
  unfolding pointed_ok
  points-to-values r k h = rw (eq-eqb e.kind 1 k) h

  pub points-to-members : (r : Bool) → e.kind ≡ 2 → r ≡ members_ok t s i e → r ≡ pointed_ok t s i e
  unfolding pointed_ok
  points-to-members r k h =
      let a : eqb e.kind 1 ≡ false = ap (λ (n : ℕ). eqb n 1) k in
      rw (a, eq-eqb e.kind 2 k) h

-- the members, one after the other
module _ (t : List ℕ) (s : Sections) (i : ℕ) (e : Entry) (k m : ℕ) (is : m ≡ member_at t s (e.first + k)) where
  pub member-next : m < i → all_below (member_ok t s i e) k ≡ true → all_below (member_ok t s i e) (k + 1) ≡ true
  unfolding member_ok
  member-next h a = next-below (member_ok t s i e) k true a (rw (← is, lt-ltb m i h) refl) refl

  pub member-ends : i ≤ m → k < e.count → false ≡ members_ok t s i e
  unfolding member_ok members_ok
  member-ends h l = stop-below (member_ok t s i e) e.count k false (rw (← is, le-ltb m i h) refl) refl l

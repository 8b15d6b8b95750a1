-- What a block says of each service after a status, and after its platform went DOWN; and that it stays packed.
-- Assumes nothing.
use Prim.Native.Nat.{ℕ, zero, suc, ◌+◌, ◌*◌, ◌^◌, ◌<◌}
use Prim.{tt}
use mathlib.Core.Path.{◌≡◌, refl, sym, ap, ◌∙◌}
use mathlib.Core.Bool.{Bool, true, false, cond}
use mathlib.Core.List.{List, []}
use native.Mathlib.Omega.{arith}
use borrow.Author.Tests.{ltb-true, eq-eqb, ne_eqb, eqb-true, eqb-false}
use lib.Dec.{eqb}
use lib.ListN.{length, replicate}
use Rattle.wire.specs.All.{all_below}
use Rattle.wire.specs.Bytes.{Octets}
use Rattle.wire.proofs.Numbers.{number_lt}
use Rattle.wire.proofs.Cond.{and_left, and_right, yes-if, no-if}
use Rattle.services.specs.declared.Availability.{Availability}
use Rattle.services.specs.declared.Availability.TheVariants.{Unheard}
use Rattle.services.specs.Word.{says, told_state}
use Rattle.services.specs.Block.{services, service_place, availability_in, pair_id, pair_state}
use Rattle.services.specs.Block.{pairs_in, pair_told, pair_has_place, pairs_told, has_place, all_have_places}
use Rattle.services.specs.Block.{services_full, status_fits, note_refusal, status_noted}
use Rattle.services.specs.Known.{known, Packed, known_with, last_told}
use Rattle.services.proofs.Telling.{told_long}
use Rattle.services.proofs.OnePair.{told-there, told-elsewhere}
use Rattle.services.proofs.Exactly.{so_far}

-- fresh words
fresh_known : (n : ℕ) → known (replicate n 0) ≡ []
unfolding known
fresh_known zero = refl
fresh_known (suc n) = refl

pub fresh_packed : (n : ℕ) → Packed (replicate n 0)
unfolding Packed
fresh_packed zero = tt
fresh_packed (suc n) = (λ e. fresh_known n, fresh_packed n)

pub fresh_unheard : (n x : ℕ) → availability_in (replicate n 0) x ≡ Unheard
unfolding says
fresh_unheard zero x = refl
fresh_unheard (suc n) x = refl

-- the last pair that names a service, and none
module _ (before : Availability) (s : List ℕ) (x : ℕ) where
  pub never-named : (i : ℕ) → ((j : ℕ) → j < i → pair_id s j ≡ x → ⊥) → last_told before s i x ≡ before
  unfolding last_told
  never-named zero h = refl
  never-named (suc i) h =
      no-if _ _ (ne_eqb (pair_id s i) x (h i (omega arith))) ∙ never-named i (λ j l. h j (omega arith))

  pub last-named : (i j : ℕ) → j < i → pair_id s j ≡ x → ((k : ℕ) → j < k → k < i → pair_id s k ≡ x → ⊥) → last_told before s i x ≡ told_state (pair_state s j)
  unfolding last_told
  last-named zero j l e h = absurd (omega arith)
  last-named (suc i) j l e h = go (eqb j i) refl (λ m. last-named i j m e (λ k a c. h k a (omega arith)))
    where
      go : (t : Bool) → eqb j i ≡ t → (j < i → last_told before s i x ≡ told_state (pair_state s j)) → last_told before s (suc i) x ≡ told_state (pair_state s j)
      go true t r =
          let q : j ≡ i = eqb-true j i t in
          yes-if _ _ (eq-eqb (pair_id s i) x (ap (pair_id s) (sym q) ∙ e)) ∙ ap (λ (k : ℕ). told_state (pair_state s k)) (sym q)
      go false t r =
          let d : j ≡ i → ⊥ = eqb-false j i t in
          no-if _ _ (ne_eqb (pair_id s i) x (h i (omega arith) (omega arith))) ∙ r (omega arith)

-- a status that was refused, whatever the words
pub not_noted : (b s : List ℕ) → status_fits b s ≡ false → status_noted b s ≡ b
unfolding status_noted
not_noted b s f = no-if _ _ f

pub noted_long : (b s : List ℕ) → length (status_noted b s) ≡ length b
unfolding status_noted
noted_long b s = go (status_fits b s)
  where
    go : (t : Bool) → length (cond t (pairs_told b s (pairs_in s)) b) ≡ length b
    go true = told_long b s (pairs_in s)
    go false = refl

module _ (b s : List ℕ) where
  pub by-fitting : (t : Bool) → status_fits b s ≡ t → note_refusal b s ≡ cond t 0 services_full
  unfolding note_refusal
  by-fitting t f = ap (λ (u : Bool). cond u 0 services_full) f

  pub no-refusal : note_refusal b s ≡ 0 → status_fits b s ≡ true
  no-refusal e = go (status_fits b s) refl
    where
      go : (t : Bool) → status_fits b s ≡ t → status_fits b s ≡ true
      go true f = f
      go false f =
          let full : note_refusal b s ≡ 63 = by-fitting false f in
          absurd (omega arith)

  pub refusal_keeps : (note_refusal b s ≡ 0 → ⊥) → status_noted b s ≡ b
  refusal_keeps h = go (status_fits b s) refl
    where
      go : (t : Bool) → status_fits b s ≡ t → status_noted b s ≡ b
      go true f = absurd (h (by-fitting true f))
      go false f = not_noted b s f

-- a status that was noted
module _ (b s : List ℕ) (o : Octets s) (k : Packed b) where
  state-so-far : (x i : ℕ) → all_below (has_place b s) i ≡ true → availability_in (pairs_told b s i) x ≡ last_told (availability_in b x) s i x
  unfolding all_below pairs_told pair_told has_place pair_has_place last_told
  state-so-far x zero a = refl
  state-so-far x (suc i) a = go (eqb (pair_id s i) x) refl (state-so-far x i all)
    where
      c : List ℕ
      c = pairs_told b s i

      all : all_below (has_place b s) i ≡ true
      all = and_left (all_below (has_place b s) i) (has_place b s i) a

      inside : service_place c (pair_id s i) < length c
      inside = ltb-true _ _ (and_right (all_below (has_place b s) i) (has_place b s i) a)

      narrow : pair_id s i < 2 ^ 32
      narrow = number_lt 2 s (8 * i + 4) o

      go : (t : Bool) → eqb (pair_id s i) x ≡ t → availability_in c x ≡ last_told (availability_in b x) s i x
          → availability_in (pair_told c s i) x ≡ cond t (told_state (pair_state s i)) (last_told (availability_in b x) s i x)
      go true e r =
          let q : pair_id s i ≡ x = eqb-true (pair_id s i) x e in
          ap (availability_in (pair_told c s i)) (sym q) ∙ told-there (pair_id s i) (pair_state s i) narrow c inside
      go false e r =
          told-elsewhere (pair_id s i) (pair_state s i) narrow c x (so_far b s o k i all).1 (eqb-false (pair_id s i) x e) ∙ r

  module _ (f : status_fits b s ≡ true) where
    all-had : all_below (has_place b s) (pairs_in s) ≡ true
    unfolding status_fits all_have_places
    all-had = and_right (eqb (length b) services) (all_have_places b s) f

    is_told : status_noted b s ≡ pairs_told b s (pairs_in s)
    unfolding status_noted
    is_told = yes-if _ _ f

    -- the last pair's state for each service that is named, and as before for any other
    pub noted-state : (x : ℕ) → availability_in (status_noted b s) x ≡ last_told (availability_in b x) s (pairs_in s) x
    noted-state x = ap (λ (c : List ℕ). availability_in c x) is_told ∙ state-so-far x (pairs_in s) all-had

    pub noted-known : known (status_noted b s) ≡ known_with (known b) s (pairs_in s)
    noted-known = ap known is_told ∙ (so_far b s o k (pairs_in s) all-had).0

  pub noted-packed : Packed (status_noted b s)
  noted-packed = go (status_fits b s) refl
    where
      go : (t : Bool) → status_fits b s ≡ t → Packed (status_noted b s)
      go true f = rw (is_told f) (so_far b s o k (pairs_in s) (all-had f)).1
      go false f = rw (not_noted b s f) k

-- 001, 6.3: a platform went DOWN: each service that was known is UNAVAILABLE and still known, and of any other nothing was heard.
-- Assumes nothing.
use Prim.Native.Nat.{ℕ, suc, ◌/◌, ◌^◌, ◌<◌}
use Prim.{tt}
use mathlib.Core.Path.{◌≡◌, refl, sym, ap, ◌∙◌}
use mathlib.Core.Bool.{Bool, true, false, cond, true≢false}
use mathlib.Core.List.{List, [], ◌∷◌}
use native.Mathlib.Nat.{mod-lt}
use native.Mathlib.Omega.{arith}
use lib.Dec.{eqb}
use lib.Pow.{high, low}
use lib.ListN.{length}
use Rattle.services.specs.declared.Availability.TheVariants.{Unheard, Unavailable, Available}
use Rattle.services.specs.Word.{service_id, is_free, is_of, is_place_for, says, unavailable_of}
use Rattle.services.specs.Block.{availability_in, marked}
use Rattle.services.specs.Known.{known, Packed, is_in, is_heard, when_down}
use Rattle.services.proofs.OnePair.{state-here, state-later, state-free, known_more}

-- a word of UNAVAILABLE
module _ (w : ℕ) where
  narrow : service_id w < 2 ^ 32
  narrow = mod-lt w (omega arith)

  its_id : service_id (unavailable_of w) ≡ service_id w
  its_id = low 1 32 narrow

  its-state : unavailable_of w / 2 ^ 32 ≡ 1
  its-state = high 1 32 narrow

  not_free : is_free (unavailable_of w) ≡ false
  not_free = ap (λ (n : ℕ). eqb n 0) its-state

  says-unavailable : says (unavailable_of w) ≡ Unavailable
  unfolding says
  says-unavailable = ap (λ (n : ℕ). cond (eqb n 0) Unheard (cond (eqb n 2) Available Unavailable)) its-state

  -- a word that is not free says AVAILABLE or UNAVAILABLE
  says-one : is_free w ≡ false → (is_heard (says w) ≡ true) × (when_down (says w) ≡ Unavailable)
  unfolding says
  says-one f = rw f (go (eqb (w / 2 ^ 32) 2))
    where
      go : (t : Bool) → (is_heard (cond t Available Unavailable) ≡ true) × (when_down (cond t Available Unavailable) ≡ Unavailable)
      go true = (refl, refl)
      go false = (refl, refl)

module _ (w : ℕ) (ws : List ℕ) where
  marked-free : is_free w ≡ true → marked (w ∷ ws) ≡ w ∷ ws
  unfolding marked
  marked-free e = rw e refl

  marked_more : is_free w ≡ false → marked (w ∷ ws) ≡ unavailable_of w ∷ marked ws
  unfolding marked
  marked_more e = rw e refl

pub marked_long : (b : List ℕ) → length (marked b) ≡ length b
unfolding marked
marked_long [] = refl
marked_long (w ∷ ws) = go (is_free w) (marked_long ws)
  where
    go : (f : Bool) → length (marked ws) ≡ length ws → length (cond f (w ∷ ws) (unavailable_of w ∷ marked ws)) ≡ suc (length ws)
    go true h = refl
    go false h = ap suc h

pub marked_known : (b : List ℕ) → known (marked b) ≡ known b
unfolding known marked
marked_known [] = refl
marked_known (w ∷ ws) = go (is_free w) refl (marked_known ws)
  where
    go : (f : Bool) → is_free w ≡ f → known (marked ws) ≡ known ws → known (marked (w ∷ ws)) ≡ known (w ∷ ws)
    go true e r = ap known (marked-free w ws e)
    go false e r =
        ap known (marked_more w ws e) ∙ known_more (unavailable_of w) (marked ws) (not_free w) ∙ ap (λ (n : ℕ). n ∷ known (marked ws)) (its_id w)
        ∙ ap (λ (ks : List ℕ). service_id w ∷ ks) r ∙ sym (known_more w ws e)

pub marked_packed : (b : List ℕ) → Packed b → Packed (marked b)
unfolding Packed marked
marked_packed [] k = tt
marked_packed (w ∷ ws) k = go (is_free w) refl (marked_packed ws k.1)
  where
    go : (f : Bool) → is_free w ≡ f → Packed (marked ws) → Packed (marked (w ∷ ws))
    go true e r = rw (marked-free w ws e) k
    go false e r = rw (marked_more w ws e) (λ n. absurd (true≢false (sym n ∙ not_free w)), r)

pub marked_state : (b : List ℕ) (x : ℕ) → availability_in (marked b) x ≡ when_down (availability_in b x)
unfolding marked says
marked_state [] x = refl
marked_state (w ∷ ws) x = go (is_free w) (is_of w x) refl refl (marked_state ws x)
  where
    go : (f e : Bool) → is_free w ≡ f → is_of w x ≡ e → availability_in (marked ws) x ≡ when_down (availability_in ws x)
        → availability_in (marked (w ∷ ws)) x ≡ when_down (availability_in (w ∷ ws) x)
    go true e p q r = ap (λ (c : List ℕ). availability_in c x) (marked-free w ws p) ∙ state-free w ws x p ∙ ap when_down (sym (state-free w ws x p))
    go false true p q r =
        let here : is_place_for w x ≡ true = rw (p, q) refl in
        let there : is_place_for (unavailable_of w) x ≡ true = rw (not_free w, its_id w, q) refl in
        ap (λ (c : List ℕ). availability_in c x) (marked_more w ws p) ∙ state-here (unavailable_of w) (marked ws) x there ∙ says-unavailable w
        ∙ sym (ap when_down (state-here w ws x here) ∙ (says-one w p).1)
    go false false p q r =
        let later : is_place_for w x ≡ false = rw (p, q) refl in
        let there : is_place_for (unavailable_of w) x ≡ false = rw (not_free w, its_id w, q) refl in
        ap (λ (c : List ℕ). availability_in c x) (marked_more w ws p) ∙ state-later (unavailable_of w) (marked ws) x there ∙ r
        ∙ ap when_down (sym (state-later w ws x later))

-- a service is known exactly where something was heard of it
pub known_heard : (b : List ℕ) (x : ℕ) → is_in x (known b) ≡ is_heard (availability_in b x)
unfolding known is_in says
known_heard [] x = refl
known_heard (w ∷ ws) x = go (is_free w) (is_of w x) refl refl (known_heard ws x)
  where
    go : (f e : Bool) → is_free w ≡ f → is_of w x ≡ e → is_in x (known ws) ≡ is_heard (availability_in ws x)
        → is_in x (known (w ∷ ws)) ≡ is_heard (availability_in (w ∷ ws) x)
    go true e p q r = rw p refl ∙ ap is_heard (sym (state-free w ws x p))
    go false true p q r =
        let here : is_place_for w x ≡ true = rw (p, q) refl in
        ap (is_in x) (known_more w ws p) ∙ rw q refl ∙ sym (ap is_heard (state-here w ws x here) ∙ (says-one w p).0)
    go false false p q r =
        let later : is_place_for w x ≡ false = rw (p, q) refl in
        ap (is_in x) (known_more w ws p) ∙ rw q refl ∙ r ∙ ap is_heard (sym (state-later w ws x later))

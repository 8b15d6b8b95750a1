-- One pair told: the service is known afterwards and has the state told, nothing else is new, and every other is as it was.
-- Assumes nothing.
use Prim.Native.Nat.{ℕ, suc, ◌/◌, ◌^◌, ◌<◌}
use mathlib.Core.Path.{◌≡◌, refl, sym, ap, ◌∙◌}
use mathlib.Core.Bool.{Bool, true, false, cond, true≢false}
use mathlib.Core.List.{List, [], ◌∷◌, ◌++◌}
use native.Mathlib.Omega.{arith}
use borrow.Author.Tests.{eq-eqb, ne_eqb, eqb-true}
use lib.Dec.{eqb}
use lib.Pow.{high, low}
use lib.ListN.{length, set}
use Rattle.services.specs.declared.Availability.TheVariants.{Unheard, Unavailable, Available}
use Rattle.services.specs.Word.{service_id, is_free, is_of, is_place_for, says, told_state, word_for}
use Rattle.services.specs.Block.{service_place, availability_in}
use Rattle.services.specs.Known.{known, Packed, is_in, with}

-- the word of a pair
module _ (x st : ℕ) (hx : x < 2 ^ 32) where
  its-state : word_for x st / 2 ^ 32 ≡ cond (eqb st 1) 2 1
  unfolding word_for
  its-state = high (cond (eqb st 1) 2 1) 32 hx

  pub its_id : service_id (word_for x st) ≡ x
  unfolding word_for
  its_id = low (cond (eqb st 1) 2 1) 32 hx

  pub not_free : is_free (word_for x st) ≡ false
  not_free = ap (λ (n : ℕ). eqb n 0) its-state ∙ go (eqb st 1)
    where
      go : (t : Bool) → eqb (cond t 2 1) 0 ≡ false
      go true = refl
      go false = refl

  says-told : says (word_for x st) ≡ told_state st
  unfolding says told_state
  says-told = rw (not_free, its-state) (go (eqb st 1))
    where
      go : (t : Bool) → cond (eqb (cond t 2 1) 2) Available Unavailable ≡ cond t Available Unavailable
      go true = refl
      go false = refl

  -- it bears its own ID, and no other
  bears-it : is_of (word_for x st) x ≡ true
  bears-it = eq-eqb (service_id (word_for x st)) x its_id

  bears-no-other : (y : ℕ) → (x ≡ y → ⊥) → is_place_for (word_for x st) y ≡ false
  bears-no-other y h = rw (not_free, its_id) (ne_eqb x y h)

-- known services: one more word that is not free
pub known_more : (w : ℕ) (ws : List ℕ) → is_free w ≡ false → known (w ∷ ws) ≡ service_id w ∷ known ws
unfolding known
known_more w ws e = rw e refl

-- what is known of a service, by the first word
module _ (w : ℕ) (ws : List ℕ) (y : ℕ) where
  pub state-here : is_place_for w y ≡ true → availability_in (w ∷ ws) y ≡ says w
  state-here e = rw e refl

  pub state-later : is_place_for w y ≡ false → availability_in (w ∷ ws) y ≡ availability_in ws y
  state-later e = rw e refl

  pub state-free : is_free w ≡ true → availability_in (w ∷ ws) y ≡ Unheard
  unfolding says
  state-free p = rw p (rw p refl)

-- where nothing is known, nothing was heard of any
none_heard : (b : List ℕ) (y : ℕ) → known b ≡ [] → availability_in b y ≡ Unheard
unfolding known says
none_heard [] y e = refl
none_heard (w ∷ ws) y e = go (is_free w) refl e
  where
    go : (f : Bool) → is_free w ≡ f → cond f [] (service_id w ∷ known ws) ≡ [] → availability_in (w ∷ ws) y ≡ Unheard
    go true p k = state-free w ws y p
    go false p k = absurd (no-cons k)
      where
        no-cons : {z : ℕ} {zs : List ℕ} → z ∷ zs ≡ [] → ⊥
        no-cons q =
            let z : ◌≡◌ {A = ℕ} 0 1 = cc in
            omega arith

-- the pair's word at its place
module _ (x st : ℕ) (hx : x < 2 ^ 32) where
  abbrev after : List ℕ → List ℕ
  after b = set b (service_place b x) (word_for x st)

  -- the place is one step further on where the first word is neither free nor this service's
  later : (w : ℕ) (ws : List ℕ) → is_free w ≡ false → is_of w x ≡ false → after (w ∷ ws) ≡ w ∷ after ws
  later w ws p q = rw (p, q) refl

  abbrev Told : List ℕ → Type 0
  Told b = (known (after b) ≡ with (known b) x) × Packed (after b)

  pub told-known : (b : List ℕ) → Packed b → service_place b x < length b → Told b
  unfolding known is_in with Packed
  told-known [] k h = absurd (omega arith)
  told-known (w ∷ ws) k h = go (is_free w) (is_of w x) refl refl (told-known ws k.1) h
    where
      busy : is_free (word_for x st) ≡ true → known ws ≡ []
      busy n = absurd (true≢false (sym n ∙ not_free x st hx))

      more : (b : Bool) → (service_id w ∷ cond b (known ws) (known ws ++ (x ∷ []))) ≡ cond b (service_id w ∷ known ws) ((service_id w ∷ known ws) ++ (x ∷ []))
      more true = refl
      more false = refl

      go : (f e : Bool) → is_free w ≡ f → is_of w x ≡ e → (service_place ws x < length ws → Told ws) → service_place (w ∷ ws) x < length (w ∷ ws) → Told (w ∷ ws)
      go true e p q r l = rw p (rw (not_free x st hx, its_id x st hx, k.0 p) refl, (busy, k.1))
      go false true p q r l =
          let same : x ∷ known ws ≡ service_id w ∷ known ws = ap (λ (n : ℕ). n ∷ known ws) (sym (eqb-true (service_id w) x q)) in
          rw (p, q) (rw (not_free x st hx, its_id x st hx) same, (busy, k.1))
      go false false p q r l =
          let one_on : service_place (w ∷ ws) x ≡ suc (service_place ws x) = rw (p, q) refl in
          let t : Told ws = r (omega (arith, l, one_on)) in
          let longer : known (w ∷ after ws) ≡ service_id w ∷ with (known ws) x = known_more w (after ws) p ∙ ap (λ (ks : List ℕ). service_id w ∷ ks) t.0 in
          rw (p, q) (longer ∙ more (is_in x (known ws)), (λ n. absurd (true≢false (sym n ∙ p)), t.1))

  -- of this service, the state told
  pub told-there : (b : List ℕ) → service_place b x < length b → availability_in (after b) x ≡ told_state st
  told-there [] h = absurd (omega arith)
  told-there (w ∷ ws) h = go (is_free w) (is_of w x) refl refl (told-there ws) h
    where
      here : availability_in (word_for x st ∷ ws) x ≡ told_state st
      here = rw (not_free x st hx, bears-it x st hx) (says-told x st hx)

      go : (f e : Bool) → is_free w ≡ f → is_of w x ≡ e → (service_place ws x < length ws → availability_in (after ws) x ≡ told_state st)
          → service_place (w ∷ ws) x < length (w ∷ ws) → availability_in (after (w ∷ ws)) x ≡ told_state st
      go true e p q r l = rw p here
      go false true p q r l = rw (p, q) here
      go false false p q r l =
          let one_on : service_place (w ∷ ws) x ≡ suc (service_place ws x) = rw (p, q) refl in
          let not-its : is_place_for w x ≡ false = rw (p, q) refl in
          ap (λ (c : List ℕ). availability_in c x) (later w ws p q) ∙ state-later w (after ws) x not-its ∙ r (omega (arith, l, one_on))

  -- of any other, what was known
  pub told-elsewhere : (b : List ℕ) (y : ℕ) → Packed b → (x ≡ y → ⊥) → availability_in (after b) y ≡ availability_in b y
  unfolding Packed
  told-elsewhere [] y k h = refl
  told-elsewhere (w ∷ ws) y k h = go (is_free w) (is_of w x) (is_place_for w y) refl refl refl (told-elsewhere ws y k.1 h)
    where
      passed : availability_in (word_for x st ∷ ws) y ≡ availability_in ws y
      passed = rw (bears-no-other x st hx y h) refl

      go : (f e g : Bool) → is_free w ≡ f → is_of w x ≡ e → is_place_for w y ≡ g → availability_in (after ws) y ≡ availability_in ws y
          → availability_in (after (w ∷ ws)) y ≡ availability_in (w ∷ ws) y
      go true e g p q u r = rw p (passed ∙ none_heard ws y (k.0 p)) ∙ sym (state-free w ws y p)
      go false true g p q u r =
          let other : is_place_for w y ≡ false = rw p (ne_eqb (service_id w) y (λ z. h (sym (eqb-true (service_id w) x q) ∙ z))) in
          rw (p, q) passed ∙ sym (state-later w ws y other)
      go false false true p q u r =
          ap (λ (c : List ℕ). availability_in c y) (later w ws p q) ∙ state-here w (after ws) y u ∙ sym (state-here w ws y u)
      go false false false p q u r =
          ap (λ (c : List ℕ). availability_in c y) (later w ws p q) ∙ state-later w (after ws) y u ∙ r ∙ sym (state-later w ws y u)

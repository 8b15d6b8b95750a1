-- 02, request 8: 63 exactly where a 257th service would be needed: the services that are known, with those that the status names, are
-- more than 256.
-- Assumes nothing.
use Prim.Native.Nat.{ℕ, zero, suc, ◌+◌, ◌*◌, ◌≤◌, ◌<◌}
use mathlib.Core.Path.{◌≡◌, refl, sym, ap, ap₂, ◌∙◌}
use mathlib.Core.Bool.{Bool, true, false, cond, ◌&&◌, ◌||◌}
use mathlib.Core.List.{List, [], ◌∷◌, ◌++◌}
use native.Mathlib.Omega.{arith}
use native.Mathlib.Numerals.{add-one}
use borrow.Author.Tests.{lt-ltb, le-leb, lt-leb, eq-eqb, ltb-true, leb-false}
use lib.Dec.{ltb, leb, leb-suc-suc}
use lib.ListN.{length, length-append}
use Rattle.wire.specs.Bytes.{Octets}
use Rattle.wire.proofs.Numbers.{number_lt}
use Rattle.wire.proofs.Cond.{and_left, and_right}
use Rattle.wire.specs.All.{all_below}
use Rattle.services.specs.Word.{service_id, is_free, is_of}
use Rattle.services.specs.Block.{services, service_place, pair_id, pair_state, pairs_in}
use Rattle.services.specs.Block.{pair_told, pair_has_place, pairs_told, has_place, all_have_places, status_fits}
use Rattle.services.specs.Known.{known, Packed, is_in, with, known_with}
use Rattle.services.proofs.Telling.{told_long}
use Rattle.services.proofs.OnePair.{told-known}

-- a service has a place where it is known, or where there is a free word
abbrev RoomIs : List ℕ → ℕ → Type 0
RoomIs b x = ltb (service_place b x) (length b) ≡ (is_in x (known b) || ltb (length (known b)) (length b))

room_is : (b : List ℕ) (x : ℕ) → RoomIs b x
unfolding known is_in
room_is [] x = refl
room_is (w ∷ ws) x = go (is_free w) (is_of w x) refl refl (room_is ws x)
  where
    go : (f e : Bool) → is_free w ≡ f → is_of w x ≡ e → RoomIs ws x → RoomIs (w ∷ ws) x
    go true e p q r = rw p refl
    go false true p q r = rw (p, q) (lt-ltb 0 (suc (length ws)) (omega arith))
    go false false p q r =
        let one_less : ltb (suc (length (known ws))) (suc (length ws)) ≡ ltb (length (known ws)) (length ws) =
        leb-suc-suc (suc (length (known ws))) (length ws) in
        rw (p, q) (leb-suc-suc (suc (service_place ws x)) (length ws) ∙ r ∙ ap (λ (z : Bool). is_in x (known ws) || z) (sym one_less))

known_le : (b : List ℕ) → length (known b) ≤ length b
unfolding known
known_le [] = omega arith
known_le (w ∷ ws) = go (is_free w) (known_le ws)
  where
    go : (f : Bool) → length (known ws) ≤ length ws → length (cond f [] (service_id w ∷ known ws)) ≤ suc (length ws)
    go true h = omega arith
    go false h = omega arith

length_with : (ks : List ℕ) (x : ℕ) → length (with ks x) ≡ cond (is_in x ks) (length ks) (length ks + 1)
unfolding with
length_with ks x = go (is_in x ks)
  where
    go : (b : Bool) → length (cond b ks (ks ++ (x ∷ []))) ≡ cond b (length ks) (length ks + 1)
    go true = refl
    go false = length-append ks (x ∷ [])

-- over the pairs
module _ (b s : List ℕ) (o : Octets s) (k : Packed b) where
  abbrev K : ℕ → List ℕ
  K i = known_with (known b) s i

  abbrev AllPlaced : ℕ → Bool
  AllPlaced i = all_below (has_place b s) i

  pub so_far : (i : ℕ) → AllPlaced i ≡ true → (known (pairs_told b s i) ≡ K i) × Packed (pairs_told b s i)
  unfolding all_below pairs_told pair_told has_place pair_has_place known_with
  so_far zero a = (refl, k)
  so_far (suc i) a =
      let r = so_far i (and_left (AllPlaced i) (has_place b s i) a) in
      let h : service_place (pairs_told b s i) (pair_id s i) < length (pairs_told b s i) = ltb-true _ _ (and_right (AllPlaced i) (has_place b s i) a) in
      let t = told-known (pair_id s i) (pair_state s i) (number_lt 2 s (8 * i + 4) o) (pairs_told b s i) r.1 h in
      (t.0 ∙ ap (λ (ks : List ℕ). with ks (pair_id s i)) r.0, t.1)

  -- the next pair has its place where its service is known, or one more may be
  abbrev MayBe : ℕ → Bool
  MayBe i = is_in (pair_id s i) (K i) || ltb (length (K i)) (length b)

  next_place : (i : ℕ) → AllPlaced i ≡ true → has_place b s i ≡ MayBe i
  unfolding has_place pair_has_place
  next_place i a =
      let r = so_far i a in
      room_is (pairs_told b s i) (pair_id s i)
      ∙ ap₂ (λ (ks : List ℕ) (n : ℕ). is_in (pair_id s i) ks || ltb (length ks) n) r.0 (told_long b s i)

  exactly : (i : ℕ) → AllPlaced i ≡ leb (length (K i)) (length b)
  unfolding all_below known_with
  exactly zero = sym (le-leb (length (known b)) (length b) (known_le b))
  exactly (suc i) = go (AllPlaced i) (is_in (pair_id s i) (K i)) refl refl (exactly i) (next_place i)
    where
      n : ℕ
      n = length (K i)

      m : ℕ
      m = length (with (K i) (pair_id s i))

      longer : (t : Bool) → is_in (pair_id s i) (K i) ≡ t → m ≡ cond t n (n + 1)
      longer t q = length_with (K i) (pair_id s i) ∙ ap (λ (z : Bool). cond z n (n + 1)) q

      at_least : (t : Bool) → m ≡ cond t n (n + 1) → n ≤ m
      at_least true z = omega arith
      at_least false z = omega arith

      go : (a e : Bool) → AllPlaced i ≡ a → is_in (pair_id s i) (K i) ≡ e → AllPlaced i ≡ leb n (length b) → (AllPlaced i ≡ true → has_place b s i ≡ MayBe i)
          → (AllPlaced i && has_place b s i) ≡ leb m (length b)
      go true true p q r l = rw (p, l p, longer true q, q) (sym (sym r ∙ p))
      go true false p q r l = rw (p, l p, longer false q, q) (ap (λ (z : ℕ). leb z (length b)) (sym (add-one n)))
      go false e p q r l =
          let h : length b < n = leb-false n (length b) (sym r ∙ p) in
          let g : n ≤ m = at_least e (longer e q) in
          rw p (sym (lt-leb m (length b) (omega arith)))

  -- 02: "a status that would need a 257th is refused"
  pub fits-exactly : length b ≡ services → status_fits b s ≡ leb (length (known_with (known b) s (pairs_in s))) services
  unfolding status_fits all_have_places
  fits-exactly h = rw (eq-eqb (length b) services h) (exactly (pairs_in s) ∙ ap (leb (length (K (pairs_in s)))) h)

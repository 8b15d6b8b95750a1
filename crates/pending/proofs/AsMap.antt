-- A list is like its map: from fresh, when a request is entered at the free place under a free number, and when a place is freed.
-- Assumes nothing.
use Rattle.std.proofs.Common.{◌≡◌, ℕ, ◌+◌, ◌-◌, ◌*◌, ◌/◌, ◌%◌, ◌^◌, ◌<◌, Bool, true, false, cond, not, eqb, List, get_or, sym, refl, ap, ◌∙◌, subst, ap₂, true≢false, arith, eq-eqb, ne_eqb, eqb-true}
use Rattle.std.specs.Prelude.{Option, Some, None}
use borrow.Author.Tests.{eqb-false}
use lib.ListN.{length-replicate, get_or-replicate}
use Rattle.wire.proofs.Cond.{yes-if, no-if}
use Rattle.pending.specs.Places.{number_at, target_at, place_of, free_place, entered, cleared}
use Rattle.pending.specs.Free.{is_at, is_pending}
use Rattle.pending.specs.Answers.{asked_at, awaited_of, cleared_at, cancelled, bears_at, is_response}
use Rattle.pending.specs.Counted.{how_many}
use Rattle.pending.specs.PlainMap.{Map, is_asked, asks, taken, empty_map, inserted, deleted, fresh_list, used, Once, LikeMap}
use Rattle.pending.proofs.Looking.{IsFirst, is-first, its-place, no_place, number-not-zero, none-bears-it}
use Rattle.pending.proofs.Placing.{placed-length, word-here, target-here, word-elsewhere, target-elsewhere, number_in, id-in}
use Rattle.pending.proofs.Counts.{one_more, count_all, not_all}

-- where a number stands
module _ (l : List ℕ) (n : ℕ) where
  pub stands : Once l → (j : ℕ) → j < 64 → number_at l j ≡ n → (n ≡ 0 → ⊥) → place_of l n ≡ Some j
  stands only j h e z = go (place_of l n) refl
    where
      go : (s : Option ℕ) → place_of l n ≡ s → place_of l n ≡ Some j
      go (Some i) p =
          let f : IsFirst l n 64 0 i = its-place l n i p in
          p ∙ ap Some (only i j f.below h (λ q. z (sym f.named ∙ q)) (f.named ∙ sym e))
      go None p = absurd (no_place l n p z j h e)

  pub absent : ((j : ℕ) → j < 64 → number_at l j ≡ n → n ≡ 0) → place_of l n ≡ None
  absent none = go (place_of l n) refl
    where
      go : (s : Option ℕ) → place_of l n ≡ s → place_of l n ≡ None
      go (Some i) p =
          let f : IsFirst l n 64 0 i = its-place l n i p in
          absurd (number-not-zero l n i p (none i f.below f.named))
      go None p = p

  pub not-standing : is_pending l n ≡ false → place_of l n ≡ None
  not-standing e = go (place_of l n) refl
    where
      go : (s : Option ℕ) → place_of l n ≡ s → place_of l n ≡ None
      go (Some i) p = absurd (true≢false (sym (ap is_at p) ∙ e))
      go None p = p

  -- a message is the response by what is pending under its number
  pub response-by : (id sender : ℕ) → is_response l n id sender ≡ asks (awaited_of l n) id sender
  response-by id sender = go (place_of l n) refl
    where
      go : (s : Option ℕ) → place_of l n ≡ s → is_response l n id sender ≡ asks (awaited_of l n) id sender
      go (Some k) p = ap (λ (s : Option ℕ). bears_at l s id sender) p ∙ sym (ap (λ (s : Option ℕ). asks (asked_at l s) id sender) p)
      go None p = ap (λ (s : Option ℕ). bears_at l s id sender) p ∙ sym (ap (λ (s : Option ℕ). asks (asked_at l s) id sender) p)

-- lists that differ at place k alone, and numbers that stand there in neither
module _ (l r : List ℕ) (k : ℕ) (words : (j : ℕ) → (j ≡ k → ⊥) → j < 64 → get_or r j 0 ≡ get_or l j 0)
    (targets : (j : ℕ) → (j ≡ k → ⊥) → j < 64 → target_at r j ≡ target_at l j) where
  same_number : (j : ℕ) → (j ≡ k → ⊥) → j < 64 → number_at r j ≡ number_at l j
  same_number j d h = ap (λ (x : ℕ). x / 2 ^ 32) (words j d h)

  module _ (only : Once r) (x : ℕ) (a : number_at l k ≡ x → x ≡ 0) (b : number_at r k ≡ x → x ≡ 0) where
    elsewhere : awaited_of r x ≡ awaited_of l x
    elsewhere = go (place_of l x) refl
      where
        gone : place_of l x ≡ None → (j : ℕ) → j < 64 → number_at r j ≡ x → (s : Bool) → eqb x 0 ≡ s → (t : Bool) → eqb j k ≡ t → x ≡ 0
        gone p j h e true s t u = eqb-true x 0 s
        gone p j h e false s true u = b (subst (λ (i : ℕ). number_at r i ≡ x) (eqb-true j k u) e)
        gone p j h e false s false u = absurd (no_place l x p (eqb-false x 0 s) j h (sym (same_number j (eqb-false j k u) h) ∙ e))

        go : (s : Option ℕ) → place_of l x ≡ s → awaited_of r x ≡ awaited_of l x
        go (Some j) p =
            let f : IsFirst l x 64 0 j = its-place l x j p in
            let z : x ≡ 0 → ⊥ = number-not-zero l x j p in
            let d : j ≡ k → ⊥ = λ e. z (a (subst (λ (i : ℕ). number_at l i ≡ x) e f.named)) in
            let q : place_of r x ≡ Some j = stands r x only j f.below (same_number j d f.below ∙ f.named) z in
            ap (asked_at r) q ∙ ap₂ (λ (a b : ℕ). Some (a, b)) (ap (λ (y : ℕ). y % 2 ^ 32) (words j d f.below)) (targets j d f.below) ∙ sym (ap (asked_at l) p)
        go None p =
            let q : place_of r x ≡ None = absent r x (λ j h e. gone p j h e (eqb x 0) refl (eqb j k) refl) in
            ap (asked_at r) q ∙ sym (ap (asked_at l) p)

  -- a place that is used in one of them alone
  pub one-used : k < 64 → number_at l k ≡ 0 → (number_at r k ≡ 0 → ⊥) → how_many (used r) 64 ≡ how_many (used l) 64 + 1
  one-used h e d =
      one_more (used l) (used r) 64 k (λ j b o. ap (λ (x : ℕ). not (eqb x 0)) (same_number j o b)) h (ap not (eq-eqb (number_at l k) 0 e))
      (ap not (ne_eqb (number_at r k) 0 d))

-- nothing was asked yet
pub fresh_like : LikeMap fresh_list empty_map
unfolding how_many
fresh_like =
    record {
      whole = length-replicate {A = ℕ} 128 0;
      once = λ j k h i d e. absurd (d (blank j h));
      looked = λ n. ap (asked_at fresh_list) (absent fresh_list n (λ j h e. sym e ∙ blank j h));
      counted = refl;
    }
  where
    blank : (j : ℕ) → j < 64 → number_at fresh_list j ≡ 0
    blank j h = ap (λ (x : ℕ). x / 2 ^ 32) (get_or-replicate 128 j 0 0 (omega arith))

module _ (l : List ℕ) (m : Map) (like : LikeMap l m) where
  -- "A full list refuses with 60, and only then"
  pub full-counts : free_place l ≡ None → m.count ≡ 64
  full-counts e =
      sym like.counted
      ∙ count_all (used l) 64 (λ k h. ap not (ne_eqb (number_at l k) 0 (none-bears-it l 0 64 0 k e (omega arith) h)))

  pub room-counts : (k : ℕ) → free_place l ≡ Some k → m.count < 64
  room-counts k e =
      let f : IsFirst l 0 64 0 k = is-first l 0 64 0 k e in
      let h : how_many (used l) 64 < 64 = not_all (used l) 64 k f.below (ap not (eq-eqb (number_at l k) 0 f.named)) in
      let c : how_many (used l) 64 ≡ m.count = like.counted in
      omega arith

  pub same_taken : (n : ℕ) → is_pending l n ≡ taken m n
  same_taken n = go (place_of l n) refl
    where
      go : (s : Option ℕ) → place_of l n ≡ s → is_pending l n ≡ taken m n
      go (Some k) p = ap is_at p ∙ ap is_asked (sym (ap (asked_at l) p) ∙ like.looked n)
      go None p = ap is_at p ∙ ap is_asked (sym (ap (asked_at l) p) ∙ like.looked n)

  -- a request is entered
  module _ (k n id target : ℕ) (free : free_place l ≡ Some k) (id-small : id < 2 ^ 32) (not_zero : n ≡ 0 → ⊥) (not_taken : is_pending l n ≡ false) where
    there : IsFirst l 0 64 0 k
    there = is-first l 0 64 0 k free

    new : List ℕ
    new = entered l k n id target

    new-words : (j : ℕ) → (j ≡ k → ⊥) → j < 64 → get_or new j 0 ≡ get_or l j 0
    unfolding new
    new-words j d h = word-elsewhere l k (n * 2 ^ 32 + id) target there.below j d h

    new-targets : (j : ℕ) → (j ≡ k → ⊥) → j < 64 → target_at new j ≡ target_at l j
    unfolding new
    new-targets j d h = target-elsewhere l k (n * 2 ^ 32 + id) target there.below j d h

    new_word : get_or new k 0 ≡ n * 2 ^ 32 + id
    unfolding new
    new_word = word-here l k (n * 2 ^ 32 + id) target there.below like.whole

    new-number : number_at new k ≡ n
    new-number = ap (λ (x : ℕ). x / 2 ^ 32) new_word ∙ number_in n id id-small

    not_in : (j : ℕ) → j < 64 → number_at l j ≡ n → ⊥
    not_in = no_place l n (not-standing l n not_taken) not_zero

    new-once : Once new
    new-once i j hi hj d e = go (eqb i k) refl (eqb j k) refl
      where
        same : (x : ℕ) → x < 64 → eqb x k ≡ false → number_at new x ≡ number_at l x
        same x h q = same_number l new k new-words new-targets x (eqb-false x k q) h

        at-k : (x : ℕ) → eqb x k ≡ true → number_at new x ≡ n
        at-k x q = ap (number_at new) (eqb-true x k q) ∙ new-number

        go : (s : Bool) → eqb i k ≡ s → (t : Bool) → eqb j k ≡ t → i ≡ j
        go true s true t = eqb-true i k s ∙ sym (eqb-true j k t)
        go true s false t = absurd (not_in j hj (sym (same j hj t) ∙ sym e ∙ at-k i s))
        go false s true t = absurd (not_in i hi (sym (same i hi s) ∙ e ∙ at-k j t))
        go false s false t = like.once i j hi hj (λ q. d (same i hi s ∙ q)) (sym (same i hi s) ∙ e ∙ same j hj t)

    new-looked : (x : ℕ) → awaited_of new x ≡ cond (eqb x n) (Some (id, target)) (m.under x)
    unfolding new
    new-looked x = go (eqb x n) refl
      where
        here : awaited_of new n ≡ Some (id, target)
        here =
            ap (asked_at new) (stands new n new-once k there.below new-number not_zero)
            ∙ ap₂ (λ (a b : ℕ). Some (a, b)) (ap (λ (y : ℕ). y % 2 ^ 32) new_word ∙ id-in n id id-small)
            (target-here l k (n * 2 ^ 32 + id) target there.below like.whole)

        go : (s : Bool) → eqb x n ≡ s → awaited_of new x ≡ cond (eqb x n) (Some (id, target)) (m.under x)
        go true s = ap (awaited_of new) (eqb-true x n s) ∙ here ∙ sym (yes-if (Some (id, target)) (m.under x) s)
        go false s =
            elsewhere l new k new-words new-targets new-once x (λ e. sym e ∙ there.named) (λ e. absurd (eqb-false x n s (sym e ∙ new-number)))
            ∙ like.looked x ∙ sym (no-if (Some (id, target)) (m.under x) s)

    pub entered-like : LikeMap (entered l k n id target) (inserted m n id target)
    unfolding new
    entered-like =
        record {
          whole = placed-length l k (n * 2 ^ 32 + id) target there.below ∙ like.whole;
          once = new-once;
          looked = new-looked;
          counted =
              one-used l new k new-words new-targets there.below there.named (λ e. not_zero (sym new-number ∙ e))
              ∙ ap (λ (c : ℕ). c + 1) like.counted;
        }

  -- a place is freed
  module _ (k n : ℕ) (place : place_of l n ≡ Some k) where
    its : IsFirst l n 64 0 k
    its = its-place l n k place

    named-so : n ≡ 0 → ⊥
    named-so = number-not-zero l n k place

    rest : List ℕ
    rest = cleared l k

    rest-words : (j : ℕ) → (j ≡ k → ⊥) → j < 64 → get_or rest j 0 ≡ get_or l j 0
    unfolding rest
    rest-words j d h = word-elsewhere l k 0 0 its.below j d h

    rest-targets : (j : ℕ) → (j ≡ k → ⊥) → j < 64 → target_at rest j ≡ target_at l j
    unfolding rest
    rest-targets j d h = target-elsewhere l k 0 0 its.below j d h

    rest-number : number_at rest k ≡ 0
    unfolding rest
    rest-number = ap (λ (x : ℕ). x / 2 ^ 32) (word-here l k 0 0 its.below like.whole)

    rest-same : (x : ℕ) → x < 64 → eqb x k ≡ false → number_at rest x ≡ number_at l x
    rest-same x h q = same_number l rest k rest-words rest-targets x (eqb-false x k q) h

    rest-zero : (x : ℕ) → eqb x k ≡ true → number_at rest x ≡ 0
    rest-zero x q = ap (number_at rest) (eqb-true x k q) ∙ rest-number

    rest-once : Once rest
    rest-once i j hi hj d e = go (eqb i k) refl (eqb j k) refl
      where
        go : (s : Bool) → eqb i k ≡ s → (t : Bool) → eqb j k ≡ t → i ≡ j
        go true s t u = absurd (d (rest-zero i s))
        go false s true t = absurd (d (e ∙ rest-zero j t))
        go false s false t = like.once i j hi hj (λ q. d (rest-same i hi s ∙ q)) (sym (rest-same i hi s) ∙ e ∙ rest-same j hj t)

    rest-looked : (x : ℕ) → awaited_of rest x ≡ cond (eqb x n) None (m.under x)
    rest-looked x = go (eqb x n) refl
      where
        not_again : (j : ℕ) → j < 64 → number_at rest j ≡ n → (s : Bool) → eqb j k ≡ s → n ≡ 0
        not_again j h e true s = sym e ∙ rest-zero j s
        not_again j h e false s =
            let f : number_at l j ≡ n = sym (rest-same j h s) ∙ e in
            absurd (eqb-false j k s (like.once j k h its.below (λ q. named-so (sym f ∙ q)) (f ∙ sym its.named)))

        here : awaited_of rest n ≡ None
        here = ap (asked_at rest) (absent rest n (λ j h e. not_again j h e (eqb j k) refl))

        go : (s : Bool) → eqb x n ≡ s → awaited_of rest x ≡ cond (eqb x n) None (m.under x)
        go true s = ap (awaited_of rest) (eqb-true x n s) ∙ here ∙ sym (yes-if None (m.under x) s)
        go false s =
            elsewhere l rest k rest-words rest-targets rest-once x (λ e. absurd (eqb-false x n s (sym e ∙ its.named))) (λ e. sym e ∙ rest-number)
            ∙ like.looked x ∙ sym (no-if None (m.under x) s)

    rest-counted : how_many (used rest) 64 ≡ m.count - cond (taken m n) 1 0
    rest-counted =
        let h : how_many (used l) 64 ≡ how_many (used rest) 64 + 1 =
        one-used rest l k (λ j d b. sym (rest-words j d b)) (λ j d b. sym (rest-targets j d b)) its.below rest-number
        (λ e. named-so (sym its.named ∙ e)) in
        let t : taken m n ≡ true = sym (same_taken n) ∙ ap is_at place in
        let o : ◌≡◌ {A = ℕ} (cond (taken m n) 1 0) 1 = ap (λ (b : Bool). cond b 1 0) t in
        let c : how_many (used l) 64 ≡ m.count = like.counted in
        omega arith

    pub cleared-like : LikeMap (cleared l k) (deleted m n)
    unfolding rest
    cleared-like =
        record {
          whole = placed-length l k 0 0 its.below ∙ like.whole;
          once = rest-once;
          looked = rest-looked;
          counted = rest-counted;
        }

  pub cancelled-like : (n : ℕ) → LikeMap (cancelled l n) (deleted m n)
  cancelled-like n = go (place_of l n) refl
    where
      nothing : place_of l n ≡ None → (x : ℕ) (s : Bool) → eqb x n ≡ s → awaited_of l x ≡ cond (eqb x n) None (m.under x)
      nothing p x true s = ap (awaited_of l) (eqb-true x n s) ∙ ap (asked_at l) p ∙ sym (yes-if None (m.under x) s)
      nothing p x false s = like.looked x ∙ sym (no-if None (m.under x) s)

      stays : place_of l n ≡ None → LikeMap l (deleted m n)
      stays p =
          let t : taken m n ≡ false = sym (same_taken n) ∙ ap is_at p in
          let o : ◌≡◌ {A = ℕ} (cond (taken m n) 1 0) 0 = ap (λ (b : Bool). cond b 1 0) t in
          let c : how_many (used l) 64 ≡ m.count = like.counted in
          record {
            whole = like.whole;
            once = like.once;
            looked = λ x. nothing p x (eqb x n) refl;
            counted = omega arith;
          }

      go : (s : Option ℕ) → place_of l n ≡ s → LikeMap (cancelled l n) (deleted m n)
      go (Some k) p = subst (λ (s : Option ℕ). LikeMap (cleared_at l s) (deleted m n)) (sym p) (cleared-like k n p)
      go None p = subst (λ (s : Option ℕ). LikeMap (cleared_at l s) (deleted m n)) (sym p) (stays p)

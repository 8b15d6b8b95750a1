-- Services over calls: by what one call changes, and by the laws of one platform's words.
-- Assumes nothing.
use Prim.Native.Nat.{ℕ, ◌+◌, ◌-◌, ◌*◌, ◌≤◌}
use mathlib.Core.Path.{◌≡◌, refl, sym, ap, subst, ◌∙◌}
use mathlib.Core.Bool.{Bool, true, false, cond}
use mathlib.Core.Logic.{◌⊎◌, inl, inr}
use mathlib.Core.List.{List, [], ◌++◌}
use native.Mathlib.Omega.{arith}
use borrow.Author.Tests.{eqb-true, eqb-false, le-leb}
use lib.Dec.{eqb, leb}
use lib.ListN.{length, take, drop, replicate, length-take, length-drop, length-replicate, replicate-append-replicate}
use lib.Seq.{take_at, drop_at}
use Rattle.wire.specs.Bytes.{Octets}
use Rattle.wire.proofs.Cond.{yes-if, no-if}
use Rattle.message3.specs.Header.{sender_in3}
use Rattle.services.specs.Word.{told_state}
use Rattle.services.specs.Block.{services, availability_in, status_fits, status_noted, marked}
use Rattle.services.specs.Known.{known, known_with, last_told, when_down}
use Rattle.services.proofs.Exactly.{fits-exactly}
use Rattle.services.proofs.Afterwards.{never-named, last-named, noted-state, noted_long}
use Rattle.services.proofs.WentDown.{marked_long, marked_state}
use Rattle.partners.specs.Threes.{is_three, threes_before, block_start}
use Rattle.platform.specs.declared.reactions.Standing.{Standing}
use Rattle.mixed.specs.Keeping.{is_there, block_of, with_block, with_noted, with_marked}
use Rattle.mixed.specs.Receiving.{number_given}
use Rattle.promises.specs.Services.{pair_count, named_by, KemptBlock, start as fresh}
use Rattle.promises.specs.MixedCalls.{TableGiven, answer_on, services_on}
use Rattle.promises.specs.MixedOrder.{GoesDown}
use Rattle.promises.specs.MixedServices.{our_call, words_of, state_of, ArisesBy, start, call, TellsOf, DownOf, MixedServices}
use Rattle.promises.proofs.Services.{after_note, after_down, is_marked, services as one-platform}
use Rattle.promises.proofs.MixedRefusals.{mixed_refusals}
use Rattle.promises.proofs.MixedOrder.{octets_behind}
use Rattle.promises.proofs.MixedBlocks.{block-long, put-there, put-long, put-elsewhere}
use Rattle.promises.proofs.MixedChanges.{Change, noted, went_down, nothing, Good, change}

-- a platform's words with a status noted, and marked: its own, and any other's
module _ (i : List ℕ) (k : ℕ) (ws payload : List ℕ) where
  its-noted : is_there i k ws ≡ true → words_of i k (with_noted i k payload ws) ≡ status_noted (words_of i k ws) payload
  unfolding with_noted
  its-noted e =
      ap (words_of i k) (yes-if _ _ e)
      ∙ put-there i k ws e (status_noted (block_of i k ws) payload) (noted_long (block_of i k ws) payload ∙ block-long i k ws e)

  its-marked : is_there i k ws ≡ true → words_of i k (with_marked i k ws) ≡ marked (words_of i k ws)
  unfolding with_marked
  its-marked e =
      ap (words_of i k) (yes-if _ _ e) ∙ put-there i k ws e (marked (block_of i k ws)) (marked_long (block_of i k ws) ∙ block-long i k ws e)

  not_there : is_there i k ws ≡ false → (with_noted i k payload ws ≡ ws) × (with_marked i k ws ≡ ws)
  unfolding with_noted with_marked
  not_there e = (no-if _ _ e, no-if _ _ e)

  as_long : (length (with_noted i k payload ws) ≡ length ws) × (length (with_marked i k ws) ≡ length ws)
  unfolding with_noted with_marked
  as_long = go (is_there i k ws) refl
    where
      go : (b : Bool) → is_there i k ws ≡ b
          → (length (cond b (with_block i k ws (status_noted (block_of i k ws) payload)) ws) ≡ length ws)
          × (length (cond b (with_block i k ws (marked (block_of i k ws))) ws) ≡ length ws)
      go true e = (
        put-long i k ws e (status_noted (block_of i k ws) payload) (noted_long (block_of i k ws) payload ∙ block-long i k ws e),
        put-long i k ws e (marked (block_of i k ws)) (marked_long (block_of i k ws) ∙ block-long i k ws e),
      )
      go false e = (refl, refl)

  module _ (j : ℕ) (apart : ¬ (j ≡ k)) (tj : is_three i j ≡ true) (tk : is_three i k ≡ true) where
    elsewhere : (words_of i j (with_noted i k payload ws) ≡ words_of i j ws) × (words_of i j (with_marked i k ws) ≡ words_of i j ws)
    unfolding with_noted with_marked
    elsewhere = go (is_there i k ws) refl
      where
        go : (b : Bool) → is_there i k ws ≡ b
            → (words_of i j (cond b (with_block i k ws (status_noted (block_of i k ws) payload)) ws) ≡ words_of i j ws)
            × (words_of i j (cond b (with_block i k ws (marked (block_of i k ws))) ws) ≡ words_of i j ws)
        go true e = (
          put-elsewhere i k ws e (status_noted (block_of i k ws) payload) (noted_long (block_of i k ws) payload ∙ block-long i k ws e) j apart tj tk,
          put-elsewhere i k ws e (marked (block_of i k ws)) (marked_long (block_of i k ws) ∙ block-long i k ws e) j apart tj tk,
        )
        go false e = (refl, refl)

-- words of 256 are there
there_by : (i : List ℕ) (j : ℕ) (ws : List ℕ) → length (words_of i j ws) ≡ 256 → is_there i j ws ≡ true
there_by i j ws e =
    let a : ℕ = block_start i j in
    let n : length (take 256 (drop a ws)) ≡ 256 = e in
    le-leb (a + services) (length ws) (omega (arith, length-take 256 (drop a ws), length-drop a ws))

-- fresh words
abbrev zeros : ℕ → List ℕ
zeros n = replicate n 0

fresh-words : (i : List ℕ) (j n : ℕ) → 256 * threes_before i j + 256 ≤ n → words_of i j (zeros n) ≡ zeros 256
fresh-words i j n h =
    let a : ℕ = block_start i j in
    let r : ℕ = n - (a + 256) in
    let w : n ≡ a + (256 + r) = omega arith in
    let behind : zeros (256 + r) ≡ zeros 256 ++ zeros r = sym (replicate-append-replicate 256 r 0) in
    let parts : zeros n ≡ zeros a ++ (zeros 256 ++ zeros r) =
    ap zeros w ∙ sym (replicate-append-replicate a (256 + r) 0) ∙ ap (λ (x : List ℕ). zeros a ++ x) behind in
    ap (words_of i j) parts ∙ ap (take 256) (drop_at (zeros a) (zeros 256 ++ zeros r) a (length-replicate {A = ℕ} a 0))
    ∙ take_at (zeros 256) (zeros r) 256 (length-replicate {A = ℕ} 256 0)

module _ (g : TableGiven) (own : ℕ) (i ours : List ℕ) (p : Standing) (l ws m : List ℕ) (room : ℕ) where
  abbrev gives : ℕ
  gives = number_given (answer_on g own i ours p l ws m room).answer

  abbrev after : List ℕ
  after = services_on g own i ours p ws m room

  abbrev ItsChange : Type 0
  ItsChange = Change (Good g own i m) own i p ws m gives after

  many : ItsChange → length after ≡ length ws
  many (noted tf ts e q) = ap length e ∙ (as_long i (sender_in3 m) ws (drop 24 m)).0
  many (went_down tf ts e q) = ap length e ∙ (as_long i (sender_in3 m) ws (drop 24 m)).1
  many (nothing e q) = ap length e

  -- every platform whose words the message does not touch
  module _ (j : ℕ) (tj : is_three i j ≡ true) where
    other : ¬ (TellsOf i m j) → ¬ (DownOf own i p m j) → ItsChange → words_of i j after ≡ words_of i j ws
    other nt nd (noted tf ts e q) = ap (words_of i j) e ∙ (elsewhere i (sender_in3 m) ws (drop 24 m) j (λ z. nt (tf, (ts, sym z))) tj tf.1).0
    other nt nd (went_down tf ts e q) = ap (words_of i j) e ∙ (elsewhere i (sender_in3 m) ws (drop 24 m) j (λ z. nd (tf, (ts, sym z))) tj tf.1).1
    other nt nd (nothing e q) = ap (words_of i j) e

    -- and every platform's words stay kempt
    stays : Octets m → ItsChange → KemptBlock (words_of i j ws) → KemptBlock (words_of i j after)
    stays o c b = go c (eqb j (sender_in3 m)) refl
      where
        t : is_there i j ws ≡ true
        t = there_by i j ws b.whole

        go : ItsChange → (a : Bool) → eqb j (sender_in3 m) ≡ a → KemptBlock (words_of i j after)
        go (noted tf ts e q) true z =
            let k : j ≡ sender_in3 m = eqb-true j (sender_in3 m) z in
            subst KemptBlock
            (sym (ap (words_of i j) e ∙ ap (λ (x : ℕ). words_of i j (with_noted i x (drop 24 m) ws)) (sym k) ∙ its-noted i j ws (drop 24 m) t))
            (after_note (words_of i j ws) (drop 24 m) (octets_behind m o) b)
        go (noted tf ts e q) false z =
            subst KemptBlock (sym (ap (words_of i j) e ∙ (elsewhere i (sender_in3 m) ws (drop 24 m) j (eqb-false j (sender_in3 m) z) tj tf.1).0)) b
        go (went_down tf ts e q) true z =
            let k : j ≡ sender_in3 m = eqb-true j (sender_in3 m) z in
            subst KemptBlock (sym (ap (words_of i j) e ∙ ap (λ (x : ℕ). words_of i j (with_marked i x ws)) (sym k) ∙ its-marked i j ws (drop 24 m) t))
            (after_down (words_of i j ws) b)
        go (went_down tf ts e q) false z =
            subst KemptBlock (sym (ap (words_of i j) e ∙ (elsewhere i (sender_in3 m) ws (drop 24 m) j (eqb-false j (sender_in3 m) z) tj tf.1).1)) b
        go (nothing e q) a z = subst KemptBlock (sym (ap (words_of i j) e)) b

  -- a status of services of platform j
  module _ (j : ℕ) (o : Octets m) (w : TellsOf i m j) (b : KemptBlock (words_of i j ws)) where
    k : sender_in3 m ≡ j
    k = w.1.1

    abbrev payload : List ℕ
    payload = drop 24 m

    t : is_there i (sender_in3 m) ws ≡ true
    t = subst (λ (x : ℕ). is_there i x ws ≡ true) (sym k) (there_by i j ws b.whole)

    not_both : GoesDown own p m → ⊥
    not_both d = let x = w.1.0.1 in let y = d.1.0 in omega arith

    abbrev Answered : Type 0
    Answered = (after ≡ with_noted i (sender_in3 m) payload ws) × (gives ≡ cond (status_fits (words_of i j ws) payload) 0 63)

    answered : Good g own i m ⊎ (gives ≡ 0) → ItsChange → Answered
    answered z (noted tf ts e q) =
        (e, q ∙ yes-if {A = ℕ} _ _ t ∙ ap (λ (x : ℕ). cond (status_fits (words_of i x ws) payload) 0 63) k)
    answered z (went_down tf ts e q) = absurd (not_both ts)
    answered z (nothing e q) = absurd (q z (w.0, inl w.1.0))

    is-exact : status_fits (words_of i j ws) payload ≡ leb (length (known_with (known (words_of i j ws)) payload (pair_count payload))) 256
    is-exact = fits-exactly (words_of i j ws) payload (octets_behind m o) b.packed b.whole

    exact : Good g own i m → gives ≡ cond (leb (length (known_with (known (words_of i j ws)) payload (pair_count payload))) 256) 0 63
    exact z = (answered (inl z) (change g own i ours p l ws m room)).1 ∙ ap (λ (x : Bool). cond x 0 63) is-exact

    module _ (z : gives ≡ 0) where
      r : Answered
      r = answered (inr z) (change g own i ours p l ws m room)

      fits : status_fits (words_of i j ws) payload ≡ true
      fits = go (status_fits (words_of i j ws) payload) refl (sym r.1 ∙ z)
        where
          go : (x : Bool) → status_fits (words_of i j ws) payload ≡ x → ◌≡◌ {A = ℕ} (cond x 0 63) 0 → status_fits (words_of i j ws) payload ≡ true
          go true q y = q
          go false q y = absurd (omega arith)

      told : words_of i j after ≡ status_noted (words_of i j ws) payload
      told =
          ap (words_of i j) r.0 ∙ ap (λ (x : ℕ). words_of i j (with_noted i x payload ws)) k ∙ its-noted i j ws payload (there_by i j ws b.whole)

      state-told : (x : ℕ) → state_of i j after x ≡ last_told (state_of i j ws x) payload (pair_count payload) x
      state-told x = ap (λ (c : List ℕ). availability_in c x) told ∙ noted-state (words_of i j ws) payload (octets_behind m o) b.packed fits x

  -- DOWN of platform j
  module _ (j : ℕ) (w : DownOf own i p m j) (z : gives ≡ 0) where
    marked-there : words_of i j after ≡ marked (words_of i j ws)
    marked-there = go (change g own i ours p l ws m room)
      where
        q : sender_in3 m ≡ j
        q = w.1.1

        go : ItsChange → words_of i j after ≡ marked (words_of i j ws)
        go (noted tf ts e y) = let a = ts.1 in let b = w.1.0.1.0 in absurd (omega arith)
        go (went_down tf ts e y) =
            ap (words_of i j) e ∙ ap (λ (x : ℕ). words_of i j (with_marked i x ws)) q
            ∙ its-marked i j ws (drop 24 m) (subst (λ (x : ℕ). is_there i x ws ≡ true) q (y z))
        go (nothing e y) = absurd (y (inr z) (w.0, inr w.1.0))

    state-down : (x : ℕ) → state_of i j after x ≡ when_down (state_of i j ws x)
    state-down x = ap (λ (c : List ℕ). availability_in c x) marked-there ∙ marked_state (words_of i j ws) x

-- over any calls
kempt : (i ws : List ℕ) (j : ℕ) → ArisesBy our_call i ws → is_three i j ≡ true → 256 * threes_before i j + 256 ≤ length ws → KemptBlock (words_of i j ws)
kempt i ws j (start n) t h =
    subst KemptBlock (sym (fresh-words i j n (omega (arith, length-replicate {A = ℕ} n 0)))) (one-platform.kept.block (replicate 256 0) fresh)
kempt i ws j (call {ws = was} g own ours p m room o r) t h =
    let c = change g own i ours p [] was m room in
    stays g own i ours p [] was m room j t o c (kempt i was j r t (omega (arith, many g own i ours p [] was m room c)))

-- for any room
refusal_keeps : (g : TableGiven) (own : ℕ) (i ours : List ℕ) (p : Standing) (l ws m : List ℕ) (room : ℕ)
    → ¬ (number_given (answer_on g own i ours p l ws m room).answer ≡ 0) → services_on g own i ours p ws m room ≡ ws
refusal_keeps g own i ours p l ws m room =
    subst (λ (n : ℕ). ¬ (number_given (answer_on g own i ours p l ws m n).answer ≡ 0) → services_on g own i ours p ws m n ≡ ws)
    (length-replicate {A = ℕ} room 0)
    (mixed_refusals.changes_nothing g own (record { seconds = 0; nanoseconds = 0 }) 0 i ours p l ws m (replicate room 0)).services

pub mixed_services : MixedServices
unfolding told_state
mixed_services =
    record {
      kempt = kempt;
      exactly = λ g own i ours p l ws m room j o gt rd w b. exact g own i ours p l ws m room j o w b (gt, rd);
      refused = refusal_keeps;
      last_pair = λ g own i ours p l ws m room j o z w b a h last.
          state-told g own i ours p l ws m room j o w b z (named_by (drop 24 m) a)
          ∙ last-named (state_of i j ws (named_by (drop 24 m) a)) (drop 24 m) (named_by (drop 24 m) a) (pair_count (drop 24 m)) a h refl last;
      not_named = λ g own i ours p l ws m room j o z w b x h.
          state-told g own i ours p l ws m room j o w b z x ∙ never-named (state_of i j ws x) (drop 24 m) x (pair_count (drop 24 m)) h;
      down_known = λ g own i ours p l ws m room j z w x h. state-down g own i ours p l ws m room j w z x ∙ is_marked (state_of i j ws x) h;
      down_unheard = λ g own i ours p l ws m room j z w x e. state-down g own i ours p l ws m room j w z x ∙ ap when_down e;
      others = λ g own i ours p ws m room j tj nt nd. other g own i ours p [] ws m room j tj nt nd (change g own i ours p [] ws m room);
      as_many = λ g own i ours p ws m room. many g own i ours p [] ws m room (change g own i ours p [] ws m room);
    }

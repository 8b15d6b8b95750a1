-- What a message of Issue 3 that is no response comes to, in two cases: a refusal, by which nothing changes; or what its reaction says, with all
-- of its bytes at the output's start.
-- Assumes nothing.
use Prim.Native.Nat.{ℕ, zero, suc, ◌≤◌, ◌<◌}
use mathlib.Core.Path.{◌≡◌, refl, sym, subst}
use mathlib.Core.Bool.{Bool, true, false}
use mathlib.Core.List.{List}
use native.Mathlib.Omega.{arith}
use borrow.Author.Tests.{ltb-true, ltb-false, leb-false}
use lib.Dec.{ltb}
use lib.ListN.{length}
use Rattle.wire.specs.Bytes.{over}
use Rattle.message3.specs.declared.Stamp.{Stamp}
use Rattle.message3.specs.declared.Header3.{Header3}
use Rattle.platform.specs.declared.reactions.Standing.{Standing}
use Rattle.mixed.specs.declared.AnyReceived.{AnyReceived}
use Rattle.mixed.specs.declared.reactions.Reaction3.{Reaction3}
use Rattle.mixed.specs.declared.reactions.Deed.TheVariants.{TellAll}
use Rattle.mixed.specs.declared.reactions.Room.TheVariants.{Enough}
use Rattle.mixed.specs.Replies.{most_ours, deed_bytes, room_for}
use Rattle.mixed.specs.Keeping.{kept_number}
use Rattle.mixed.specs.Receiving.{refused_any, taken3, settled3, laid3}
use Rattle.mixed.proofs.Receipts.{not-kept, not-laid}
use Rattle.mixed.proofs.Deeds.{deed_length, too_many, length-deed, room_fits, laid-whole, does-not-fit, passes-the-size}

-- our services can be told of only where the size field can say how many bytes they are
pub data Settling (own : ℕ) (t : Stamp) (c : ℕ) (ours : List ℕ) (p : Standing) (h : Header3) (x : Reaction3) (out : List ℕ)
    : AnyReceived → List ℕ → Type 0 where
  nothing_changes : (n : ℕ) → Settling own t c ours p h x out (refused_any p n) out
  as_it_says : ((n : ℕ) → x.deed ≡ TellAll n → length ours < most_ours)
      → Settling own t c ours p h x out (taken3 h x (length (deed_bytes own t c ours x.deed))) (over out 0 (deed_bytes own t c ours x.deed))

module _ (own : ℕ) (t : Stamp) (c : ℕ) (i ours : List ℕ) (p : Standing) (h : Header3) (x : Reaction3) (payload ws out : List ℕ) where
  abbrev B : List ℕ
  B = deed_bytes own t c ours x.deed

  abbrev S : AnyReceived → List ℕ → Type 0
  S r o = Settling own t c ours p h x out r o

  abbrev R : AnyReceived
  R = settled3 i ours p h x payload ws (length out)

  abbrev O : List ℕ
  O = laid3 own t c i ours h x payload ws out

  both : (a : AnyReceived) (o : List ℕ) → R ≡ a → O ≡ o → S a o → S R O
  both a o e f s = subst (λ (r : AnyReceived). S r O) (sym e) (subst (λ (y : List ℕ). S a y) (sym f) s)

  few : too_many ours x.deed ≡ false → (n : ℕ) → x.deed ≡ TellAll n → length ours < most_ours
  few e n q = leb-false most_ours (length ours) (rw q at e)

  in_room : too_many ours x.deed ≡ false → deed_length ours x.deed ≤ length out → (k : ℕ)
      → k ≡ kept_number i h.platform x.deed payload ws → S R O
  in_room f l zero e =
      let w = laid-whole own t c i ours p h x payload ws out f l (sym e) in
      both (taken3 h x (deed_length ours x.deed)) (over out 0 B) w.answer-is w.output-is
      (subst (λ (n : ℕ). S (taken3 h x n) (over out 0 B)) (length-deed own t c ours x.deed) (as_it_says (few f)))
  in_room f l (suc k) e =
      let n : ℕ = deed_length ours x.deed in
      let q : Enough n ≡ room_for ours x.deed (length out) = room_fits ours (length out) x.deed f l in
      both (refused_any p (suc k)) out
      (sym (not-kept own t c i ours p h x payload ws (length out) (Enough n) q n (suc k) refl e (refused_any p (suc k)) (λ z. omega (arith, z)) refl))
      (sym (not-laid own t c i ours p h x payload ws out (Enough n) q n (suc k) refl e (λ z. omega (arith, z)))) (nothing_changes (suc k))

  pub settling : S R O
  settling = go (too_many ours x.deed) refl (ltb (length out) (deed_length ours x.deed)) refl
    where
      go : (a : Bool) → too_many ours x.deed ≡ a → (b : Bool) → ltb (length out) (deed_length ours x.deed) ≡ b → S R O
      go true f b e =
          let w = passes-the-size own t c i ours p h x payload ws out f in
          both (refused_any p 5) out w.answer-is w.output-is (nothing_changes 5)
      go false f true e =
          let w = does-not-fit own t c i ours p h x payload ws out f (ltb-true (length out) (deed_length ours x.deed) e) in
          both (refused_any p 10) out w.answer-is w.output-is (nothing_changes 10)
      go false f false e =
          in_room f (ltb-false (length out) (deed_length ours x.deed) e) (kept_number i h.platform x.deed payload ws) refl

-- Of any codec that packs and unpacks exactly the values: both round trips follow, and it gives what any other such codec gives.
-- Assumes nothing.
use Prim.Native.Nat.{ℕ, ◌≤◌}
use mathlib.Core.Path.{◌≡◌, sym, ap, subst, ◌∙◌}
use mathlib.Core.List.{List}
use native.Mathlib.Omega.{arith}
use lib.ListN.{length, take}
use Rattle.wire.specs.Bytes.{Octets}
use Rattle.table.specs.declared.Sections.{Sections}
use Rattle.payload.specs.declared.Answer.{Answer}
use Rattle.payload.specs.declared.Answer.TheVariants.{Gave}
use Rattle.values.specs.Values.{BooleansAsOne}
use Rattle.values.proofs.RoundTrip.{take_front, value_spoken, spoken_settles}
use Rattle.promises.specs.Payloads.{Coding, PackGivesBy, UnpackGivesBy, PacksExactlyBy, UnpacksExactlyBy, RoundTripsBy}
use Rattle.promises.specs.OneCodec.{GivesAs, OneCodec}

same_count : (a : Answer) (k n : ℕ) → a ≡ Gave k → a ≡ Gave n → k ≡ n
same_count a k n e h = cc

pub trips_follow : (C : Coding) (t : List ℕ) (s : Sections) (i : ℕ) → PacksExactlyBy C t s i → UnpacksExactlyBy C t s i → RoundTripsBy C t s i
trips_follow C t s i p u = record { pack-then-unpack = packed_back; unpack_then_pack = unpacked_back }
  where
    packed_back : (ws out words : List ℕ) (k : ℕ) → C.packs t i ws (length out) ≡ Gave k → length ws ≤ length words
        → UnpackGivesBy C t i (take k (C.bytes_left t i ws out)) words ws
    packed_back ws out words k e l =
        let o = p.only ws out k e in
        let bs : List ℕ = o.0 in
        let n : k ≡ length bs = same_count (C.packs t i ws (length out)) k (length bs) e o.2.0 in
        let f : take k (C.bytes_left t i ws out) ≡ bs = ap (take k) o.2.1 ∙ take_front out bs k n in
        subst (λ (b : List ℕ). UnpackGivesBy C t i b words ws) (sym f) (u.forms ws bs words (value_spoken t s i ws bs o.1) l)

    unpacked_back : (b words out : List ℕ) (k : ℕ) → Octets b → C.unpacks t i b (length words) ≡ Gave k → length b ≤ length out
        → (cs : List ℕ) × BooleansAsOne t s i b cs × (length cs ≡ length b) × PackGivesBy C t i (take k (C.words_left t i b words)) out cs
    unpacked_back b words out k oct e l =
        let o = u.only b words k oct e in
        let ws : List ℕ = o.0 in
        let n : k ≡ length ws = same_count (C.unpacks t i b (length words)) k (length ws) e o.2.0 in
        let f : take k (C.words_left t i b words) ≡ ws = ap (take k) o.2.1 ∙ take_front words ws k n in
        let a = spoken_settles t s i ws b o.1 in (
          a.zs,
          a.two,
          a.as_long,
          subst (λ (x : List ℕ). PackGivesBy C t i x out a.zs) (sym f) (p.values ws a.zs out a.one (omega (arith, a.as_long))),
        )

gives_as : (C D : Coding) (t : List ℕ) (s : Sections) (i : ℕ) → PacksExactlyBy C t s i → UnpacksExactlyBy C t s i → PacksExactlyBy D t s i
    → UnpacksExactlyBy D t s i → GivesAs C D t i
gives_as C D t s i pc uc pd ud = record { pack = packed-so; unpack = unpacked-so }
  where
    packed-so : (ws out : List ℕ) (k : ℕ) → C.packs t i ws (length out) ≡ Gave k
        → (D.packs t i ws (length out) ≡ Gave k) × (D.bytes_left t i ws out ≡ C.bytes_left t i ws out)
    packed-so ws out k e =
        let o = pc.only ws out k e in
        let n : k ≡ length o.0 = same_count (C.packs t i ws (length out)) k (length o.0) e o.2.0 in
        let d = pd.values ws o.0 out o.1 (omega (arith, n, pc.fits ws out k e)) in
        (d.0 ∙ ap Gave (sym n), d.1 ∙ sym o.2.1)

    unpacked-so : (b words : List ℕ) (k : ℕ) → Octets b → C.unpacks t i b (length words) ≡ Gave k
        → (D.unpacks t i b (length words) ≡ Gave k) × (D.words_left t i b words ≡ C.words_left t i b words)
    unpacked-so b words k oct e =
        let o = uc.only b words k oct e in
        let n : k ≡ length o.0 = same_count (C.unpacks t i b (length words)) k (length o.0) e o.2.0 in
        let d = ud.forms o.0 b words o.1 (omega (arith, n, uc.fits b words k oct e)) in
        (d.0 ∙ ap Gave (sym n), d.1 ∙ sym o.2.1)

pub one_codec : OneCodec
one_codec = record {
  any_two = λ C D c d t s i h. gives_as C D t s i (c t s i h).0 (c t s i h).1 (d t s i h).0 (d t s i h).1;
  round_trips = λ C t s i p u. trips_follow C t s i p u;
}

-- Demand 2 for payloads leaves one codec: what one that meets it gives, any other that meets it gives, so that no weaker demand, of
-- fewer types, values or payloads, has this proof. That both round trips are asked for beside the values adds nothing: they follow for
-- any codec. The theorem is in proofs/OneCodec.antt.
use Rattle.std.specs.Prelude.{ℕ, ◌≡◌, List, length}
use Rattle.wire.specs.Bytes.{Octets}
use Rattle.table.specs.declared.Sections.{Sections}
use Rattle.payload.specs.declared.Answer.TheVariants.{Gave}
use Rattle.promises.specs.Payloads.{Known, Coding, PacksExactlyBy, UnpacksExactlyBy, RoundTripsBy, PayloadsBy}

-- what C gives for type i, D gives, and leaves the same
pub record GivesAs (C D : Coding) (t : List ℕ) (i : ℕ) : Type 0 where
  pub pack : (ws out : List ℕ) (k : ℕ) → C.packs t i ws (length out) ≡ Gave k →
      (D.packs t i ws (length out) ≡ Gave k) × (D.bytes_left t i ws out ≡ C.bytes_left t i ws out)
  pub unpack : (b words : List ℕ) (k : ℕ) → Octets b → C.unpacks t i b (length words) ≡ Gave k →
      (D.unpacks t i b (length words) ≡ Gave k) × (D.words_left t i b words ≡ C.words_left t i b words)

pub record OneCodec : Type 0 where
  pub any_two : (C D : Coding) → PayloadsBy C → PayloadsBy D → (t : List ℕ) (s : Sections) (i : ℕ) → Known t s i → GivesAs C D t i
  pub round_trips : (C : Coding) (t : List ℕ) (s : Sections) (i : ℕ) → PacksExactlyBy C t s i → UnpacksExactlyBy C t s i → RoundTripsBy C t s i

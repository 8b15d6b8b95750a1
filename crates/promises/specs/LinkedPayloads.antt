-- Demand 2 for payloads, of the calls as programs in C have them (include/nyrkovash.h), over their very contracts: what is linked
-- is the codec that meets the demand of specs/Payloads, so that every wrong codec refuted there is refuted for it, and that answers in
-- the order of specs/PayloadOrder. The theorem is in proofs/LinkedPayloads.antt.
use Rattle.std.specs.Prelude.{ℕ, ◌≤◌, ◌≡◌, cond, ◌&&◌, List, ◌++◌, eqb, leb, length, take, get_or}
use Rattle.std.specs.Prelude.{Ok}
use Rattle.wire.specs.Bytes.{Octets, over}
use Rattle.table.specs.declared.Sections.{Sections}
use Rattle.table.specs.Words.{sections_in, index_in, words_of}
use Rattle.types.specs.Table.{checked}
use Rattle.payload.specs.declared.Answer.{Answer}
use Rattle.payload.specs.declared.Answer.TheVariants.{Refused, Stopped, Gave}
use Rattle.payload.specs.Calls.{unpacked_in, words_in, packed_in, bytes_in}
use Rattle.values.specs.Values.{Value, Spoken, BooleansAsOne}
use Rattle.nyrkovash.proofs.nyr_check_table.Reads.{Post as nyr-check-table}
use Rattle.nyrkovash.proofs.nyr_unpack.Reads.{Post as nyr-unpack}
use Rattle.nyrkovash.proofs.nyr_unpack_in.Reads.{Post as nyr-unpack-in}
use Rattle.nyrkovash.proofs.nyr_pack.Reads.{Post as nyr-pack}
use Rattle.nyrkovash.proofs.nyr_pack_in.Reads.{Post as nyr-pack-in}
use Rattle.promises.specs.Payloads.{Known, our_coding, PayloadsBy}
use Rattle.promises.specs.Lookups.{laid}
use Rattle.promises.specs.WrongCodecs.{KeepsBy}

-- the number and the three words that a call gives back, as one answer: 0 and how many words or bytes were given; 40 to 43 and where (02,
-- request 3); any other refusal
abbrev pub given : List ℕ → ℕ
given walked = get_or walked 0 0

abbrev pub given_back : ℕ → List ℕ → Answer
given_back n walked =
    cond (eqb n 0) (Gave (given walked))
    (cond (leb 40 n && leb n 43) (Stopped n (record { at = get_or walked 1 0; leaves = get_or walked 2 0 })) (Refused n))

-- a call that gives back this number and these words and leaves this output packs, or unpacks, as our codec does: what is promised of
-- that one, the spots of 40 to 43 too, a program in C sees
abbrev pub PacksAs : List ℕ → ℕ → List ℕ → List ℕ → ℕ → List ℕ → List ℕ → Type 0
PacksAs t i ws out n walked left =
    (given_back n walked ≡ our_coding.packs t i ws (length out)) × (left ≡ our_coding.bytes_left t i ws out)

abbrev pub UnpacksAs : List ℕ → ℕ → List ℕ → List ℕ → ℕ → List ℕ → List ℕ → Type 0
UnpacksAs t i b words n walked left =
    (given_back n walked ≡ our_coding.unpacks t i b (length words)) × (left ≡ our_coding.words_left t i b words)

-- such a call gives 0 back just for the values of a type of an accepted table, wherever there is room: and as its count the number
-- of their bytes, or words, which it leaves at the start of what was lent to it, and the rest as it was
pub record GivesJust : Type 0 where
  pub pack : (t : List ℕ) (s : Sections) (i : ℕ) (ws bs out : List ℕ) (n : ℕ) (walked left : List ℕ) → PacksAs t i ws out n walked left
      → Known t s i → Value t s i ws bs → length bs ≤ length out → (n ≡ 0) × (given walked ≡ length bs) × (left ≡ over out 0 bs)
  pub pack_only : (t : List ℕ) (i : ℕ) (ws out : List ℕ) (n : ℕ) (walked left : List ℕ) → PacksAs t i ws out n walked left → n ≡ 0
      → (s : Sections) × (bs : List ℕ) × Known t s i × Value t s i ws bs × (given walked ≡ length bs) × (left ≡ over out 0 bs)
  pub unpack : (t : List ℕ) (s : Sections) (i : ℕ) (ws b words : List ℕ) (n : ℕ) (walked left : List ℕ) → UnpacksAs t i b words n walked left
      → Known t s i → Spoken t s i ws b → length ws ≤ length words → (n ≡ 0) × (given walked ≡ length ws) × (left ≡ over words 0 ws)
  pub unpack_only : (t : List ℕ) (i : ℕ) (b words : List ℕ) (n : ℕ) (walked left : List ℕ) → Octets b → UnpacksAs t i b words n walked left
      → n ≡ 0 → (s : Sections) × (ws : List ℕ) × Known t s i × Spoken t s i ws b × (given walked ≡ length ws) × (left ≡ over words 0 ws)

-- "What we pack unpacks to the same values": of any two such calls, on table bytes or on sections, where the first gives 0 back and
-- the second is handed the bytes that it gave
abbrev pub PackedBack : Type 0
PackedBack =
    (t : List ℕ) (i : ℕ) (ws out : List ℕ) (n : ℕ) (walked left : List ℕ) → PacksAs t i ws out n walked left → n ≡ 0
    → (words : List ℕ) (n' : ℕ) (walked' left' : List ℕ) → UnpacksAs t i (take (given walked) left) words n' walked' left' → length ws ≤ length words
    → (n' ≡ 0) × (given walked' ≡ length ws) × (left' ≡ over words 0 ws)

-- "What unpacks packs again to the same bytes, except that a true boolean always goes out as 1": likewise
abbrev pub UnpackedBack : Type 0
UnpackedBack =
    (t : List ℕ) (i : ℕ) (b words : List ℕ) (n : ℕ) (walked left : List ℕ) → Octets b → UnpacksAs t i b words n walked left → n ≡ 0
    → (out : List ℕ) (n' : ℕ) (walked' left' : List ℕ) → PacksAs t i (take (given walked) left) out n' walked' left' → length b ≤ length out
    → (s : Sections) × (cs : List ℕ) × Known t s i × BooleansAsOne t s i b cs × (n' ≡ 0) × (given walked' ≡ length b) × (left' ≡ over out 0 cs)

-- whatever a call's promise allows, of what it is handed, the number and what it leaves, is so
abbrev pub Whenever : {K : Type 0} {A E : K → Type 0}
    → ((k : K) → A k → ℕ → E k → Type 0) → ((k : K) → A k → ℕ → E k → Type 0) → Type 0
Whenever {K} {A} {E} post so = (k : K) (a : A k) (n : ℕ) (e : E k) → post k a n e → so k a n e

pub record LinkedPayloads : Type 0 where
  -- packing and unpacking exactly the values, and both round trips; and a refusal leaves the output
  pub meets : PayloadsBy our_coding
  pub keeps : KeepsBy our_coding
  -- the same in numbers and words, which is what a program sees
  pub gives_just : GivesJust
  pub packed_back : PackedBack
  pub unpacked_back : UnpackedBack
  -- handed table bytes, the calls are that codec, on every table
  pub pack : Whenever nyr-pack (λ k a n e.
      PacksAs a.0.now a.1.0 a.1.1.0.now a.1.1.1.0.now n e.1.1.1.1.0.now e.1.1.1.0.now)
  pub unpack : Whenever nyr-unpack (λ k a n e.
      UnpacksAs a.0.now a.1.0 a.1.1.0.now a.1.1.1.0.now n e.1.1.1.1.0.now e.1.1.1.0.now)
  -- a table that may be used is one for which the check answers 0, and no other; the sections are left in their words, and behind them
  -- the index of the operations
  pub check : (s : Sections) → Whenever nyr-check-table (λ k a n e.
      checked a.0.now ≡ Ok s → (n ≡ 0) × (e.1.0.now ≡ words_of s ++ laid a.0.now s (index_in a.1.0.now)))
  pub checks_only : Whenever nyr-check-table (λ k a n e. n ≡ 0 → (s : Sections) × (checked a.0.now ≡ Ok s))
  -- with those words, and whatever stands behind them, the calls on sections are the same codec
  pub pack-in : (s : Sections) (index : List ℕ) → Whenever nyr-pack-in (λ k a n e.
      checked a.0.now ≡ Ok s → a.1.0.now ≡ words_of s ++ index →
      PacksAs a.0.now a.1.1.0 a.1.1.1.0.now a.1.1.1.1.0.now n e.1.1.1.1.1.0.now e.1.1.1.1.0.now)
  pub unpack-in : (s : Sections) (index : List ℕ) → Whenever nyr-unpack-in (λ k a n e.
      checked a.0.now ≡ Ok s → a.1.0.now ≡ words_of s ++ index →
      UnpacksAs a.0.now a.1.1.0 a.1.1.1.0.now a.1.1.1.1.0.now n e.1.1.1.1.1.0.now e.1.1.1.1.0.now)
  -- on any sections, which no check need have given, the calls are ours on those
  pub pack_any : Whenever nyr-pack-in (λ k a n e.
      let s : Sections = sections_in a.1.0.now in
      (given_back n e.1.1.1.1.1.0.now ≡ packed_in a.0.now s a.1.1.0 a.1.1.1.0.now (length a.1.1.1.1.0.now))
      × (e.1.1.1.1.0.now ≡ bytes_in a.0.now s a.1.1.0 a.1.1.1.0.now a.1.1.1.1.0.now))
  pub unpack_any : Whenever nyr-unpack-in (λ k a n e.
      let s : Sections = sections_in a.1.0.now in
      (given_back n e.1.1.1.1.1.0.now ≡ unpacked_in a.0.now s a.1.1.0 a.1.1.1.0.now (length a.1.1.1.1.0.now))
      × (e.1.1.1.1.0.now ≡ words_in a.0.now s a.1.1.0 a.1.1.1.0.now a.1.1.1.1.0.now))

-- 02, request 3, "Where did it fail?": what the place of a refusal says of the input, apart from any walk; for packing and
-- unpacking, ours or any other. A call is handed an input, bytes or words, and room for its output. The theorem is in
-- proofs/Places.antt.
use Rattle.std.specs.Prelude.{ℕ, ◌+◌, ◌*◌, ◌≤◌, ◌<◌, ◌≡◌, List, length, take}
use Rattle.payload.specs.declared.Spot.{Spot}
use Rattle.payload.specs.declared.Answer.{Answer}
use Rattle.payload.specs.declared.Answer.TheVariants.{Stopped, Gave}
use Rattle.promises.specs.Payloads.{Coding, our_coding}

-- an input is a value, for which so many words or bytes are given
pub record GivenFor (call : List ℕ → ℕ → Answer) (Given : Spot → ℕ → Type 0) (xs : List ℕ) (o : Spot) : Type 0 where
  pub count : ℕ
  pub given : Given o count
  pub value : (room : ℕ) → count ≤ room → call xs room ≡ Gave count

-- an input that ends with an item: it is refused for it, at o; or ends too early behind it, at the next place; or it was the last
pub data OneMore (call : List ℕ → ℕ → Answer) (Given : Spot → ℕ → Type 0) (xs : List ℕ) (o next : Spot) : Type 0 where
  refused : (k : ℕ) → (k ≡ 40 → ⊥) → ((room : ℕ) → call xs room ≡ Stopped k o) → OneMore call Given xs o next
  more : ((room : ℕ) → call xs room ≡ Stopped 40 next) → OneMore call Given xs o next
  last : GivenFor call Given xs next → OneMore call Given xs o next

-- 40, 42 and 43: at the place an item begins, a leaf or an array's count, that takes so many bytes, or one word. What comes before
-- the place alone says so
pub record ItemAt (call : List ℕ → ℕ → Answer) (most : ℕ) (Given : Spot → ℕ → Type 0) (xs : List ℕ) (k : ℕ) (o : Spot) : Type 0 where
  pub size : ℕ
  pub some : 1 ≤ size
  pub few : size ≤ most
  pub inside : o.at ≤ length xs
  -- cut off at the place, or within the item, the input ends too early just there, behind as many leaves
  pub cut_off : (ys : List ℕ) (room : ℕ) → take o.at ys ≡ take o.at xs → length ys < o.at + size →
      call ys room ≡ Stopped 40 o
  -- with the item it has one leaf more
  pub one_more : (ys : List ℕ) → take o.at ys ≡ take o.at xs → length ys ≡ o.at + size →
      OneMore call Given ys o (record { at = o.at + size; leaves = o.leaves + 1 })
  -- 40: the item is not all there
  pub cut : k ≡ 40 → length xs < o.at + size
  -- 42 and 43: it is, and whatever begins so, as far as the item's end, is refused with the same number and place
  pub whole : (k ≡ 40 → ⊥) → o.at + size ≤ length xs
  pub alike : (k ≡ 40 → ⊥) → (ys : List ℕ) (room : ℕ) → take (o.at + size) ys ≡ take (o.at + size) xs →
      call ys room ≡ Stopped k o

-- 41: the place is in the input, and what comes before it is a value
pub record LeftOverAt (call : List ℕ → ℕ → Answer) (Given : Spot → ℕ → Type 0) (xs : List ℕ) (o : Spot) : Type 0 where
  pub inside : o.at < length xs
  pub before : GivenFor call Given (take o.at xs) o

-- of one direction: how much of the input an item takes at most, how the place and the leaves before it hang together, and how
-- many words or bytes are given for them
pub record PlacesOf (call : List ℕ → ℕ → Answer) (most : ℕ) (Lies : Spot → Type 0) (Given : Spot → ℕ → Type 0) : Type 0 where
  pub numbers : (xs : List ℕ) (room k : ℕ) (o : Spot) → call xs room ≡ Stopped k o → (40 ≤ k) × (k ≤ 43)
  pub lies : (xs : List ℕ) (room k : ℕ) (o : Spot) → call xs room ≡ Stopped k o → Lies o
  pub item : (xs : List ℕ) (room k : ℕ) (o : Spot) → call xs room ≡ Stopped k o → (k ≡ 41 → ⊥) → ItemAt call most Given xs k o
  pub left_over : (xs : List ℕ) (room : ℕ) (o : Spot) → call xs room ≡ Stopped 41 o → LeftOverAt call Given xs o

-- the bytes of an item at most
abbrev pub widest : ℕ
widest = 8

-- so many leaves are so many bytes
abbrev pub InBytes : ℕ → ℕ → Type 0
InBytes n m = (n ≤ m) × (m ≤ widest * n)

-- unpacking: the place is a byte's, and each leaf before it is given as a word
abbrev pub ByteLies : Spot → Type 0
ByteLies o = InBytes o.leaves o.at

abbrev pub WordsGiven : Spot → ℕ → Type 0
WordsGiven o n = n ≡ o.leaves

-- packing: the place is a word's, one for each leaf before it, and each is given as bytes
abbrev pub WordLies : Spot → Type 0
WordLies o = o.at ≡ o.leaves

abbrev pub BytesGiven : Spot → ℕ → Type 0
BytesGiven o n = InBytes o.leaves n

pub record PlacesBy (C : Coding) : Type 0 where
  pub unpacking : (t : List ℕ) (i : ℕ) → PlacesOf (C.unpacks t i) widest ByteLies WordsGiven
  pub packing : (t : List ℕ) (i : ℕ) → PlacesOf (C.packs t i) 1 WordLies BytesGiven

abbrev pub Places : Type 0
Places = PlacesBy our_coding

-- 02, request 8, "Issue 3 partners", prepared: what is promised of the services that a platform told of, and of who speaks Issue 3. No
-- exported call uses them yet. The theorem is in proofs/Services.antt. Limits and numbers stand here as 02 has them.
use Rattle.std.specs.Prelude.{ℕ, ◌+◌, ◌-◌, ◌*◌, ◌/◌, ◌≤◌, ◌<◌, ◌≡◌, Bool, true, false, cond, List, [], eqb, leb, length, replicate}
use Rattle.wire.specs.Bytes.{Octets, number}
use Rattle.services.specs.declared.Availability.TheVariants.{Unheard, Unavailable, Available}
use Rattle.services.specs.Block.{availability_in, note_refusal, status_noted, marked}
use Rattle.services.specs.Known.{known, Packed, is_in, NoneTwice, known_with}
use Rattle.partners.specs.Threes.{is_three, three_set, listed, threes_before, block_start}

-- any way to keep the services of one platform in words: the number that answers a status's payload, the words after it, and the words
-- after the platform went DOWN
pub record Keeping : Type 0 where
  pub answer : List ℕ → List ℕ → ℕ
  pub after : List ℕ → List ℕ → List ℕ
  pub down : List ℕ → List ℕ

abbrev pub our_keeping : Keeping
our_keeping = record { answer = note_refusal; after = status_noted; down = marked }

-- 001, Table 4: how many pairs a payload has, and their IDs and states
abbrev pub pair_count : List ℕ → ℕ
pair_count s = (length s - 4) / 8

abbrev pub named_by : List ℕ → ℕ → ℕ
named_by s i = number 2 s (8 * i + 4)

abbrev pub said_by : List ℕ → ℕ → ℕ
said_by s i = number 2 s (8 * i + 8)

-- 256 words, no service behind a free word, none known twice: so they are at the start, and so every call leaves them
pub record KemptBlock (b : List ℕ) : Type 0 where
  pub whole : length b ≡ 256
  pub packed : Packed b
  pub once : NoneTwice (known b)

pub data Arises (K : Keeping) : List ℕ → Type 0 where
  start : Arises K (replicate 256 0)
  status : {b : List ℕ} (s : List ℕ) → Octets s → Arises K b → Arises K (K.after b s)
  went_down : {b : List ℕ} → Arises K b → Arises K (K.down b)

-- 02: "availability states of up to 256 services per Issue 3 platform (a status that would need a 257th is refused with 63, ..)"
pub record ServicesBy (K : Keeping) : Type 0 where
  pub block : (b : List ℕ) → Arises K b → KemptBlock b
  -- 63 exactly: those that are known, with those that the status names, each counted once, are more than 256.
  -- Ruled out: the 257th dropped and the rest noted
  pub exactly : (b s : List ℕ) → KemptBlock b → Octets s → K.answer b s ≡ cond (leb (length (known_with (known b) s (pair_count s))) 256) 0 63
  -- 01: a refusal changes nothing. Ruled out: 63 with the first pairs noted
  pub keeps : (b s : List ℕ) → ¬ (K.answer b s ≡ 0) → K.after b s ≡ b
  -- a service that is named has the state of the last pair that names it, 1 for AVAILABLE. Ruled out: the first of two pairs wins
  pub last_pair : (b s : List ℕ) → KemptBlock b → Octets s → K.answer b s ≡ 0 → (i : ℕ) → i < pair_count s
      → ((k : ℕ) → i < k → k < pair_count s → ¬ (named_by s k ≡ named_by s i))
      → availability_in (K.after b s) (named_by s i) ≡ cond (eqb (said_by s i) 1) Available Unavailable
  -- and any other what it had. Ruled out: a status that takes the place of what was known
  pub others : (b s : List ℕ) → KemptBlock b → Octets s → K.answer b s ≡ 0 → (x : ℕ) → ((k : ℕ) → k < pair_count s → ¬ (named_by s k ≡ x))
      → availability_in (K.after b s) x ≡ availability_in b x
  -- 001, 6.3: UP to DOWN marks all services UNAVAILABLE. Ruled out: services forgotten at DOWN, and services left as they were
  pub down_known : (b : List ℕ) (x : ℕ) → ¬ (availability_in b x ≡ Unheard) → availability_in (K.down b) x ≡ Unavailable
  pub down_unheard : (b : List ℕ) (x : ℕ) → availability_in b x ≡ Unheard → availability_in (K.down b) x ≡ Unheard

-- 02: "Each logical platform is set up as Issue 6 or Issue 3, Issue 6 if unsaid"
pub record SetUp : Type 0 where
  pub just_those : (ks : List ℕ) (k : ℕ) → k < 256 → is_three (listed ks) k ≡ is_in k ks
  pub unsaid : (k : ℕ) → is_three (replicate 4 0) k ≡ false
  pub without_words : (k : ℕ) → is_three [] k ≡ false
  -- Ruled out: 448 read as 192
  pub above : (w : List ℕ) (k : ℕ) → 256 ≤ k → is_three w k ≡ false
  pub one_set : (w : List ℕ) (k : ℕ) (three : Bool) → length w ≡ 4 → k < 256 → is_three (three_set w k three) k ≡ three
  pub others_stay : (w : List ℕ) (k : ℕ) (three : Bool) (j : ℕ) → ¬ (j ≡ k) → is_three (three_set w k three) j ≡ is_three w j
  pub above_sets_nothing : (w : List ℕ) (k : ℕ) (three : Bool) → 256 ≤ k → three_set w k three ≡ w
  -- 256 words of services for each that speaks Issue 3. Ruled out: one block for all; blocks that overlap
  pub in_turn : (w : List ℕ) (k : ℕ) → is_three w k ≡ true → threes_before w k < threes_before w 256
  pub apart : (w : List ℕ) (j k : ℕ) → j < k → is_three w j ≡ true → block_start w j + 256 ≤ block_start w k

pub record Services : Type 0 where
  pub kept : ServicesBy our_keeping
  pub at_start : (x : ℕ) → availability_in (replicate 256 0) x ≡ Unheard
  -- the services that are known, which 63 counts, are those of which something was heard
  pub unheard : (b : List ℕ) (x : ℕ) → is_in x (known b) ≡ false → availability_in b x ≡ Unheard
  pub heard : (b : List ℕ) (x : ℕ) → is_in x (known b) ≡ true → ¬ (availability_in b x ≡ Unheard)
  pub set_up : SetUp

-- Demand 1, "a fixed order of checks", for messages of partners of both issues: 01's numbers 1 to 9, of which 3 and 7 to 9 read "of the
-- sender's issue" (02, request 8). The theorems are in proofs/AnyOrder.antt.
use Rattle.std.specs.Prelude.{ℕ, ◌-◌, ◌/◌, ◌%◌, ◌<◌, ◌≡◌, true, cond, ◌⊎◌, List, [], ◌∷◌, length, drop}
use Rattle.wire.specs.Bytes.{number}
use Rattle.message.specs.Reading.{reading_out}
use Rattle.message3.specs.Reading.{read_out3}
use Rattle.partners.specs.Threes.{is_three}
use Rattle.mixed.specs.declared.AnyReading.{AnyReading}
use Rattle.mixed.specs.declared.AnyReading.TheVariants.{Refused}
use Rattle.mixed.specs.Form.{three_form}
use Rattle.mixed.specs.Reading.{from_six, from_three, any_of, number_given}
use Rattle.promises.specs.Checks.{Check, ◌when◌, Answers, Gives, Outside}
use Rattle.promises.specs.Order.{length_in_table4}
use Rattle.promises.specs.Issue3Order.{HasReserved, length_in_table4 as lengthInTable4Of3}

-- Issue 3's form: byte 2 is not Issue 6's version, and platform byte 3 speaks Issue 3. Each check asks one thing of this form, and one of
-- the other
abbrev pub ThreeForm : List ℕ → List ℕ → Type 0
ThreeForm i s = ¬ (number 0 s 2 ≡ 2) × (is_three i (number 0 s 3) ≡ true)

abbrev pub ByForm : List ℕ → List ℕ → Type 0 → Type 0 → Type 0
ByForm i s A B = (ThreeForm i s × A) ⊎ (¬ (ThreeForm i s) × B)

-- a message read at the platform `own`, where i says who speaks Issue 3. The fields of either form by their bytes: of Issue 3's the domain
-- is the lower half of byte 2, the sender byte 3, the ID bytes 4 to 7, the size bytes 16 to 19; of Issue 6's bytes 3, 4 to 7, 8 to 11 and
-- 12 to 15
unfoldable pub any_checks : List ℕ → ℕ → List ℕ → List Check
any_checks i own s =
    1 when ByForm i s (length s < 24) (length s < 20)
    ∷ 2 when ByForm i s (¬ (number 1 s 0 ≡ 0xEC0A)) (¬ (number 1 s 0 ≡ 0xEC0A))
    ∷ 3 when ByForm i s (¬ (number 0 s 2 / 16 ≡ 1)) ((¬ (number 0 s 2 ≡ 2)) ⊎ (is_three i (number 2 s 4) ≡ true))
    ∷ 4 when ByForm i s (1 < number 0 s 2 % 16) (1 < number 0 s 3)
    ∷ 5 when ByForm i s (¬ (number 2 s 16 ≡ length s - 24)) (¬ (number 2 s 12 ≡ length s - 20))
    ∷ 6 when ByForm i s (number 0 s 3 ≡ own) (number 2 s 4 ≡ own)
    ∷ 7 when ByForm i s ((number 0 s 2 % 16 ≡ 0) × Outside 1 9 (number 2 s 4)) ((number 0 s 3 ≡ 0) × Outside 1 4 (number 2 s 8))
    ∷ 8 when ByForm i s ((number 0 s 2 % 16 ≡ 0) × ¬ (length (drop 24 s) ≡ lengthInTable4Of3 (number 2 s 4) (drop 24 s)))
    ((number 0 s 3 ≡ 0) × ¬ (length (drop 20 s) ≡ length_in_table4 (number 2 s 8)))
    ∷ 9 when ByForm i s ((number 0 s 2 % 16 ≡ 0) × HasReserved (number 2 s 4) (drop 24 s))
    ((number 0 s 3 ≡ 0) × ((number 2 s 8 ≡ 1) × (1 < number 2 (drop 20 s) 0)))
    ∷ []

-- what is read where none applies: what the bytes say in their form
abbrev pub its_reading : List ℕ → List ℕ → AnyReading
its_reading i s = cond (three_form i s) (from_three (read_out3 s)) (from_six (reading_out s))

pub record AnyOrder : Type 1 where
  pub read : (i : List ℕ) (own : ℕ) (s : List ℕ) → Answers Refused (its_reading i s) (any_checks i own s) (any_of i own s)
  pub number : (i : List ℕ) (own : ℕ) (s : List ℕ) → Gives (any_checks i own s) (number_given (any_of i own s))

-- 02, request 8, prepared: demand 1 for a message of Issue 3, "01's numbers 3 and 7 to 9 read 'of the sender's issue'": the order of checks,
-- and what a refusal leaves as it was. The theorem is in proofs/Issue3Order.antt.
use Rattle.std.specs.Prelude.{ℕ, ◌+◌, ◌-◌, ◌*◌, ◌^◌, ◌≤◌, ◌<◌, ◌≡◌, cond, ◌⊎◌, List, [], ◌∷◌, ◌++◌, eqb, length}
use Rattle.wire.specs.Bytes.{number}
use Rattle.message.specs.declared.Writing.TheVariants.{Written}
use Rattle.message.specs.declared.Writing.TheVariants as writing
use Rattle.message.specs.Header.{mark_in}
use Rattle.message.specs.Writing.{number_given}
use Rattle.message3.specs.declared.Stamp.{Stamp}
use Rattle.message3.specs.declared.Reading3.TheVariants.{Refused}
use Rattle.message3.specs.Header.{version_in3, domain_in3, sender_in3, id_in3, payload_size_in3, payload_in3}
use Rattle.message3.specs.Reading.{read_out3, read_of3, number_given3}
use Rattle.message3.specs.Writing.{write_of3, output_after3}
use Rattle.promises.specs.Checks.{Check, ◌when◌, Answers, Gives, Keeps, Outside}

-- 001, Table 4: a PLATFORM_STATUS (1) has 64 bits, a PLATFORM_STATUS_REQUEST (2) none, an AVAILABILITY_STATUS (3) how many and 64 bits for
-- each, the others 32
abbrev pub length_in_table4 : ℕ → List ℕ → ℕ
length_in_table4 id payload = cond (eqb id 1) 8 (cond (eqb id 2) 0 (cond (eqb id 3) (4 + 8 * number 2 payload 0) 4))

-- a status or an acknowledgement above 1; the state of some service above 1
abbrev pub HasReserved : ℕ → List ℕ → Type 0
HasReserved id payload =
    (((id ≡ 1) ⊎ (id ≡ 9)) × (1 < number 2 payload 0))
    ⊎ ((id ≡ 3) × ((i : ℕ) × (i < number 2 payload 0) × (1 < number 2 payload (8 + 8 * i))))

-- 7 to 9: "domain 0 and ID reserved / payload length not Table 4's / a field has a reserved value"
abbrev pub contents_checks3 : ℕ → ℕ → List ℕ → List Check
contents_checks3 domain id payload =
    7 when ((domain ≡ 0) × Outside 1 9 id)
    ∷ 8 when ((domain ≡ 0) × ¬ (length payload ≡ length_in_table4 id payload))
    ∷ 9 when ((domain ≡ 0) × HasReserved id payload)
    ∷ []

-- a message read at the platform `own`
abbrev pub read_checks3 : ℕ → List ℕ → List Check
read_checks3 own s =
    1 when (length s < 24)
    ∷ 2 when (¬ (mark_in s ≡ 0xEC0A))
    ∷ 3 when (¬ (version_in3 s ≡ 1))
    ∷ 4 when (1 < domain_in3 s)
    ∷ 5 when (¬ (payload_size_in3 s ≡ length s - 24))
    ∷ 6 when (sender_in3 s ≡ own)
    ∷ contents_checks3 (domain_in3 s) (id_in3 s) (payload_in3 s)

-- a message written
abbrev pub write_checks3 : ℕ → ℕ → List ℕ → ℕ → List Check
write_checks3 domain id payload room =
    4 when (1 < domain)
    ∷ 5 when (2 ^ 32 ≤ length payload)
    ∷ (contents_checks3 domain id payload ++ (10 when (room < 24 + length payload) ∷ []))

-- each call answers by its checks: the first that applies, whatever those behind it would say
pub record Issue3Order : Type 1 where
  pub read : (own : ℕ) (s : List ℕ) → Answers Refused (read_out3 s) (read_checks3 own s) (read_of3 own s)
  pub write : (domain id : ℕ) (payload : List ℕ) (room : ℕ) →
      Answers writing.Refused (Written (24 + length payload)) (write_checks3 domain id payload room) (write_of3 domain id payload room)
  -- which is the number that it gives back
  pub read_number : (own : ℕ) (s : List ℕ) → Gives (read_checks3 own s) (number_given3 (read_of3 own s))
  pub write_number : (domain id : ℕ) (payload : List ℕ) (room : ℕ) →
      Gives (write_checks3 domain id payload room) (number_given (write_of3 domain id payload room))
  -- and a refusal changes no byte of the output
  pub write_output : (own : ℕ) (t : Stamp) (domain id seq : ℕ) (payload out : List ℕ) →
      Keeps (number_given (write_of3 domain id payload (length out))) out (output_after3 own t domain id seq payload out)

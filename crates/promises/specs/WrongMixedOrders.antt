-- 02, request 8: platform calls among partners of both issues that check in a wrong order, each in one place alone: where that place does not
-- show, they give our number. Each is shown not to meet `MixedOrder`, by one message. The theorems are in proofs/WrongMixedOrders.antt.
use Rattle.std.specs.Prelude.{ℕ, ◌+◌, ◌*◌, ◌^◌, ◌≡◌, not, cond, ◌&&◌, List, [], ◌∷◌, ◌++◌, eqb, ltb, length, drop}
use Rattle.wire.specs.Bytes.{bytes, number}
use Rattle.pending.specs.Answers.{is_response}
use Rattle.platform.specs.declared.reactions.Standing.{Standing}
use Rattle.platform.specs.Receiving.{is_sent}
use Rattle.mixed.specs.Form.{three_form}
use Rattle.mixed.specs.Reading.{any_of, number_given as number_read}
use Rattle.promises.specs.Checks.{Gives}
use Rattle.promises.specs.TableOrder.{sections_in}
use Rattle.promises.specs.EachNumber.{asking}
use Rattle.promises.specs.MixedCalls.{TableGiven, sections}
use Rattle.promises.specs.MixedOrder.{table_in, found_on, sender_block, FindsNoPlace, mixed_checks}
use Rattle.promises.specs.MixedServices.{our_call}
use Rattle.promises.specs.WorkedMixed.{seven, all_down, empty, message_from}
use Rattle.promises.specs.WrongMixed.{table_refusal}

-- the number that a call gives back, ours or any other; what `MixedOrder` says of it
abbrev pub Numbering : Type 0
Numbering = TableGiven → ℕ → List ℕ → List ℕ → Standing → List ℕ → List ℕ → List ℕ → ℕ → ℕ

abbrev pub our_number : Numbering
our_number = our_call.number

abbrev pub InMixedOrder : Numbering → Type 1
InMixedOrder X = (g : TableGiven) (own : ℕ) (i ours : List ℕ) (p : Standing) (l ws m : List ℕ) (room : ℕ) →
    Gives (mixed_checks g own i ours p l ws m room (FindsNoPlace (sender_block i ws m) (drop 24 m))) (X g own i ours p l ws m room)

-- 1 by a header of 24 bytes in both issues
abbrev pub twenty_four : Numbering
twenty_four g own i ours p l ws m room = cond (eqb (table_refusal g) 0 && ltb (length m) 24) 1 (our_number g own i ours p l ws m room)

-- of a message that was read, 10 for a short output before 5 for too many services of ours
abbrev pub room_first : Numbering
room_first g own i ours p l ws m room =
    let n : ℕ = our_number g own i ours p l ws m room in
    cond (eqb (number_read (any_of i own m)) 0 && (eqb n 5 && ltb room (28 + 8 * length ours))) 10 n

-- of a message of Issue 3 that was read, 61 by its ID and sender in domain 0 too
abbrev pub any_domain : Numbering
any_domain g own i ours p l ws m room =
    let id : ℕ = number 2 m 4 in
    let n : ℕ = our_number g own i ours p l ws m room in
    cond (eqb (table_refusal g) 0 && (eqb (number_read (any_of i own m)) 0 && three_form i m))
    (cond (is_sent (table_in g) (found_on g id) && not (is_response l (number 2 m 20) id (number 0 m 3))) 61 n) n

-- a table whose one operation is a request that we send, of ID 9
abbrev pub asking_table : TableGiven
asking_table = sections asking (sections_in asking) ((9 * 2 ^ 32 + 16) ∷ [])

-- platform 7, which speaks Issue 3, asks for all our services, and acknowledges a change of composite: domain 0, ID 9
abbrev pub all_asked : List ℕ
all_asked = message_from 7 4 (bytes 2 0xFFFFFFFF)

abbrev pub acknowledged : List ℕ
acknowledged = message_from 7 9 (bytes 2 1)

-- platform 3, which speaks Issue 6, asks for our status: 20 bytes
abbrev pub status_asked : List ℕ
status_asked = 0xEC ∷ 0x0A ∷ 2 ∷ 0 ∷ (bytes 2 3 ++ (bytes 2 2 ++ (bytes 2 0 ++ bytes 2 9)))

-- a call at this table and these services of ours, with no room for replies
abbrev pub number_at : Numbering → TableGiven → List ℕ → List ℕ → ℕ
number_at X g ours m = X g 1 seven ours all_down [] [] m 0

pub record NoWrongMixedOrder : Type 1 where
  pub ours : InMixedOrder our_number
  -- a request of 20 bytes is read, and its reply does not fit: 10, and not 1. Of Issue 3 it is 10 for both
  pub twenty_for_six : number_at our_number empty [] status_asked ≡ 10
  pub twenty-four : ¬ (InMixedOrder twenty_four)
  pub four_as_ours : number_at twenty_four empty [] all_asked ≡ number_at our_number empty [] all_asked
  -- 2^29 of ours and no room: 5, and not 10. With none of ours it is 10 for both
  pub five_for_all : (s : List ℕ) → length s ≡ 2 ^ 29 → number_at our_number empty s all_asked ≡ 5
  pub room-first : ¬ (InMixedOrder room_first)
  pub room_as_ours : number_at room_first empty [] all_asked ≡ number_at our_number empty [] all_asked
  -- the acknowledgement is read, and asks for nothing: 0, and not 61. In a table that does not have its ID it is 0 for both
  pub none_for_domain_0 : number_at our_number asking_table [] acknowledged ≡ 0
  pub any-domain : ¬ (InMixedOrder any_domain)
  pub domain_as_ours : number_at any_domain empty [] acknowledged ≡ number_at our_number empty [] acknowledged

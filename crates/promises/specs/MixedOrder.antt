-- Demand 1, "a fixed order of checks", for the platform call among partners of both issues (02, request 8): 30 to 33 for the table; 1 to 9
-- of the sender's issue; 61; 10 where the sender's services are to be kept and their words are not there; "63, after 9"; 5 and 10 for the
-- replies. Fields stand here by their bytes, and limits as the papers have them. Wrong programs that it rules out: 24 bytes asked of both
-- issues; 9 judged on the first pair only; 63 before 9; 10 for a short output before 5; a length 4 + 8n in 32 bits, by which 2^29 services
-- in four bytes are no 8; 61 for a message of domain 0. The theorem is in proofs/MixedOrder.antt; calls with 10 before 5 and with 61 in
-- domain 0 are in specs/WrongMixedOrders.
use Rattle.std.specs.Prelude.{ℕ, ◌+◌, ◌*◌, ◌%◌, ◌^◌, ◌≤◌, ◌<◌, ◌≡◌, true, cond, ◌||◌, ◌⊎◌, List, [], ◌∷◌, ◌++◌, eqb, leb, length, drop}
use Rattle.std.specs.Prelude.{Option, Some}
use Rattle.wire.specs.Bytes.{Octets, number}
use Rattle.table.specs.declared.Sections.{Sections}
use Rattle.operations.specs.Search.{sought_in}
use Rattle.pending.specs.Answers.{awaited_of}
use Rattle.services.specs.Block.{service_place, pairs_told}
use Rattle.services.specs.Known.{known, known_with}
use Rattle.partners.specs.Threes.{threes_before}
use Rattle.states.specs.States.{stands_up}
use Rattle.platform.specs.declared.reactions.Standing.{Standing}
use Rattle.platform.specs.Reaction.{some_data, found_data}
use Rattle.mixed.specs.Keeping.{block_of}
use Rattle.mixed.specs.Receiving.{number_given}
use Rattle.promises.specs.Checks.{Check, ◌when◌, Gives}
use Rattle.promises.specs.TableOrder.{sections_in, table_checks}
use Rattle.promises.specs.PayloadOrder.{LieIn}
use Rattle.promises.specs.Reports.{IsKind2}
use Rattle.promises.specs.Platforms.{operation_with, is_there}
use Rattle.promises.specs.Demand1.{FindsKind2}
use Rattle.promises.specs.AnyOrder.{ThreeForm, ByForm, any_checks}
use Rattle.promises.specs.Services.{pair_count, named_by, KemptBlock}
use Rattle.promises.specs.MixedCalls.{TableGiven, bytes, sections, answer_on}

-- the table: 30 to 33, or 30 where the sections do not lie in the bytes; which operation has an ID, and whether we send its requests
abbrev pub table_checks_on : TableGiven → List Check
table_checks_on (bytes t) = table_checks t
table_checks_on (sections t s index) = 30 when (¬ (LieIn t s)) ∷ []

abbrev pub table_in : TableGiven → List ℕ
table_in (bytes t) = t
table_in (sections t s index) = t

abbrev pub sections_of : TableGiven → Sections
sections_of (bytes t) = sections_in t
sections_of (sections t s index) = s

abbrev pub found_on : TableGiven → ℕ → Option (ℕ × ℕ)
found_on (bytes t) id = operation_with t (sections_in t) id
found_on (sections t s index) id = sought_in t index s.operations.count id

abbrev pub Kind2On : TableGiven → ℕ → Type 0
Kind2On (bytes t) id = IsKind2 t (sections_in t) id
Kind2On (sections t s index) id = FindsKind2 t s index id

-- 61: domain 1, an ID of kind 2, and what is pending under its number is not its ID, asked of its sender
abbrev pub NotAwaited3 : (ℕ → Type 0) → List ℕ → List ℕ → Type 0
NotAwaited3 Kind2 l m =
    (number 0 m 2 % 16 ≡ 1) × (Kind2 (number 2 m 4) × ¬ (awaited_of l (number 2 m 20) ≡ Some (number 2 m 4, number 0 m 3)))

abbrev pub NotAwaited6 : (ℕ → Type 0) → List ℕ → List ℕ → Type 0
NotAwaited6 Kind2 l m =
    (number 0 m 3 ≡ 1) × (Kind2 (number 2 m 8) × ¬ (awaited_of l (number 2 m 16) ≡ Some (number 2 m 8, number 2 m 4)))

-- 001, Table 3 and 6.3: a status of services, and DOWN of a sender that is UP, are those for which services are kept
abbrev pub TellsServices : List ℕ → Type 0
TellsServices m = (number 0 m 2 % 16 ≡ 0) × (number 2 m 4 ≡ 3)

abbrev pub GoesDown : ℕ → Standing → List ℕ → Type 0
GoesDown own p m =
    (number 0 m 2 % 16 ≡ 0) × ((number 2 m 4 ≡ 1) × ((number 2 (drop 24 m) 0 ≡ 0) × (stands_up own p.states (number 0 m 3) ≡ true)))

-- 256 words for each that speaks Issue 3, in the order of their numbers: the sender's are not all there
abbrev pub NoWords : List ℕ → List ℕ → List ℕ → Type 0
NoWords i ws m = length ws < 256 * threes_before i (number 0 m 3) + 256

-- "a status that would need a 257th": in any words some pair finds no place, where the pairs before it are told; in words that calls lead
-- to from fresh ones, those that are known, with those that the status names, each counted once, are more than 256
abbrev pub sender_block : List ℕ → List ℕ → List ℕ → List ℕ
sender_block i ws m = block_of i (number 0 m 3) ws

abbrev pub FindsNoPlace : List ℕ → List ℕ → Type 0
FindsNoPlace b payload = ¬ ((j : ℕ) → j < pair_count payload → service_place (pairs_told b payload j) (named_by payload j) < 256)

abbrev pub NeedsMore : List ℕ → List ℕ → Type 0
NeedsMore b payload = 256 < length (known_with (known b) payload (pair_count payload))

-- a request for all our services
abbrev pub AsksForAll : List ℕ → Type 0
AsksForAll m = (number 0 m 2 % 16 ≡ 0) × ((number 2 m 4 ≡ 4) × (number 2 (drop 24 m) 0 ≡ 0xFFFFFFFF))

-- so many bytes of replies. Issue 3: UP of a sender that is DOWN, a status request, a request for services, a pull of what is not versioned
-- data, an operation that is not in the table
abbrev pub owed3 : List ℕ → (ℕ → Option (ℕ × ℕ)) → ℕ → List ℕ → Standing → List ℕ → ℕ
owed3 t found own ours p m =
    let id : ℕ = number 2 m 4 in
    let field : ℕ = number 2 (drop 24 m) 0 in
    cond (eqb (number 0 m 2 % 16) 0)
    (cond (eqb id 1) (cond (eqb field 0) 0 (cond (stands_up own p.states (number 0 m 3)) 0 88))
    (cond (eqb id 2) 32
    (cond (eqb id 4) (cond (eqb field 0xFFFFFFFF) (28 + 8 * length ours) 36)
    (cond (eqb id 7) (cond (eqb field 0xFFFFFFFF) 0 (cond (found_data t (found field)) 0 28))
    0))))
    (cond (is_there (found id)) 0 28)

-- Issue 6: the same without services; a pull of all too, where there is no versioned data; and a sender above 255 has no state
abbrev pub owed6 : List ℕ → Sections → (ℕ → Option (ℕ × ℕ)) → ℕ → Standing → List ℕ → ℕ
owed6 t s found own p m =
    let id : ℕ = number 2 m 8 in
    let field : ℕ = number 2 (drop 20 m) 0 in
    let sender : ℕ = number 2 m 4 in
    cond (eqb (number 0 m 3) 0)
    (cond (eqb id 1) (cond (eqb field 0) 0 (cond (stands_up own p.states sender || leb 256 sender) 0 48))
    (cond (eqb id 2) 24
    (cond (eqb id 4)
    (cond (eqb field 0xFFFFFFFF) (cond (some_data t s) 0 24) (cond (found_data t (found field)) 0 24))
    0)))
    (cond (is_there (found id)) 0 24)

-- behind 1 to 9: the operation that is found under an ID, whether it is of kind 2, and `Full`, a status of services that needs a 257th
abbrev pub behind_reading : List ℕ → Sections → (ℕ → Option (ℕ × ℕ)) → (ℕ → Type 0) → ℕ → List ℕ → List ℕ → Standing → List ℕ → List ℕ → List ℕ → ℕ
    → Type 0 → List Check
behind_reading t s found Kind2 own i ours p l ws m room Full =
    61 when ByForm i m (NotAwaited3 Kind2 l m) (NotAwaited6 Kind2 l m)
    ∷ 10 when (ThreeForm i m × ((TellsServices m ⊎ GoesDown own p m) × NoWords i ws m))
    ∷ 63 when (ThreeForm i m × (TellsServices m × Full))
    ∷ 5 when (ThreeForm i m × (AsksForAll m × (2 ^ 29 ≤ length ours)))
    ∷ 10 when ByForm i m (room < owed3 t found own ours p m) (room < owed6 t s found own p m)
    ∷ []

abbrev pub mixed_checks : TableGiven → ℕ → List ℕ → List ℕ → Standing → List ℕ → List ℕ → List ℕ → ℕ → Type 0 → List Check
mixed_checks g own i ours p l ws m room Full =
    table_checks_on g ++ (any_checks i own m ++ behind_reading (table_in g) (sections_of g) (found_on g) (Kind2On g) own i ours p l ws m room Full)

pub record MixedOrder : Type 1 where
  pub any_words : (g : TableGiven) (own : ℕ) (i ours : List ℕ) (p : Standing) (l ws m : List ℕ) (room : ℕ) →
      Gives (mixed_checks g own i ours p l ws m room (FindsNoPlace (sender_block i ws m) (drop 24 m))) (number_given (answer_on g own i ours p l ws m room).answer)
  pub kempt_words : (g : TableGiven) (own : ℕ) (i ours : List ℕ) (p : Standing) (l ws m : List ℕ) (room : ℕ) →
      Octets m → (ThreeForm i m → ¬ (NoWords i ws m) → KemptBlock (sender_block i ws m)) →
      Gives (mixed_checks g own i ours p l ws m room (NeedsMore (sender_block i ws m) (drop 24 m))) (number_given (answer_on g own i ours p l ws m room).answer)

-- Demand 1: "Every datagram, message, type table and word list gets an answer. Bad ones get a numbered refusal under a fixed order of
-- checks, and a refusal changes no channel, room, platform state, sequence number or output byte." That every call answers is the
-- language's: each function is total. With 02, 1 it changes no list of pending requests either. The theorem is in proofs/Demand1.antt.
use Rattle.std.specs.Prelude.{ℕ, ◌*◌, ◌^◌, ◌<◌, ◌≡◌, List, [], ◌∷◌, ◌++◌, length}
use Rattle.std.specs.Prelude.{Some}
use Rattle.wire.specs.Bytes.{Octets, number}
use Rattle.table.specs.declared.Sections.{Sections}
use Rattle.operations.specs.Entries.{kind_at}
use Rattle.operations.specs.Search.{sought_in}
use Rattle.message.specs.declared.Message.{Message}
use Rattle.message.specs.Header.{domain_in, id_in, payload_size_in, payload_in, header_in}
use Rattle.message.specs.Platform.{message_of}
use Rattle.message.specs.Writing.{write_of, output_after, number_given as write_number}
use Rattle.binding.specs.Cutting.{made_of, cut_into}
use Rattle.binding.specs.Made.{number_given as cut_number}
use Rattle.channel.specs.Outcomes.{number_given as take_number}
use Rattle.joiner.specs.declared.Joiner.{Joiner}
use Rattle.joiner.specs.Take.{taken_of, rooms_after}
use Rattle.payload.specs.Calls.{number_given, unpacked_in, words_in, packed_in, bytes_in, unpacked, words_after, packed, bytes_after}
use Rattle.platform.specs.declared.reactions.Standing.{Standing}
use Rattle.platform.specs.declared.Received.{Received}
use Rattle.platform.specs.Replies.{owed_length}
use Rattle.platform.specs.Reaction.{operation_for, reaction_to}
use Rattle.platform.specs.Receiving.{received_of, left_of, list_after, sections_outcome, sections_output, sections_list}
use Rattle.platform.specs.Noting.{number_given as receive_number}
use Rattle.promises.specs.Checks.{CheckOf, Check, ◌when◌, Answers, Gives, Keeps}
use Rattle.promises.specs.Order.{read_checks, InOrder, NumbersInOrder}
use Rattle.promises.specs.TableOrder.{sections_in, table_checks, TableInOrder, TableNumberInOrder}
use Rattle.promises.specs.PayloadOrder.{LieIn, PayloadInOrder}
use Rattle.promises.specs.Reports.{IsKind2}
use Rattle.promises.specs.Platforms.{owed_for, reply_length}
use Rattle.promises.specs.Responses.{IsAwaited}

-- "changes no channel, room, platform state, sequence number or output byte", call by call: first what a call for one message keeps
pub record Kept (p : Standing) (out l : List ℕ) (r : Received) (left after : List ℕ) : Type 0 where
  pub states : Keeps (receive_number r.answer) p.states r.standing.states
  pub next : Keeps (receive_number r.answer) p.next r.standing.next
  pub output : Keeps (receive_number r.answer) out left
  pub list : Keeps (receive_number r.answer) l after

pub record ChangesNothing : Type 0 where
  pub write_output : (own domain id seq : ℕ) (payload out : List ℕ) →
      Keeps (write_number (write_of domain id payload (length out))) out (output_after own domain id seq payload out)
  pub cut_output : (msg : List ℕ) (s sender first i : ℕ) (out : List ℕ) →
      Keeps (cut_number (made_of msg s sender first i (length out))) out (cut_into msg s sender first i out)
  pub take_joiner : (j : Joiner) (rooms d : List ℕ) → Keeps (take_number (taken_of j rooms d).outcome) j (taken_of j rooms d).joiner
  pub take-rooms : (j : Joiner) (rooms d : List ℕ) → Keeps (take_number (taken_of j rooms d).outcome) rooms (rooms_after j rooms d)
  pub unpack_words : (t : List ℕ) (i : ℕ) (b words : List ℕ) →
      Keeps (number_given (unpacked t i b (length words))) words (words_after t i b words)
  pub unpack_in_words : (t : List ℕ) (s : Sections) (i : ℕ) (b words : List ℕ) →
      Keeps (number_given (unpacked_in t s i b (length words))) words (words_in t s i b words)
  pub pack_output : (t : List ℕ) (i : ℕ) (ws out : List ℕ) → Keeps (number_given (packed t i ws (length out))) out (bytes_after t i ws out)
  pub pack_in_output : (t : List ℕ) (s : Sections) (i : ℕ) (ws out : List ℕ) →
      Keeps (number_given (packed_in t s i ws (length out))) out (bytes_in t s i ws out)
  pub receive : (own : ℕ) (t : List ℕ) (p : Standing) (l m out : List ℕ) →
      Kept p out l (received_of own t p l m (length out)) (left_of own t p m out) (list_after own t l m)
  pub receive-checked : (own : ℕ) (t : List ℕ) (s : Sections) (index : List ℕ) (p : Standing) (l m out : List ℕ) →
      Kept p out l (sections_outcome own t s index p l m (length out)) (sections_output own t s index p m out) (sections_list own t s index l m)

-- one call for one message: 30 to 33 for the table, 1 to 9 for the message; 02, 1: "any other message with a kind 2 ID is refused with
-- 61, after 01's checks 1 to 9"; and "where they don't all fit it is 10"
abbrev pub its_message : List ℕ → Message
its_message m = message_of (domain_in m) (id_in m) (number 2 (payload_in m) 0)

-- a domain 1 message of the kind K, and what is pending under its number is not its ID, asked of its sender
abbrev pub NotAwaited : Type 0 → List ℕ → List ℕ → Type 0
NotAwaited K l m = (domain_in m ≡ 1) × (K × ¬ (IsAwaited l (header_in m)))

abbrev pub receive_checks : ℕ → List ℕ → Standing → List ℕ → List ℕ → ℕ → List Check
receive_checks own t p l m room =
    table_checks t
    ++ (read_checks own m
    ++ (61 when NotAwaited (IsKind2 t (sections_in t) (id_in m)) l m
    ∷ 10 when (room < reply_length * length (owed_for own t (sections_in t) p (header_in m) (its_message m)))
    ∷ []))

abbrev pub ReceiveInOrder : Type 1
ReceiveInOrder =
    (own : ℕ) (t : List ℕ) (p : Standing) (l m : List ℕ) (room : ℕ) → own < 256 → p.next < 2 ^ 32 → Octets m
    → Gives (receive_checks own t p l m room) (receive_number (received_of own t p l m room).answer)

-- what the index finds for an ID is of kind 2; and how many bytes of replies are owed, with the operation that is found for the message
abbrev pub FindsKind2 : List ℕ → Sections → List ℕ → ℕ → Type 0
FindsKind2 t s index id = (i : ℕ) × (q : ℕ) × (sought_in t index s.operations.count id ≡ Some (i, q)) × (kind_at t q ≡ 2)

abbrev pub owed_in : ℕ → List ℕ → Sections → List ℕ → Standing → List ℕ → ℕ
owed_in own t s index p m =
    owed_length (reaction_to own t s (operation_for t s index (header_in m) (its_message m)) p (header_in m) (its_message m) 20 (payload_size_in m)).owed

-- the same on any sections and any index: 30 where the sections do not lie in the bytes
abbrev pub checked_checks : ℕ → List ℕ → Sections → List ℕ → Standing → List ℕ → List ℕ → ℕ → List Check
checked_checks own t s index p l m room =
    30 when (¬ (LieIn t s))
    ∷ (read_checks own m
    ++ (61 when NotAwaited (FindsKind2 t s index (id_in m)) l m
    ∷ 10 when (room < owed_in own t s index p m)
    ∷ []))

abbrev pub ReceiveCheckedInOrder : Type 1
ReceiveCheckedInOrder =
    (own : ℕ) (t : List ℕ) (s : Sections) (index : List ℕ) (p : Standing) (l m : List ℕ) (room : ℕ)
    → Gives (checked_checks own t s index p l m room) (receive_number (sections_outcome own t s index p l m room).answer)

pub record Demand1 : Type 1 where
  -- "a fixed order of checks": what each call answers is the first of its checks that applies
  pub in_order : InOrder
  pub table_in_order : TableInOrder
  pub numbers_in_order : NumbersInOrder
  pub table_number_in_order : TableNumberInOrder
  pub payload_in_order : PayloadInOrder
  pub receive_in_order : ReceiveInOrder
  pub receive_checked_in_order : ReceiveCheckedInOrder
  -- which leaves no choice
  pub one_answer : {R A : Type 0} (refused : R → A) (good : A) (cs : List (CheckOf R)) (x y : A)
      → Answers refused good cs x → Answers refused good cs y → x ≡ y
  pub changes_nothing : ChangesNothing

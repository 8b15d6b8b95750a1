-- What the call for one message answers on sections that lie in the table, and which messages are told straight from their bytes.
use Rattle.std.specs.Prelude.{ℕ, Bool, cond, List, [], ◌∷◌, eqb, length}
use Rattle.std.specs.Prelude.{Option, None}
use Rattle.table.specs.declared.Sections.{Sections}
use Rattle.operations.specs.Entries.{sent_kind, kind_at}
use Rattle.operations.specs.Search.{sought_in}
use Rattle.pending.specs.Answers.{is_response}
use Rattle.message.specs.Header.{header_length, platform_domain, domain_in, sender_in, id_in, payload_size_in, sequence_in, header_in}
use Rattle.message.specs.Refusal.{read_refusal}
use Rattle.platform.specs.declared.Received.{Received}
use Rattle.platform.specs.Receiving.{list_answered, outcome_in, output_in, list_in}
use Rattle.platform.specs.Noting.{number_given}
use Rattle.platform_words.specs.Words.{standing_in, pending_in}
use Rattle.platform_words.specs.HeardWords.{heard_after, platform_after}

-- own number, the platform's words, the table, its sections and its index, the message and the output, in this order
abbrev pub outcome_within : ℕ → List ℕ → List ℕ → Sections → List ℕ → List ℕ → List ℕ → Received
outcome_within own ws t s index m out = outcome_in own t s index (standing_in ws) (pending_in ws) m (length out)

abbrev pub number_within : ℕ → List ℕ → List ℕ → Sections → List ℕ → List ℕ → List ℕ → ℕ
number_within own ws t s index m out = number_given (outcome_within own ws t s index m out).answer

abbrev pub words_within : ℕ → List ℕ → List ℕ → Sections → List ℕ → List ℕ → List ℕ → List ℕ
words_within own ws t s index m out = platform_after (outcome_within own ws t s index m out) ws (list_in own t s index (pending_in ws) m)

abbrev pub output_within : ℕ → List ℕ → List ℕ → Sections → List ℕ → List ℕ → List ℕ → List ℕ
output_within own ws t s index m out = output_in own t s index (standing_in ws) m out

abbrev pub heard_within : ℕ → List ℕ → List ℕ → Sections → List ℕ → List ℕ → List ℕ → List ℕ → List ℕ
heard_within own ws t s index m out heard = heard_after (outcome_within own ws t s index m out) heard

-- the operation of the table that a message is, where nothing refuses it
unfoldable pub operation_heard : ℕ → List ℕ → Sections → List ℕ → List ℕ → Option (ℕ × ℕ)
operation_heard own t s index m =
    cond (eqb (domain_in m) platform_domain) None
    (cond (eqb (read_refusal own m) 0) (sought_in t index s.operations.count (id_in m)) None)

-- 02, 1: whether a message under the ID of a request that we send is the response to one that is pending in the list l
abbrev pub is_awaited : List ℕ → List ℕ → Bool
is_awaited l m = is_response l (sequence_in m) (id_in m) (sender_in m)

-- what a message is told as whose operation's entry stands at q, 9 being a response, 7 an operation and 0 nothing; and the list of
-- the requests that are pending afterwards
abbrev pub kind_heard : List ℕ → List ℕ → ℕ → List ℕ → ℕ
kind_heard l t q m = cond (eqb (kind_at t q) sent_kind) (cond (is_awaited l m) 9 0) 7

abbrev pub list_heard : List ℕ → List ℕ → ℕ → List ℕ → List ℕ
list_heard l t q m = cond (eqb (kind_at t q) sent_kind) (list_answered l (header_in m)) l

-- its words, from its bytes: nothing is owed for an operation or a response
abbrev pub straight_words : ℕ → List ℕ → ℕ → List ℕ
straight_words kind m i = kind ∷ id_in m ∷ sender_in m ∷ sequence_in m ∷ i ∷ header_length ∷ payload_size_in m ∷ 0 ∷ []

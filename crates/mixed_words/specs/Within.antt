-- 02, request 8: the same on sections that lie in the table, and which messages are told straight from their bytes.
use Rattle.std.specs.Prelude.{ℕ, Bool, cond, List, [], ◌∷◌, ◌++◌, eqb, length, take}
use Rattle.std.specs.Prelude.{Option, None}
use Rattle.table.specs.declared.Sections.{Sections}
use Rattle.table.specs.Layout.{within}
use Rattle.table.specs.Words.{sections_in, index_in}
use Rattle.operations.specs.Search.{sought_in}
use Rattle.message.specs.Header.{sender_in}
use Rattle.partners.specs.Threes.{is_three}
use Rattle.platform.specs.Receiving.{not_awaited}
use Rattle.mixed.specs.declared.AnyReceived.{AnyReceived}
use Rattle.mixed.specs.Receiving.{number_given, any_outcome, any_output, any_list, any_words}
use Rattle.platform_words.specs.Words.{standing_length, standing_in, pending_in, standing_words}
use Rattle.platform_words.specs.Within.{operation_heard, kind_heard, list_heard, straight_words}
use Rattle.mixed_words.specs.HeardWords.{stamp_in, own_composite, behind_six, any_platform_after, any_heard_after}

-- own number, who speaks Issue 3, our services, the platform's words, those of the partners' services, the table, its sections and its
-- index, the message and the output, in this order; the three numbers of the stamp stand behind the own number
abbrev pub outcome_within : ℕ → List ℕ → List ℕ → List ℕ → List ℕ → List ℕ → Sections → List ℕ → List ℕ → List ℕ → AnyReceived
outcome_within own i ours ws sv t s index m out = any_outcome own i ours t s index (standing_in ws) (pending_in ws) sv m (length out)

abbrev pub number_within : ℕ → List ℕ → List ℕ → List ℕ → List ℕ → List ℕ → Sections → List ℕ → List ℕ → List ℕ → ℕ
number_within own i ours ws sv t s index m out = number_given (outcome_within own i ours ws sv t s index m out).answer

abbrev pub words_within : ℕ → List ℕ → List ℕ → List ℕ → List ℕ → List ℕ → Sections → List ℕ → List ℕ → List ℕ → List ℕ
words_within own i ours ws sv t s index m out =
    any_platform_after (outcome_within own i ours ws sv t s index m out) ws (any_list own i t s index (pending_in ws) m)

abbrev pub services_within : ℕ → List ℕ → List ℕ → List ℕ → List ℕ → List ℕ → Sections → List ℕ → List ℕ → List ℕ → List ℕ
services_within own i ours ws sv t s index m out = any_words own i ours t s index (standing_in ws) sv m (length out)

abbrev pub output_within : ℕ → List ℕ → List ℕ → List ℕ → List ℕ → List ℕ → List ℕ → Sections → List ℕ → List ℕ → List ℕ → List ℕ
output_within own st i ours ws sv t s index m out = any_output own (stamp_in st) (own_composite st) i ours t s index (standing_in ws) sv m out

abbrev pub heard_within : ℕ → List ℕ → List ℕ → List ℕ → List ℕ → List ℕ → Sections → List ℕ → List ℕ → List ℕ → List ℕ → List ℕ
heard_within own i ours ws sv t s index m out heard = any_heard_after (outcome_within own i ours ws sv t s index m out) heard

-- the operation of the table that a message of Issue 6 is, where nothing refuses it
unfoldable pub six_operation : ℕ → List ℕ → List ℕ → Sections → List ℕ → List ℕ → Option (ℕ × ℕ)
six_operation own i t s index m = cond (is_three i (sender_in m)) None (operation_heard own t s index m)

-- and by the words of its sections, where these lie in the table; the operation of an ID likewise
unfoldable pub six_in : ℕ → List ℕ → List ℕ → List ℕ → List ℕ → Option (ℕ × ℕ)
six_in own i t ss m = cond (within t (sections_in ss)) (six_operation own i t (sections_in ss) (index_in ss) m) None

unfoldable pub operation_in : List ℕ → List ℕ → ℕ → Option (ℕ × ℕ)
operation_in t ss id = cond (within t (sections_in ss)) (sought_in t (index_in ss) (sections_in ss).operations.count id) None

-- its words, from its bytes
abbrev pub six_words : ℕ → List ℕ → ℕ → List ℕ
six_words kind m e = straight_words kind m e ++ behind_six

-- what it is told as, e being its operation's entry, which stands at q: 61 where no pending request asked for it. The platform's words, the
-- table, q and the message, in this order
abbrev pub is_nothing : List ℕ → List ℕ → ℕ → List ℕ → Bool
is_nothing ws t q m = eqb (kind_heard (pending_in ws) t q m) 0

abbrev pub straight_number : List ℕ → List ℕ → ℕ → List ℕ → ℕ
straight_number ws t q m = cond (is_nothing ws t q m) not_awaited 0

abbrev pub straight_platform : List ℕ → List ℕ → ℕ → List ℕ → List ℕ
straight_platform ws t q m = cond (is_nothing ws t q m) (take standing_length ws) (standing_words (standing_in ws)) ++ list_heard (pending_in ws) t q m

abbrev pub straight_heard : List ℕ → List ℕ → ℕ → List ℕ → ℕ → List ℕ → List ℕ
straight_heard ws t q m e heard = cond (is_nothing ws t q m) heard (six_words (kind_heard (pending_in ws) t q m) m e)

-- 02, request 8: what the call for one message is handed and hands back among partners of both issues, in numbers: what a message of
-- ours says beside itself, what was heard, and a platform's words after it.
use Rattle.std.specs.Prelude.{ℕ, List, [], ◌∷◌, ◌++◌, get_or, take}
use Rattle.message.specs.Platform.{status_value}
use Rattle.message3.specs.declared.Stamp.{Stamp}
use Rattle.message3.specs.declared.Header3.{Header3}
use Rattle.message3.specs.Header.{header_length3}
use Rattle.message3.specs.Platform.{agreement_value}
use Rattle.platform.specs.Heard.{kind_in, value_in, entry_in, start_in, length_in}
use Rattle.mixed.specs.declared.reactions.Heard3.{Heard3}
use Rattle.mixed.specs.declared.reactions.Heard3.TheVariants.{Common, Status, Services, ServicesRequest, ServiceNotAvailable, CompositeChange}
use Rattle.mixed.specs.declared.reactions.Heard3.TheVariants.{CompositeAnswer}
use Rattle.mixed.specs.declared.AnyAnswer.{AnyAnswer}
use Rattle.mixed.specs.declared.AnyAnswer.TheVariants.{Refused, Six, SixResponse, Three, ThreeResponse}
use Rattle.mixed.specs.declared.AnyReceived.{AnyReceived}
use Rattle.platform_words.specs.Words.{standing_length, standing_words}
use Rattle.platform_words.specs.HeardWords.{heard_words, response_words}

-- "the caller's arguments": three numbers, the timestamp in seconds and nanoseconds, and our composite's ID
abbrev pub stamp_in : List ℕ → Stamp
stamp_in st = record { seconds = get_or st 0 0; nanoseconds = get_or st 1 0 }

abbrev pub own_composite : List ℕ → ℕ
own_composite st = get_or st 2 0

-- a message of Issue 3, by cases. What both issues have is of Issue 6's kind (`platform/specs/Heard`), a status too; the others go on
-- behind these
abbrev pub kind_heard3 : Heard3 → ℕ
kind_heard3 (Common x) = kind_in x
kind_heard3 (Status x c) = 1
kind_heard3 (Services n) = 10
kind_heard3 (ServicesRequest id) = 11
kind_heard3 (ServiceNotAvailable id) = 12
kind_heard3 (CompositeChange c) = 13
kind_heard3 (CompositeAnswer a) = 14

-- the state or the agreement that was told; of how many services; the ID that the message names; an operation's ID, which is its header's
abbrev pub value_heard3 : ℕ → Heard3 → ℕ
value_heard3 id (Common x) = value_in id x
value_heard3 id (Status x c) = status_value x
value_heard3 id (Services n) = n
value_heard3 id (ServicesRequest x) = x
value_heard3 id (ServiceNotAvailable x) = x
value_heard3 id (CompositeChange c) = c
value_heard3 id (CompositeAnswer a) = agreement_value a

-- the number of the operation's entry, where there is one
abbrev pub entry_heard3 : Heard3 → ℕ
entry_heard3 (Common x) = entry_in x
entry_heard3 (Status x c) = 0
entry_heard3 (Services n) = 0
entry_heard3 (ServicesRequest id) = 0
entry_heard3 (ServiceNotAvailable id) = 0
entry_heard3 (CompositeChange c) = 0
entry_heard3 (CompositeAnswer a) = 0

-- the payload of an operation, or of a status of services, whose length is `len`
abbrev pub start_heard3 : Heard3 → ℕ
start_heard3 (Common x) = start_in x
start_heard3 (Status x c) = 0
start_heard3 (Services n) = header_length3
start_heard3 (ServicesRequest id) = 0
start_heard3 (ServiceNotAvailable id) = 0
start_heard3 (CompositeChange c) = 0
start_heard3 (CompositeAnswer a) = 0

abbrev pub length_heard3 : ℕ → Heard3 → ℕ
length_heard3 len (Common x) = length_in x
length_heard3 len (Status x c) = 0
length_heard3 len (Services n) = len
length_heard3 len (ServicesRequest id) = 0
length_heard3 len (ServiceNotAvailable id) = 0
length_heard3 len (CompositeChange c) = 0
length_heard3 len (CompositeAnswer a) = 0

-- the composite ID that a status tells beside its state
abbrev pub composite_heard3 : Heard3 → ℕ
composite_heard3 (Common x) = 0
composite_heard3 (Status x c) = c
composite_heard3 (Services n) = 0
composite_heard3 (ServicesRequest id) = 0
composite_heard3 (ServiceNotAvailable id) = 0
composite_heard3 (CompositeChange c) = 0
composite_heard3 (CompositeAnswer a) = 0

-- what was heard is twelve words: the eight of Issue 6's calls (`platform_words/specs/HeardWords`), and behind these the sender's issue,
-- the timestamp and the composite ID, which are 0 of Issue 6
abbrev pub behind_six : List ℕ
behind_six = 6 ∷ 0 ∷ 0 ∷ 0 ∷ []

abbrev pub behind_three : Header3 → ℕ → List ℕ
behind_three h c = 3 ∷ h.seconds ∷ h.nanoseconds ∷ c ∷ []

abbrev pub heard_words3 : Header3 → ℕ → Heard3 → List ℕ
heard_words3 h n x =
    kind_heard3 x ∷ value_heard3 h.id x ∷ h.platform ∷ h.sequence ∷ entry_heard3 x ∷ start_heard3 x ∷ length_heard3 h.payload_size x ∷ n
    ∷ behind_three h (composite_heard3 x)

abbrev pub response_words3 : Header3 → ℕ → ℕ → ℕ → List ℕ
response_words3 h i start len = 9 ∷ h.id ∷ h.platform ∷ h.sequence ∷ i ∷ start ∷ len ∷ 0 ∷ behind_three h 0

-- a refusal leaves the answer as it is
abbrev pub any_answer_words : AnyAnswer → List ℕ → List ℕ
any_answer_words (Refused k) words = words
any_answer_words (Six h x n) words = heard_words h n x ++ behind_six
any_answer_words (SixResponse h i start len) words = response_words h i start len ++ behind_six
any_answer_words (Three h x n) words = heard_words3 h n x
any_answer_words (ThreeResponse h i start len) words = response_words3 h i start len

-- what a refusal leaves as it was
abbrev pub any_left_by : {A : Type 0} → AnyAnswer → A → A → A
any_left_by (Refused n) was new = was
any_left_by (Six h x n) was new = new
any_left_by (SixResponse h i start len) was new = new
any_left_by (Three h x n) was new = new
any_left_by (ThreeResponse h i start len) was new = new

-- a platform of these words, with the list l afterwards; and what was heard
abbrev pub any_platform_after : AnyReceived → List ℕ → List ℕ → List ℕ
any_platform_after o ws l = any_left_by o.answer (take standing_length ws) (standing_words o.standing) ++ l

abbrev pub any_heard_after : AnyReceived → List ℕ → List ℕ
any_heard_after o words = any_answer_words o.answer words

-- 02, request 8: platform calls among partners of both issues that keep services wrongly, each in one place alone: where that place does not
-- show, they give our number and leave our words. Each is shown not to meet `KeepsServices`, by one message. The theorems are in
-- proofs/WrongMixed.antt.
use Rattle.std.specs.Prelude.{ℕ, ◌≡◌, cond, List, [], ◌∷◌, ◌++◌, eqb, take, drop, replicate}
use Rattle.wire.specs.Bytes.{bytes as bytes_of, part}
use Rattle.table.specs.Layout.{within}
use Rattle.table.specs.Checked.{number_given as tableNumber}
use Rattle.types.specs.Table.{checked}
use Rattle.message.specs.declared.Status.TheVariants.{Down, Up}
use Rattle.message3.specs.declared.Message3.{Message3}
use Rattle.message3.specs.declared.Message3.TheVariants as message3
use Rattle.services.specs.Word.{is_free, unavailable_of, word_for}
use Rattle.services.specs.Block.{pairs_in, pairs_told, status_fits, status_noted}
use Rattle.states.specs.States.{stands_up}
use Rattle.platform.specs.declared.reactions.Standing.{Standing}
use Rattle.mixed.specs.declared.AnyReading.{AnyReading}
use Rattle.mixed.specs.declared.AnyReading.TheVariants.{Refused, Six, Three}
use Rattle.mixed.specs.Reading.{any_of}
use Rattle.mixed.specs.Keeping.{block_of, with_block, note_number, with_noted, mark_number, with_marked}
use Rattle.mixed.specs.Receiving.{number_given}
use Rattle.promises.specs.WrongServices.{told_from_right}
use Rattle.promises.specs.MixedCalls.{TableGiven, bytes, sections, answer_on}
use Rattle.promises.specs.MixedServices.{KeepingCall, our_call, KeepsServices}
use Rattle.promises.specs.WorkedServices.{full, pair}
use Rattle.promises.specs.WorkedMixed.{empty, message_from}

-- what a call does with a status of services, and with DOWN of a platform that is UP: who speaks Issue 3, the platform, its payload, the words
pub record Deeds : Type 0 where
  pub answers : List ℕ → ℕ → List ℕ → List ℕ → ℕ
  pub notes : List ℕ → ℕ → List ℕ → List ℕ → List ℕ
  pub marks : List ℕ → ℕ → List ℕ → List ℕ

abbrev pub our_deeds : Deeds
our_deeds = record { answers = note_number; notes = with_noted; marks = with_marked }

-- by the message that was read; `else` for any other
abbrev pub number_by : Deeds → ℕ → List ℕ → Standing → List ℕ → List ℕ → ℕ → ℕ → Message3 → List ℕ → ℕ
number_by d own i p ws m else k (message3.PlatformStatus Up c) payload = else
number_by d own i p ws m else k (message3.PlatformStatus Down c) payload = cond (stands_up own p.states k) (mark_number i k ws) else
number_by d own i p ws m else k message3.PlatformStatusRequest payload = else
number_by d own i p ws m else k (message3.AvailabilityStatus n) payload = d.answers i k payload ws
number_by d own i p ws m else k (message3.AvailabilityStatusRequest id) payload = else
number_by d own i p ws m else k (message3.UnknownOperation id) payload = else
number_by d own i p ws m else k (message3.ServiceNotAvailable id) payload = else
number_by d own i p ws m else k (message3.VersionedDataPull id) payload = else
number_by d own i p ws m else k (message3.CompositeChangeRequest c) payload = else
number_by d own i p ws m else k (message3.CompositeChangeRequestAck a) payload = else
number_by d own i p ws m else k message3.Operation payload = else

abbrev pub words_by : Deeds → ℕ → List ℕ → Standing → List ℕ → ℕ → Message3 → List ℕ → List ℕ
words_by d own i p ws k (message3.PlatformStatus Up c) payload = ws
words_by d own i p ws k (message3.PlatformStatus Down c) payload = cond (stands_up own p.states k) (d.marks i k ws) ws
words_by d own i p ws k message3.PlatformStatusRequest payload = ws
words_by d own i p ws k (message3.AvailabilityStatus n) payload = d.notes i k payload ws
words_by d own i p ws k (message3.AvailabilityStatusRequest id) payload = ws
words_by d own i p ws k (message3.UnknownOperation id) payload = ws
words_by d own i p ws k (message3.ServiceNotAvailable id) payload = ws
words_by d own i p ws k (message3.VersionedDataPull id) payload = ws
words_by d own i p ws k (message3.CompositeChangeRequest c) payload = ws
words_by d own i p ws k (message3.CompositeChangeRequestAck a) payload = ws
words_by d own i p ws k message3.Operation payload = ws

abbrev pub number_read : Deeds → ℕ → List ℕ → Standing → List ℕ → List ℕ → ℕ → AnyReading → ℕ
number_read d own i p ws m else (Refused n) = else
number_read d own i p ws m else (Six h k start len) = else
number_read d own i p ws m else (Three h k start len) = number_by d own i p ws m else h.platform k (part m start len)

abbrev pub words_read : Deeds → ℕ → List ℕ → Standing → List ℕ → List ℕ → AnyReading → List ℕ
words_read d own i p ws m (Refused n) = ws
words_read d own i p ws m (Six h k start len) = ws
words_read d own i p ws m (Three h k start len) = words_by d own i p ws h.platform k (part m start len)

-- our call with these deeds; a table that is refused comes first
abbrev pub table_refusal : TableGiven → ℕ
table_refusal (bytes t) = tableNumber (checked t)
table_refusal (sections t s index) = cond (within t s) 0 30

abbrev pub call_by : Deeds → KeepingCall
call_by d =
    record {
      number = λ g own i ours p l ws m room.
          let ours-gives : ℕ = number_given (answer_on g own i ours p l ws m room).answer in
          cond (eqb (table_refusal g) 0) (number_read d own i p ws m ours-gives (any_of i own m)) ours-gives;
      after = λ g own i ours p ws m room. cond (eqb (table_refusal g) 0) (words_read d own i p ws m (any_of i own m)) ws;
    }

-- with our deeds it is our call, on every input
abbrev pub OursByDeeds : Type 0
OursByDeeds = (g : TableGiven) (own : ℕ) (i ours : List ℕ) (p : Standing) (l ws m : List ℕ) (room : ℕ) →
    ((call_by our_deeds).number g own i ours p l ws m room ≡ our_call.number g own i ours p l ws m room)
    × ((call_by our_deeds).after g own i ours p ws m room ≡ our_call.after g own i ours p ws m room)

-- the 257th dropped and the rest noted
abbrev pub dropping : Deeds
dropping =
    record {
      answers = λ i k payload ws. 0;
      notes = λ i k payload ws. with_block i k ws (pairs_told (block_of i k ws) payload (pairs_in payload));
      marks = with_marked;
    }

-- 63 with those noted that had a place
abbrev pub noting_some : Deeds
noting_some =
    record {
      answers = note_number;
      notes = λ i k payload ws. with_block i k ws (pairs_told (block_of i k ws) payload (pairs_in payload));
      marks = with_marked;
    }

-- the first of two pairs wins
abbrev pub first_wins : Deeds
first_wins =
    record {
      answers = note_number;
      notes = λ i k payload ws. with_block i k ws (told_from_right (block_of i k ws) payload (pairs_in payload));
      marks = with_marked;
    }

-- one block for all: the first 256 words
abbrev pub one_block : Deeds
one_block =
    record {
      answers = λ i k payload ws. cond (status_fits (take 256 ws) payload) 0 63;
      notes = λ i k payload ws. status_noted (take 256 ws) payload ++ drop 256 ws;
      marks = with_marked;
    }

-- every platform's services marked
abbrev pub all_marked : List ℕ → List ℕ
all_marked [] = []
all_marked (w ∷ ws) = cond (is_free w) w (unavailable_of w) ∷ all_marked ws

abbrev pub marking_all : Deeds
marking_all = record { answers = note_number; notes = with_noted; marks = λ i k ws. all_marked ws }

-- services forgotten at DOWN
abbrev pub forgetting : Deeds
forgetting = record { answers = note_number; notes = with_noted; marks = λ i k ws. with_block i k ws (replicate 256 0) }

-- platforms 7 and 8 speak Issue 3, and 7 is UP; we are platform 1, and the table is empty
abbrev pub both : List ℕ
both = 0x180 ∷ 0 ∷ 0 ∷ 0 ∷ []

abbrev pub up : Standing
up = record { states = record { w0 = 0x80; w1 = 0; w2 = 0; w3 = 0 }; next = 0 }

-- a platform tells of services, and goes DOWN
abbrev pub telling : ℕ → List ℕ → List ℕ
telling k payload = message_from k 3 payload

abbrev pub going_down : ℕ → List ℕ
going_down k = message_from k 1 (bytes_of 2 0 ++ bytes_of 2 0)

-- one service is told; of platform 7 there is one place left; service 5 is known, of platform 7 and of platform 8
abbrev pub one_told : ℕ → List ℕ
one_told id = bytes_of 2 1 ++ pair id 1

abbrev pub almost : List ℕ
almost = full 255 ++ (0 ∷ [])

abbrev pub five_of_7 : List ℕ
five_of_7 = word_for 5 1 ∷ replicate 255 0

abbrev pub five_of_8 : List ℕ
five_of_8 = replicate 256 0 ++ (word_for 5 1 ∷ replicate 255 0)

abbrev pub AsOurs : Deeds → List ℕ → List ℕ → Type 0
AsOurs d ws m =
    ((call_by d).number empty 1 both [] up [] ws m 0 ≡ our_call.number empty 1 both [] up [] ws m 0)
    × ((call_by d).after empty 1 both [] up ws m 0 ≡ our_call.after empty 1 both [] up ws m 0)

pub record WrongInOnePlace : Type 0 where
  -- a status that has its places, to the last one
  pub drops : AsOurs dropping almost (telling 7 (one_told 257))
  pub notes_some : AsOurs noting_some almost (telling 7 (one_told 257))
  -- a status of one pair; one of the platform whose block is the first
  pub first-wins : AsOurs first_wins five_of_7 (telling 7 (one_told 5))
  pub one-block : AsOurs one_block five_of_8 (telling 7 (one_told 5))
  -- DOWN where no service of another platform is known; and where none of its own is
  pub marks_all : AsOurs marking_all five_of_7 (going_down 7)
  pub forgets : AsOurs forgetting five_of_8 (going_down 7)

pub record NoWrongMixed : Type 0 where
  pub ours : OursByDeeds
  pub elsewhere_right : WrongInOnePlace
  pub drops : ¬ (KeepsServices (call_by dropping))
  pub notes_some : ¬ (KeepsServices (call_by noting_some))
  pub first-wins : ¬ (KeepsServices (call_by first_wins))
  pub one-block : ¬ (KeepsServices (call_by one_block))
  pub marks_all : ¬ (KeepsServices (call_by marking_all))
  pub forgets : ¬ (KeepsServices (call_by forgetting))

-- Demand 1, "a fixed order of checks": 01, "Numbers given back", in 01's words, for messages (1 to 10), datagrams (20 to 23) and
-- cutting (50 to 52). The theorems are in proofs/Order.antt.
use Rattle.std.specs.Prelude.{ℕ, ◌+◌, ◌-◌, ◌*◌, ◌^◌, ◌≤◌, ◌<◌, ◌≡◌, cond, ◌⊎◌, List, [], ◌∷◌, ◌++◌, eqb, length, get_or, Ok}
use Rattle.refusal.specs.Refusal.{refused}
use Rattle.wire.specs.Bytes.{number}
use Rattle.message.specs.declared.Reading.TheVariants as reading
use Rattle.message.specs.declared.Writing.TheVariants as writing
use Rattle.message.specs.Header.{mark_in, version_in, domain_in, sender_in, id_in, payload_size_in, payload_in}
use Rattle.message.specs.Reading.{reading_out, read_of, number_given as number_read}
use Rattle.message.specs.Writing.{write_of, number_given as write_number}
use Rattle.binding.specs.Header.{part_carried, counter_in, piece_in, header_in, heading_in, sender_in as datagramSender, version_in as datagramVersion}
use Rattle.binding.specs.Header.{number_given as headerNumber}
use Rattle.binding.specs.Counted.{number_given as pieces_number}
use Rattle.binding.specs.Made.{number_given as cut_number}
use Rattle.binding.specs.Cutting.{piece_count, datagram_of, counted_of, made_of}
use Rattle.channel.specs.declared.Step.{Step}
use Rattle.channel.specs.Channel.{room_of, stepped_of}
use Rattle.channel.specs.Outcomes.{number_given as take_number}
use Rattle.joiner.specs.declared.Joiner.{Joiner}
use Rattle.joiner.specs.declared.Taken.{Taken}
use Rattle.joiner.specs.Setup.{place_of, senders_of, channel_at, fresh_of, setup_of, number_given as setup_number}
use Rattle.joiner.specs.Take.{changed, taken_of}
use Rattle.promises.specs.Checks.{Check, ◌when◌, Answers, Gives, Outside}

-- 000, Table 4: a PLATFORM_STATUS_REQUEST (2) has no payload, the other three 32 bits
abbrev pub length_in_table4 : ℕ → ℕ
length_in_table4 id = cond (eqb id 2) 0 4

-- 7 to 9: "domain 0 and ID reserved / payload length not Table 4's / a field has a reserved value"
abbrev pub contents_checks : ℕ → ℕ → List ℕ → List Check
contents_checks domain id payload =
    7 when ((domain ≡ 0) × Outside 1 4 id)
    ∷ 8 when ((domain ≡ 0) × ¬ (length payload ≡ length_in_table4 id))
    ∷ 9 when ((domain ≡ 0) × ((id ≡ 1) × (1 < number 2 payload 0)))
    ∷ []

-- a message read at the platform `own`
unfoldable pub read_checks : ℕ → List ℕ → List Check
read_checks own s =
    1 when (length s < 20)
    ∷ 2 when (¬ (mark_in s ≡ 0xEC0A))
    ∷ 3 when (¬ (version_in s ≡ 2))
    ∷ 4 when (1 < domain_in s)
    ∷ 5 when (¬ (payload_size_in s ≡ length s - 20))
    ∷ 6 when (sender_in s ≡ own)
    ∷ contents_checks (domain_in s) (id_in s) (payload_in s)

-- a message written; "5 .. writing: payload too long for the size field", "10 output shorter than what must be written"
abbrev pub write_checks : ℕ → ℕ → List ℕ → ℕ → List Check
write_checks domain id payload room =
    4 when (1 < domain)
    ∷ 5 when (2 ^ 32 ≤ length payload)
    ∷ (contents_checks domain id payload ++ (10 when (room < 20 + length payload) ∷ []))

-- a datagram's header
abbrev pub header_checks : List ℕ → List Check
header_checks d = 21 when Outside 5 65507 (length d) ∷ 22 when (¬ (datagramVersion d ≡ 0)) ∷ []

-- cutting
abbrev pub cut_checks : List ℕ → ℕ → ℕ → ℕ → ℕ → ℕ → List Check
cut_checks msg s sender first i room =
    50 when ((Outside 1 65560 (length msg) ⊎ Outside 1 65503 s) ⊎ ((4096 ≤ sender) ⊎ (65536 ≤ first)))
    ∷ 51 when (piece_count (length msg) s ≤ i)
    ∷ 52 when (room < length (datagram_of msg s sender first i))
    ∷ []

-- a joiner that is handed in, over a buffer of so many bytes
pub record GoodJoiner (j : Joiner) (buffer : ℕ) : Type 0 where
  pub some : 1 ≤ j.count
  pub few : j.count ≤ 32
  pub wide : 24 ≤ j.room
  pub narrow : j.room ≤ 65560
  pub whole : buffer ≡ j.count * j.room
  pub range : (k : ℕ) → k < j.count → (channel_at j k).sender < 4096
  pub held : (k : ℕ) → k < j.count → (channel_at j k).held ≤ j.room
  pub last : (k : ℕ) → k < j.count → (channel_at j k).last < 65536
  pub once : (a b : ℕ) → a < b → b < j.count → ¬ ((channel_at j a).sender ≡ (channel_at j b).sender)

abbrev pub take_checks : Joiner → ℕ → List ℕ → List Check
take_checks j buffer d =
    20 when (¬ (GoodJoiner j buffer))
    ∷ (header_checks d ++ (23 when ((k : ℕ) → k < j.count → ¬ ((channel_at j k).sender ≡ datagramSender d)) ∷ []))

-- what a datagram that is not refused comes to: the step of the channel whose sender ID it bears
abbrev pub its_channel : Joiner → List ℕ → ℕ
its_channel j d = place_of (senders_of j) (datagramSender d)

abbrev pub its_step : Joiner → List ℕ → Step
its_step j d = stepped_of (room_of j.room (its_channel j d)) (channel_at j (its_channel j d)) (part_carried d) (counter_in d) (length (piece_in d))

abbrev pub moved : Joiner → List ℕ → Taken
moved j d = record { outcome = Ok (its_step j d).outcome; joiner = changed j (its_channel j d) (its_step j d).channel }

abbrev pub kept_with : Joiner → ℕ → Taken
kept_with j n = record { outcome = refused n; joiner = j }

-- what 20 asks of a set-up: 1 to 32 channels, a room of 24 to 65,560 bytes, a buffer of channels times that, IDs that differ
pub record CanSetUp (ids : List ℕ) (R buffer : ℕ) : Type 0 where
  pub some : 1 ≤ length ids
  pub few : length ids ≤ 32
  pub wide : 24 ≤ R
  pub narrow : R ≤ 65560
  pub whole : buffer ≡ length ids * R
  pub range : (k : ℕ) → k < length ids → get_or ids k 0 < 4096
  pub once : (a b : ℕ) → a < b → b < length ids → ¬ (get_or ids a 0 ≡ get_or ids b 0)

-- each call gives back the number of the first of its checks that applies, and 0 where none does: by the definition of its answer
pub record NumbersInOrder : Type 1 where
  pub read : (own : ℕ) (s : List ℕ) → Gives (read_checks own s) (number_read (read_of own s))
  pub write : (domain id : ℕ) (payload : List ℕ) (room : ℕ) → Gives (write_checks domain id payload room) (write_number (write_of domain id payload room))
  pub header : (d : List ℕ) → Gives (header_checks d) (headerNumber (heading_in d))
  pub setup : (ids : List ℕ) (R buffer : ℕ) → Gives (20 when (¬ (CanSetUp ids R buffer)) ∷ []) (setup_number (setup_of ids R buffer))
  pub take : (j : Joiner) (rooms d : List ℕ) → length j.channels ≡ 32 → Gives (take_checks j (length rooms) d) (take_number (taken_of j rooms d).outcome)
  pub pieces : (m s : ℕ) → Gives (50 when (Outside 1 65560 m ⊎ Outside 1 65503 s) ∷ []) (pieces_number (counted_of m s))
  pub cut : (msg : List ℕ) (s sender first i room : ℕ) → Gives (cut_checks msg s sender first i room) (cut_number (made_of msg s sender first i room))

-- each call answers by its checks
pub record InOrder : Type 1 where
  pub read : (own : ℕ) (s : List ℕ) → Answers reading.Refused (reading_out s) (read_checks own s) (read_of own s)
  pub write : (domain id : ℕ) (payload : List ℕ) (room : ℕ) →
      Answers writing.Refused (writing.Written (20 + length payload)) (write_checks domain id payload room) (write_of domain id payload room)
  pub header : (d : List ℕ) → Answers refused (Ok (header_in d)) (header_checks d) (heading_in d)
  pub setup : (ids : List ℕ) (R buffer : ℕ) →
      Answers refused (Ok (fresh_of ids R)) (20 when (¬ (CanSetUp ids R buffer)) ∷ []) (setup_of ids R buffer)
  pub take : (j : Joiner) (rooms d : List ℕ) → length j.channels ≡ 32 →
      Answers (kept_with j) (moved j d) (take_checks j (length rooms) d) (taken_of j rooms d)
  pub pieces : (m s : ℕ) →
      Answers refused (Ok (piece_count m s)) (50 when (Outside 1 65560 m ⊎ Outside 1 65503 s) ∷ []) (counted_of m s)
  pub cut : (msg : List ℕ) (s sender first i room : ℕ) →
      Answers refused (Ok (length (datagram_of msg s sender first i))) (cut_checks msg s sender first i room) (made_of msg s sender first i room)

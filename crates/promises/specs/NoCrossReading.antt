-- 02, request 8: "Each logical platform is set up as Issue 6 or Issue 3, Issue 6 if unsaid, and its messages are read .. by that issue's
-- tables alone, version number included", and "No message may be read under the other issue's meaning". It is said of any reader, so
-- that wrong ones can be shown not to meet it (WrongReaders). The theorems are in proofs/NoCrossReading.antt.
use Rattle.std.specs.Prelude.{ℕ, ◌/◌, ◌≤◌, ◌≡◌, true, false, List, [], ◌∷◌, length, take}
use Rattle.wire.specs.Bytes.{number}
use Rattle.message.specs.declared.Header.{Header}
use Rattle.message.specs.declared.Message.{Message}
use Rattle.message.specs.declared.Message.TheVariants as message
use Rattle.message.specs.declared.Status.TheVariants.{Up}
use Rattle.message.specs.declared.Reading.TheVariants as six
use Rattle.message.specs.Reading.{read_of}
use Rattle.message3.specs.declared.Header3.{Header3}
use Rattle.message3.specs.declared.Message3.{Message3}
use Rattle.message3.specs.declared.Message3.TheVariants as message3
use Rattle.message3.specs.declared.Reading3.TheVariants as three
use Rattle.message3.specs.Reading.{read_of3}
use Rattle.partners.specs.Threes.{is_three, listed}
use Rattle.mixed.specs.declared.AnyReading.{AnyReading}
use Rattle.mixed.specs.declared.AnyReading.TheVariants.{Refused, Six, Three}
use Rattle.mixed.specs.Reading.{from_six, from_three, any_of}

-- what reading answers: with the words that say who speaks Issue 3, at the platform `own`, of these bytes
abbrev pub Reader : Type 0
Reader = List ℕ → ℕ → List ℕ → AnyReading

pub record NoCrossReadingBy (read : Reader) : Type 0 where
  -- what is read as Issue 6's is from a sender that does not speak Issue 3, has version 2, and is what Issue 6 alone reads
  pub six_is_six : (i : List ℕ) (own : ℕ) (s : List ℕ) (h : Header) (m : Message) (start len : ℕ) → read i own s ≡ Six h m start len →
      (is_three i h.platform ≡ false) × (number 0 s 2 ≡ 2) × (read_of own s ≡ six.Read h m start len)
  -- what is read as Issue 3's is from a sender that speaks it, has version 1, and is what Issue 3 alone reads
  pub three_is_three : (i : List ℕ) (own : ℕ) (s : List ℕ) (h : Header3) (m : Message3) (start len : ℕ) → read i own s ≡ Three h m start len →
      (is_three i h.platform ≡ true) × (number 0 s 2 / 16 ≡ 1) × (read_of3 own s ≡ three.Read h m start len)
  -- and every message of either issue is read where its sender is set up so; senders of Issue 6 are any numbers of 32 bits
  pub all_of_six : (i : List ℕ) (own : ℕ) (s : List ℕ) (h : Header) (m : Message) (start len : ℕ) → read_of own s ≡ six.Read h m start len →
      is_three i h.platform ≡ false → read i own s ≡ Six h m start len
  pub all_of_three : (i : List ℕ) (own : ℕ) (s : List ℕ) (h : Header3) (m : Message3) (start len : ℕ) → read_of3 own s ≡ three.Read h m start len →
      is_three i h.platform ≡ true → read i own s ≡ Three h m start len
  -- "01's numbers 3 .. read 'of the sender's issue'": a message of the other issue gets 3
  pub six_from_three : (i : List ℕ) (own : ℕ) (s : List ℕ) (h : Header) (m : Message) (start len : ℕ) → read_of own s ≡ six.Read h m start len →
      is_three i h.platform ≡ true → read i own s ≡ Refused 3
  pub three_from_six : (i : List ℕ) (own : ℕ) (s : List ℕ) (h : Header3) (m : Message3) (start len : ℕ) → read_of3 own s ≡ three.Read h m start len →
      is_three i h.platform ≡ false → read i own s ≡ Refused 3
  -- "Issue 6 if unsaid": where nobody speaks Issue 3 every message is as before, its refusals too
  pub as_before : (i : List ℕ) (own : ℕ) (s : List ℕ) → ((k : ℕ) → is_three i k ≡ false) → read i own s ≡ from_six (read_of own s)

-- what both forms could claim: byte 2 tells where the sender stands, and the set-up its issue. 1 and 2 come before 3
pub record ByByteTwo (read : Reader) (i : List ℕ) (own : ℕ) (s : List ℕ) (long : 24 ≤ length s) (mark : number 1 s 0 ≡ 0xEC0A) : Type 0 where
  pub two_of_six : number 0 s 2 ≡ 2 → is_three i (number 2 s 4) ≡ false → read i own s ≡ from_six (read_of own s)
  pub two_of_three : number 0 s 2 ≡ 2 → is_three i (number 2 s 4) ≡ true → read i own s ≡ Refused 3
  pub one_of_three : number 0 s 2 / 16 ≡ 1 → is_three i (number 0 s 3) ≡ true → read i own s ≡ from_three (read_of3 own s)
  pub one_of_six : number 0 s 2 / 16 ≡ 1 → is_three i (number 0 s 3) ≡ false → read i own s ≡ Refused 3
  pub other : ¬ (number 0 s 2 ≡ 2) → ¬ (number 0 s 2 / 16 ≡ 1) → read i own s ≡ Refused 3

-- EC0A 10 07 00000001 00000005 00000006 00000008 00000009 00000001 11223344: UP of 7, at 5 s 6 ns, with its composite's ID
abbrev pub status_of7 : List ℕ
status_of7 =
    0xEC ∷ 0x0A ∷ 0x10 ∷ 7 ∷ 0 ∷ 0 ∷ 0 ∷ 1 ∷ 0 ∷ 0 ∷ 0 ∷ 5 ∷ 0 ∷ 0 ∷ 0 ∷ 6 ∷ 0 ∷ 0 ∷ 0 ∷ 8 ∷ 0 ∷ 0 ∷ 0 ∷ 9
    ∷ 0 ∷ 0 ∷ 0 ∷ 1 ∷ 0x11 ∷ 0x22 ∷ 0x33 ∷ 0x44 ∷ []

-- EC0A 02 xx 00000005 00000002 00000000 00000001: a request of 5, where xx, the domain, is 0
abbrev pub request_of5 : ℕ → List ℕ
request_of5 domain = 0xEC ∷ 0x0A ∷ 2 ∷ domain ∷ 0 ∷ 0 ∷ 0 ∷ 5 ∷ 0 ∷ 0 ∷ 0 ∷ 2 ∷ 0 ∷ 0 ∷ 0 ∷ 0 ∷ 0 ∷ 0 ∷ 0 ∷ 1 ∷ []

abbrev pub its_header7 : Header3
its_header7 = record { domain = 0; platform = 7; id = 1; seconds = 5; nanoseconds = 6; payload_size = 8; sequence = 9 }

abbrev pub its_header5 : Header
its_header5 = record { domain = 0; platform = 5; id = 2; payload_size = 0; sequence = 1 }

-- these messages at platform 9; `listed` is the set-up of those that speak Issue 3
pub record WorkedReadings (read : Reader) : Type 0 where
  pub as_three : read (listed (7 ∷ [])) 9 status_of7 ≡ Three its_header7 (message3.PlatformStatus Up 0x11223344) 24 8
  pub as_six : read (listed []) 9 status_of7 ≡ Refused 3
  pub twenty_bytes : read (listed []) 9 (take 20 status_of7) ≡ Refused 3
  pub nineteen_bytes : read (listed []) 9 (take 19 status_of7) ≡ Refused 1
  pub cut_as_three : read (listed (7 ∷ [])) 9 (take 23 status_of7) ≡ Refused 1
  pub its_domain_is_three : read (listed (0 ∷ [])) 9 (request_of5 0) ≡ Six its_header5 message.PlatformStatusRequest 20 0
  pub four_are_three : read (listed (0 ∷ 1 ∷ 2 ∷ 3 ∷ [])) 9 (request_of5 0) ≡ Six its_header5 message.PlatformStatusRequest 20 0
  pub it_is_three : read (listed (5 ∷ [])) 9 (request_of5 0) ≡ Refused 3
  pub another_domain : read (listed (7 ∷ [])) 9 (request_of5 7) ≡ Refused 4

pub record NoCrossReading : Type 0 where
  pub ours : NoCrossReadingBy any_of
  -- whatever the set-up, no bytes are a message of both
  pub never_both : (own reader : ℕ) (s : List ℕ) (h : Header) (m : Message) (start len : ℕ) (h3 : Header3) (m3 : Message3) (start3 len3 : ℕ) →
      read_of own s ≡ six.Read h m start len → read_of3 reader s ≡ three.Read h3 m3 start3 len3 → ⊥
  pub by_byte_two : (i : List ℕ) (own : ℕ) (s : List ℕ) (long : 24 ≤ length s) (mark : number 1 s 0 ≡ 0xEC0A) → ByByteTwo any_of i own s long mark
  pub worked : WorkedReadings any_of

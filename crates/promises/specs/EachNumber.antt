-- Demand 1: no line of the lists of checks (specs/Order, TableOrder, PayloadOrder, Demand1) can go. A list says what is answered to
-- every input, so that without a line it says something else of the inputs for which that line is the first that applies; here is one
-- for each, which breaks that rule alone, and the number that it gets, or the whole refusal. The theorem is in proofs/EachNumber.antt.
use Prim.{Unit}
use Rattle.refusal.specs.Refusal.{refused}
use Rattle.std.specs.Prelude.{ℕ, ◌+◌, ◌*◌, ◌^◌, ◌≡◌, true, List, [], ◌∷◌, ◌++◌, length, replicate}
use Rattle.wire.specs.Bytes.{bytes}
use Rattle.message.specs.declared.Reading.TheVariants as reading
use Rattle.message.specs.declared.Writing.TheVariants as writing
use Rattle.message.specs.Reading.{read_of}
use Rattle.message.specs.Writing.{write_of}
use Rattle.binding.specs.Header.{heading_in}
use Rattle.binding.specs.Cutting.{counted_of, made_of}
use Rattle.joiner.specs.declared.Joiner.{Joiner}
use Rattle.joiner.specs.Setup.{fresh_of, setup_of}
use Rattle.joiner.specs.Take.{changed, taken_of}
use Rattle.table.specs.declared.Sections.{Sections}
use Rattle.types.specs.Table.{checked}
use Rattle.platform.specs.Receiving.{fresh_standing, received_of, sections_outcome}
use Rattle.platform.specs.Noting.{number_given}
use Rattle.requests.specs.Sending.{sent_of, number_given as send_number}
use Rattle.payload.specs.declared.Answer.TheVariants.{Refused, Stopped}
use Rattle.payload.specs.Calls.{number_given as payloadNumber, unpacked_in, packed_in, unpacked, packed}
use Rattle.promises.specs.TableOrder.{sections_in}
use Rattle.promises.specs.Numbers.{whole_table, status}
use Rattle.promises.specs.Cases.{table, uint16, uint8, float32, up_to_three, ◌behind◌}

-- inputs, each with the number, or with the refusal, that it gets
pub record Given (R I : Type 0) : Type 0 where
  pub refusal : R
  pub input : I

infix 68 ◌for◌
abbrev pub ◌for◌ : {R I : Type 0} → R → I → Given R I
◌for◌ r x = record { refusal = r; input = x }

abbrev pub Each : {R I A : Type 0} → (R → A) → (I → A) → List (Given R I) → Type 0
Each refused f [] = Unit {0}
Each refused f (c ∷ cs) = (f c.input ≡ refused c.refusal) × Each refused f cs

-- a message by the fields of 000, Table 2
abbrev pub message : ℕ → ℕ → ℕ → ℕ → ℕ → ℕ → List ℕ → List ℕ
message mark version domain platform id size payload =
    bytes 1 mark ++ (bytes 0 version ++ (bytes 0 domain ++ (bytes 2 platform ++ (bytes 2 id ++ (bytes 2 size ++ (bytes 2 7 ++ payload))))))

-- a table by its four sections: a uint16, no members, no values, no operations
abbrev pub types : List ℕ
types = 0 ∷ 1 ∷ 0 ∷ 0 ∷ 0 ∷ 8 ∷ 0 ∷ 0 ∷ 0 ∷ 0 ∷ []

abbrev pub no_entry : List ℕ
no_entry = 0 ∷ 0 ∷ []

-- and with this section of operations: an entry with an ID, a kind and a type, and one with a response type behind them
abbrev pub operations_of : List ℕ → List ℕ
operations_of section = types ++ (no_entry ++ (no_entry ++ section))

abbrev pub narrow : ℕ → ℕ → ℕ → List ℕ
narrow id kind type = bytes 2 id ++ (bytes 1 kind ++ bytes 1 type)

abbrev pub wide : ℕ → ℕ → ℕ → ℕ → List ℕ
wide id kind type response = narrow id kind type ++ bytes 1 response

-- a joiner of one channel, with its record; and a whole message on channel 5
abbrev pub joiner_of : ℕ → ℕ → ℕ → ℕ → Joiner
joiner_of R sender last held = changed (fresh_of (5 ∷ []) R) 0 (record { sender = sender; seen = true; last = last; held = held })

abbrev pub datagram : List ℕ
datagram = 0x30 ∷ 5 ∷ 0 ∷ 0 ∷ 1 ∷ []

-- 33 sender IDs
abbrev pub too_many : List ℕ
too_many =
    0 ∷ 1 ∷ 2 ∷ 3 ∷ 4 ∷ 5 ∷ 6 ∷ 7 ∷ 8 ∷ 9 ∷ 10 ∷ 11 ∷ 12 ∷ 13 ∷ 14 ∷ 15 ∷ 16
    ∷ 17 ∷ 18 ∷ 19 ∷ 20 ∷ 21 ∷ 22 ∷ 23 ∷ 24 ∷ 25 ∷ 26 ∷ 27 ∷ 28 ∷ 29 ∷ 30 ∷ 31 ∷ 32 ∷ []

-- base code 13
abbrev pub broken_table : List ℕ
broken_table = 0 ∷ 1 ∷ 0 ∷ 0 ∷ 0 ∷ 13 ∷ 0 ∷ 0 ∷ 0 ∷ 0 ∷ 0 ∷ 0 ∷ 0 ∷ 0 ∷ 0 ∷ 0 ∷ []

-- a table whose one operation is a request that we send, of ID 9; and a message with that ID from platform 3
abbrev pub asking : List ℕ
asking = operations_of (bytes 1 1 ++ wide 9 2 0xFFFF 0xFFFF)

abbrev pub an_answer : List ℕ
an_answer = message 0xEC0A 2 1 3 9 0 []

pub record EachNumber : Type 0 where
  -- 1 to 9, read at platform 1
  pub read : Each reading.Refused (read_of 1)
      (1 for []
      ∷ 2 for message 0xEC0B 2 0 3 2 0 []
      ∷ 3 for message 0xEC0A 1 0 3 2 0 []
      ∷ 4 for message 0xEC0A 2 2 3 2 0 []
      ∷ 5 for message 0xEC0A 2 0 3 2 1 []
      ∷ 6 for message 0xEC0A 2 0 1 2 0 []
      ∷ 7 for message 0xEC0A 2 0 3 5 0 []
      ∷ 8 for message 0xEC0A 2 0 3 2 4 (bytes 2 0)
      ∷ 9 for message 0xEC0A 2 0 3 1 4 (bytes 2 2)
      ∷ [])
  -- in writing: domain, ID, payload and room
  pub write_4 : write_of 2 2 [] 20 ≡ writing.Refused 4
  pub write_5 : (payload : List ℕ) → length payload ≡ 2 ^ 32 → write_of 1 0 payload (20 + 2 ^ 32) ≡ writing.Refused 5
  pub write_7 : write_of 0 0 [] 20 ≡ writing.Refused 7
  pub write_8 : write_of 0 2 (bytes 2 0) 24 ≡ writing.Refused 8
  pub write_9 : write_of 0 1 (bytes 2 2) 24 ≡ writing.Refused 9
  pub write_10 : write_of 0 2 [] 19 ≡ writing.Refused 10
  -- a datagram's header; and one that is too long
  pub header : Each refused heading_in (21 for replicate 4 0 ∷ 22 for (0x40 ∷ 5 ∷ 0 ∷ 0 ∷ 1 ∷ []) ∷ [])
  pub header_long : (d : List ℕ) → length d ≡ 65508 → heading_in d ≡ refused 21
  -- a set-up: each line of what 20 asks
  pub setup : Each refused (λ (x : List ℕ × ℕ × ℕ). setup_of x.0 x.1 x.2)
      (20 for ([], 24, 0)
      ∷ 20 for (too_many, 24, 792)
      ∷ 20 for (5 ∷ [], 23, 23)
      ∷ 20 for (5 ∷ [], 65561, 65561)
      ∷ 20 for (5 ∷ [], 24, 25)
      ∷ 20 for (4096 ∷ [], 24, 24)
      ∷ 20 for (5 ∷ 6 ∷ 5 ∷ [], 24, 72)
      ∷ [])
  -- a datagram taken: a joiner, its rooms and the datagram; each line of what 20 asks of a joiner
  pub take : Each refused (λ (x : Joiner × ℕ × List ℕ). (taken_of x.0 (replicate x.1 0) x.2).outcome)
      (20 for (fresh_of [] 24, 0, datagram)
      ∷ 20 for (fresh_of too_many 24, 792, datagram)
      ∷ 20 for (joiner_of 23 5 0 0, 23, datagram)
      ∷ 20 for (joiner_of 24 5 0 0, 25, datagram)
      ∷ 20 for (joiner_of 24 4096 0 0, 24, datagram)
      ∷ 20 for (joiner_of 24 5 65536 0, 24, datagram)
      ∷ 20 for (joiner_of 24 5 0 25, 24, datagram)
      ∷ 20 for (fresh_of (5 ∷ 6 ∷ 5 ∷ []) 24, 72, datagram)
      ∷ 21 for (joiner_of 24 5 0 0, 24, replicate 4 0)
      ∷ 22 for (joiner_of 24 5 0 0, 24, 0x40 ∷ 5 ∷ 0 ∷ 0 ∷ 1 ∷ [])
      ∷ 23 for (joiner_of 24 5 0 0, 24, 0x30 ∷ 6 ∷ 0 ∷ 0 ∷ 1 ∷ [])
      ∷ [])
  pub take_wide : (rooms : List ℕ) → length rooms ≡ 65561 → (taken_of (joiner_of 65561 5 0 0) rooms datagram).outcome ≡ refused 20
  -- cutting: sizes of message and piece; sender and counter; piece and room
  pub pieces : Each refused (λ (x : ℕ × ℕ). counted_of x.0 x.1)
      (50 for (0, 1) ∷ 50 for (65561, 1) ∷ 50 for (1, 0) ∷ 50 for (1, 65504) ∷ [])
  pub cut : Each refused (λ (x : ℕ × ℕ × ℕ × ℕ). made_of (9 ∷ []) 1 x.0 x.1 x.2 x.3)
      (50 for (4096, 0, 0, 5) ∷ 50 for (0, 65536, 0, 5) ∷ 51 for (0, 0, 1, 5) ∷ 52 for (0, 0, 0, 4) ∷ [])
  -- a table: each section's count cut off, outside its limit, and its entries cut off; bytes after the end; a rule; a size
  pub table_checks : Each refused checked
      (30 for (0 ∷ [])
      ∷ 31 for (0 ∷ 0 ∷ [])
      ∷ 31 for (1 ∷ 1 ∷ [])
      ∷ 30 for (0 ∷ 1 ∷ 0 ∷ 0 ∷ [])
      ∷ 30 for (types ++ (0 ∷ []))
      ∷ 31 for (types ++ (4 ∷ 1 ∷ []))
      ∷ 30 for (types ++ (0 ∷ 1 ∷ 0 ∷ []))
      ∷ 30 for (types ++ (no_entry ++ (0 ∷ [])))
      ∷ 31 for (types ++ (no_entry ++ (4 ∷ 1 ∷ [])))
      ∷ 30 for (types ++ (no_entry ++ (0 ∷ 1 ∷ 0 ∷ [])))
      ∷ 30 for operations_of (0 ∷ [])
      ∷ 31 for operations_of (4 ∷ 1 ∷ [])
      -- a versioned data that lacks a byte of its 8; a request that has 8, and lacks one of its 10
      ∷ 30 for operations_of (0 ∷ 1 ∷ (bytes 2 1 ++ (bytes 1 1 ++ (0 ∷ []))))
      ∷ 30 for operations_of (0 ∷ 1 ∷ (bytes 2 1 ++ (bytes 1 2 ++ (bytes 1 0 ++ (0 ∷ [])))))
      ∷ 30 for operations_of (0 ∷ 1 ∷ (bytes 2 1 ++ (bytes 1 3 ++ (bytes 1 0 ++ (0 ∷ [])))))
      -- bytes after no operation; and after one whose kind has no response type
      ∷ 30 for operations_of (0 ∷ 0 ∷ 0 ∷ [])
      ∷ 30 for operations_of (0 ∷ 1 ∷ (narrow 1 1 0 ++ bytes 1 0))
      ∷ 30 for operations_of (0 ∷ 1 ∷ (narrow 1 4 0 ++ bytes 1 0))
      -- a type; an operation's kind, its type, its response type, and its ID; 65,535 double64
      ∷ 32 for broken_table
      ∷ 32 for operations_of (0 ∷ 1 ∷ narrow 1 4 0)
      ∷ 32 for operations_of (0 ∷ 1 ∷ narrow 1 0 1)
      ∷ 32 for operations_of (0 ∷ 1 ∷ narrow 1 1 0xFFFF)
      ∷ 32 for operations_of (0 ∷ 1 ∷ wide 1 2 1 0)
      ∷ 32 for operations_of (0 ∷ 1 ∷ wide 1 2 0 1)
      ∷ 32 for operations_of (0 ∷ 1 ∷ wide 1 3 1 0)
      ∷ 32 for operations_of (0 ∷ 1 ∷ wide 1 3 0 1)
      ∷ 32 for operations_of (0 ∷ 1 ∷ narrow 0xFFFFFFFF 0 0)
      ∷ 32 for operations_of (0 ∷ 2 ∷ (wide 7 2 0 0 ++ narrow 7 0 0))
      ∷ 33 for
      (0 ∷ 2 ∷ 0 ∷ 0 ∷ 0 ∷ 12 ∷ 0 ∷ 0 ∷ 0 ∷ 0 ∷ 0 ∷ 3 ∷ 0 ∷ 0 ∷ 0 ∷ 0 ∷ 0xFF ∷ 0xFF ∷ no_entry ++ (no_entry ++ no_entry))
      ∷ [])
  -- a payload of the table of specs/Cases: type, payload and room; 40 to 43 with the spot, in an array behind its count and an element
  pub unpack : Each (λ r. r) (λ (x : ℕ × List ℕ × ℕ). unpacked table x.0 x.1 x.2)
      (Refused 44 for (7, [], 9)
      ∷ Stopped 40 (0 behind 0) for (uint16, 1 ∷ [], 9)
      ∷ Stopped 40 (5 behind 2) for (up_to_three, 0 ∷ 0 ∷ 0 ∷ 2 ∷ 1 ∷ [], 9)
      ∷ Stopped 42 (0 behind 0) for (float32, 0x7F ∷ 0x80 ∷ 0 ∷ 0 ∷ [], 9)
      ∷ Stopped 43 (0 behind 0) for (up_to_three, 0 ∷ 0 ∷ 0 ∷ 4 ∷ 1 ∷ 2 ∷ 3 ∷ 4 ∷ [], 9)
      ∷ Stopped 41 (1 behind 1) for (uint8, 1 ∷ 2 ∷ [], 9)
      ∷ Stopped 41 (5 behind 2) for (up_to_three, 0 ∷ 0 ∷ 0 ∷ 1 ∷ 7 ∷ 8 ∷ 9 ∷ [], 9)
      ∷ Refused 45 for (uint16, 1 ∷ 2 ∷ [], 0)
      ∷ [])
  pub pack : Each (λ r. r) (λ (x : ℕ × List ℕ × ℕ). packed table x.0 x.1 x.2)
      (Refused 44 for (7, [], 9)
      ∷ Stopped 40 (0 behind 0) for (uint16, [], 9)
      ∷ Stopped 40 (2 behind 2) for (up_to_three, 2 ∷ 1 ∷ [], 9)
      ∷ Stopped 42 (0 behind 0) for (uint8, 256 ∷ [], 9)
      ∷ Stopped 42 (2 behind 2) for (up_to_three, 2 ∷ 1 ∷ 256 ∷ [], 9)
      ∷ Stopped 43 (0 behind 0) for (up_to_three, 4 ∷ 1 ∷ 2 ∷ 3 ∷ 4 ∷ [], 9)
      ∷ Stopped 41 (1 behind 1) for (uint8, 1 ∷ 2 ∷ [], 9)
      ∷ Refused 45 for (uint16, 258 ∷ [], 1)
      ∷ [])
  -- on sections: which do not lie in the bytes; and an entry that breaks a rule, where it is met
  pub on_sections : Each (λ n. n) (λ (x : List ℕ × Sections). payloadNumber (unpacked_in x.0 x.1 0 (1 ∷ 2 ∷ []) 9))
      (30 for ([], sections_in types) ∷ 32 for (broken_table, sections_in broken_table) ∷ [])
  pub packing_on_sections : Each (λ n. n) (λ (x : List ℕ × Sections). payloadNumber (packed_in x.0 x.1 0 (258 ∷ []) 9))
      (30 for ([], sections_in types) ∷ 32 for (broken_table, sections_in broken_table) ∷ [])
  -- one call for one message: two replies of 24 bytes are owed to an UP; and no request is pending
  pub receive_10 : number_given (received_of 1 whole_table (fresh_standing 1) [] status 47).answer ≡ 10
  pub receive_61 : number_given (received_of 1 asking (fresh_standing 1) [] an_answer 0).answer ≡ 61
  pub receive_on_sections : Each (λ n. n) (λ (x : List ℕ × ℕ).
      number_given (sections_outcome 1 x.0 (sections_in whole_table) [] (fresh_standing 1) [] status x.1).answer)
      (30 for ([], 48) ∷ 10 for (whole_table, 47) ∷ [])
  -- the index says where the only operation stands
  pub receive_on_sections_61 : number_given
      (sections_outcome 1 asking (sections_in asking) ((9 * 2 ^ 32 + 16) ∷ []) (fresh_standing 1) [] an_answer 0).answer ≡ 61
  -- a request sent: the list, the operation's kind, the payload and the room
  pub send : Each (λ n. n) (λ (x : List ℕ × ℕ × List ℕ × ℕ). send_number (sent_of 0 x.0 x.1 9 x.2 x.3).answer)
      (62 for (replicate 128 0, 3, [], 20)
      ∷ 60 for (replicate 128 (2 ^ 32), 2, [], 20)
      ∷ 10 for (replicate 128 0, 2, [], 19)
      ∷ [])
  pub send_5 : (payload : List ℕ) → length payload ≡ 2 ^ 32 → send_number (sent_of 0 (replicate 128 0) 2 9 payload (20 + 2 ^ 32)).answer ≡ 5

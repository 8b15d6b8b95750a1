-- 02, request 8, worked out in bytes: platform 1, whose composite is 99, at 2 s 2 ns, and its partner 2, which speaks Issue 3. 2 comes UP;
-- asks for all services, of which 21 is AVAILABLE and 22 UNAVAILABLE; asks for 5, which is none of ours; and hears the answer. The theorem
-- is in proofs/WorkedReplies3.antt.
use Rattle.std.specs.Prelude.{ℕ, ◌+◌, ◌*◌, ◌^◌, ◌≡◌, true, false, List, [], ◌∷◌, replicate}
use Rattle.std.specs.Prelude.{Ok}
use Rattle.table.specs.declared.Sections.{Sections}
use Rattle.types.specs.Table.{checked}
use Rattle.message3.specs.declared.Header3.{Header3}
use Rattle.states.specs.States.{stands_up}
use Rattle.services.specs.declared.Availability.TheVariants.{Unheard, Unavailable, Available}
use Rattle.services.specs.Block.{availability_in}
use Rattle.partners.specs.Threes.{listed}
use Rattle.platform.specs.declared.reactions.Standing.{Standing}
use Rattle.platform.specs.Receiving.{fresh_standing}
use Rattle.mixed.specs.declared.AnyAnswer.TheVariants.{Refused}
use Rattle.promises.specs.Owed3.{MixedCall}
use Rattle.promises.specs.Replies3.{our_receiving3, our_outcome, our_output, our_words, block_at}
use Rattle.promises.specs.ServicesAcross.{Hears}

-- a type table with one type and no operation
abbrev pub bare_table : List ℕ
bare_table = 0 ∷ 1 ∷ 0 ∷ 0 ∷ 0 ∷ 8 ∷ 0 ∷ 0 ∷ 0 ∷ 0 ∷ 0 ∷ 0 ∷ 0 ∷ 0 ∷ 0 ∷ 0 ∷ []

-- a call at platform 1, whose partner 2 speaks Issue 3: our services, what is kept, the message, and the bytes of room
abbrev pub at_one : List ℕ → Standing → List ℕ → ℕ → MixedCall
at_one ours p m room =
    record {
      own = 1;
      stamp = record { seconds = 2; nanoseconds = 2 };
      composite = 99;
      partners = listed (2 ∷ []);
      ours = ours;
      table = bare_table;
      standing = p;
      pending = [];
      services = replicate 256 0;
      message = m;
      output = replicate room 0;
    }

-- UP of 2 with composite 0x11223344, at 5 s 6 ns, number 9; its requests for all services, number 1, and for service 5, number 70
abbrev pub up_of2 : List ℕ
up_of2 =
    0xEC ∷ 0x0A ∷ 0x10 ∷ 2 ∷ 0 ∷ 0 ∷ 0 ∷ 1 ∷ 0 ∷ 0 ∷ 0 ∷ 5 ∷ 0 ∷ 0 ∷ 0 ∷ 6 ∷ 0 ∷ 0 ∷ 0 ∷ 8 ∷ 0 ∷ 0 ∷ 0 ∷ 9
    ∷ 0 ∷ 0 ∷ 0 ∷ 1 ∷ 0x11 ∷ 0x22 ∷ 0x33 ∷ 0x44 ∷ []

abbrev pub asks_for_all_of1 : List ℕ
asks_for_all_of1 =
    0xEC ∷ 0x0A ∷ 0x10 ∷ 2 ∷ 0 ∷ 0 ∷ 0 ∷ 4 ∷ 0 ∷ 0 ∷ 0 ∷ 5 ∷ 0 ∷ 0 ∷ 0 ∷ 6 ∷ 0 ∷ 0 ∷ 0 ∷ 4 ∷ 0 ∷ 0 ∷ 0 ∷ 1
    ∷ 0xFF ∷ 0xFF ∷ 0xFF ∷ 0xFF ∷ []

abbrev pub asks_for5 : List ℕ
asks_for5 =
    0xEC ∷ 0x0A ∷ 0x10 ∷ 2 ∷ 0 ∷ 0 ∷ 0 ∷ 4 ∷ 0 ∷ 0 ∷ 0 ∷ 5 ∷ 0 ∷ 0 ∷ 0 ∷ 6 ∷ 0 ∷ 0 ∷ 0 ∷ 4 ∷ 0 ∷ 0 ∷ 0 ∷ 70
    ∷ 0 ∷ 0 ∷ 0 ∷ 5 ∷ []

-- (21, AVAILABLE), (22, UNAVAILABLE)
abbrev pub ours2122 : List ℕ
ours2122 = (2 * 2 ^ 32 + 21) ∷ (1 * 2 ^ 32 + 22) ∷ []

-- status UP with composite 99, number 0; availability request for all, number 1; pull of all, number 2
abbrev pub start_up88 : List ℕ
start_up88 =
    0xEC ∷ 0x0A ∷ 0x10 ∷ 1 ∷ 0 ∷ 0 ∷ 0 ∷ 1 ∷ 0 ∷ 0 ∷ 0 ∷ 2 ∷ 0 ∷ 0 ∷ 0 ∷ 2 ∷ 0 ∷ 0 ∷ 0 ∷ 8 ∷ 0 ∷ 0 ∷ 0 ∷ 0
    ∷ 0 ∷ 0 ∷ 0 ∷ 1 ∷ 0 ∷ 0 ∷ 0 ∷ 99
    ∷ 0xEC ∷ 0x0A ∷ 0x10 ∷ 1 ∷ 0 ∷ 0 ∷ 0 ∷ 4 ∷ 0 ∷ 0 ∷ 0 ∷ 2 ∷ 0 ∷ 0 ∷ 0 ∷ 2 ∷ 0 ∷ 0 ∷ 0 ∷ 4 ∷ 0 ∷ 0 ∷ 0 ∷ 1
    ∷ 0xFF ∷ 0xFF ∷ 0xFF ∷ 0xFF
    ∷ 0xEC ∷ 0x0A ∷ 0x10 ∷ 1 ∷ 0 ∷ 0 ∷ 0 ∷ 7 ∷ 0 ∷ 0 ∷ 0 ∷ 2 ∷ 0 ∷ 0 ∷ 0 ∷ 2 ∷ 0 ∷ 0 ∷ 0 ∷ 4 ∷ 0 ∷ 0 ∷ 0 ∷ 2
    ∷ 0xFF ∷ 0xFF ∷ 0xFF ∷ 0xFF ∷ []

-- a status of two services, number 1; of service 5, number 70
abbrev pub tells2122 : List ℕ
tells2122 =
    0xEC ∷ 0x0A ∷ 0x10 ∷ 1 ∷ 0 ∷ 0 ∷ 0 ∷ 3 ∷ 0 ∷ 0 ∷ 0 ∷ 2 ∷ 0 ∷ 0 ∷ 0 ∷ 2 ∷ 0 ∷ 0 ∷ 0 ∷ 20 ∷ 0 ∷ 0 ∷ 0 ∷ 1
    ∷ 0 ∷ 0 ∷ 0 ∷ 2 ∷ 0 ∷ 0 ∷ 0 ∷ 21 ∷ 0 ∷ 0 ∷ 0 ∷ 1 ∷ 0 ∷ 0 ∷ 0 ∷ 22 ∷ 0 ∷ 0 ∷ 0 ∷ 0 ∷ []

abbrev pub tells5 : List ℕ
tells5 =
    0xEC ∷ 0x0A ∷ 0x10 ∷ 1 ∷ 0 ∷ 0 ∷ 0 ∷ 3 ∷ 0 ∷ 0 ∷ 0 ∷ 2 ∷ 0 ∷ 0 ∷ 0 ∷ 2 ∷ 0 ∷ 0 ∷ 0 ∷ 12 ∷ 0 ∷ 0 ∷ 0 ∷ 70
    ∷ 0 ∷ 0 ∷ 0 ∷ 1 ∷ 0 ∷ 0 ∷ 0 ∷ 5 ∷ 0 ∷ 0 ∷ 0 ∷ 0 ∷ []

-- platform 2, whose partner 1 speaks Issue 3, hears what 1 told
abbrev pub at_two : MixedCall
at_two =
    record {
      own = 2;
      stamp = record { seconds = 3; nanoseconds = 3 };
      composite = 98;
      partners = listed (1 ∷ []);
      ours = [];
      table = bare_table;
      standing = fresh_standing 2;
      pending = [];
      services = replicate 256 0;
      message = tells2122;
      output = replicate 28 0;
    }

-- the header of the request for all
abbrev pub asks_header : Header3
asks_header = record { domain = 0; platform = 2; id = 4; seconds = 5; nanoseconds = 6; payload_size = 4; sequence = 1 }

pub record WorkedReplies3 : Type 0 where
  pub start_up : our_output (at_one [] (fresh_standing 1) up_of2 88) ≡ start_up88
  pub next_is_3 : (our_outcome (at_one [] (fresh_standing 1) up_of2 88)).standing.next ≡ 3
  pub now_up : stands_up 1 (our_outcome (at_one [] (fresh_standing 1) up_of2 88)).standing.states 2 ≡ true
  -- one byte less: 10, still DOWN, next 0
  pub one_less : (our_outcome (at_one [] (fresh_standing 1) up_of2 87)).answer ≡ Refused 10
  pub next_is_0 : (our_outcome (at_one [] (fresh_standing 1) up_of2 87)).standing.next ≡ 0
  pub still_down : stands_up 1 (our_outcome (at_one [] (fresh_standing 1) up_of2 87)).standing.states 2 ≡ false
  pub all_told : our_output (at_one ours2122 (fresh_standing 1) asks_for_all_of1 44) ≡ tells2122
  pub one_told : our_output (at_one ours2122 (fresh_standing 1) asks_for5 36) ≡ tells5
  -- and heard: such a pair of calls is one of specs/ServicesAcross
  pub hears : (s : Sections) → checked bare_table ≡ Ok s → Hears our_receiving3 (at_one ours2122 (fresh_standing 1) asks_for_all_of1 44) at_two s asks_header
  pub service_21 : availability_in (block_at at_two 1 (our_words at_two)) 21 ≡ Available
  pub service_22 : availability_in (block_at at_two 1 (our_words at_two)) 22 ≡ Unavailable
  pub service_23 : availability_in (block_at at_two 1 (our_words at_two)) 23 ≡ Unheard

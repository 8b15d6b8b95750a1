-- 02, request 8, theorem 6, of the calls as programs in C have them (include/nyrkovash.h), over their very contracts: the owed replies to a
-- message of Issue 3 at the output's start, the platform's words, and in twelve words what was heard; and our services, told to a partner
-- that asks for all of them, asked there one by one. The theorems are in proofs/LinkedReplies3.antt.
use Rattle.std.specs.Prelude.{ℕ, ◌+◌, ◌-◌, ◌*◌, ◌/◌, ◌^◌, ◌≤◌, ◌<◌, ◌≡◌, true, false, cond, List, [], ◌∷◌, eqb, length, get_or, take, drop}
use Rattle.std.specs.Prelude.{Ok}
use Rattle.wire.specs.Bytes.{Octets}
use Rattle.table.specs.declared.Sections.{Sections}
use Rattle.types.specs.Table.{checked}
use Rattle.message.specs.Platform.{status_value}
use Rattle.message3.specs.declared.Header3.{Header3}
use Rattle.message3.specs.declared.Message3.{Message3}
use Rattle.message3.specs.declared.Message3.TheVariants as message3
use Rattle.message3.specs.Platform.{agreement_value}
use Rattle.services.specs.Block.{note_refusal}
use Rattle.partners.specs.Threes.{is_three}
use Rattle.states.specs.States.{stands_up}
use Rattle.platform.specs.Reaction.{found_data}
use Rattle.platform_words.specs.Words.{standing_in, pending_in}
use Rattle.mixed.specs.declared.AnyReading.TheVariants as reading
use Rattle.mixed.specs.Reading.{any_of}
use Rattle.mixed_words.specs.TableCalls.{mixed_number, mixed_words, mixed_services, mixed_output, mixed_heard}
use Rattle.mixed_words.specs.ServiceCalls.{service_number}
use Rattle.nyrkovash.proofs.nyr_receive_mixed.Reads.{Post as nyr-receive-mixed}
use Rattle.nyrkovash.proofs.nyr_receive_mixed_in.Reads.{Post as nyr-receive-mixed-in}
use Rattle.nyrkovash.proofs.nyr_service.Reads.{Post as nyr-service}
use Rattle.promises.specs.Reports.{IsKind2}
use Rattle.promises.specs.Platforms.{operation_with, is_there}
use Rattle.promises.specs.LinkedPayloads.{Whenever}
use Rattle.promises.specs.LinkedReplies.{UpIs, entry_of, CheckLeft}
use Rattle.promises.specs.Services.{KemptBlock}
use Rattle.promises.specs.Owed3.{MixedCall, id_of, owed_for3, state_after3, next_after3, bytes_owed, AreReplies3}
use Rattle.promises.specs.Replies3.{moves_services, BlockTakes, Countable, IsThere, block_at}
use Rattle.promises.specs.ServicesAcross.{word_at}

-- what the call is handed: own number; timestamp and composite's ID in three numbers; who speaks Issue 3; our services; the platform's
-- words, those of the partners' services, table, message and output
abbrev pub call_of : ℕ → List ℕ → List ℕ → List ℕ → List ℕ → List ℕ → List ℕ → List ℕ → List ℕ → MixedCall
call_of own st i ours ws sv t m out =
    record {
      own = own;
      stamp = record { seconds = get_or st 0 0; nanoseconds = get_or st 1 0 };
      composite = get_or st 2 0;
      partners = i;
      ours = ours;
      table = t;
      standing = standing_in ws;
      pending = pending_in ws;
      services = sv;
      message = m;
      output = out;
    }

-- what was heard: the kind of it, its value, sender and sequence number of the message, the operation's entry in the table, where its
-- payload starts and how long it is, the bytes of replies; the issue, the timestamp, and a status's composite ID
abbrev pub heard_is3 : Header3 → ℕ → ℕ → ℕ → ℕ → ℕ → ℕ → ℕ → List ℕ
heard_is3 h n kind value entry start len composite =
    kind ∷ value ∷ h.platform ∷ h.sequence ∷ entry ∷ start ∷ len ∷ n ∷ 3 ∷ h.seconds ∷ h.nanoseconds ∷ composite ∷ []

-- 1 to 8 as of Issue 6; 10 a status of services, 11 a request for them, 12 a service that is not available, 13 a composite change, 14 what
-- answers it
abbrev pub heard_for3 : MixedCall → Sections → Header3 → ℕ → Message3 → List ℕ
heard_for3 c s h n (message3.PlatformStatus x composite) = heard_is3 h n 1 (status_value x) 0 0 0 composite
heard_for3 c s h n message3.PlatformStatusRequest = heard_is3 h n 2 0 0 0 0 0
heard_for3 c s h n (message3.AvailabilityStatus k) = heard_is3 h n 10 k 0 24 (length c.message - 24) 0
heard_for3 c s h n (message3.AvailabilityStatusRequest id) = heard_is3 h n 11 id 0 0 0 0
heard_for3 c s h n (message3.UnknownOperation id) = heard_is3 h n 3 id 0 0 0 0
heard_for3 c s h n (message3.ServiceNotAvailable id) = heard_is3 h n 12 id 0 0 0 0
heard_for3 c s h n (message3.VersionedDataPull id) =
    cond (eqb id 0xFFFFFFFF) (heard_is3 h n 4 0 0 0 0 0)
    (cond (found_data c.table (operation_with c.table s id)) (heard_is3 h n 5 id (entry_of (operation_with c.table s id)) 0 0 0)
    (heard_is3 h n 6 id 0 0 0 0))
heard_for3 c s h n (message3.CompositeChangeRequest composite) = heard_is3 h n 13 composite 0 0 0 0
heard_for3 c s h n (message3.CompositeChangeRequestAck a) = heard_is3 h n 14 (agreement_value a) 0 0 0 0
heard_for3 c s h n message3.Operation =
    cond (is_there (operation_with c.table s h.id))
    (heard_is3 h n 7 h.id (entry_of (operation_with c.table s h.id)) 24 (length c.message - 24) 0)
    (heard_is3 h n 8 h.id 0 0 0 0)

-- the numbers that a program hands over are as wide as their types; the table is one that may be used; and the message is of Issue 3, with
-- this header and of this kind
pub record Comes3 (c : MixedCall) (s : Sections) (h : Header3) (kind : Message3) : Type 0 where
  pub platform : c.own < 256
  pub seconds : c.stamp.seconds < 2 ^ 32
  pub nanoseconds : c.stamp.nanoseconds < 2 ^ 32
  pub composite : c.composite < 2 ^ 32
  pub bytes : Octets c.message
  pub table : checked c.table ≡ Ok s
  pub start : ℕ
  pub len : ℕ
  pub read : any_of c.partners c.own c.message ≡ reading.Three h kind start len
  pub no_response : kind ≡ message3.Operation → ¬ (IsKind2 c.table s h.id)

-- a call that gives back this number, and leaves these words of the platform and of services, this output and these words of what was
-- heard, says so; `ws` and `was` are the platform's words and those of what was heard before it
pub record Says3 (c : MixedCall) (ws : List ℕ) (s : Sections) (h : Header3) (kind : Message3) (n : ℕ) (after words left heard : List ℕ) : Type 0 where
  pub number : n ≡ 0
  pub replies : AreReplies3 h.platform c (take (bytes_owed (owed_for3 c s h kind)) left) (owed_for3 c s h kind)
  pub rest : drop (bytes_owed (owed_for3 c s h kind)) left ≡ drop (bytes_owed (owed_for3 c s h kind)) c.output
  pub heard-is : heard ≡ heard_for3 c s h (bytes_owed (owed_for3 c s h kind)) kind
  pub states : UpIs c.own after (state_after3 c h kind)
  pub next : get_or after 4 0 ≡ next_after3 c h kind
  pub pending : drop 5 after ≡ drop 5 ws
  pub services : moves_services c h kind ≡ false → words ≡ c.services

pub record Refuses3 (c : MixedCall) (ws was : List ℕ) (k n : ℕ) (after words left heard : List ℕ) : Type 0 where
  pub number : n ≡ k
  pub platform : after ≡ ws
  pub services : words ≡ c.services
  pub output : left ≡ c.output
  pub heard_stays : heard ≡ was

pub record Answered3 (c : MixedCall) (ws was : List ℕ) (s : Sections) (h : Header3) (kind : Message3) (n : ℕ) (after words left heard : List ℕ) : Type 0 where
  pub fit : Countable c kind → BlockTakes c h kind → bytes_owed (owed_for3 c s h kind) ≤ length c.output
      → Says3 c ws s h kind n after words left heard
  pub do_not_fit : Countable c kind → length c.output < bytes_owed (owed_for3 c s h kind) → Refuses3 c ws was 10 n after words left heard
  pub too_many : kind ≡ message3.AvailabilityStatusRequest 0xFFFFFFFF → 2 ^ 29 ≤ length c.ours → Refuses3 c ws was 5 n after words left heard

-- whoever asks these words for a service of this platform is told this number
abbrev pub ServiceIs : List ℕ → List ℕ → ℕ → ℕ → ℕ → Type 0
ServiceIs i ws platform id state =
    Whenever nyr-service (λ k a n e. a.0.now ≡ i → a.1.0.now ≡ ws → a.1.1.0 ≡ platform → a.1.1.1.0 ≡ id → n ≡ state)

-- the partner of the header, in the call d, hears what the call c left in its output
pub record HearsIt (c d : MixedCall) (s : Sections) (h : Header3) (left : List ℕ) : Type 0 where
  pub asked : Comes3 c s h (message3.AvailabilityStatusRequest 0xFFFFFFFF)
  pub few : length c.ours < 2 ^ 29
  pub room : 28 + 8 * length c.ours ≤ length c.output
  pub platform : d.own ≡ h.platform
  pub seconds : d.stamp.seconds < 2 ^ 32
  pub nanoseconds : d.stamp.nanoseconds < 2 ^ 32
  pub composite : d.composite < 2 ^ 32
  pub bytes : Octets d.message
  pub its_sections : Sections
  pub its_table : checked d.table ≡ Ok its_sections
  pub set_up : is_three d.partners c.own ≡ true
  pub there : IsThere d c.own
  pub kempt : KemptBlock (block_at d c.own d.services)
  pub carried : d.message ≡ take (28 + 8 * length c.ours) left
  pub takes : note_refusal (block_at d c.own d.services) (drop 24 d.message) ≡ 0

-- and knows our services: 2 AVAILABLE, 1 UNAVAILABLE. Whatever else is asked of it, it answers as before: other services of ours, those of
-- other platforms, who is UP; its next own number and what is pending stay, and it owes nothing
pub record KnowsOurs (c d : MixedCall) (ws : List ℕ) (n : ℕ) (after words left : List ℕ) : Type 0 where
  pub number : n ≡ 0
  pub each : (k : ℕ) → k < length c.ours → ((j : ℕ) → k < j → j < length c.ours → ¬ (id_of (word_at c j) ≡ id_of (word_at c k)))
      → ServiceIs d.partners words c.own (id_of (word_at c k)) (cond (eqb (word_at c k / 2 ^ 32) 2) 2 1)
  pub others : (x : ℕ) → ((k : ℕ) → k < length c.ours → ¬ (id_of (word_at c k) ≡ x))
      → ServiceIs d.partners words c.own x (service_number d.partners d.services c.own x)
  pub other_platforms : (j x : ℕ) → ¬ (j ≡ c.own) → ServiceIs d.partners words j x (service_number d.partners d.services j x)
  pub output : left ≡ d.output
  pub states : UpIs d.own after (stands_up d.own d.standing.states)
  pub next : get_or after 4 0 ≡ d.standing.next
  pub pending : drop 5 after ≡ drop 5 ws

-- as `nyr_receive_mixed` has it
abbrev pub AsOnTable : ℕ → List ℕ → List ℕ → List ℕ → List ℕ → List ℕ → List ℕ → List ℕ → List ℕ → List ℕ → ℕ → List ℕ → List ℕ → List ℕ → List ℕ → Type 0
AsOnTable own st i ours ws sv t m out was n after words left heard =
    (n ≡ mixed_number own i ours ws sv t m out) × (after ≡ mixed_words own i ours ws sv t m out)
    × (words ≡ mixed_services own i ours ws sv t m out) × (left ≡ mixed_output own st i ours ws sv t m out)
    × (heard ≡ mixed_heard own i ours ws sv t m out was)

pub record LinkedReplies3 : Type 0 where
  pub receive : (s : Sections) (h : Header3) (kind : Message3) → Whenever nyr-receive-mixed (λ k a n e.
      Comes3 (call_of a.0 a.1.0.now a.1.1.0.now a.1.1.1.0.now a.1.1.1.1.0.now a.1.1.1.1.1.0.now
      a.1.1.1.1.1.1.0.now a.1.1.1.1.1.1.1.0.now a.1.1.1.1.1.1.1.1.0.now) s h kind →
      Answered3 (call_of a.0 a.1.0.now a.1.1.0.now a.1.1.1.0.now a.1.1.1.1.0.now a.1.1.1.1.1.0.now
      a.1.1.1.1.1.1.0.now a.1.1.1.1.1.1.1.0.now a.1.1.1.1.1.1.1.1.0.now)
      a.1.1.1.1.0.now a.1.1.1.1.1.1.1.1.1.0.now s h kind n
      e.1.1.1.1.0.now e.1.1.1.1.1.0.now e.1.1.1.1.1.1.1.1.0.now e.1.1.1.1.1.1.1.1.1.0.now)
  -- with the words that the check left for the table: its sections, and behind them the index of its operations
  pub receive-in : (s : Sections) (h : Header3) (kind : Message3) (words : List ℕ) → Whenever nyr-receive-mixed-in (λ k a n e.
      Comes3 (call_of a.0 a.1.0.now a.1.1.0.now a.1.1.1.0.now a.1.1.1.1.0.now
      a.1.1.1.1.1.0.now a.1.1.1.1.1.1.0.now a.1.1.1.1.1.1.1.1.0.now a.1.1.1.1.1.1.1.1.1.0.now) s h kind →
      CheckLeft a.1.1.1.1.1.1.0.now s words a.1.1.1.1.1.1.1.0.now →
      Answered3 (call_of a.0 a.1.0.now a.1.1.0.now a.1.1.1.0.now a.1.1.1.1.0.now
      a.1.1.1.1.1.0.now a.1.1.1.1.1.1.0.now a.1.1.1.1.1.1.1.1.0.now a.1.1.1.1.1.1.1.1.1.0.now)
      a.1.1.1.1.0.now a.1.1.1.1.1.1.1.1.1.1.0.now s h kind n
      e.1.1.1.1.0.now e.1.1.1.1.1.0.now e.1.1.1.1.1.1.1.1.1.0.now e.1.1.1.1.1.1.1.1.1.1.0.now)
  -- whatever the message, of either issue, the call on those words gives back and leaves what the call on table bytes does
  pub alike : (s : Sections) (words : List ℕ) → Whenever nyr-receive-mixed-in (λ k a n e.
      checked a.1.1.1.1.1.1.0.now ≡ Ok s → CheckLeft a.1.1.1.1.1.1.0.now s words a.1.1.1.1.1.1.1.0.now →
      AsOnTable a.0 a.1.0.now a.1.1.0.now a.1.1.1.0.now a.1.1.1.1.0.now a.1.1.1.1.1.0.now
      a.1.1.1.1.1.1.0.now a.1.1.1.1.1.1.1.1.0.now a.1.1.1.1.1.1.1.1.1.0.now
      a.1.1.1.1.1.1.1.1.1.1.0.now n
      e.1.1.1.1.0.now e.1.1.1.1.1.0.now e.1.1.1.1.1.1.1.1.1.0.now e.1.1.1.1.1.1.1.1.1.1.0.now)
  -- our services, asked for in one call and heard of in another
  pub across : (s : Sections) (h : Header3) → Whenever nyr-receive-mixed (λ k a n e. Whenever nyr-receive-mixed (λ j b m f.
      HearsIt (call_of a.0 a.1.0.now a.1.1.0.now a.1.1.1.0.now a.1.1.1.1.0.now a.1.1.1.1.1.0.now
      a.1.1.1.1.1.1.0.now a.1.1.1.1.1.1.1.0.now a.1.1.1.1.1.1.1.1.0.now)
      (call_of b.0 b.1.0.now b.1.1.0.now b.1.1.1.0.now b.1.1.1.1.0.now b.1.1.1.1.1.0.now
      b.1.1.1.1.1.1.0.now b.1.1.1.1.1.1.1.0.now b.1.1.1.1.1.1.1.1.0.now) s h
      e.1.1.1.1.1.1.1.1.0.now →
      KnowsOurs (call_of a.0 a.1.0.now a.1.1.0.now a.1.1.1.0.now a.1.1.1.1.0.now a.1.1.1.1.1.0.now
      a.1.1.1.1.1.1.0.now a.1.1.1.1.1.1.1.0.now a.1.1.1.1.1.1.1.1.0.now)
      (call_of b.0 b.1.0.now b.1.1.0.now b.1.1.1.0.now b.1.1.1.1.0.now b.1.1.1.1.1.0.now
      b.1.1.1.1.1.1.0.now b.1.1.1.1.1.1.1.0.now b.1.1.1.1.1.1.1.1.0.now)
      b.1.1.1.1.0.now m f.1.1.1.1.0.now f.1.1.1.1.1.0.now f.1.1.1.1.1.1.1.1.0.now))

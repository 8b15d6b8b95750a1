-- 02, request 1: "Over any calls the list answers as a plain map does." Beside what calls answer and leave on the list (specs/RequestCalls)
-- stands what the same calls answer and leave on a plain map from numbers to ID and target, which can insert, look up, delete and count,
-- and has no places. The theorem is in proofs/RequestRuns.antt.
use Rattle.std.specs.Prelude.{ℕ, ◌+◌, ◌%◌, ◌^◌, ◌≤◌, ◌<◌, ◌≡◌, List, [], ◌∷◌, ◌++◌, length, drop}
use Rattle.std.specs.Prelude.{Some}
use Rattle.table.specs.declared.Sections.{Sections}
use Rattle.message.specs.declared.Header.{Header}
use Rattle.message.specs.declared.Message.TheVariants as message
use Rattle.message.specs.declared.Reading.TheVariants as reading
use Rattle.message.specs.Reading.{read_of}
use Rattle.message.specs.Writing.{message_bytes}
use Rattle.pending.specs.Free.{IsNextFree}
use Rattle.pending.specs.PlainMap.{Map, taken, empty_map, inserted, deleted, fresh_list, LikeMap}
use Rattle.pending.specs.Turns.{Kempt}
use Rattle.requests.specs.declared.Sent.TheVariants as sent
use Rattle.platform.specs.declared.reactions.Standing.{Standing}
use Rattle.platform.specs.declared.Noting.TheVariants as noting
use Rattle.platform.specs.Receiving.{fresh_standing, received_of, left_of}
use Rattle.promises.specs.Checks.{Check, ◌when◌, Answers}
use Rattle.promises.specs.RequestCalls.{HasKind, RequestCall, send, receive, cancel, ask, AllFair}
use Rattle.promises.specs.RequestCalls.{of_send, of_receive, whether, what, Shown, shown, Listing, our_listing, shows_all, leaves_all}

-- what is seen of a call on the map, and the map after it
pub record OnMap : Type 0 where
  pub seen : Shown
  pub after : Map

-- "A full list refuses with 60, and only then"
abbrev pub Full : Map → Type 0
Full m = m.count ≡ 64

-- "Sending under an ID that isn't kind 2 is 62, checked first, 60 next, then 01's writing numbers": 10 by the header's length
abbrev pub map_checks : ℕ → List ℕ → Sections → ℕ → Map → List ℕ → ℕ → List Check
map_checks header t s id m payload room =
    62 when ((i : ℕ) → ¬ (HasKind t s id 2 i))
    ∷ 60 when (Full m)
    ∷ 5 when (2 ^ 32 ≤ length payload)
    ∷ 10 when (room < header + length payload)
    ∷ []

-- a refusal changes nothing
abbrev pub refused_on : Standing → Map → List ℕ → ℕ → OnMap
refused_on p m out k = record { seen = shown (of_send (sent.Refused k)) out p; after = m }

-- "A request we send is entered .. with its own sequence number, operation ID and target platform"; the message stands at the output's
-- start, the rest stays, and the next own number is the one behind
abbrev pub sent_on : ℕ → Standing → Map → ℕ → ℕ → List ℕ → List ℕ → ℕ → OnMap
sent_on own p m id target payload out n =
    record {
      seen =
          shown (of_send (sent.Under n (20 + length payload))) (message_bytes own 1 id n payload ++ drop (20 + length payload) out)
          (record { states = p.states; next = (n + 1) % 2 ^ 32 });
      after = inserted m n id target;
    }

-- a message of domain 1 under an ID of kind 2: its header, the number of the ID's entry, and the length of the payload
pub record Responds (own : ℕ) (t : List ℕ) (s : Sections) (bytes : List ℕ) (h : Header) (i len : ℕ) : Type 0 where
  pub read : read_of own bytes ≡ reading.Read h message.Operation 20 len
  pub request : HasKind t s h.id 2 i

pub data MapCall (own : ℕ) (p : Standing) (m : Map) : RequestCall → OnMap → Type 1 where
  -- "A request never takes a number still pending: it takes the next one free, going round at 0xFFFFFFFF"
  sends : {t : List ℕ} {s : Sections} {words : List ℕ} {id target n : ℕ} {payload out : List ℕ} {x : OnMap} → IsNextFree (taken m) p.next n
      → Answers (refused_on p m out) (sent_on own p m id target payload out n) (map_checks 20 t s id m payload (length out)) x
      → MapCall own p m (send t s words id target payload out) x
  -- "A domain 1 message with that ID, number and sender is the response: it is delivered once and its place is free again"
  delivers : {t : List ℕ} {s : Sections} {bytes out : List ℕ} {h : Header} {i len : ℕ} → Responds own t s bytes h i len
      → m.under h.sequence ≡ Some (h.id, h.platform)
      → MapCall own p m (receive t s bytes out)
      (record { seen = shown (of_receive (noting.Response h i 20 len)) out p; after = deleted m h.sequence })
  -- "any other message with a kind 2 ID is refused with 61"
  refuses : {t : List ℕ} {s : Sections} {bytes out : List ℕ} {h : Header} {i len : ℕ} → Responds own t s bytes h i len
      → ¬ (m.under h.sequence ≡ Some (h.id, h.platform))
      → MapCall own p m (receive t s bytes out) (record { seen = shown (of_receive (noting.Refused 61)) out p; after = m })
  -- every other message, and what is none, as in 01: as if nothing were pending
  passes : {t : List ℕ} {s : Sections} {bytes out : List ℕ} → ((h : Header) (i len : ℕ) → ¬ (Responds own t s bytes h i len))
      → MapCall own p m (receive t s bytes out)
      (record {
        seen =
            shown (of_receive (received_of own t p fresh_list bytes (length out)).answer) (left_of own t p bytes out)
            (received_of own t p fresh_list bytes (length out)).standing;
        after = m;
      })
  -- "A cancel by number frees a lost one's place; a number not pending changes nothing"
  forgets : {n : ℕ} → MapCall own p m (cancel n) (record { seen = shown (whether (taken m n)) [] p; after = deleted m n })
  looks : {n : ℕ} → MapCall own p m (ask n) (record { seen = shown (what (m.under n)) [] p; after = m })

-- over any calls: what is seen of each, and the map at the end
pub data MapCalls (own : ℕ) : Standing → Map → List RequestCall → List Shown → Map → Type 1 where
  ended : {p : Standing} {m : Map} → MapCalls own p m [] [] m
  then : {p : Standing} {m w : Map} {c : RequestCall} {cs : List RequestCall} {x : OnMap} {xs : List Shown} → MapCall own p m c x
      → MapCalls own x.seen.standing x.after cs xs w → MapCalls own p m (c ∷ cs) (x.seen ∷ xs) w

abbrev pub MapFromFresh : ℕ → List RequestCall → List Shown → Map → Type 1
MapFromFresh own cs xs m = MapCalls own (fresh_standing own) empty_map cs xs m

-- whatever is seen on the map is seen on the list
abbrev pub AsMapBy : Listing → Type 1
AsMapBy X =
    (own : ℕ) (cs : List RequestCall) (xs : List Shown) (m : Map) → AllFair cs → MapFromFresh own cs xs m
    → shows_all X own (fresh_standing own) fresh_list cs ≡ xs

-- Ruled out: matching by number alone, or without the sender; a response or a cancel that frees another place, or none; a list that keeps
-- entry numbers in place of IDs; 60 while a place is free; a number taken though pending; a refusal that enters or draws.
pub record RequestRuns : Type 1 where
  pub as_map : AsMapBy our_listing
  -- and the map goes along with any calls
  pub map_goes : (own : ℕ) (cs : List RequestCall) → AllFair cs
      → (m : Map) × MapFromFresh own cs (shows_all our_listing own (fresh_standing own) fresh_list cs) m
  -- the list stays like its map, with no number twice, as many places used as the map counts, and every target a platform's number
  pub like_map : (own : ℕ) (cs : List RequestCall) (xs : List Shown) (m : Map) → AllFair cs → MapFromFresh own cs xs m
      → LikeMap (leaves_all our_listing own (fresh_standing own) fresh_list cs) m
  pub kempt : (own : ℕ) (cs : List RequestCall) → AllFair cs → Kempt (leaves_all our_listing own (fresh_standing own) fresh_list cs)

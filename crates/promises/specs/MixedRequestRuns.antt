-- 02, requests 1 and 8: "Over any calls the list answers as a plain map does", with the calls for partners of both issues among the calls
-- (specs/MixedRequestCalls). Beside what calls answer and leave on the list stands what the same calls answer and leave on the plain map of
-- specs/RequestRuns, which is one for both issues. The theorem is in proofs/MixedRequestRuns.antt.
use Rattle.std.specs.Prelude.{ℕ, ◌+◌, ◌%◌, ◌^◌, ◌≡◌, List, [], ◌∷◌, ◌++◌, length, drop}
use Rattle.std.specs.Prelude.{Some}
use Rattle.table.specs.declared.Sections.{Sections}
use Rattle.message.specs.Writing.{message_bytes}
use Rattle.message3.specs.declared.Stamp.{Stamp}
use Rattle.message3.specs.Writing.{message_bytes3}
use Rattle.pending.specs.Free.{IsNextFree}
use Rattle.pending.specs.PlainMap.{Map, taken, empty_map, inserted, deleted, fresh_list, LikeMap}
use Rattle.pending.specs.Turns.{Kempt}
use Rattle.requests.specs.declared.Issue.{Issue}
use Rattle.requests.specs.declared.Issue.TheVariants.{Six, Three}
use Rattle.requests.specs.declared.Sent.TheVariants as sent
use Rattle.platform.specs.declared.reactions.Standing.{Standing}
use Rattle.platform.specs.Receiving.{fresh_standing}
use Rattle.mixed.specs.declared.AnyAnswer.TheVariants.{Refused}
use Rattle.mixed_words.specs.SendCalls.{issue_for}
use Rattle.promises.specs.Checks.{Answers}
use Rattle.promises.specs.RequestCalls.{RequestCall, of_send}
use Rattle.promises.specs.RequestRuns.{OnMap, map_checks, MapCall}
use Rattle.promises.specs.MixedResponses.{our_any_receiving, AnyHeader, id_of, number_of, sender_of, response_as, ComesAs}
use Rattle.promises.specs.MixedAsked.{head_of}
use Rattle.promises.specs.MixedRequestCalls.{AnyCall, plain, send_any, receive_any, AllFairAny, as_before, of_any, ShownAny, shown_any, from_shown}
use Rattle.promises.specs.MixedRequestCalls.{arriving, shown_received, AnyListing, our_any_listing, shows_all_any, leaves_all_any}

-- what is seen of a call on the map, and the map after it
pub record OnMapAny : Type 0 where
  pub seen : ShownAny
  pub after : Map

-- a refusal changes nothing
abbrev pub refused_on_any : Standing → Map → List ℕ → ℕ → OnMapAny
refused_on_any p m out k = record { seen = shown_any (as_before (of_send (sent.Refused k))) out [] p; after = m }

-- the message of domain 1 in an issue
abbrev pub bytes_in : Issue → ℕ → ℕ → ℕ → List ℕ → List ℕ
bytes_in Six own id n payload = message_bytes own 1 id n payload
bytes_in (Three t) own id n payload = message_bytes3 own t 1 id n payload

-- the request is entered with its number, ID and target; the message stands at the output's start, the rest stays, and the next own number
-- is the one behind, whichever issue it is written in
abbrev pub sent_on_any : Issue → ℕ → Standing → Map → ℕ → ℕ → List ℕ → List ℕ → ℕ → OnMapAny
sent_on_any issue own p m id target payload out n =
    record {
      seen =
          shown_any (as_before (of_send (sent.Under n (head_of issue + length payload))))
          (bytes_in issue own id n payload ++ drop (head_of issue + length payload) out) []
          (record { states = p.states; next = (n + 1) % 2 ^ 32 });
      after = inserted m n id target;
    }

pub data MixedMapCall (own : ℕ) (p : Standing) (m : Map) : AnyCall → OnMapAny → Type 1 where
  -- request 1's calls, as specs/RequestRuns has them
  as_one : {c : RequestCall} {x : OnMap} → MapCall own p m c x → MixedMapCall own p m (plain c) (record { seen = from_shown x.seen; after = x.after })
  -- "a sequence number counts on for all partners": the next one free, in either issue
  sends : {stamp : Stamp} {partners t : List ℕ} {s : Sections} {words : List ℕ} {id target n : ℕ} {payload out : List ℕ} {x : OnMapAny}
      → IsNextFree (taken m) p.next n
      → Answers (refused_on_any p m out) (sent_on_any (issue_for partners stamp target) own p m id target payload out n)
      (map_checks (head_of (issue_for partners stamp target)) t s id m payload (length out)) x
      → MixedMapCall own p m (send_any stamp partners t s words id target payload out) x
  -- the response, in its sender's issue: delivered once, and its place is free again
  delivers : {stamp : Stamp} {composite : ℕ} {partners ours t : List ℕ} {s : Sections} {services bytes out : List ℕ} {h : AnyHeader} {i len : ℕ}
      → ComesAs (arriving own stamp composite partners ours t services bytes out) s h 2 i len
      → m.under (number_of h) ≡ Some (id_of h, sender_of h)
      → MixedMapCall own p m (receive_any stamp composite partners ours t s services bytes out)
      (record { seen = shown_any (of_any (response_as h i len)) out services p; after = deleted m (number_of h) })
  -- "any other message with a kind 2 ID is refused with 61"
  refuses : {stamp : Stamp} {composite : ℕ} {partners ours t : List ℕ} {s : Sections} {services bytes out : List ℕ} {h : AnyHeader} {i len : ℕ}
      → ComesAs (arriving own stamp composite partners ours t services bytes out) s h 2 i len
      → ¬ (m.under (number_of h) ≡ Some (id_of h, sender_of h))
      → MixedMapCall own p m (receive_any stamp composite partners ours t s services bytes out)
      (record { seen = shown_any (of_any (Refused 61)) out services p; after = m })
  -- every other message, and what is none: as if nothing were pending
  passes : {stamp : Stamp} {composite : ℕ} {partners ours t : List ℕ} {s : Sections} {services bytes out : List ℕ}
      → ((h : AnyHeader) (i len : ℕ) → ¬ (ComesAs (arriving own stamp composite partners ours t services bytes out) s h 2 i len))
      → MixedMapCall own p m (receive_any stamp composite partners ours t s services bytes out)
      (record { seen = shown_received our_any_receiving p fresh_list (arriving own stamp composite partners ours t services bytes out); after = m })

-- over any calls: what is seen of each, and the map at the end
pub data MixedMapCalls (own : ℕ) : Standing → Map → List AnyCall → List ShownAny → Map → Type 1 where
  ended : {p : Standing} {m : Map} → MixedMapCalls own p m [] [] m
  then : {p : Standing} {m w : Map} {c : AnyCall} {cs : List AnyCall} {x : OnMapAny} {xs : List ShownAny} → MixedMapCall own p m c x
      → MixedMapCalls own x.seen.standing x.after cs xs w → MixedMapCalls own p m (c ∷ cs) (x.seen ∷ xs) w

abbrev pub MixedFromFresh : ℕ → List AnyCall → List ShownAny → Map → Type 1
MixedFromFresh own cs xs m = MixedMapCalls own (fresh_standing own) empty_map cs xs m

-- whatever is seen on the map is seen on the list
abbrev pub AsMapByAny : AnyListing → Type 1
AsMapByAny X =
    (own : ℕ) (cs : List AnyCall) (xs : List ShownAny) (m : Map) → AllFairAny cs → MixedFromFresh own cs xs m
    → shows_all_any X own (fresh_standing own) fresh_list cs ≡ xs

-- Ruled out: a list or a next own number for each issue; a response of Issue 3 that is matched by its number alone, or without its sender; one
-- that frees another place, or none; 10 by 20 bytes of header for Issue 3; a mixed refusal that enters or draws.
-- Not said here: a table that `check` refuses, which is no fair call; the call on sections, which gives the same (specs/MixedOnSections); what is
-- known of services over a run, as each call is lent any words of them (specs/MixedServices).
pub record MixedRequestRuns : Type 1 where
  pub as_map : AsMapByAny our_any_listing
  -- and the map goes along with any calls
  pub map_goes : (own : ℕ) (cs : List AnyCall) → AllFairAny cs
      → (m : Map) × MixedFromFresh own cs (shows_all_any our_any_listing own (fresh_standing own) fresh_list cs) m
  -- the list stays like its map, with no number twice, as many places used as the map counts, and every target a platform's number
  pub like_map : (own : ℕ) (cs : List AnyCall) (xs : List ShownAny) (m : Map) → AllFairAny cs → MixedFromFresh own cs xs m
      → LikeMap (leaves_all_any our_any_listing own (fresh_standing own) fresh_list cs) m
  pub kempt : (own : ℕ) (cs : List AnyCall) → AllFairAny cs → Kempt (leaves_all_any our_any_listing own (fresh_standing own) fresh_list cs)

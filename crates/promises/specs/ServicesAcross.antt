-- 02, request 8, theorem 6, from end to end: a partner asks us for all our services, and hears what we answer. Where it has us set up as
-- Issue 3 and its block of our services takes them, it has for each ID of ours the state that our words have, of two words the last one's;
-- and nothing else of its own moved. Ruled out: services told in part, or with another one's state; a status that is answered; states, own
-- numbers, pending requests or other platforms' services that change by it. Partners that do otherwise are in specs/WrongAcross. The theorem is in
-- proofs/ServicesAcross.antt.
use Rattle.std.specs.Prelude.{ℕ, ◌+◌, ◌*◌, ◌/◌, ◌^◌, ◌≤◌, ◌<◌, ◌≡◌, true, cond, eqb, length, get_or, take, drop, replicate}
use Rattle.std.specs.Prelude.{Ok}
use Rattle.wire.specs.Bytes.{Octets}
use Rattle.table.specs.declared.Sections.{Sections}
use Rattle.types.specs.Table.{checked}
use Rattle.message3.specs.declared.Header3.{Header3}
use Rattle.message3.specs.declared.Message3.TheVariants.{AvailabilityStatusRequest}
use Rattle.services.specs.declared.Availability.TheVariants.{Unavailable, Available}
use Rattle.services.specs.Block.{availability_in, note_refusal}
use Rattle.partners.specs.Threes.{is_three, block_start}
use Rattle.mixed.specs.declared.AnyAnswer.TheVariants.{Three}
use Rattle.mixed.specs.declared.reactions.Heard3.TheVariants.{Services}
use Rattle.promises.specs.Services.{KemptBlock}
use Rattle.promises.specs.Owed3.{MixedCall, id_of, all_ours, tells_these, reply_header3}
use Rattle.promises.specs.Replies3.{Receiving3, our_receiving3, Widths, Receives3, IsThere, block_at}

-- the k-th of our words
abbrev pub word_at : MixedCall → ℕ → ℕ
word_at c k = get_or c.ours k 0

-- in the call c the platform of the header asks us for all, and there is room for the answer; in the call d this platform hears it
pub record Hears (X : Receiving3) (c d : MixedCall) (s : Sections) (h : Header3) : Type 0 where
  pub asked : Receives3 c s h (AvailabilityStatusRequest 0xFFFFFFFF)
  pub few : length c.ours < 2 ^ 29
  pub room : 28 + 8 * length c.ours ≤ length c.output
  pub widths : Widths d
  pub bytes : Octets d.message
  pub who : d.own ≡ h.platform
  pub its_sections : Sections
  pub its_table : checked d.table ≡ Ok its_sections
  pub set_up : is_three d.partners c.own ≡ true
  pub there : IsThere d c.own
  pub kempt : KemptBlock (block_at d c.own d.services)
  pub carried : d.message ≡ take (28 + 8 * length c.ours) (X.left c)
  pub takes : note_refusal (block_at d c.own d.services) (drop 24 d.message) ≡ 0

-- what it knows then
pub record Learns (X : Receiving3) (c d : MixedCall) (h : Header3) : Type 0 where
  -- it heard of so many services, and owes nothing
  pub answer : (X.outcome d).answer
      ≡ Three (reply_header3 c (tells_these h.sequence (all_ours c.ours))) (Services (length c.ours)) 0
  -- each of ours, by the last word that has its ID
  pub of_ours : (k : ℕ) → k < length c.ours → ((j : ℕ) → k < j → j < length c.ours → ¬ (id_of (word_at c j) ≡ id_of (word_at c k)))
      → availability_in (block_at d c.own (X.words d)) (id_of (word_at c k)) ≡ cond (eqb (word_at c k / 2 ^ 32) 2) Available Unavailable
  -- any other as before
  pub of_others : (x : ℕ) → ((k : ℕ) → k < length c.ours → ¬ (id_of (word_at c k) ≡ x))
      → availability_in (block_at d c.own (X.words d)) x ≡ availability_in (block_at d c.own d.services) x
  -- no word outside of our block moved, and so no other platform's
  pub in_front : take (block_start d.partners c.own) (X.words d) ≡ take (block_start d.partners c.own) d.services
  pub behind : drop (block_start d.partners c.own + 256) (X.words d) ≡ drop (block_start d.partners c.own + 256) d.services
  pub other_blocks : (j : ℕ) → is_three d.partners j ≡ true → ¬ (j ≡ c.own) → block_at d j (X.words d) ≡ block_at d j d.services
  pub standing : (X.outcome d).standing ≡ d.standing
  pub output : X.left d ≡ d.output
  pub list : X.list d ≡ d.pending

pub record ServicesAcrossBy (X : Receiving3) : Type 0 where
  pub learns : (c d : MixedCall) (s : Sections) (h : Header3) → Hears X c d s h → Learns X c d h
  -- fresh words take up to 256 services of ours
  pub fresh_takes : (c : MixedCall) (s : Sections) (h : Header3) → Receives3 c s h (AvailabilityStatusRequest 0xFFFFFFFF) →
      length c.ours ≤ 256 → 28 + 8 * length c.ours ≤ length c.output → Octets (X.left c) →
      note_refusal (replicate 256 0) (drop 24 (take (28 + 8 * length c.ours) (X.left c))) ≡ 0

abbrev pub ServicesAcross : Type 0
ServicesAcross = ServicesAcrossBy our_receiving3

-- The next own number stays one of 32 bits over a call for one message among partners of both issues.
-- Assumes nothing.
use Prim.Native.Nat.{ℕ, ◌^◌, ◌<◌}
use Rattle.std.specs.Prelude.{Ok}
use Rattle.std.specs.Prelude.{Option}
use mathlib.Core.Path.{◌≡◌, refl, sym, ap, subst, ◌∙◌}
use mathlib.Core.Bool.{Bool, true, false, cond}
use mathlib.Core.List.{List}
use native.Mathlib.Omega.{arith}
use lib.Dec.{eqb}
use lib.ListN.{length}
use Rattle.wire.specs.Bytes.{part}
use Rattle.table.specs.declared.Sections.{Sections}
use Rattle.types.specs.Table.{checked}
use Rattle.message.specs.declared.Status.{Status}
use Rattle.message.specs.declared.Status.TheVariants.{Down, Up}
use Rattle.message.specs.declared.Message.TheVariants as message
use Rattle.message3.specs.declared.Header3.{Header3}
use Rattle.message3.specs.declared.Message3.{Message3}
use Rattle.message3.specs.declared.Message3.TheVariants as message3
use Rattle.pending.specs.Answers.{is_response}
use Rattle.states.specs.States.{stands_up}
use Rattle.platform.specs.declared.reactions.Standing.{Standing}
use Rattle.platform.specs.declared.reactions.Heard.TheVariants as heard
use Rattle.platform.specs.Replies.{all_data}
use Rattle.mixed.specs.declared.AnyReading.{AnyReading}
use Rattle.mixed.specs.declared.AnyReading.TheVariants as reading
use Rattle.mixed.specs.declared.AnyReceived.{AnyReceived}
use Rattle.mixed.specs.declared.reactions.Heard3.TheVariants as heard3
use Rattle.mixed.specs.declared.reactions.Reaction3.{Reaction3}
use Rattle.mixed.specs.Reading.{any_of}
use Rattle.mixed.specs.Reaction.{operation_for3, silent3, commonly, on_pull3, coming_up3, went_down, on_status3, on_services_request, reaction3}
use Rattle.mixed.specs.Keeping.{kept_number}
use Rattle.mixed.specs.Receiving.{refused_any, is_answer3, delivered3, response_to3, taken3, settled3, any_outcome_of}
use Rattle.promises.specs.MixedResponses.{ToReceive, our_any_receiving}
use Rattle.promises.proofs.RequestReceipts.{next_fits}
use Rattle.promises.proofs.MixedRooms.{length_for, short_by, settledAs, settled-as}
use Rattle.promises.proofs.MixedReceipts.{index, outcome-by, six-outcome}

abbrev Small : Standing → Type 0
Small p = p.next < 2 ^ 32

module _ (own : ℕ) (ours t : List ℕ) (s : Sections) (f : Option (ℕ × ℕ)) (p : Standing) (fits : Small p) where
  status-small : (sender : ℕ) (x : Status) (c : ℕ) → Small (on_status3 own p sender x c).standing
  unfolding on_status3 coming_up3
  status-small sender Up c = go (stands_up own p.states sender)
    where
      go : (b : Bool) → Small (cond b (silent3 p (heard3.Status Up c)) (coming_up3 p sender c)).standing
      go true = fits
      go false = omega arith
  status-small sender Down c = go (stands_up own p.states sender)
    where
      go : (b : Bool) → Small (cond b (went_down p sender c) (silent3 p (heard3.Status Down c))).standing
      go true = fits
      go false = fits

  -- own numbers are drawn where a partner comes UP, and nowhere else
  reaction-small : (h : Header3) (m : Message3) (start len : ℕ) → Small (reaction3 own ours t s f p h m start len).standing
  unfolding reaction3 commonly on_services_request on_pull3
  reaction-small h (message3.PlatformStatus x c) start len = status-small h.platform x c
  reaction-small h message3.PlatformStatusRequest start len = fits
  reaction-small h (message3.AvailabilityStatus n) start len = fits
  reaction-small h (message3.AvailabilityStatusRequest id) start len = fits
  reaction-small h (message3.UnknownOperation id) start len = fits
  reaction-small h (message3.ServiceNotAvailable id) start len = fits
  reaction-small h (message3.VersionedDataPull id) start len = go (eqb id all_data)
    where
      go : (b : Bool) → Small (cond b (silent3 p (heard3.Common heard.PullOfAll)) (commonly own t s f p h (message.VersionedDataPull id) start len)).standing
      go true = fits
      go false = fits
  reaction-small h (message3.CompositeChangeRequest c) start len = fits
  reaction-small h (message3.CompositeChangeRequestAck a) start len = fits
  reaction-small h message3.Operation start len = fits

-- what is settled leaves the standing of before, or the reaction's
settled_small : (i ours : List ℕ) (p : Standing) (h : Header3) (x : Reaction3) (payload ws : List ℕ) (room : ℕ) → Small p → Small x.standing
    → Small (settled3 i ours p h x payload ws room).standing
unfolding settled3
settled_small i ours p h x payload ws room fits new =
    subst (λ (r : AnyReceived). Small r.standing)
    (sym (settled-as (kept_number i h.platform x.deed payload ws) p h x ours x.deed room))
    (go (kept_number i h.platform x.deed payload ws) (short_by ours x.deed room) (length_for ours x.deed))
  where
    by : (a b : Bool) (k short n : ℕ) → Small (cond a (cond b (taken3 h x n) (refused_any p k)) (refused_any p short)).standing
    by true true k short n = new
    by true false k short n = fits
    by false b k short n = fits

    go : (k short n : ℕ) → Small (settledAs k p h x short n).standing
    go k short n = by (eqb short 0) (eqb k 0) k short n

module _ (x : ToReceive) (s : Sections) (e : checked x.table ≡ Ok s) (p : Standing) (l : List ℕ) (fits : Small p) where
  abbrev outcomeOn : AnyReading → AnyReceived
  outcomeOn a = any_outcome_of x.own x.partners x.ours x.table s (index x s e) p l x.services x.bytes (length x.out) a

  three-small : (h : Header3) (k : Message3) (start len : ℕ) → Small (outcomeOn (reading.Three h k start len)).standing
  unfolding any_outcome_of response_to3
  three-small h k start len = go (is_answer3 x.table found k) (is_response l h.sequence h.id h.platform)
    where
      found : Option (ℕ × ℕ)
      found = operation_for3 x.table s (index x s e) h k

      reacts : Reaction3
      reacts = reaction3 x.own x.ours x.table s found p h k start len

      go : (a b : Bool) → Small (cond a (cond b (delivered3 found p h start len) (refused_any p 61))
          (settled3 x.partners x.ours p h reacts (part x.bytes start len) x.services (length x.out))).standing
      go true true = fits
      go true false = fits
      go false b =
          settled_small x.partners x.ours p h reacts (part x.bytes start len) x.services (length x.out) fits
          (reaction-small x.own x.ours x.table s found p fits h k start len)

  pub mixed-next-fits : Small (our_any_receiving.outcome x p l).standing
  unfolding any_outcome_of
  mixed-next-fits = go (any_of x.partners x.own x.bytes) refl
    where
      by : (a : AnyReading) → any_of x.partners x.own x.bytes ≡ a → Small (outcomeOn a).standing
          → Small (our_any_receiving.outcome x p l).standing
      by a q h = subst (λ (r : AnyReceived). Small r.standing) (sym (outcome-by x s e p l ∙ ap outcomeOn q)) h

      go : (a : AnyReading) → any_of x.partners x.own x.bytes ≡ a → Small (our_any_receiving.outcome x p l).standing
      go (reading.Refused n) q = by (reading.Refused n) q fits
      go (reading.Six h k start len) q =
          subst (λ (r : AnyReceived). Small r.standing) (sym (six-outcome x s e h k start len q p l))
          (next_fits x.own x.table s e x.bytes p l (length x.out) fits)
      go (reading.Three h k start len) q = by (reading.Three h k start len) q (three-small h k start len)

-- A message of Issue 3 that arrives makes the sum smaller, whatever it is, and whether or not its replies fit.
-- Assumes nothing.
use Prim.Native.Nat.{ℕ, ◌+◌, ◌≤◌, ◌<◌}
use Rattle.std.specs.Prelude.{Option}
use mathlib.Core.Path.{◌≡◌, refl, sym, ap, subst}
use mathlib.Core.Bool.{Bool, true, false, cond}
use mathlib.Core.List.{List}
use native.Mathlib.Omega.{arith}
use lib.Dec.{eqb}
use lib.ListN.{length}
use Rattle.wire.specs.Bytes.{part}
use Rattle.table.specs.declared.Sections.{Sections}
use Rattle.pending.specs.Answers.{is_response}
use Rattle.message.specs.declared.Status.{Status}
use Rattle.message.specs.declared.Status.TheVariants.{Down, Up}
use Rattle.message.specs.declared.Message.{Message}
use Rattle.message.specs.declared.Message.TheVariants as message
use Rattle.message3.specs.declared.Stamp.{Stamp}
use Rattle.message3.specs.declared.Header3.{Header3}
use Rattle.message3.specs.declared.Message3.{Message3}
use Rattle.message3.specs.declared.Message3.TheVariants as message3
use Rattle.partners.specs.Threes.{is_three}
use Rattle.states.specs.States.{stands_up}
use Rattle.platform.specs.declared.reactions.Standing.{Standing}
use Rattle.platform.specs.declared.reactions.Heard.{Heard}
use Rattle.platform.specs.declared.reactions.Heard.TheVariants as heard
use Rattle.platform.specs.Replies.{all_data}
use Rattle.platform.specs.Reaction.{reaction_to}
use Rattle.platform.specs.Receiving.{not_awaited}
use Rattle.mixed.specs.declared.AnyReceived.{AnyReceived}
use Rattle.mixed.specs.declared.reactions.Reaction3.{Reaction3}
use Rattle.mixed.specs.declared.reactions.Heard3.TheVariants as heard3
use Rattle.mixed.specs.Ours.{ours_available}
use Rattle.mixed.specs.declared.reactions.Deed.TheVariants.{TellAll, TellOne}
use Rattle.mixed.specs.Reaction.{all_services, silent3, in_six_words, deed_for, commonly, on_pull3, coming_up3, went_down, on_status3, on_services_request, reaction3}
use Rattle.mixed.specs.Receiving.{refused_any, is_answer3, delivered3, response_to3, settled3, laid3}
use Rattle.mixed.proofs.Settling.{Settling, nothing_changes, as_it_says, settling}
use Rattle.promises.specs.MixedExchange.{messages_sent}
use Rattle.promises.proofs.MixedWeights.{cost3, cost3_pos}
use Rattle.promises.proofs.MixedReplies.{deed_weight, deed-light}
use Rattle.promises.proofs.MixedHeld.{answer_weight, held, answer_le, held_le, After, nothing-sent, light-sent, came_up}

module _ (own other : ℕ) (i j : List ℕ) (p : Standing) (hp : other < 256) (d : other ≡ own → ⊥) where
  module _ (ours t : List ℕ) (s : Sections) (f : Option (ℕ × ℕ)) (h : Header3) (from : h.platform ≡ other) (three : is_three i other ≡ true) (start len : ℕ) where
    abbrev X3 : Message3 → Reaction3
    X3 k = reaction3 own ours t s f p h k start len

    abbrev Less3 : ℕ → Reaction3 → Type 0
    Less3 w x = deed_weight x.deed + held own i other x.standing + 1 ≤ w + held own i other p

    status-less : (x : Status) (c : ℕ) → Less3 (cost3 (message3.PlatformStatus x c)) (on_status3 own p other x c)
    unfolding on_status3 coming_up3
    status-less Up c = go (stands_up own p.states other) refl
      where
        go : (b : Bool) → stands_up own p.states other ≡ b → Less3 1 (cond b (silent3 p (heard3.Status Up c)) (coming_up3 p other c))
        go true e = omega arith
        go false e =
            let z = came_up own other i p (coming_up3 p other c).standing hp d refl e in
            omega (arith, z.0, z.1, ap answer_weight three)
    status-less Down c = go (stands_up own p.states other)
      where
        go : (b : Bool) → Less3 5 (cond b (went_down p other c) (silent3 p (heard3.Status Down c)))
        go true = omega (arith, held_le own i other (went_down p other c).standing, answer_le (is_three i other))
        go false = omega arith

    deed-le : (n : ℕ) (x : Heard) → deed_weight (deed_for n x) ≤ 1
    deed-le n (heard.Status x) = omega arith
    deed-le n heard.Request = omega arith
    deed-le n (heard.UnknownOperation id) = omega arith
    deed-le n heard.PullOfAll = omega arith
    deed-le n (heard.PullOfOne id k) = omega arith
    deed-le n (heard.NotVersionedData id) = omega arith
    deed-le n (heard.Operation k start len) = omega arith
    deed-le n (heard.NotInTable id) = omega arith

    commonly-less : (m : Message) → Less3 2 (commonly own t s f p h m start len)
    unfolding commonly
    commonly-less m = omega (arith, deed-le h.sequence (reaction_to own t s f p (in_six_words h) m start len).heard)

    pull-less : (id : ℕ) → Less3 (cost3 (message3.VersionedDataPull id)) (on_pull3 own t s f p h id start len)
    unfolding on_pull3
    pull-less id = go (eqb id all_data)
      where
        go : (b : Bool) → Less3 (cond b 1 2)
            (cond b (silent3 p (heard3.Common heard.PullOfAll)) (commonly own t s f p h (message.VersionedDataPull id) start len))
        go true = omega arith
        go false = commonly-less (message.VersionedDataPull id)

    asked-less : (n id : ℕ) → Less3 2 (on_services_request ours p n id)
    unfolding on_services_request
    asked-less n id = go (eqb id all_services)
      where
        go : (b : Bool) → deed_weight (cond b (TellAll n) (TellOne n id (ours_available ours id))) + held own i other p + 1 ≤ 2 + held own i other p
        go true = omega arith
        go false = omega arith

    three-less : (k : Message3) → Less3 (cost3 k) (X3 k)
    unfolding reaction3 commonly reaction_to
    three-less (message3.PlatformStatus x c) =
        subst (λ (y : ℕ). Less3 (cost3 (message3.PlatformStatus x c)) (on_status3 own p y x c)) (sym from) (status-less x c)
    three-less message3.PlatformStatusRequest = omega arith
    three-less (message3.AvailabilityStatus n) = omega arith
    three-less (message3.AvailabilityStatusRequest id) = asked-less h.sequence id
    three-less (message3.UnknownOperation id) = omega arith
    three-less (message3.ServiceNotAvailable id) = omega arith
    three-less (message3.VersionedDataPull id) = pull-less id
    three-less (message3.CompositeChangeRequest c) = omega arith
    three-less (message3.CompositeChangeRequestAck a) = omega arith
    three-less message3.Operation = commonly-less message.Operation

    module _ (st : Stamp) (c : ℕ) (l ws m out : List ℕ) where
      settled-lighter : (w : ℕ) (x : Reaction3) → 1 ≤ w → Less3 w x → (r : AnyReceived) (o : List ℕ) → Settling own st c ours p h x out r o
          → After own other i j p w r o
      settled-lighter w x hw less r o (nothing_changes n) = nothing-sent own other i j p w hw
      settled-lighter w x hw less r o (as_it_says few) =
          light-sent own other i j p w (deed_weight x.deed) x.standing (messages_sent r o) (deed-light j other own st c ours x.deed out few) less

      response-lighter3 : (w : ℕ) → 1 ≤ w → (o : List ℕ) → After own other i j p w (response_to3 l f p h start len) o
      unfolding response_to3
      response-lighter3 w hw o = go (is_response l h.sequence h.id h.platform)
        where
          go : (b : Bool) → After own other i j p w (cond b (delivered3 f p h start len) (refused_any p not_awaited)) o
          go true = nothing-sent own other i j p w hw
          go false = nothing-sent own other i j p w hw

      pub three-lighter : (k : Message3) → After own other i j p (cost3 k)
          (cond (is_answer3 t f k) (response_to3 l f p h start len) (settled3 i ours p h (X3 k) (part m start len) ws (length out)))
          (cond (is_answer3 t f k) out (laid3 own st c i ours h (X3 k) (part m start len) ws out))
      three-lighter k = go (is_answer3 t f k)
        where
          R : AnyReceived
          R = settled3 i ours p h (X3 k) (part m start len) ws (length out)

          O : List ℕ
          O = laid3 own st c i ours h (X3 k) (part m start len) ws out

          go : (b : Bool) → After own other i j p (cost3 k) (cond b (response_to3 l f p h start len) R) (cond b out O)
          go true = response-lighter3 (cost3 k) (cost3_pos k) out
          go false =
              settled-lighter (cost3 k) (X3 k) (cost3_pos k) (three-less k) R O (settling own st c i ours p h (X3 k) (part m start len) ws out)

-- A message of Issue 6 that arrives makes the sum smaller, whatever it is, and whether or not its replies fit.
-- Assumes nothing.
use Prim.Native.Nat.{ℕ, ◌+◌, ◌≤◌, ◌<◌}
use Rattle.std.specs.Prelude.{Option, Some, None}
use mathlib.Core.Path.{◌≡◌, refl, sym, ap, subst}
use mathlib.Core.Bool.{Bool, true, false, cond}
use mathlib.Core.List.{List}
use native.Mathlib.Omega.{arith}
use lib.Dec.{eqb, ltb}
use lib.ListN.{length}
use Rattle.wire.specs.Bytes.{over}
use Rattle.table.specs.declared.Sections.{Sections}
use Rattle.pending.specs.Answers.{is_response}
use Rattle.message.specs.declared.Header.{Header}
use Rattle.message.specs.declared.Status.{Status}
use Rattle.message.specs.declared.Status.TheVariants.{Down, Up}
use Rattle.message.specs.declared.Message.{Message}
use Rattle.message.specs.declared.Message.TheVariants as message
use Rattle.message.specs.Refusal.{no_room}
use Rattle.partners.specs.Threes.{is_three}
use Rattle.states.specs.States.{stands_up}
use Rattle.platform.specs.declared.reactions.Standing.{Standing}
use Rattle.platform.specs.declared.reactions.Heard.{Heard}
use Rattle.platform.specs.declared.reactions.Heard.TheVariants as heard
use Rattle.platform.specs.declared.reactions.Reaction.{Reaction}
use Rattle.platform.specs.declared.Received.{Received}
use Rattle.platform.specs.Replies.{all_data, owed_bytes, owed_length}
use Rattle.platform.specs.Reaction.{some_data, is_data, silent, noted, coming_up, on_state, on_status, not_versioned, on_pull_all, on_pull_one, on_pull, on_operation}
use Rattle.platform.specs.Reaction.{reaction_to}
use Rattle.platform.specs.Receiving.{refused, taken, laid_out, not_awaited, is_answer, delivered, response_to, answered}
use Rattle.mixed.specs.declared.AnyReceived.{AnyReceived}
use Rattle.mixed.specs.Receiving.{from_received}
use Rattle.promises.specs.MixedExchange.{messages_sent}
use Rattle.promises.proofs.MixedWeights.{cost6, cost6_pos}
use Rattle.promises.proofs.MixedReplies.{owed_weight, owed-light}
use Rattle.promises.proofs.MixedHeld.{answer_weight, held, held_le, After, nothing-sent, light-sent, came_up}

module _ (own other : ℕ) (i j : List ℕ) (p : Standing) (small : own < 256) (hp : other < 256) (d : other ≡ own → ⊥) where
  module _ (t : List ℕ) (s : Sections) (f : Option (ℕ × ℕ)) (h : Header) (from : h.platform ≡ other) (six : is_three i other ≡ false) (start len : ℕ) where
    abbrev X6 : Message → Reaction
    X6 k = reaction_to own t s f p h k start len

    abbrev Less6 : ℕ → Reaction → Type 0
    Less6 w x = owed_weight x.owed + held own i other x.standing + 1 ≤ w + held own i other p

    status-less6 : (x : Status) → Less6 (cost6 (message.PlatformStatus x)) (on_status own p other x)
    unfolding on_status on_state coming_up
    status-less6 Up = go (ltb other 256) (stands_up own p.states other) refl
      where
        go : (a b : Bool) → stands_up own p.states other ≡ b → Less6 1
            (cond a (cond b (silent p (heard.Status Up)) (coming_up p other)) (silent p (heard.Status Up)))
        go true true e = omega arith
        go true false e =
            let z = came_up own other i p (coming_up p other).standing hp d refl e in
            omega (arith, z.0, z.1, ap answer_weight six)
        go false b e = omega arith
    status-less6 Down = go (ltb other 256) (stands_up own p.states other)
      where
        go : (a b : Bool) → Less6 4
            (cond a (cond b (silent (noted p other p.next) (heard.Status Down)) (silent p (heard.Status Down))) (silent p (heard.Status Down)))
        go true true = omega (arith, held_le own i other (noted p other p.next), ap answer_weight six)
        go true false = omega arith
        go false b = omega arith

    pull-less6 : (n id : ℕ) → Less6 2 (on_pull t s f p n id)
    unfolding on_pull on_pull_all on_pull_one
    pull-less6 n id = go (eqb id all_data) f
      where
        data-or-not : (b : Bool) (x : Heard) → Less6 2 (cond b (silent p x) (not_versioned p n id))
        data-or-not true x = omega arith
        data-or-not false x = omega arith

        all-or-none : (b : Bool) → Less6 2 (cond b (silent p heard.PullOfAll) (not_versioned p n all_data))
        all-or-none true = omega arith
        all-or-none false = omega arith

        go : (b : Bool) (g : Option (ℕ × ℕ)) → Less6 2 (cond b (on_pull_all t s p n) (on_pull_one t g p n id))
        go true g = all-or-none (some_data t s)
        go false (Some (k, q)) = data-or-not (is_data t q) (heard.PullOfOne id k)
        go false None = omega arith

    operation-less : (g : Option (ℕ × ℕ)) → Less6 2 (on_operation g p h start len)
    unfolding on_operation
    operation-less (Some (k, q)) = omega arith
    operation-less None = omega arith

    six-less : (k : Message) → Less6 (cost6 k) (X6 k)
    unfolding reaction_to
    six-less (message.PlatformStatus x) =
        subst (λ (y : ℕ). Less6 (cost6 (message.PlatformStatus x)) (on_status own p y x)) (sym from) (status-less6 x)
    six-less message.PlatformStatusRequest = omega arith
    six-less (message.UnknownOperation id) = omega arith
    six-less (message.VersionedDataPull id) = pull-less6 h.sequence id
    six-less message.Operation = operation-less f

    module _ (l out : List ℕ) (k : Message) where
      abbrev L6 : Received → List ℕ → Type 0
      L6 r o = After own other i j p (cost6 k) (from_received r) o

      response-lighter6 : L6 (response_to l f p h start len) out
      unfolding response_to
      response-lighter6 = go (is_response l h.sequence h.id h.platform)
        where
          go : (b : Bool) → L6 (cond b (delivered f p h start len) (refused p not_awaited)) out
          go true = nothing-sent own other i j p (cost6 k) (cost6_pos k)
          go false = nothing-sent own other i j p (cost6 k) (cost6_pos k)

      answered-lighter6 : L6 (answered p h (X6 k) (length out)) (laid_out own (X6 k) out)
      unfolding answered laid_out
      answered-lighter6 = go (ltb (length out) (owed_length (X6 k).owed))
        where
          B : List ℕ
          B = owed_bytes own (X6 k).owed

          go : (b : Bool) → L6 (cond b (refused p no_room) (taken h (X6 k) (owed_length (X6 k).owed))) (cond b out (over out 0 B))
          go true = nothing-sent own other i j p (cost6 k) (cost6_pos k)
          go false =
              let R : AnyReceived = from_received (taken h (X6 k) (owed_length (X6 k).owed)) in
              light-sent own other i j p (cost6 k) (owed_weight (X6 k).owed) (X6 k).standing (messages_sent R (over out 0 B))
              (owed-light j other own small (X6 k).owed out) (six-less k)

      pub six-lighter : L6 (cond (is_answer t f k) (response_to l f p h start len) (answered p h (X6 k) (length out)))
          (cond (is_answer t f k) out (laid_out own (X6 k) out))
      six-lighter = go (is_answer t f k)
        where
          go : (b : Bool) → L6 (cond b (response_to l f p h start len) (answered p h (X6 k) (length out))) (cond b out (laid_out own (X6 k) out))
          go true = response-lighter6
          go false = answered-lighter6

-- What is promised of the list of pending requests and of sending.
-- Assumes nothing.
use Prim.Native.Nat.{ℕ, ◌+◌, ◌^◌, ◌<◌}
use Rattle.std.specs.Prelude.{Option, Some, None}
use mathlib.Core.Path.{◌≡◌, refl, sym, ap, ap₂, subst, ◌∙◌}
use mathlib.Core.Bool.{Bool, true, false, ◌&&◌}
use mathlib.Core.List.{List}
use native.Mathlib.Omega.{arith}
use borrow.Author.Tests.{eqb-true, eq-eqb}
use lib.Dec.{eqb}
use lib.ListN.{length, take}
use Rattle.wire.proofs.Cond.{both, no-if}
use Rattle.message.specs.Refusal.{write_refusal}
use Rattle.message.proofs.RoundTrip.{reads-back, payload-back}
use Rattle.pending.specs.Free.{next_free}
use Rattle.pending.specs.Answers.{awaited_of, cleared_at, cancelled, is_response}
use Rattle.pending.specs.PlainMap.{asks}
use Rattle.pending.proofs.Drawing.{next-is-free, one_is_next}
use Rattle.pending.proofs.AsMap.{response-by, not-standing}
use Rattle.pending.proofs.Once.{answered-gone, answered-others, not_again}
use Rattle.pending.proofs.Turning.{as_a_map, kempt}
use Rattle.pending.proofs.OneMap.{told_by_map}
use Rattle.requests.specs.declared.Issue.TheVariants.{Six}
use Rattle.requests.specs.Sending.{sent_of, output_sent, number_given}
use Rattle.requests.proofs.Sends.{next_kept, list_kept, output_kept}
use Rattle.promises.specs.Requests.{Arrives, Requests}
use Rattle.promises.proofs.SentFor.{order-at, number_small, can, in_front, behind}

-- what every other platform reads of what is sent
module _ (own from kind id : ℕ) (l payload out : List ℕ) (e : number_given (sent_of from l kind id payload (length out)).answer ≡ 0) where
  arrives : (reader : ℕ) → own < 256 → id < 2 ^ 32 → from < 2 ^ 32 → ¬ (own ≡ reader)
      → Arrives own id (next_free l from) reader payload (take (20 + length payload) (output_sent own from l kind id payload out))
  arrives reader o i f d =
      let small : next_free l from < 2 ^ 32 = number_small l from f in
      let w : write_refusal 1 id payload (length out) ≡ 0 = (can Six own from kind id l payload out e).writes in
      subst (Arrives own id (next_free l from) reader payload) (sym (in_front Six own from kind id l payload out e))
      (record {
        heard = reads-back own 1 id (next_free l from) payload (length out) reader (omega arith) d i small w;
        handed = payload-back own 1 id (next_free l from) payload (length out) reader (omega arith) d i small w;
      })

-- which message is the response
module _ (l : List ℕ) (n id sender : ℕ) where
  is-response : awaited_of l n ≡ Some (id, sender) → is_response l n id sender ≡ true
  is-response e =
      response-by l n id sender ∙ ap (λ (a : Option (ℕ × ℕ)). asks a id sender) e ∙ ap₂ ◌&&◌ (eq-eqb id id refl) (eq-eqb sender sender refl)

  no_response : ¬ (awaited_of l n ≡ Some (id, sender)) → is_response l n id sender ≡ false
  no_response d = response-by l n id sender ∙ go (awaited_of l n) d
    where
      pair : (i t : ℕ) → ¬ (◌≡◌ {A = Option (ℕ × ℕ)} (Some (i, t)) (Some (id, sender))) → (b : Bool) → (eqb i id && eqb t sender) ≡ b
          → (eqb i id && eqb t sender) ≡ false
      pair i t h true e =
          let p : (eqb i id ≡ true) × (eqb t sender ≡ true) = both (eqb i id) (eqb t sender) e in
          absurd (h (ap₂ (λ (a b : ℕ). Some (a, b)) (eqb-true i id p.0) (eqb-true t sender p.1)))
      pair i t h false e = e

      go : (a : Option (ℕ × ℕ)) → ¬ (a ≡ Some (id, sender)) → asks a id sender ≡ false
      go (Some (i, t)) h = pair i t h (eqb i id && eqb t sender) refl
      go None h = refl

pub requests : Requests
requests =
    record {
      order = λ from kind id l payload room. order-at 20 from kind l payload room;
      next_kept = λ from kind id l payload room. next_kept Six l kind id payload room from;
      list_kept = λ from kind id target l payload room. list_kept Six l kind id payload room from target;
      output_kept = λ own from kind id l payload out. output_kept Six own from kind id l payload out;
      next-free = next-is-free;
      next_one = one_is_next;
      arrives = λ own from kind id reader l payload out o i f d e. arrives own from kind id l payload out e reader o i f d;
      behind = behind Six;
      is-response = is-response;
      no_response = no_response;
      answered_once = λ l n id sender w o e. record {
        gone = answered-gone l w o n id sender e;
        others = answered-others l w o n id sender e;
        once = not_again l w o n id sender e;
      };
      stays = λ l n id sender e. no-if (cancelled l n) l e;
      not_cancelled = λ l n e. ap (cleared_at l) (not-standing l n e);
      as_map = told_by_map;
      map_runs = as_a_map;
      kempt = kempt;
    }

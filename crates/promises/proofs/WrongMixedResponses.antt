-- No program that is wrong in one place of responses meets what ours does: by one response of Issue 3.
-- Assumes nothing.
use Prim.Native.Nat.{ℕ}
use Rattle.std.proofs.lemmas.Option.{some_pair_parts}
use mathlib.Core.Path.{◌≡◌, refl, sym, ap, ◌∙◌}
use mathlib.Core.Bool.{true}
use mathlib.Core.List.{List, [], ◌∷◌, ◌++◌}
use native.Mathlib.Omega.{arith}
use lib.ListN.{get_or, take, replicate}
use Rattle.operations.specs.Entries.{width_of, kind_at, op_width, op_place, response_at, operation_at, id_at}
use Rattle.message3.specs.declared.Stamp.{Stamp}
use Rattle.message3.specs.Writing.{message_bytes3}
use Rattle.partners.specs.Threes.{bit_in, is_three}
use Rattle.pending.specs.Places.{bearing, entered}
use Rattle.pending.specs.Answers.{cancelled}
use Rattle.pending.specs.PlainMap.{fresh_list}
use Rattle.requests.specs.declared.Issue.TheVariants.{Three}
use Rattle.platform.specs.declared.reactions.Standing.{Standing}
use Rattle.platform.specs.Receiving.{fresh_standing}
use Rattle.mixed.specs.declared.AnyAnswer.{AnyAnswer}
use Rattle.mixed.specs.declared.AnyAnswer.TheVariants as answer
use Rattle.mixed.specs.declared.AnyReceived.{AnyReceived}
use Rattle.promises.specs.RequestCalls.{HasKind}
use Rattle.promises.specs.MixedResponses.{ToReceive, our_any_receiving, AnyHeader, ComesAs, IsPending, RespondsAny}
use Rattle.promises.specs.MixedAsked.{header_in}
use Rattle.promises.specs.WrongMixedResponses.{any_sender3, told_again, from_byte20, left_taken, NoWrongMixedResponse}
use Rattle.promises.proofs.WrongResponses.{t, s, is_table}
use Rattle.promises.proofs.MixedAsked.{crosses_in}
use Rattle.promises.proofs.MixedResponses.{mixed_responses}

-- platform 3 speaks Issue 3, and answers platform 1
abbrev stamp : Stamp
stamp = record { seconds = 5; nanoseconds = 6 }

abbrev payload : List ℕ
payload = 1 ∷ 2 ∷ []

abbrev x : ToReceive
x =
    record {
      own = 1;
      stamp = stamp;
      composite = 0;
      partners = 8 ∷ 0 ∷ 0 ∷ 0 ∷ [];
      ours = [];
      table = t;
      services = [];
      bytes = message_bytes3 3 stamp 1 0x0A0B0C0D 0x05060708 payload;
      out = [];
    }

abbrev h : AnyHeader
h = header_in (Three stamp) 3 0x0A0B0C0D 0x05060708 payload

speaks : is_three (8 ∷ 0 ∷ 0 ∷ 0 ∷ []) 3 ≡ true
unfolding is_three bit_in
speaks = refl

has : HasKind t s 0x0A0B0C0D 2 1
unfolding width_of kind_at op_width op_place response_at operation_at id_at
has = record { there = omega arith; named = refl; kinded = refl }

comes : ComesAs x s h 2 1 2
comes =
    record {
      is_table = is_table;
      read =
          crosses_in (Three stamp) 3 1 0x0A0B0C0D 0x05060708 payload (8 ∷ 0 ∷ 0 ∷ 0 ∷ []) (omega arith) (λ (e : ◌≡◌ {A = ℕ} 3 1). omega (arith, e))
          (omega arith) (omega arith) (omega arith) (omega arith, omega arith) speaks;
      has = has;
    }

abbrev p : Standing
p = fresh_standing 1

abbrev asked_of : ℕ → List ℕ
asked_of target = entered fresh_list 0 0x05060708 0x0A0B0C0D target

awaited : IsPending (asked_of 3) h
unfolding bearing
awaited = refl

not-awaited : ¬ (IsPending (asked_of 4) h)
unfolding bearing
not-awaited e = omega (arith, (some_pair_parts 0x0A0B0C0D 0x0A0B0C0D 4 3 e).1)

-- where the payload is told to start, 0 of no response
abbrev start_told : AnyAnswer → ℕ
start_told (answer.Refused n) = 0
start_told (answer.Six g a n) = 0
start_told (answer.SixResponse g i start len) = start
start_told (answer.Three g a n) = 0
start_told (answer.ThreeResponse g i start len) = start

any-sender : ¬ (RespondsAny any_sender3)
unfolding bearing
any-sender r =
    let l : List ℕ = take 64 (asked_of 4) ++ replicate 64 3 in
    let a : start_told (any_sender3.outcome x p (asked_of 4)).answer ≡ 0 =
    ap (λ (y : AnyReceived). start_told y.answer) (r.any_other x s p (asked_of 4) h 1 2 comes not-awaited).outcome in
    let b : start_told (our_any_receiving.outcome x p l).answer ≡ 24 =
    ap (λ (y : AnyReceived). start_told y.answer) (mixed_responses.response x s p l h 1 2 comes refl).outcome in
    let z : ◌≡◌ {A = ℕ} 24 0 = sym b ∙ a in
    omega arith

from_byte_20 : ¬ (RespondsAny from_byte20)
from_byte_20 r =
    let a : start_told (from_byte20.outcome x p (asked_of 3)).answer ≡ 24 =
    ap (λ (y : AnyReceived). start_told y.answer) (r.response x s p (asked_of 3) h 1 2 comes awaited).outcome in
    let b : start_told (from_byte20.outcome x p (asked_of 3)).answer ≡ 20 =
    ap (λ (y : AnyReceived). start_told (told_again y).answer) (mixed_responses.response x s p (asked_of 3) h 1 2 comes awaited).outcome in
    let z : ◌≡◌ {A = ℕ} 20 24 = sym b ∙ a in
    omega arith

left-taken : ¬ (RespondsAny left_taken)
unfolding bearing
left-taken r =
    let b : asked_of 3 ≡ cancelled (asked_of 3) 0x05060708 = (r.response x s p (asked_of 3) h 1 2 comes awaited).list in
    let c : ◌≡◌ {A = ℕ} 0x050607080A0B0C0D 0 = ap (λ (l : List ℕ). get_or l 0 0) b in
    omega arith

pub no_wrong_mixed_response : NoWrongMixedResponse
no_wrong_mixed_response =
    record { ours = mixed_responses; any-sender = any-sender; from_byte_20 = from_byte_20; left-taken = left-taken }

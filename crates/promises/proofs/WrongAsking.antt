-- Wrong programs that send a request: a small request, computed for each, shows what `SendsByIssue` rules out.
-- Assumes nothing.
use Prim.Native.Nat.{ℕ}
use mathlib.Core.Path.{◌≡◌, refl, ap}
use mathlib.Core.Bool.{Bool, true, false, true≢false}
use mathlib.Core.List.{List, [], ◌∷◌}
use native.Mathlib.Omega.{arith}
use lib.ListN.{length, replicate}
use Rattle.message3.specs.declared.Reading3.{Reading3}
use Rattle.message3.specs.declared.Reading3.TheVariants.{Refused, Read}
use Rattle.partners.specs.Threes.{bit_in, is_three, with_three, three_set, listed}
use Rattle.pending.specs.Places.{bearing}
use Rattle.pending.specs.Free.{free_within, is_pending}
use Rattle.pending.specs.PlainMap.{fresh_list}
use Rattle.requests.specs.declared.Sending.{Sending}
use Rattle.requests.specs.declared.Sent.{Sent}
use Rattle.requests.specs.declared.Sent.TheVariants as sent
use Rattle.promises.specs.Requests.{not_sent}
use Rattle.promises.specs.MixedSending.{ToSend, Asking, our_asking, sent_as3, send_checks3, Narrow, ToThree, SendsByIssue}
use Rattle.promises.specs.WrongAsking.{six_for_all, by_own_bit, by_last_byte, stamp_swapped, twenty_for_both, draws_at_refusal}
use Rattle.promises.specs.WrongAsking.{enters_at_refusal, NoWrongAsking}
use Rattle.promises.proofs.Demand1.{demand_1}
use Rattle.promises.proofs.MixedSending.{sends_by_issue}

-- platform 1 asks operation 5 of this target at 3 s 4 ns, with no payload and an output of so many bytes; 2 speaks Issue 3
abbrev asks : ℕ → ℕ → ToSend
asks target room =
    record {
      own = 1;
      stamp = record { seconds = 3; nanoseconds = 4 };
      partners = listed (2 ∷ []);
      next = 7;
      list = fresh_list;
      kind = 2;
      id = 5;
      target = target;
      payload = [];
      out = replicate room 0;
    }

-- how many bytes an answer tells, and the seconds that were read
abbrev bytes_told : Sent → ℕ
bytes_told (sent.Refused n) = 0
bytes_told (sent.Under n written) = written

abbrev seconds_read : Reading3 → ℕ
seconds_read (Refused n) = 0
seconds_read (Read h m start len) = h.seconds

-- to a partner that speaks Issue 3 every right program answers as ours
same : (P : Asking) → SendsByIssue P → (x : ToSend) → ToThree x → P.answers x ≡ our_asking.answers x
same P s x e =
    demand_1.one_answer (not_sent x.next) (sent_as3 x.next x.list x.payload)
    (send_checks3 x.list x.kind x.payload (length x.out)) (P.answers x) (our_asking.answers x) (s.order x e) (sends_by_issue.order x e)

to_two : (room : ℕ) → ToThree (asks 2 room)
unfolding is_three bit_in listed three_set with_three
to_two room = refl

-- 24 bytes are to be told, and 20 are
six-for-all : SendsByIssue six_for_all → ⊥
unfolding is_three bit_in listed three_set with_three bearing free_within
six-for-all s =
    let z : ◌≡◌ {A = ℕ} 20 24 = ap (λ (y : Sending). bytes_told y.answer) (same six_for_all s (asks 2 24) (to_two 24)) in
    omega arith

by-own-bit : SendsByIssue by_own_bit → ⊥
unfolding is_three bit_in listed three_set with_three bearing free_within
by-own-bit s =
    let z : ◌≡◌ {A = ℕ} 20 24 = ap (λ (y : Sending). bytes_told y.answer) (same by_own_bit s (asks 2 24) (to_two 24)) in
    omega arith

twenty-for-both : SendsByIssue twenty_for_both → ⊥
unfolding is_three bit_in listed three_set with_three bearing free_within
twenty-for-both s =
    let z : ◌≡◌ {A = ℕ} 20 24 = ap (λ (y : Sending). bytes_told y.answer) (same twenty_for_both s (asks 2 24) (to_two 24)) in
    omega arith

-- 258 is in no set-up, and 24 bytes are told
by-last-byte : SendsByIssue by_last_byte → ⊥
unfolding is_three bit_in listed three_set with_three bearing free_within
by-last-byte s =
    let z : ◌≡◌ {A = ℕ} 24 20 = ap (λ (y : Sending). bytes_told y.answer) (s.above (asks 258 24) (omega arith)).answer in
    omega arith

-- 3 s were handed, and 4 are read
stamp-swapped : SendsByIssue stamp_swapped → ⊥
unfolding is_three bit_in listed three_set with_three bearing free_within
stamp-swapped s =
    let fits : Narrow (asks 2 24) = record { id_fits = omega arith; next_fits = omega arith; seconds_fit = omega arith; nanoseconds_fit = omega arith } in
    let z : ◌≡◌ {A = ℕ} 4 3 = ap seconds_read (s.arrives (asks 2 24) 9 (to_two 24) fits (λ e. omega arith) refl).heard in
    omega arith

-- 10, and the next own number is 8
draws-at-refusal : SendsByIssue draws_at_refusal → ⊥
unfolding is_three bit_in listed three_set with_three bearing free_within
draws-at-refusal s =
    let z : ◌≡◌ {A = ℕ} 8 7 = ap (λ (y : Sending). y.next) (same draws_at_refusal s (asks 2 23) (to_two 23)) in
    omega arith

-- 10, and number 7 is pending
enters-at-refusal : SendsByIssue enters_at_refusal → ⊥
unfolding is_three bit_in listed three_set with_three bearing free_within
enters-at-refusal s =
    let z : ◌≡◌ {A = Bool} true false = ap (λ (l : List ℕ). is_pending l 7) (s.list_kept (asks 2 23) (λ e. let y : ◌≡◌ {A = ℕ} 10 0 = e in omega arith)) in
    true≢false z

pub no_wrong_asking : NoWrongAsking
no_wrong_asking =
    record {
      six-for-all = six-for-all;
      by-own-bit = by-own-bit;
      by-last-byte = by-last-byte;
      stamp-swapped = stamp-swapped;
      twenty-for-both = twenty-for-both;
      draws-at-refusal = draws-at-refusal;
      enters-at-refusal = enters-at-refusal;
    }

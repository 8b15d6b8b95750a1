-- Every outcome carries missed, by step 2's formula.
-- Assumes nothing.
use Prim.Native.Nat.{ℕ, zero, suc, ◌+◌, ◌-◌, ◌%◌}
use Rattle.refusal.specs.Refusal.{number_of}
use Rattle.std.specs.Prelude.{Result, Ok, Err}
use Rattle.refusal.specs.declared.Refusal.{Refusal}
use mathlib.Core.Path.{◌≡◌, refl, sym, ap, subst, ◌∙◌}
use mathlib.Core.Bool.{true, false, not, true≢false}
use mathlib.Core.List.{List, [], ◌∷◌, ◌++◌}
use native.Mathlib.Omega.{arith}
use borrow.Author.Tests.{eq-eqb, eqb-true}
use lib.Dec.{eqb}
use lib.ListN.{length, get_or, replicate}
use Rattle.wire.proofs.Cond.{yes-if, no-if, and_true, and_right}
use Rattle.binding.specs.Header.{part_carried, counter_in, piece_in}
use Rattle.binding.specs.declared.MessagePart.{MessagePart}
use Rattle.channel.specs.declared.Channel.{Channel}
use Rattle.channel.specs.declared.Room.{Room}
use Rattle.channel.specs.declared.Step.{Step}
use Rattle.channel.specs.declared.Outcome.{Outcome}
use Rattle.channel.specs.declared.Outcome.TheVariants.{Repeated, Delivered, Held, Stray, TooLong}
use Rattle.channel.specs.Channel.{room_of, repeated, missed_of, keeping, noted_of, begun_of, followed_of, placed_of, stepped_of}
use Rattle.channel.specs.Outcomes.{number_given, kind_in, name_of, missed_in, bytes_in}
use Rattle.channel.proofs.Cases.{Stepped, again, whole, begins, stray, long, goes_on, ends, step-cases}
use Rattle.joiner.specs.declared.Joiner.{Joiner}
use Rattle.joiner.specs.Setup.{channel_at, good_sizes, good, fresh_of, setup_of}
use Rattle.joiner.specs.Take.{sent_to, heading_by, judged_of, taken_by, taken_of}
use Rattle.joiner.specs.JoinerWords.{joiner_in}
use Rattle.joiner.specs.Calls.{outcome_words, take_number, take_answer}
use Rattle.joiner.proofs.Judging.{Moved, judged-moved}
use Rattle.recording.specs.Decimal.{decimal}
use Rattle.recording.specs.Line.{line_of}
use Rattle.promises.specs.NotRuledOut.{one_more_missed}
use Rattle.promises.specs.Missed.{Missing, its_record, CarriesMissed, ours, Missed}
use Rattle.promises.proofs.LinkedRuns.{numbered, taken_numbered}

-- a step of one channel
module _ (ch : Channel) (c : ℕ) where
  repeats : repeated ch c ≡ true → Missing ch c 0
  repeats r =
      record {
        again = λ s e. refl;
        formula = λ s n. absurd (n (eqb-true c ch.last (and_right ch.seen (eqb c ch.last) r)));
        nothing_seen = λ s. refl;
      }

  moves : repeated ch c ≡ false → Missing ch c (missed_of ch c)
  unfolding missed_of
  moves r =
      record {
        again = λ s e. absurd (true≢false (sym (and_true ch.seen (eqb c ch.last) s (eq-eqb c ch.last e)) ∙ r));
        formula = λ s n. yes-if ((c + 65536 - (ch.last + 1)) % 65536) 0 s;
        nothing_seen = λ s. no-if ((c + 65536 - (ch.last + 1)) % 65536) 0 s;
      }

missing : {room : Room} {ch : Channel} {c n : ℕ} {p : MessagePart} {s : Step} → Stepped room ch c n p s → Missing ch c (missed_in (Ok s.outcome))
missing {ch = ch} {c = c} (again r) = repeats ch c r
missing {ch = ch} {c = c} (whole r) = moves ch c r
missing {ch = ch} {c = c} (begins r f) = moves ch c r
missing {ch = ch} {c = c} (stray r z) = moves ch c r
missing {ch = ch} {c = c} (long r) = moves ch c r
missing {ch = ch} {c = c} (goes_on r z f) = moves ch c r
missing {ch = ch} {c = c} (ends r z f) = moves ch c r

-- a number that is none is no refusal's
not_zero : (n : ℕ) → not (eqb n 0) ≡ true → n ≡ 0 → ⊥
not_zero zero h z = true≢false (sym h)
not_zero (suc n) h z = omega arith

carried : CarriesMissed ours
unfolding taken_of taken_by
carried j rooms d z = go (judged_of j (length rooms) d) refl
  where
    go : (x : Result (ℕ × Step) Refusal) → judged_of j (length rooms) d ≡ x → Missing (its_record j d) (counter_in d) (missed_in (taken_of j rooms d).outcome)
    go (Err r) e =
        let o : (taken_of j rooms d).outcome ≡ Err r = ap (λ (x : Result (ℕ × Step) Refusal). (taken_by j x).outcome) e in
        absurd (not_zero (number_of r) (sym (ap numbered o) ∙ taken_numbered j rooms d) (sym (ap number_given o) ∙ z))
    go (Ok (k, s)) e =
        let o : (taken_of j rooms d).outcome ≡ Ok s.outcome = ap (λ (x : Result (ℕ × Step) Refusal). (taken_by j x).outcome) e in
        let m : Moved j (length rooms) d k s = judged-moved j (length rooms) d k s e in
        let t : Stepped (room_of j.room k) (channel_at j k) (counter_in d) (length (piece_in d)) (part_carried d) s =
        rw m.step (step-cases (room_of j.room k) (channel_at j k) (counter_in d) (length (piece_in d)) (part_carried d)) in
        subst (λ (i : ℕ). Missing (channel_at j i) (counter_in d) (missed_in (taken_of j rooms d).outcome)) m.channel
        (subst (λ (x : Result Outcome Refusal). Missing (channel_at j k) (counter_in d) (missed_in x)) (sym o) (missing t))

-- in an answer's words
word : (o : Result Outcome Refusal) (out : List ℕ) → numbered o ≡ true → number_given o ≡ 0 → get_or (outcome_words o out) 1 0 ≡ missed_in o
word (Err e) out h z = absurd (not_zero (number_of e) h z)
word (Ok Repeated) out h z = refl
word (Ok (Delivered m p)) out h z = refl
word (Ok (Held m n)) out h z = refl
word (Ok (Stray m)) out h z = refl
word (Ok (TooLong m)) out h z = refl

in_words : (ws rooms d out : List ℕ) → take_number ws rooms d ≡ 0 → Missing (its_record (joiner_in ws) d) (counter_in d) (get_or (take_answer ws rooms d out) 1 0)
unfolding take_number take_answer
in_words ws rooms d out z =
    let j : Joiner = joiner_in ws in
    subst (Missing (its_record j d) (counter_in d)) (sym (word (ours j rooms d) out (taken_numbered j rooms d) z)) (carried j rooms d z)

-- in a line
line : (n : ℕ) (o : Result Outcome Refusal) → ¬ (kind_in o ≡ 0) →
    line_of n o ≡ decimal n ++ (32 ∷ (name_of o ++ (32 ∷ (decimal (missed_in o) ++ (32 ∷ (decimal (bytes_in o) ++ (10 ∷ [])))))))
unfolding line_of
line n (Err k) h = absurd (h refl)
line n (Ok Repeated) h = refl
line n (Ok (Delivered m p)) h = refl
line n (Ok (Held m b)) h = refl
line n (Ok (Stray m)) h = refl
line n (Ok (TooLong m)) h = refl

-- a whole message of one byte on a fresh channel: none was missed
abbrev rooms : List ℕ
rooms = replicate 24 0

abbrev d : List ℕ
d = 0x30 ∷ 0x01 ∷ 0x00 ∷ 0x07 ∷ 0xAA ∷ []

one_more : CarriesMissed (λ j r x. one_more_missed (ours j r x)) → ⊥
unfolding missed_of keeping noted_of begun_of followed_of placed_of stepped_of good_sizes good fresh_of setup_of sent_to heading_by judged_of taken_by taken_of
one_more f = let e : ◌≡◌ {A = ℕ} 1 0 = (f (fresh_of (1 ∷ []) 24) rooms d refl).nothing_seen refl in omega arith

pub missed : Missed
missed =
    record {
      carried = carried;
      linked = λ k a n e p z.
          subst (Missing (its_record (joiner_in a.0.now) a.1.1.0.now) (counter_in a.1.1.0.now))
          (ap (λ (ws : List ℕ). get_or ws 1 0) (sym p.1.1.1))
          (in_words a.0.now a.1.0.now a.1.1.0.now a.1.1.1.0.now (sym p.0 ∙ z));
      line = line;
      one_more = one_more;
    }

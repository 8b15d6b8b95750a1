-- 01, Joining, "Every outcome carries missed"; 01, "What the promises have to say": "A missed count invented: it equals the formula in
-- step 2." Of `take`, of the answer of `nyr_take`, and of a recording's line. The theorem is in proofs/Missed.antt.
use Rattle.std.specs.Prelude.{ℕ, ◌+◌, ◌-◌, ◌%◌, ◌≡◌, true, false, List, [], ◌∷◌, ◌++◌, get_or}
use Rattle.std.specs.Prelude.{Result}
use Rattle.refusal.specs.declared.Refusal.{Refusal}
use Rattle.binding.specs.Header.{counter_in}
use Rattle.channel.specs.declared.Channel.{Channel}
use Rattle.channel.specs.declared.Outcome.{Outcome}
use Rattle.channel.specs.Outcomes.{number_given, kind_in, name_of, missed_in, bytes_in}
use Rattle.joiner.specs.declared.Joiner.{Joiner}
use Rattle.joiner.specs.Setup.{channel_at}
use Rattle.joiner.specs.Take.{taken_of}
use Rattle.joiner.specs.JoinerWords.{joiner_in}
use Rattle.recording.specs.Decimal.{decimal}
use Rattle.recording.specs.Line.{line_of}
use Rattle.nyrkovash.proofs.nyr_take.Reads.{Post as nyr-take}
use Rattle.promises.specs.Order.{its_channel}
use Rattle.promises.specs.NotRuledOut.{one_more_missed}
use Rattle.promises.specs.LinkedPayloads.{Whenever}

-- what is missed where a datagram with counter c meets this record; M is 65,536
pub record Missing (ch : Channel) (c missed : ℕ) : Type 0 where
  -- step 1: "Seen and c equal to the last: repeated, missed 0"
  pub again : ch.seen ≡ true → c ≡ ch.last → missed ≡ 0
  -- step 2: "Otherwise missed = (c - last - 1) mod M, or 0 if nothing was seen"
  pub formula : ch.seen ≡ true → ¬ (c ≡ ch.last) → missed ≡ (c + 65536 - (ch.last + 1)) % 65536
  pub nothing_seen : ch.seen ≡ false → missed ≡ 0

-- the record that a datagram meets: that of the channel whose sender ID it bears
abbrev pub its_record : Joiner → List ℕ → Channel
its_record j d = channel_at j (its_channel j d)

-- where nothing is refused, the outcome carries it: ours, or any other's
abbrev pub CarriesMissed : (Joiner → List ℕ → List ℕ → Result Outcome Refusal) → Type 0
CarriesMissed taken =
    (j : Joiner) (rooms d : List ℕ) → number_given (taken j rooms d) ≡ 0 → Missing (its_record j d) (counter_in d) (missed_in (taken j rooms d))

abbrev pub ours : Joiner → List ℕ → List ℕ → Result Outcome Refusal
ours j rooms d = (taken_of j rooms d).outcome

pub record Missed : Type 0 where
  pub carried : CarriesMissed ours
  -- `missed` is the second of the answer's words
  pub linked : Whenever nyr-take (λ k a n e. n ≡ 0 →
      Missing (its_record (joiner_in a.0.now) a.1.1.0.now) (counter_in a.1.1.0.now) (get_or e.1.1.1.0.now 1 0))
  -- "the outcome's name, missed, and the bytes held or delivered": every outcome's line but a refusal's, which has no kind
  pub line : (n : ℕ) (o : Result Outcome Refusal) → ¬ (kind_in o ≡ 0) →
      line_of n o ≡ decimal n ++ (32 ∷ (name_of o ++ (32 ∷ (decimal (missed_in o) ++ (32 ∷ (decimal (bytes_in o) ++ (10 ∷ [])))))))
  -- what reports one more missed than there were, and meets demand 3 (specs/NotRuledOut), does not
  pub one_more : CarriesMissed (λ j rooms d. one_more_missed (ours j rooms d)) → ⊥

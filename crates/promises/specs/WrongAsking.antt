-- 02, request 8: programs that send a request and are wrong in one place alone. Each is shown not to meet `SendsByIssue`, by a small request.
-- The theorems are in proofs/WrongAsking.antt.
use Rattle.std.specs.Prelude.{ℕ, ◌%◌, length}
use Rattle.message3.specs.declared.Stamp.{Stamp}
use Rattle.pending.specs.Places.{free_place, entered_at}
use Rattle.pending.specs.Free.{drawn, next_free}
use Rattle.requests.specs.declared.Issue.{Issue}
use Rattle.requests.specs.declared.Issue.TheVariants.{Six}
use Rattle.requests.specs.declared.Sent.{Sent}
use Rattle.requests.specs.declared.Sent.TheVariants.{Refused, Under}
use Rattle.requests.specs.Sending.{sent_for, list_sent_for, output_sent_for}
use Rattle.mixed_words.specs.SendCalls.{issue_for}
use Rattle.promises.specs.MixedSending.{ToSend, Asking, our_asking, SendsByIssue}

-- a program that sends in another issue than the target's
abbrev pub in_issue : (ToSend → Issue) → Asking
in_issue f =
    record {
      answers = λ x. sent_for (f x) x.next x.list x.kind x.id x.payload (length x.out);
      lists = λ x. list_sent_for (f x) x.next x.list x.kind x.id x.target x.payload (length x.out);
      outputs = λ x. output_sent_for (f x) x.own x.next x.list x.kind x.id x.payload x.out;
    }

-- Issue 6 for all; the issue by our own bit of the set-up; a target above 255 taken for the one of its last byte
abbrev pub six_for_all : Asking
six_for_all = in_issue (λ x. Six)

abbrev pub by_own_bit : Asking
by_own_bit = in_issue (λ x. issue_for x.partners x.stamp x.own)

abbrev pub by_last_byte : Asking
by_last_byte = in_issue (λ x. issue_for x.partners x.stamp (x.target % 256))

-- seconds for nanoseconds
abbrev pub swapped : Stamp → Stamp
swapped t = record { seconds = t.nanoseconds; nanoseconds = t.seconds }

abbrev pub stamp_swapped : Asking
stamp_swapped = in_issue (λ x. issue_for x.partners (swapped x.stamp) x.target)

-- 20 bytes of header counted for both: the room that is asked for, and how many bytes are told
abbrev pub twenty_for_both : Asking
twenty_for_both =
    record {
      answers = λ x. sent_for Six x.next x.list x.kind x.id x.payload (length x.out);
      lists = our_asking.lists;
      outputs = our_asking.outputs;
    }

-- an own number that is drawn though the request is refused
abbrev pub drawn_by : Sent → ℕ → ℕ → ℕ
drawn_by (Refused k) n next = drawn n
drawn_by (Under k written) n next = next

abbrev pub draws_at_refusal : Asking
draws_at_refusal =
    record {
      answers = λ x. record {
        next = drawn_by (our_asking.answers x).answer (next_free x.list x.next) (our_asking.answers x).next;
        answer = (our_asking.answers x).answer;
      };
      lists = our_asking.lists;
      outputs = our_asking.outputs;
    }

-- a request that is entered though it is refused
abbrev pub enters_at_refusal : Asking
enters_at_refusal =
    record {
      answers = our_asking.answers;
      lists = λ x. entered_at x.list (free_place x.list) (next_free x.list x.next) x.id x.target;
      outputs = our_asking.outputs;
    }

pub record NoWrongAsking : Type 1 where
  pub six-for-all : ¬ (SendsByIssue six_for_all)
  pub by-own-bit : ¬ (SendsByIssue by_own_bit)
  pub by-last-byte : ¬ (SendsByIssue by_last_byte)
  pub stamp-swapped : ¬ (SendsByIssue stamp_swapped)
  pub twenty-for-both : ¬ (SendsByIssue twenty_for_both)
  pub draws-at-refusal : ¬ (SendsByIssue draws_at_refusal)
  pub enters-at-refusal : ¬ (SendsByIssue enters_at_refusal)

-- 02, requests 1 and 8: programs that keep requests among partners of both issues as ours does but in one place of the mixed calls. By a small run
-- each shows something else than the plain map does. The theorems are in proofs/WrongMixedListings.antt.
use Rattle.std.specs.Prelude.{Bool, true, false}
use Rattle.requests.specs.declared.Sending.{Sending}
use Rattle.partners.specs.Threes.{is_three}
use Rattle.promises.specs.MixedSending.{ToSend, Asking, our_asking}
use Rattle.promises.specs.MixedResponses.{our_any_receiving}
use Rattle.promises.specs.WrongAsking.{six_for_all}
use Rattle.promises.specs.WrongMixedResponses.{any_sender3, left_taken}
use Rattle.promises.specs.MixedRequestCalls.{listing_of}
use Rattle.promises.specs.MixedRequestRuns.{AsMapByAny}

-- a number drawn for each issue: a request of Issue 3 takes the first that is free, whatever was drawn for Issue 6, and leaves Issue 6's next
abbrev pub from_one : ToSend → ToSend
from_one x =
    record {
      own = x.own;
      stamp = x.stamp;
      partners = x.partners;
      next = 1;
      list = x.list;
      kind = x.kind;
      id = x.id;
      target = x.target;
      payload = x.payload;
      out = x.out;
    }

abbrev pub apart : Bool → ToSend → ToSend
apart true x = from_one x
apart false x = x

abbrev pub keeps_next : Bool → ToSend → Sending → Sending
keeps_next true x r = record { next = x.next; answer = r.answer }
keeps_next false x r = r

abbrev pub counted_apart : Asking
counted_apart =
    record {
      answers = λ x. keeps_next (is_three x.partners x.target) x (our_asking.answers (apart (is_three x.partners x.target) x));
      lists = λ x. our_asking.lists (apart (is_three x.partners x.target) x);
      outputs = λ x. our_asking.outputs (apart (is_three x.partners x.target) x);
    }

-- the other three are wrong in one call (WrongAsking, WrongMixedResponses): Issue 6 for all, so that 20 bytes are room enough; a response that
-- leaves its place taken; one that is matched without its sender
pub record NoWrongMixedListing : Type 1 where
  pub number_by_issue : ¬ (AsMapByAny (listing_of counted_apart our_any_receiving))
  pub six-for-all : ¬ (AsMapByAny (listing_of six_for_all our_any_receiving))
  pub left-taken : ¬ (AsMapByAny (listing_of our_asking left_taken))
  pub any-sender : ¬ (AsMapByAny (listing_of our_asking any_sender3))

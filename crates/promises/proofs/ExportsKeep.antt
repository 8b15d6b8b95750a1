-- A refusal of an exported call changes nothing that was lent: by its contract, and by what AnswersKeep says of each answer.
-- Assumes nothing.
use mathlib.Core.Path.{◌∙◌}
use lib.ListN.{length}
use Rattle.binding.specs.Cutting.{counted_of, made_of}
use Rattle.message.specs.Reading.{read_of}
use Rattle.message.specs.Writing.{write_of}
use Rattle.message3.specs.Writing.{write_of3}
use Rattle.mixed.specs.Reading.{any_of}
use Rattle.table.specs.Layout.{within}
use Rattle.types.specs.Table.{checked}
use Rattle.table.specs.Words.{sections_in, index_in}
use Rattle.unpack.specs.Reading.{reader}
use Rattle.pack.specs.Writing.{writer}
use Rattle.payload.specs.Calls.{unpacked, unpacked_in, packed, packed_in}
use Rattle.plan.specs.Layout.{length_in}
use Rattle.platform.specs.Receiving.{received_of, sections_outcome}
use Rattle.operations.specs.Search.{sought_in}
use Rattle.pending.specs.Free.{is_pending}
use Rattle.platform_words.specs.Words.{standing_in, pending_in}
use Rattle.requests.specs.declared.Issue.TheVariants.{Six}
use Rattle.mixed_words.specs.HeardWords.{stamp_in}
use Rattle.mixed_words.specs.SendCalls.{issue_for}
use Rattle.platform_words.proofs.Kept.{receive_keeps, receive_in_keeps, send-keeps-words, send-keeps-output, send-keeps-sent, cancel_keeps}
use Rattle.nyrkovash.specs.IssueCalls.{stamped}
use Rattle.nyrkovash.specs.TableCalls.{found_words}
use Rattle.promises.specs.Demand1.{ChangesNothing}
use Rattle.promises.specs.ExportsKeep.{ExportsKeep}
use Rattle.promises.specs.MixedCalls.{bytes, sections}
use Rattle.promises.proofs.AnswersKeep.{by, by_walked, by_plans, count_keeps, made_keeps, read_keeps, write_keeps, any_keeps, check_keeps, found_keeps}
use Rattle.promises.proofs.AnswersKeep.{length_keeps, setup_keeps, state-keeps, rooms-keeps, answer_keeps, heard_keeps, none_given_up}
use Rattle.promises.proofs.Numbered.{in-numbered, bytes-numbered}
use Rattle.promises.proofs.Demand1.{demand_1}
use Rattle.promises.proofs.Plans.{the_plans}
use Rattle.promises.proofs.Issue3Order.{issue3_order}
use Rattle.promises.proofs.MixedKept.{mixed-words-keep, mixed-services-keep, mixed-output-keeps, mixed-heard-keeps}

kept : ChangesNothing
kept = demand_1.changes_nothing

pub exports_keep : ExportsKeep
exports_keep =
    record {
      setup = λ k a n e p. by p.0 p.1 (setup_keeps a.1.0.now a.1.1.0 a.1.1.1.0 a.0.now);
      take_state = λ k a n e p. by p.0 p.1.0 (state-keeps a.0.now a.1.0.now a.1.1.0.now);
      take-rooms = λ k a n e p. by p.0 p.1.1.0 (rooms-keeps a.0.now a.1.0.now a.1.1.0.now);
      take_answer = λ k a n e p. by p.0 p.1.1.1 (answer_keeps a.0.now a.1.0.now a.1.1.0.now _);
      pieces = λ k a n e p. by p.0 p.1 (count_keeps _ (counted_of a.0 a.1.0));
      cut_out = λ k a n e p. by p.0 p.1.0
          (kept.cut_output a.0.now a.1.0 a.1.1.0 a.1.1.1.0 a.1.1.1.1.0 a.1.1.1.1.1.0.now);
      cut_written = λ k a n e p. by p.0 p.1.1
          (made_keeps _ (made_of a.0.now a.1.0 a.1.1.0 a.1.1.1.0 a.1.1.1.1.0 (length a.1.1.1.1.1.0.now)));
      read = λ k a n e p. by p.0 p.1 (read_keeps _ (read_of a.0 a.1.0.now));
      write_out = λ k a n e p. by p.0 p.1.0
          (kept.write_output a.0 a.1.0 a.1.1.0 a.1.1.1.0 a.1.1.1.1.0.now a.1.1.1.1.1.0.now);
      write_written = λ k a n e p. by p.0 p.1.1
          (write_keeps _ (write_of a.1.0 a.1.1.0 a.1.1.1.1.0.now (length a.1.1.1.1.1.0.now)));
      read_mixed = λ k a n e p. by p.0 p.1 (any_keeps _ (any_of a.1.0.now a.0 a.1.1.0.now));
      write_3_out = λ k a n e p. by p.0 p.1.0
          (issue3_order.write_output a.0 (stamped a.1.0 a.1.1.0) a.1.1.1.0 a.1.1.1.1.0 a.1.1.1.1.1.0
          a.1.1.1.1.1.1.0.now a.1.1.1.1.1.1.1.0.now);
      write_3_written = λ k a n e p. by p.0 p.1.1
          (write_keeps _ (write_of3 a.1.1.1.0 a.1.1.1.1.0 a.1.1.1.1.1.1.0.now (length a.1.1.1.1.1.1.1.0.now)));
      check_table = λ k a n e p. by p.0 p.1 (check_keeps a.0.now _ (checked a.0.now));
      find = λ k a n e p.
          let t = a.0.now in
          let s = sections_in a.1.0.now in
          by p.0 p.1 (found_keeps (within t s) _ (found_words t (sought_in t (index_in a.1.0.now) s.operations.count a.1.1.0)));
      unpack_words = λ k a n e p. by p.0 p.1.0 (kept.unpack_words a.0.now a.1.0 a.1.1.0.now a.1.1.1.0.now);
      unpack_walked = λ k a n e p.
          let t = a.0.now in
          let b = a.1.1.0.now in
          let room = length a.1.1.1.0.now in
          by_walked (unpacked t a.1.0 b room) p.0 p.1.1 (bytes-numbered (reader b) (length b) t a.1.0 room);
      unpack_in_words = λ k a n e p. by p.0 p.1.0
          (kept.unpack_in_words a.0.now (sections_in a.1.0.now) a.1.1.0 a.1.1.1.0.now a.1.1.1.1.0.now);
      unpack_in_walked = λ k a n e p.
          let t = a.0.now in
          let s = sections_in a.1.0.now in
          let b = a.1.1.1.0.now in
          let room = length a.1.1.1.1.0.now in
          by_walked (unpacked_in t s a.1.1.0 b room) p.0 p.1.1 (in-numbered (reader b) (length b) t s a.1.1.0 room);
      pack_out = λ k a n e p. by p.0 p.1.0 (kept.pack_output a.0.now a.1.0 a.1.1.0.now a.1.1.1.0.now);
      pack_walked = λ k a n e p.
          let t = a.0.now in
          let ws = a.1.1.0.now in
          let room = length a.1.1.1.0.now in
          by_walked (packed t a.1.0 ws room) p.0 p.1.1 (bytes-numbered (writer ws) (length ws) t a.1.0 room);
      pack_in_out = λ k a n e p. by p.0 p.1.0
          (kept.pack_in_output a.0.now (sections_in a.1.0.now) a.1.1.0 a.1.1.1.0.now a.1.1.1.1.0.now);
      pack_in_walked = λ k a n e p.
          let t = a.0.now in
          let s = sections_in a.1.0.now in
          let ws = a.1.1.1.0.now in
          let room = length a.1.1.1.1.0.now in
          by_walked (packed_in t s a.1.1.0 ws room) p.0 p.1.1 (in-numbered (writer ws) (length ws) t s a.1.1.0 room);
      plans_length = λ k a n e p. by p.0 p.1 (length_keeps _ (length_in a.0.now (sections_in a.1.0.now)));
      plans = λ k a n e p. by p.0 p.1 ((the_plans.lays_out a.0.now (sections_in a.1.0.now)).stays a.1.1.0.now);
      unpack_by_words = λ k a n e p.
          let any = the_plans.by_any a.1.1.0.now a.0.now (sections_in a.1.0.now) a.1.1.1.0 in
          by p.0 p.1.0 (any.words_stay a.1.1.1.1.0.now a.1.1.1.1.1.0.now);
      unpack_by_walked = λ k a n e p. let b = a.1.1.1.1.0.now in by_plans (reader b) (length b) _ _ _ _ _ p.0 p.1.1;
      pack_by_out = λ k a n e p.
          let any = the_plans.by_any a.1.1.0.now a.0.now (sections_in a.1.0.now) a.1.1.1.0 in
          by p.0 p.1.0 (any.bytes_stay a.1.1.1.1.0.now a.1.1.1.1.1.0.now);
      pack_by_walked = λ k a n e p. let ws = a.1.1.1.1.0.now in by_plans (writer ws) (length ws) _ _ _ _ _ p.0 p.1.1;
      receive_platform = λ k a n e p. by p.0 p.1.0
          (receive_keeps a.0 a.1.0.now a.1.1.0.now a.1.1.1.0.now a.1.1.1.1.0.now);
      receive_out = λ k a n e p.
          let ws = a.1.0.now in
          by p.0 p.1.1.0
          (kept.receive a.0 a.1.1.0.now (standing_in ws) (pending_in ws) a.1.1.1.0.now a.1.1.1.1.0.now).output;
      receive_heard = λ k a n e p.
          let ws = a.1.0.now in
          by p.0 p.1.1.1
          (heard_keeps _
          (received_of a.0 a.1.1.0.now (standing_in ws) (pending_in ws) a.1.1.1.0.now (length a.1.1.1.1.0.now)).answer);
      receive_in_platform = λ k a n e p. by p.0 p.1.0
          (receive_in_keeps a.0 a.1.0.now a.1.1.0.now a.1.1.1.0.now a.1.1.1.1.0.now a.1.1.1.1.1.0.now);
      receive_in_out = λ k a n e p.
          let ws = a.1.0.now in
          let ss = a.1.1.1.0.now in
          by p.0 p.1.1.0
          (kept.receive-checked a.0 a.1.1.0.now (sections_in ss) (index_in ss) (standing_in ws) (pending_in ws)
          a.1.1.1.1.0.now a.1.1.1.1.1.0.now).output;
      receive_in_heard = λ k a n e p.
          let ws = a.1.0.now in
          let ss = a.1.1.1.0.now in
          let t = sections_outcome a.0 a.1.1.0.now (sections_in ss) (index_in ss) (standing_in ws) (pending_in ws) a.1.1.1.1.0.now
          (length a.1.1.1.1.1.0.now) in
          by p.0 p.1.1.1 (heard_keeps _ t.answer);
      receive_mixed_platform = λ k a n e p. by p.0 p.1.0
          (mixed-words-keep (bytes a.1.1.1.1.1.1.0.now) a.0 a.1.0.now a.1.1.0.now a.1.1.1.0.now
          a.1.1.1.1.0.now a.1.1.1.1.1.0.now a.1.1.1.1.1.1.1.0.now a.1.1.1.1.1.1.1.1.0.now);
      receive_mixed_services = λ k a n e p. by p.0 p.1.1.0
          (mixed-services-keep (bytes a.1.1.1.1.1.1.0.now) a.0 a.1.0.now a.1.1.0.now a.1.1.1.0.now
          a.1.1.1.1.0.now a.1.1.1.1.1.0.now a.1.1.1.1.1.1.1.0.now a.1.1.1.1.1.1.1.1.0.now);
      receive_mixed_out = λ k a n e p. by p.0 p.1.1.1.0
          (mixed-output-keeps (bytes a.1.1.1.1.1.1.0.now) a.0 a.1.0.now a.1.1.0.now a.1.1.1.0.now
          a.1.1.1.1.0.now a.1.1.1.1.1.0.now a.1.1.1.1.1.1.1.0.now a.1.1.1.1.1.1.1.1.0.now);
      receive_mixed_heard = λ k a n e p. by p.0 p.1.1.1.1
          (mixed-heard-keeps (bytes a.1.1.1.1.1.1.0.now) a.0 a.1.0.now a.1.1.0.now a.1.1.1.0.now
          a.1.1.1.1.0.now a.1.1.1.1.1.0.now a.1.1.1.1.1.1.1.0.now a.1.1.1.1.1.1.1.1.0.now _);
      receive_mixed_in_platform = λ k a n e p.
          let ss = a.1.1.1.1.1.1.1.0.now in
          let t = sections a.1.1.1.1.1.1.0.now (sections_in ss) (index_in ss) in
          by p.0 p.1.0
          (mixed-words-keep t a.0 a.1.0.now a.1.1.0.now a.1.1.1.0.now
          a.1.1.1.1.0.now a.1.1.1.1.1.0.now a.1.1.1.1.1.1.1.1.0.now a.1.1.1.1.1.1.1.1.1.0.now);
      receive_mixed_in_services = λ k a n e p.
          let ss = a.1.1.1.1.1.1.1.0.now in
          let t = sections a.1.1.1.1.1.1.0.now (sections_in ss) (index_in ss) in
          by p.0 p.1.1.0
          (mixed-services-keep t a.0 a.1.0.now a.1.1.0.now a.1.1.1.0.now
          a.1.1.1.1.0.now a.1.1.1.1.1.0.now a.1.1.1.1.1.1.1.1.0.now a.1.1.1.1.1.1.1.1.1.0.now);
      receive_mixed_in_out = λ k a n e p.
          let ss = a.1.1.1.1.1.1.1.0.now in
          let t = sections a.1.1.1.1.1.1.0.now (sections_in ss) (index_in ss) in
          by p.0 p.1.1.1.0
          (mixed-output-keeps t a.0 a.1.0.now a.1.1.0.now a.1.1.1.0.now
          a.1.1.1.1.0.now a.1.1.1.1.1.0.now a.1.1.1.1.1.1.1.1.0.now a.1.1.1.1.1.1.1.1.1.0.now);
      receive_mixed_in_heard = λ k a n e p.
          let ss = a.1.1.1.1.1.1.1.0.now in
          let t = sections a.1.1.1.1.1.1.0.now (sections_in ss) (index_in ss) in
          by p.0 p.1.1.1.1
          (mixed-heard-keeps t a.0 a.1.0.now a.1.1.0.now a.1.1.1.0.now
          a.1.1.1.1.0.now a.1.1.1.1.1.0.now a.1.1.1.1.1.1.1.1.0.now a.1.1.1.1.1.1.1.1.1.0.now _);
      send_platform = λ k a n e p. by p.0 p.1.0
          (λ d. send-keeps-words Six a.1.0.now a.1.1.0.now a.1.1.1.0.now a.1.1.1.1.0 a.1.1.1.1.1.1.0.now
          a.1.1.1.1.1.1.1.0.now d a.1.1.1.1.1.0);
      send_out = λ k a n e p. by p.0 p.1.1.0
          (λ d. send-keeps-output Six a.1.0.now a.1.1.0.now a.1.1.1.0.now a.1.1.1.1.0 a.1.1.1.1.1.1.0.now
          a.1.1.1.1.1.1.1.0.now d a.0);
      send_sent = λ k a n e p. by p.0 p.1.1.1
          (λ d. send-keeps-sent Six a.1.0.now a.1.1.0.now a.1.1.1.0.now a.1.1.1.1.0 a.1.1.1.1.1.1.0.now
          a.1.1.1.1.1.1.1.0.now d _);
      send_mixed_platform = λ k a n e p. by p.0 p.1.0
          (λ d. send-keeps-words (issue_for a.1.1.0.now (stamp_in a.1.0.now) a.1.1.1.1.1.1.1.0)
          a.1.1.1.0.now a.1.1.1.1.0.now a.1.1.1.1.1.0.now a.1.1.1.1.1.1.0 a.1.1.1.1.1.1.1.1.0.now
          a.1.1.1.1.1.1.1.1.1.0.now d a.1.1.1.1.1.1.1.0);
      send_mixed_out = λ k a n e p. by p.0 p.1.1.0
          (λ d. send-keeps-output (issue_for a.1.1.0.now (stamp_in a.1.0.now) a.1.1.1.1.1.1.1.0)
          a.1.1.1.0.now a.1.1.1.1.0.now a.1.1.1.1.1.0.now a.1.1.1.1.1.1.0 a.1.1.1.1.1.1.1.1.0.now
          a.1.1.1.1.1.1.1.1.1.0.now d a.0);
      send_mixed_sent = λ k a n e p. by p.0 p.1.1.1
          (λ d. send-keeps-sent (issue_for a.1.1.0.now (stamp_in a.1.0.now) a.1.1.1.1.1.1.1.0)
          a.1.1.1.0.now a.1.1.1.1.0.now a.1.1.1.1.1.0.now a.1.1.1.1.1.1.0 a.1.1.1.1.1.1.1.1.0.now
          a.1.1.1.1.1.1.1.1.1.0.now d _);
      cancel_none = λ k a n e p z.
          let ws = a.0.now in
          p.1.0 ∙ cancel_keeps ws a.1.0 (none_given_up (is_pending (pending_in ws) a.1.0) _ p.1.1 z);
    }

-- 01, "What the promises have to say": two outcomes that one promise allows are equal, for the calls as programs in C have them
-- (include/nyrkovash.h), over their very contracts. The theorem is in proofs/UniqueCalls.antt.
use Rattle.promises.specs.Unique.{Answer, Lent}
use Rattle.nyrkovash.proofs.nyr_pieces.Reads.{Post as nyrkovash-nyr-pieces}
use Rattle.nyrkovash.proofs.nyr_cut.Reads.{Post as nyrkovash-nyr-cut}
use Rattle.nyrkovash.proofs.nyr_read.Reads.{Post as nyrkovash-nyr-read}
use Rattle.nyrkovash.proofs.nyr_write.Reads.{Post as nyrkovash-nyr-write}
use Rattle.nyrkovash.proofs.nyr_partners_set.Reads.{Post as nyrkovash-nyr-partners-set}
use Rattle.nyrkovash.proofs.nyr_read_mixed.Reads.{Post as nyrkovash-nyr-read-mixed}
use Rattle.nyrkovash.proofs.nyr_write_3.Reads.{Post as nyrkovash-nyr-write-3}
use Rattle.nyrkovash.proofs.nyr_check_table.Reads.{Post as nyrkovash-nyr-check-table}
use Rattle.nyrkovash.proofs.nyr_find.Reads.{Post as nyrkovash-nyr-find}
use Rattle.nyrkovash.proofs.nyr_unpack.Reads.{Post as nyrkovash-nyr-unpack}
use Rattle.nyrkovash.proofs.nyr_unpack_in.Reads.{Post as nyrkovash-nyr-unpack-in}
use Rattle.nyrkovash.proofs.nyr_pack.Reads.{Post as nyrkovash-nyr-pack}
use Rattle.nyrkovash.proofs.nyr_pack_in.Reads.{Post as nyrkovash-nyr-pack-in}
use Rattle.nyrkovash.proofs.nyr_plans_length.Reads.{Post as nyrkovash-nyr-plans-length}
use Rattle.nyrkovash.proofs.nyr_plans.Reads.{Post as nyrkovash-nyr-plans}
use Rattle.nyrkovash.proofs.nyr_unpack_by.Reads.{Post as nyrkovash-nyr-unpack-by}
use Rattle.nyrkovash.proofs.nyr_pack_by.Reads.{Post as nyrkovash-nyr-pack-by}
use Rattle.nyrkovash.proofs.nyr_setup.Reads.{Post as nyrkovash-nyr-setup}
use Rattle.nyrkovash.proofs.nyr_take.Reads.{Post as nyrkovash-nyr-take}
use Rattle.nyrkovash.proofs.nyr_start.Reads.{Post as nyrkovash-nyr-start}
use Rattle.nyrkovash.proofs.nyr_receive.Reads.{Post as nyrkovash-nyr-receive}
use Rattle.nyrkovash.proofs.nyr_receive_in.Reads.{Post as nyrkovash-nyr-receive-in}
use Rattle.nyrkovash.proofs.nyr_receive_mixed.Reads.{Post as nyrkovash-nyr-receive-mixed}
use Rattle.nyrkovash.proofs.nyr_receive_mixed_in.Reads.{Post as nyrkovash-nyr-receive-mixed-in}
use Rattle.nyrkovash.proofs.nyr_service.Reads.{Post as nyrkovash-nyr-service}
use Rattle.nyrkovash.proofs.nyr_send.Reads.{Post as nyrkovash-nyr-send}
use Rattle.nyrkovash.proofs.nyr_send_mixed.Reads.{Post as nyrkovash-nyr-send-mixed}
use Rattle.nyrkovash.proofs.nyr_cancel.Reads.{Post as nyrkovash-nyr-cancel}
use Rattle.nyrkovash.proofs.nyr_pending.Reads.{Post as nyrkovash-nyr-pending}
use Rattle.nyrkovash.proofs.nyr_is_up.Reads.{Post as nyrkovash-nyr-is-up}
use Rattle.nyrkovash.proofs.nyr_how_many_up.Reads.{Post as nyrkovash-nyr-how-many-up}
use Rattle.nyrkovash.proofs.nyr_library_version.Reads.{Post as nyrkovash-nyr-library-version}

pub record UniqueCalls : Type 0 where
  pub nyr-pieces : Answer nyrkovash-nyr-pieces
  pub nyr_pieces_given : Lent nyrkovash-nyr-pieces (λ k e. e.1.1.0.now)
  pub nyr-cut : Answer nyrkovash-nyr-cut
  pub nyr_cut_out : Lent nyrkovash-nyr-cut (λ k e. e.1.1.1.1.1.0.now)
  pub nyr_cut_written : Lent nyrkovash-nyr-cut (λ k e. e.1.1.1.1.1.1.0.now)
  pub nyr-read : Answer nyrkovash-nyr-read
  pub nyr_read_answer : Lent nyrkovash-nyr-read (λ k e. e.1.1.0.now)
  pub nyr-write : Answer nyrkovash-nyr-write
  pub nyr_write_out : Lent nyrkovash-nyr-write (λ k e. e.1.1.1.1.1.0.now)
  pub nyr_write_written : Lent nyrkovash-nyr-write (λ k e. e.1.1.1.1.1.1.0.now)
  pub nyr-partners-set : Answer nyrkovash-nyr-partners-set
  pub nyr_partners_set_partners : Lent nyrkovash-nyr-partners-set (λ k e. e.0.now)
  pub nyr-read-mixed : Answer nyrkovash-nyr-read-mixed
  pub nyr_read_mixed_answer : Lent nyrkovash-nyr-read-mixed (λ k e. e.1.1.1.0.now)
  pub nyr-write-3 : Answer nyrkovash-nyr-write-3
  pub nyr_write_3_out : Lent nyrkovash-nyr-write-3 (λ k e. e.1.1.1.1.1.1.1.0.now)
  pub nyr_write_3_written : Lent nyrkovash-nyr-write-3 (λ k e. e.1.1.1.1.1.1.1.1.0.now)
  pub nyr-check-table : Answer nyrkovash-nyr-check-table
  pub nyr_check_table_sections : Lent nyrkovash-nyr-check-table (λ k e. e.1.0.now)
  pub nyr-find : Answer nyrkovash-nyr-find
  pub nyr_find_answer : Lent nyrkovash-nyr-find (λ k e. e.1.1.1.0.now)
  pub nyr-unpack : Answer nyrkovash-nyr-unpack
  pub nyr_unpack_words : Lent nyrkovash-nyr-unpack (λ k e. e.1.1.1.0.now)
  pub nyr_unpack_walked : Lent nyrkovash-nyr-unpack (λ k e. e.1.1.1.1.0.now)
  pub nyr-unpack-in : Answer nyrkovash-nyr-unpack-in
  pub nyr_unpack_in_words : Lent nyrkovash-nyr-unpack-in (λ k e. e.1.1.1.1.0.now)
  pub nyr_unpack_in_walked : Lent nyrkovash-nyr-unpack-in (λ k e. e.1.1.1.1.1.0.now)
  pub nyr-pack : Answer nyrkovash-nyr-pack
  pub nyr_pack_out : Lent nyrkovash-nyr-pack (λ k e. e.1.1.1.0.now)
  pub nyr_pack_walked : Lent nyrkovash-nyr-pack (λ k e. e.1.1.1.1.0.now)
  pub nyr-pack-in : Answer nyrkovash-nyr-pack-in
  pub nyr_pack_in_out : Lent nyrkovash-nyr-pack-in (λ k e. e.1.1.1.1.0.now)
  pub nyr_pack_in_walked : Lent nyrkovash-nyr-pack-in (λ k e. e.1.1.1.1.1.0.now)
  pub nyr-plans-length : Answer nyrkovash-nyr-plans-length
  pub nyr_plans_length_words : Lent nyrkovash-nyr-plans-length (λ k e. e.1.1.0.now)
  pub nyr-plans : Answer nyrkovash-nyr-plans
  pub nyr_plans_plans : Lent nyrkovash-nyr-plans (λ k e. e.1.1.0.now)
  pub nyr-unpack-by : Answer nyrkovash-nyr-unpack-by
  pub nyr_unpack_by_words : Lent nyrkovash-nyr-unpack-by (λ k e. e.1.1.1.1.1.0.now)
  pub nyr_unpack_by_walked : Lent nyrkovash-nyr-unpack-by (λ k e. e.1.1.1.1.1.1.0.now)
  pub nyr-pack-by : Answer nyrkovash-nyr-pack-by
  pub nyr_pack_by_out : Lent nyrkovash-nyr-pack-by (λ k e. e.1.1.1.1.1.0.now)
  pub nyr_pack_by_walked : Lent nyrkovash-nyr-pack-by (λ k e. e.1.1.1.1.1.1.0.now)
  pub nyr-setup : Answer nyrkovash-nyr-setup
  pub nyr_setup_state : Lent nyrkovash-nyr-setup (λ k e. e.0.now)
  pub nyr-take : Answer nyrkovash-nyr-take
  pub nyr_take_state : Lent nyrkovash-nyr-take (λ k e. e.0.now)
  pub nyr_take_rooms : Lent nyrkovash-nyr-take (λ k e. e.1.0.now)
  pub nyr_take_answer : Lent nyrkovash-nyr-take (λ k e. e.1.1.1.0.now)
  pub nyr-start : Answer nyrkovash-nyr-start
  pub nyr_start_platform : Lent nyrkovash-nyr-start (λ k e. e.1.0.now)
  pub nyr-receive : Answer nyrkovash-nyr-receive
  pub nyr_receive_platform : Lent nyrkovash-nyr-receive (λ k e. e.1.0.now)
  pub nyr_receive_out : Lent nyrkovash-nyr-receive (λ k e. e.1.1.1.1.0.now)
  pub nyr_receive_heard : Lent nyrkovash-nyr-receive (λ k e. e.1.1.1.1.1.0.now)
  pub nyr-receive-in : Answer nyrkovash-nyr-receive-in
  pub nyr_receive_in_platform : Lent nyrkovash-nyr-receive-in (λ k e. e.1.0.now)
  pub nyr_receive_in_out : Lent nyrkovash-nyr-receive-in (λ k e. e.1.1.1.1.1.0.now)
  pub nyr_receive_in_heard : Lent nyrkovash-nyr-receive-in (λ k e. e.1.1.1.1.1.1.0.now)
  pub nyr-receive-mixed : Answer nyrkovash-nyr-receive-mixed
  pub nyr_receive_mixed_platform : Lent nyrkovash-nyr-receive-mixed (λ k e. e.1.1.1.1.0.now)
  pub nyr_receive_mixed_services : Lent nyrkovash-nyr-receive-mixed (λ k e. e.1.1.1.1.1.0.now)
  pub nyr_receive_mixed_out : Lent nyrkovash-nyr-receive-mixed (λ k e. e.1.1.1.1.1.1.1.1.0.now)
  pub nyr_receive_mixed_heard : Lent nyrkovash-nyr-receive-mixed (λ k e. e.1.1.1.1.1.1.1.1.1.0.now)
  pub nyr-receive-mixed-in : Answer nyrkovash-nyr-receive-mixed-in
  pub nyr_receive_mixed_in_platform : Lent nyrkovash-nyr-receive-mixed-in (λ k e. e.1.1.1.1.0.now)
  pub nyr_receive_mixed_in_services : Lent nyrkovash-nyr-receive-mixed-in (λ k e. e.1.1.1.1.1.0.now)
  pub nyr_receive_mixed_in_out : Lent nyrkovash-nyr-receive-mixed-in (λ k e. e.1.1.1.1.1.1.1.1.1.0.now)
  pub nyr_receive_mixed_in_heard : Lent nyrkovash-nyr-receive-mixed-in (λ k e. e.1.1.1.1.1.1.1.1.1.1.0.now)
  pub nyr-service : Answer nyrkovash-nyr-service
  pub nyr-send : Answer nyrkovash-nyr-send
  pub nyr_send_platform : Lent nyrkovash-nyr-send (λ k e. e.1.0.now)
  pub nyr_send_out : Lent nyrkovash-nyr-send (λ k e. e.1.1.1.1.1.1.1.0.now)
  pub nyr_send_sent : Lent nyrkovash-nyr-send (λ k e. e.1.1.1.1.1.1.1.1.0.now)
  pub nyr-send-mixed : Answer nyrkovash-nyr-send-mixed
  pub nyr_send_mixed_platform : Lent nyrkovash-nyr-send-mixed (λ k e. e.1.1.1.0.now)
  pub nyr_send_mixed_out : Lent nyrkovash-nyr-send-mixed (λ k e. e.1.1.1.1.1.1.1.1.1.0.now)
  pub nyr_send_mixed_sent : Lent nyrkovash-nyr-send-mixed (λ k e. e.1.1.1.1.1.1.1.1.1.1.0.now)
  pub nyr-cancel : Answer nyrkovash-nyr-cancel
  pub nyr_cancel_platform : Lent nyrkovash-nyr-cancel (λ k e. e.0.now)
  pub nyr_cancel_cancelled : Lent nyrkovash-nyr-cancel (λ k e. e.1.1.0.now)
  pub nyr-pending : Answer nyrkovash-nyr-pending
  pub nyr_pending_awaited : Lent nyrkovash-nyr-pending (λ k e. e.1.1.0.now)
  pub nyr-is-up : Answer nyrkovash-nyr-is-up
  pub nyr-how-many-up : Answer nyrkovash-nyr-how-many-up
  pub nyr-library-version : Answer nyrkovash-nyr-library-version

-- Demand 1, "a refusal changes no channel, room, platform state, sequence number or output byte", of the calls as programs in C
-- have them: where the number is not 0, what was lent is at the end as it was at the start. And 02, 1: a cancel of "a number not
-- pending changes nothing". The theorem is in proofs/ExportsKeep.antt.
use Rattle.std.specs.Prelude.{ℕ, ◌≡◌, List, get_or}
use Rattle.promises.specs.Checks.{Keeps, Outside}
use Rattle.nyrkovash.proofs.nyr_setup.Reads.{Post as nyr-setup}
use Rattle.nyrkovash.proofs.nyr_take.Reads.{Post as nyr-take}
use Rattle.nyrkovash.proofs.nyr_pieces.Reads.{Post as nyr-pieces}
use Rattle.nyrkovash.proofs.nyr_cut.Reads.{Post as nyr-cut}
use Rattle.nyrkovash.proofs.nyr_read.Reads.{Post as nyr-read}
use Rattle.nyrkovash.proofs.nyr_write.Reads.{Post as nyr-write}
use Rattle.nyrkovash.proofs.nyr_read_mixed.Reads.{Post as nyr-read-mixed}
use Rattle.nyrkovash.proofs.nyr_write_3.Reads.{Post as nyr-write-3}
use Rattle.nyrkovash.proofs.nyr_check_table.Reads.{Post as nyr-check-table}
use Rattle.nyrkovash.proofs.nyr_find.Reads.{Post as nyr-find}
use Rattle.nyrkovash.proofs.nyr_unpack.Reads.{Post as nyr-unpack}
use Rattle.nyrkovash.proofs.nyr_unpack_in.Reads.{Post as nyr-unpack-in}
use Rattle.nyrkovash.proofs.nyr_pack.Reads.{Post as nyr-pack}
use Rattle.nyrkovash.proofs.nyr_pack_in.Reads.{Post as nyr-pack-in}
use Rattle.nyrkovash.proofs.nyr_plans_length.Reads.{Post as nyr-plans-length}
use Rattle.nyrkovash.proofs.nyr_plans.Reads.{Post as nyr-plans}
use Rattle.nyrkovash.proofs.nyr_unpack_by.Reads.{Post as nyr-unpack-by}
use Rattle.nyrkovash.proofs.nyr_pack_by.Reads.{Post as nyr-pack-by}
use Rattle.nyrkovash.proofs.nyr_receive.Reads.{Post as nyr-receive}
use Rattle.nyrkovash.proofs.nyr_receive_in.Reads.{Post as nyr-receive-in}
use Rattle.nyrkovash.proofs.nyr_receive_mixed.Reads.{Post as nyr-receive-mixed}
use Rattle.nyrkovash.proofs.nyr_receive_mixed_in.Reads.{Post as nyr-receive-mixed-in}
use Rattle.nyrkovash.proofs.nyr_send.Reads.{Post as nyr-send}
use Rattle.nyrkovash.proofs.nyr_send_mixed.Reads.{Post as nyr-send-mixed}
use Rattle.nyrkovash.proofs.nyr_cancel.Reads.{Post as nyr-cancel}

-- whatever a call's promise allows: the number, and a lent buffer at entry and at exit
abbrev pub Untouched : {K : Type 0} {A E : K → Type 0} {B : Type 0} → ((k : K) → A k → ℕ → E k → Type 0) → ((k : K) → A k → B) → ((k : K) → E k → B) → Type 0
Untouched {K} {A} {E} post before after = (k : K) (a : A k) (n : ℕ) (e : E k) → post k a n e → Keeps n (before k a) (after k e)

-- 02, request 3 amends this for 40 to 43 of packing and unpacking alone: of the three words success writes the first, what was given;
-- these four numbers the other two, where; and any other refusal none
pub record WordsKept (n : ℕ) (was left : List ℕ) : Type 0 where
  pub given : Keeps n (get_or was 0 0) (get_or left 0 0)
  pub spot : Outside 40 43 n → (get_or left 1 0 ≡ get_or was 1 0) × (get_or left 2 0 ≡ get_or was 2 0)
  pub all : Outside 40 43 n → Keeps n was left

abbrev pub SpotOnly : {K : Type 0} {A E : K → Type 0}
    → ((k : K) → A k → ℕ → E k → Type 0) → ((k : K) → A k → List ℕ) → ((k : K) → E k → List ℕ) → Type 0
SpotOnly {K} {A} {E} post before after = (k : K) (a : A k) (n : ℕ) (e : E k) → post k a n e → WordsKept n (before k a) (after k e)

pub record ExportsKeep : Type 0 where
  pub setup : Untouched nyr-setup (λ k a. a.0.now) (λ k e. e.0.now)
  pub take_state : Untouched nyr-take (λ k a. a.0.now) (λ k e. e.0.now)
  pub take-rooms : Untouched nyr-take (λ k a. a.1.0.now) (λ k e. e.1.0.now)
  pub take_answer : Untouched nyr-take (λ k a. a.1.1.1.0.now) (λ k e. e.1.1.1.0.now)
  pub pieces : Untouched nyr-pieces (λ k a. a.1.1.0.now) (λ k e. e.1.1.0.now)
  pub cut_out : Untouched nyr-cut (λ k a. a.1.1.1.1.1.0.now) (λ k e. e.1.1.1.1.1.0.now)
  pub cut_written : Untouched nyr-cut (λ k a. a.1.1.1.1.1.1.0.now) (λ k e. e.1.1.1.1.1.1.0.now)
  pub read : Untouched nyr-read (λ k a. a.1.1.0.now) (λ k e. e.1.1.0.now)
  pub write_out : Untouched nyr-write (λ k a. a.1.1.1.1.1.0.now) (λ k e. e.1.1.1.1.1.0.now)
  pub write_written : Untouched nyr-write (λ k a. a.1.1.1.1.1.1.0.now) (λ k e. e.1.1.1.1.1.1.0.now)
  pub read_mixed : Untouched nyr-read-mixed (λ k a. a.1.1.1.0.now) (λ k e. e.1.1.1.0.now)
  pub write_3_out : Untouched nyr-write-3 (λ k a. a.1.1.1.1.1.1.1.0.now) (λ k e. e.1.1.1.1.1.1.1.0.now)
  pub write_3_written : Untouched nyr-write-3 (λ k a. a.1.1.1.1.1.1.1.1.0.now) (λ k e. e.1.1.1.1.1.1.1.1.0.now)
  pub check_table : Untouched nyr-check-table (λ k a. a.1.0.now) (λ k e. e.1.0.now)
  pub find : Untouched nyr-find (λ k a. a.1.1.1.0.now) (λ k e. e.1.1.1.0.now)
  pub unpack_words : Untouched nyr-unpack (λ k a. a.1.1.1.0.now) (λ k e. e.1.1.1.0.now)
  pub unpack_walked : SpotOnly nyr-unpack (λ k a. a.1.1.1.1.0.now) (λ k e. e.1.1.1.1.0.now)
  pub unpack_in_words : Untouched nyr-unpack-in (λ k a. a.1.1.1.1.0.now) (λ k e. e.1.1.1.1.0.now)
  pub unpack_in_walked : SpotOnly nyr-unpack-in (λ k a. a.1.1.1.1.1.0.now) (λ k e. e.1.1.1.1.1.0.now)
  pub pack_out : Untouched nyr-pack (λ k a. a.1.1.1.0.now) (λ k e. e.1.1.1.0.now)
  pub pack_walked : SpotOnly nyr-pack (λ k a. a.1.1.1.1.0.now) (λ k e. e.1.1.1.1.0.now)
  pub pack_in_out : Untouched nyr-pack-in (λ k a. a.1.1.1.1.0.now) (λ k e. e.1.1.1.1.0.now)
  pub pack_in_walked : SpotOnly nyr-pack-in (λ k a. a.1.1.1.1.1.0.now) (λ k e. e.1.1.1.1.1.0.now)
  pub plans_length : Untouched nyr-plans-length (λ k a. a.1.1.0.now) (λ k e. e.1.1.0.now)
  pub plans : Untouched nyr-plans (λ k a. a.1.1.0.now) (λ k e. e.1.1.0.now)
  pub unpack_by_words : Untouched nyr-unpack-by (λ k a. a.1.1.1.1.1.0.now) (λ k e. e.1.1.1.1.1.0.now)
  pub unpack_by_walked : SpotOnly nyr-unpack-by (λ k a. a.1.1.1.1.1.1.0.now) (λ k e. e.1.1.1.1.1.1.0.now)
  pub pack_by_out : Untouched nyr-pack-by (λ k a. a.1.1.1.1.1.0.now) (λ k e. e.1.1.1.1.1.0.now)
  pub pack_by_walked : SpotOnly nyr-pack-by (λ k a. a.1.1.1.1.1.1.0.now) (λ k e. e.1.1.1.1.1.1.0.now)
  pub receive_platform : Untouched nyr-receive (λ k a. a.1.0.now) (λ k e. e.1.0.now)
  pub receive_out : Untouched nyr-receive (λ k a. a.1.1.1.1.0.now) (λ k e. e.1.1.1.1.0.now)
  pub receive_heard : Untouched nyr-receive (λ k a. a.1.1.1.1.1.0.now) (λ k e. e.1.1.1.1.1.0.now)
  pub receive_in_platform : Untouched nyr-receive-in (λ k a. a.1.0.now) (λ k e. e.1.0.now)
  pub receive_in_out : Untouched nyr-receive-in (λ k a. a.1.1.1.1.1.0.now) (λ k e. e.1.1.1.1.1.0.now)
  pub receive_in_heard : Untouched nyr-receive-in (λ k a. a.1.1.1.1.1.1.0.now) (λ k e. e.1.1.1.1.1.1.0.now)
  pub receive_mixed_platform : Untouched nyr-receive-mixed (λ k a. a.1.1.1.1.0.now) (λ k e. e.1.1.1.1.0.now)
  pub receive_mixed_services : Untouched nyr-receive-mixed (λ k a. a.1.1.1.1.1.0.now) (λ k e. e.1.1.1.1.1.0.now)
  pub receive_mixed_out : Untouched nyr-receive-mixed (λ k a. a.1.1.1.1.1.1.1.1.0.now) (λ k e. e.1.1.1.1.1.1.1.1.0.now)
  pub receive_mixed_heard : Untouched nyr-receive-mixed (λ k a. a.1.1.1.1.1.1.1.1.1.0.now) (λ k e. e.1.1.1.1.1.1.1.1.1.0.now)
  pub receive_mixed_in_platform : Untouched nyr-receive-mixed-in (λ k a. a.1.1.1.1.0.now) (λ k e. e.1.1.1.1.0.now)
  pub receive_mixed_in_services : Untouched nyr-receive-mixed-in (λ k a. a.1.1.1.1.1.0.now) (λ k e. e.1.1.1.1.1.0.now)
  pub receive_mixed_in_out : Untouched nyr-receive-mixed-in (λ k a. a.1.1.1.1.1.1.1.1.1.0.now) (λ k e. e.1.1.1.1.1.1.1.1.1.0.now)
  pub receive_mixed_in_heard :
      Untouched nyr-receive-mixed-in (λ k a. a.1.1.1.1.1.1.1.1.1.1.0.now) (λ k e. e.1.1.1.1.1.1.1.1.1.1.0.now)
  pub send_platform : Untouched nyr-send (λ k a. a.1.0.now) (λ k e. e.1.0.now)
  pub send_out : Untouched nyr-send (λ k a. a.1.1.1.1.1.1.1.0.now) (λ k e. e.1.1.1.1.1.1.1.0.now)
  pub send_sent : Untouched nyr-send (λ k a. a.1.1.1.1.1.1.1.1.0.now) (λ k e. e.1.1.1.1.1.1.1.1.0.now)
  pub send_mixed_platform : Untouched nyr-send-mixed (λ k a. a.1.1.1.0.now) (λ k e. e.1.1.1.0.now)
  pub send_mixed_out : Untouched nyr-send-mixed (λ k a. a.1.1.1.1.1.1.1.1.1.0.now) (λ k e. e.1.1.1.1.1.1.1.1.1.0.now)
  pub send_mixed_sent : Untouched nyr-send-mixed (λ k a. a.1.1.1.1.1.1.1.1.1.1.0.now) (λ k e. e.1.1.1.1.1.1.1.1.1.1.0.now)
  -- the count of requests that were given up
  pub cancel_none : (k : _) (a : _) (n : ℕ) (e : _) → nyr-cancel k a n e → e.1.1.0.now ≡ 0 → e.0.now ≡ a.0.now

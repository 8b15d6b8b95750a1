-- What the functions of `replies` leave in the output.
-- Assumes nothing.
use Prim.Native.Nat.{ℕ, ◌+◌, ◌≤◌}
use mathlib.Core.Path.{◌≡◌, refl, ap, ap₂, ◌∙◌}
use mathlib.Core.List.{List, ◌++◌, append_assoc}
use native.Mathlib.Omega.{arith}
use lib.ListN.{length, length-append}
use Rattle.wire.specs.Bytes.{bytes, over, written}
use Rattle.wire.proofs.Runs.{written_in, written_behind, over_over}
use Rattle.pending.specs.Free.{drawn}
use Rattle.message.specs.Header.{platform_domain}
use Rattle.message3.specs.declared.Stamp.{Stamp}
use Rattle.message3.specs.Header.{header_length3, header_of3, header_bytes3}
use Rattle.message3.specs.Platform.{platform_status3, availability_status_request, unknown_operation3, versioned_data_pull3}
use Rattle.platform.specs.declared.reactions.Reply.{Reply}
use Rattle.platform.specs.declared.reactions.Reply.TheVariants.{StatusUp, PullAll, Unknown}
use Rattle.platform.specs.Replies.{state_up, all_data}
use Rattle.mixed.specs.Reaction.{all_services}
use Rattle.mixed.specs.Replies.{field_message, field_length, status_message, status_length, reply_bytes3, start_up_bytes, start_up_length}

-- a message with one field
module _ (own : ℕ) (t : Stamp) (id n x : ℕ) where
  pub length-field : length (field_message own t id n x) ≡ field_length
  unfolding field_message
  length-field = refl

  pub field_put : {a b : List ℕ} (out : List ℕ) → field_length ≤ length out → a ≡ written out 0 (header_bytes3 (header_of3 platform_domain own id t 4 n))
      → b ≡ written a header_length3 (bytes 2 x) → b ≡ over out 0 (field_message own t id n x)
  unfolding field_message
  field_put {a} {b} out h ea eb =
      let H : List ℕ = header_bytes3 (header_of3 platform_domain own id t 4 n) in
      written_behind out H (bytes 2 x) header_length3 (ea ∙ written_in out 0 H (omega arith)) refl (omega arith) eb

-- a status
module _ (own : ℕ) (t : Stamp) (c n : ℕ) where
  pub length-status : length (status_message own t c n) ≡ status_length
  unfolding status_message
  length-status = refl

  pub status-put : {a b d : List ℕ} (out : List ℕ) → status_length ≤ length out
      → a ≡ written out 0 (header_bytes3 (header_of3 platform_domain own platform_status3 t 8 n)) → b ≡ written a header_length3 (bytes 2 state_up)
      → d ≡ written b 28 (bytes 2 c) → d ≡ over out 0 (status_message own t c n)
  unfolding status_message
  status-put {a} {b} {d} out h ea eb ed =
      let H : List ℕ = header_bytes3 (header_of3 platform_domain own platform_status3 t 8 n) in
      let S : List ℕ = H ++ bytes 2 state_up in
      let k : b ≡ over out 0 S = written_behind out H (bytes 2 state_up) header_length3 (ea ∙ written_in out 0 H (omega arith)) refl (omega arith) eb in
      written_behind out S (bytes 2 c) 28 k refl (omega arith) ed

module _ (own : ℕ) (t : Stamp) (c : ℕ) (r : Reply) (out a : List ℕ) where
  pub is-status : (n : ℕ) → r ≡ StatusUp n → a ≡ over out 0 (status_message own t c n) → a ≡ over out 0 (reply_bytes3 own t c r)
  unfolding reply_bytes3
  is-status n e d = rw e d

  pub is-pull : (n : ℕ) → r ≡ PullAll n → a ≡ over out 0 (field_message own t versioned_data_pull3 n all_data) → a ≡ over out 0 (reply_bytes3 own t c r)
  unfolding reply_bytes3
  is-pull n e d = rw e d

  pub is-unknown : (n id : ℕ) → r ≡ Unknown n id → a ≡ over out 0 (field_message own t unknown_operation3 n id) → a ≡ over out 0 (reply_bytes3 own t c r)
  unfolding reply_bytes3
  is-unknown n id e d = rw e d

-- one behind another
pub behind : {m e : List ℕ} (s a b : List ℕ) (p : ℕ) → m ≡ over s 0 a → p ≡ length a → length a + length b ≤ length s → e ≡ over m p b
    → e ≡ over s 0 (a ++ b)
behind {m} {e} s a b p i q h w =
    let l : length (a ++ b) ≡ length a + length b = length-append a b in
    let z : p ≡ 0 + length a = omega arith in
    w ∙ ap₂ (λ (x : List ℕ) (y : ℕ). over x y b) i z ∙ over_over s 0 a b (omega arith)

pub start_up_put : {a b d : List ℕ} (own : ℕ) (t : Stamp) (c n second third : ℕ) (out : List ℕ) → start_up_length ≤ length out → second ≡ drawn n
    → third ≡ drawn second → a ≡ over out 0 (status_message own t c n)
    → b ≡ over a status_length (field_message own t availability_status_request second all_services)
    → d ≡ over b 60 (field_message own t versioned_data_pull3 third all_data) → d ≡ over out 0 (start_up_bytes own t c n)
unfolding start_up_bytes
start_up_put {a} {b} {d} own t c n second third out h es et ea eb ed =
    let S : List ℕ = status_message own t c n in
    let A : List ℕ = field_message own t availability_status_request (drawn n) all_services in
    let P : List ℕ = field_message own t versioned_data_pull3 (drawn (drawn n)) all_data in
    let ls : length S ≡ status_length = length-status own t c n in
    let la : length A ≡ field_length = length-field own t availability_status_request (drawn n) all_services in
    let lp : length P ≡ field_length = length-field own t versioned_data_pull3 (drawn (drawn n)) all_data in
    let lsa : length (S ++ A) ≡ length S + length A = length-append S A in
    let eb' : b ≡ over a status_length A = eb ∙ ap (λ (y : ℕ). over a status_length (field_message own t availability_status_request y all_services)) es in
    let ed' : d ≡ over b 60 P = ed ∙ ap (λ (y : ℕ). over b 60 (field_message own t versioned_data_pull3 y all_data)) (et ∙ ap drawn es) in
    let k : b ≡ over out 0 (S ++ A) = behind out S A status_length ea (omega arith) (omega arith) eb' in
    behind out (S ++ A) P 60 k (omega arith) (omega arith) ed' ∙ ap (over out 0) (append_assoc S A P)

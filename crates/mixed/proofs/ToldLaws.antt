-- What the functions of `telling` leave in the output.
-- Assumes nothing.
use Prim.Native.Nat.{ℕ, zero, suc, ◌+◌, ◌*◌, ◌/◌, ◌%◌, ◌^◌, ◌≤◌, ◌<◌}
use mathlib.Core.Path.{◌≡◌, refl, sym, ap, ap₂, ◌∙◌}
use mathlib.Core.Bool.{Bool}
use mathlib.Core.List.{List, [], ◌∷◌, ◌++◌}
use native.Mathlib.Numerals.{add-one}
use native.Mathlib.Omega.{arith}
use lib.Dec.{eqb}
use lib.ListN.{length, take, get_or, take-append-drop}
use Rattle.wire.specs.Bytes.{bytes, over, written}
use Rattle.wire.proofs.Runs.{written_in, written_behind, over_over, length_over}
use Rattle.message.specs.Header.{platform_domain}
use Rattle.message3.specs.declared.Stamp.{Stamp}
use Rattle.message3.specs.Header.{header_length3, header_of3, header_bytes3}
use Rattle.message3.specs.Platform.{availability_status, services_length, pair_bytes, services_bytes}
use Rattle.message3.proofs.Told.{length_pairs}
use Rattle.mixed.specs.Replies.{state_told, pair_of, pairs_of, services_message, services_head, head_length, pair_length}
use Rattle.mixed.proofs.LaidReplies.{behind}

-- a service with its state
pub pair_put : {a b : List ℕ} {x : ℕ} (out : List ℕ) (at id : ℕ) (v : Bool) → at + pair_length ≤ length out → a ≡ written out at (bytes 2 id)
    → x ≡ state_told v → b ≡ written a (at + 4) (bytes 2 x) → b ≡ over out at (pair_bytes ((id, state_told v) ∷ []))
pair_put {a} {b} {x} out at id v h ea ex eb =
    let A : List ℕ = bytes 2 id in
    let B : List ℕ = bytes 2 (state_told v) in
    let k : a ≡ over out at A = ea ∙ written_in out at A (omega arith) in
    let l : length a ≡ length out = ap length k ∙ length_over out at A (omega arith) in
    eb ∙ ap (λ (y : ℕ). written a (at + 4) (bytes 2 y)) ex ∙ written_in a (at + 4) B (omega arith) ∙ ap (λ (y : List ℕ). over y (at + 4) B) k
    ∙ over_over out at A B (omega arith)

pub service_put : {a : List ℕ} (out : List ℕ) (at w : ℕ) → a ≡ over out at (pair_bytes ((w % 2 ^ 32, state_told (eqb (w / 2 ^ 32) 2)) ∷ []))
    → a ≡ over out at (pair_bytes (pairs_of (w ∷ [])))
unfolding pairs_of
service_put out at w d = d

-- a status of services: its head, and the services behind it
pub head_put : {a b : List ℕ} (own : ℕ) (t : Stamp) (n k : ℕ) (out : List ℕ) → head_length ≤ length out
    → a ≡ written out 0 (header_bytes3 (header_of3 platform_domain own availability_status t (4 + 8 * k) n)) → b ≡ written a header_length3 (bytes 2 k)
    → b ≡ over out 0 (services_head own t n k)
unfolding services_head
head_put own t n k out h ea eb =
    let H : List ℕ = header_bytes3 (header_of3 platform_domain own availability_status t (4 + 8 * k) n) in
    written_behind out H (bytes 2 k) header_length3 (ea ∙ written_in out 0 H (omega arith)) refl (omega arith) eb

module _ (own : ℕ) (t : Stamp) (n : ℕ) where
  pub length-head : (k : ℕ) → length (services_head own t n k) ≡ head_length
  unfolding services_head
  length-head k = refl

  whole : (ps : List (ℕ × ℕ)) → services_head own t n (length ps) ++ pair_bytes ps ≡ services_message own t n ps
  unfolding services_head services_message
  whole ps =
      let l : length (pair_bytes ps) ≡ 8 * length ps = length_pairs ps in
      let z : services_length (length ps) ≡ length (services_bytes ps) = omega arith in
      ap (λ (y : ℕ). header_bytes3 (header_of3 platform_domain own availability_status t y n) ++ (bytes 2 (length ps) ++ pair_bytes ps)) z

  told : {a b : List ℕ} (ps : List (ℕ × ℕ)) (out : List ℕ) → head_length + pair_length * length ps ≤ length out
      → a ≡ over out 0 (services_head own t n (length ps)) → b ≡ over a head_length (pair_bytes ps) → b ≡ over out 0 (services_message own t n ps)
  told ps out h ea eb =
      let H : List ℕ = services_head own t n (length ps) in
      let l : length (pair_bytes ps) ≡ 8 * length ps = length_pairs ps in
      let k : length H ≡ head_length = length-head (length ps) in
      behind out H (pair_bytes ps) head_length ea (sym k) (omega arith) eb ∙ ap (over out 0) (whole ps)

  pub one_told : {a b : List ℕ} (id x : ℕ) (out : List ℕ) → head_length + pair_length ≤ length out → a ≡ over out 0 (services_head own t n 1)
      → b ≡ over a head_length (pair_bytes ((id, x) ∷ [])) → b ≡ over out 0 (services_message own t n ((id, x) ∷ []))
  one_told id x out h ea eb = told ((id, x) ∷ []) out h ea eb

  pub length-ours : (ws : List ℕ) → length (pairs_of ws) ≡ length ws
  unfolding pairs_of
  length-ours [] = refl
  length-ours (w ∷ ws) = ap suc (length-ours ws)

  pub all_told : {a b : List ℕ} (ws : List ℕ) (out : List ℕ) → head_length + pair_length * length ws ≤ length out
      → a ≡ over out 0 (services_head own t n (length ws)) → b ≡ over a head_length (pair_bytes (pairs_of ws))
      → b ≡ over out 0 (services_message own t n (pairs_of ws))
  all_told ws out h ea eb =
      let l : length (pairs_of ws) ≡ length ws = length-ours ws in
      told (pairs_of ws) out (omega arith) (ea ∙ ap (λ (k : ℕ). over out 0 (services_head own t n k)) (sym l)) eb

-- the loop: the first i services are there
next : (ws : List ℕ) (i : ℕ) → i < length ws
    → pair_bytes (pairs_of (take (suc i) ws)) ≡ pair_bytes (pairs_of (take i ws)) ++ pair_bytes (pairs_of (get_or ws i 0 ∷ []))
unfolding pairs_of
next [] i h = absurd (omega arith)
next (w ∷ ws) zero h = refl
next (w ∷ ws) (suc i) h = ap (λ (x : List ℕ). bytes 2 (pair_of w).0 ++ (bytes 2 (pair_of w).1 ++ x)) (next ws i (omega arith))

first_bytes : (ws : List ℕ) (i : ℕ) → i ≤ length ws → length (pair_bytes (pairs_of (take i ws))) ≡ 8 * i
unfolding pairs_of
first_bytes ws zero h = refl
first_bytes [] (suc i) h = absurd (omega arith)
first_bytes (w ∷ ws) (suc i) h = let l = first_bytes ws i (omega arith) in omega arith

module _ (ours out : List ℕ) where
  pub none_yet : head_length + pair_length * length ours ≤ length out → out ≡ over out head_length (pair_bytes (pairs_of (take 0 ours)))
  unfolding pairs_of
  none_yet h = sym (take-append-drop head_length out)

  pub one_more : {m e : List ℕ} (i w : ℕ) → head_length + pair_length * length ours ≤ length out → i < length ours
      → m ≡ over out head_length (pair_bytes (pairs_of (take i ours))) → w ≡ get_or ours i 0
      → e ≡ over m (head_length + pair_length * i) (pair_bytes (pairs_of (w ∷ []))) → e ≡ over out head_length (pair_bytes (pairs_of (take (i + 1) ours)))
  one_more {m} {e} i w h l em ew ee =
      let A : List ℕ = pair_bytes (pairs_of (take i ours)) in
      let B : List ℕ = pair_bytes (pairs_of (get_or ours i 0 ∷ [])) in
      let la : length A ≡ 8 * i = first_bytes ours i (omega arith) in
      let lab : length (A ++ B) ≡ 8 * suc i = ap length (sym (next ours i l)) ∙ first_bytes ours (suc i) (omega arith) in
      let p : head_length + pair_length * i ≡ head_length + length A = omega arith in
      ee ∙ ap (λ (y : ℕ). over m (head_length + pair_length * i) (pair_bytes (pairs_of (y ∷ [])))) ew ∙ ap₂ (λ (x : List ℕ) (y : ℕ). over x y B) em p
      ∙ over_over out head_length A B (omega arith)
      ∙ ap (over out head_length) (sym (next ours i l) ∙ ap (λ (k : ℕ). pair_bytes (pairs_of (take k ours))) (sym (add-one i)))

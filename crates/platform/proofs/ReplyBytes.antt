-- What the functions of `replies`, and the writing of replies, come to at their returns.
-- Assumes nothing.
use Prim.Native.Nat.{ℕ, ◌+◌, ◌-◌, ◌≤◌, ◌<◌}
use mathlib.Core.Path.{◌≡◌, refl, sym, ap, ap₂, ◌∙◌}
use mathlib.Core.List.{List, [], ◌++◌, append-nil}
use native.Mathlib.Nat.{zero-add}
use native.Mathlib.Omega.{arith}
use borrow.Rule.Slice.PartMut.{put_mid}
use lib.ListN.{length, take, drop, length-append, length-drop}
use lib.Seq.{take_all, drop-length, drop-drop}
use Rattle.wire.specs.Bytes.{bytes, over, written}
use Rattle.wire.proofs.Runs.{written_in, written_out, written_behind, over_over}
use Rattle.wire.proofs.Cond.{no_lt}
use Rattle.message.specs.declared.Header.{Header}
use Rattle.message.specs.Header.{header_length, platform_domain, header_bytes}
use Rattle.message.specs.Refusal.{write_refusal}
use Rattle.platform.specs.declared.reactions.Reply.{Reply}
use Rattle.platform.specs.declared.reactions.Reply.TheVariants.{StatusUp, PullAll, Unknown}
use Rattle.platform.specs.declared.reactions.Owed.{Owed}
use Rattle.platform.specs.declared.reactions.Owed.TheVariants.{Nothing, One, Two}
use Rattle.platform.specs.Replies.{reply_id, reply_number, reply_field, reply_bytes, reply_header, reply_length, owed_bytes, owed_length}

pub length_reply : (own : ℕ) (r : Reply) → length (reply_bytes own r) ≡ reply_length
unfolding reply_bytes
length_reply own r = refl

pub length_owed : (own : ℕ) (o : Owed) → length (owed_bytes own o) ≡ owed_length o
unfolding owed_bytes
length_owed own Nothing = refl
length_owed own (One r) = length_reply own r
length_owed own (Two r q) = length-append (reply_bytes own r) (reply_bytes own q) ∙ ap₂ (λ (a b : ℕ). a + b) (length_reply own r) (length_reply own q)

module _ (o : Owed) (out : List ℕ) (w : ℕ) (l : w ≡ owed_length o) where
  pub lay-not : (own : ℕ) → length out < w → out ≡ written out 0 (owed_bytes own o)
  lay-not own h =
      let n : length (owed_bytes own o) ≡ owed_length o = length_owed own o in
      sym (written_out out 0 (owed_bytes own o) (omega arith))

  module _ (h : w ≤ length out) where
    module _ (own : ℕ) where
      pub lay-none : o ≡ Nothing → out ≡ written out 0 (owed_bytes own o)
      unfolding owed_bytes
      lay-none e = rw e (sym (written_in out 0 [] (omega arith)))

      pub lay-one : (r : Reply) (a : List ℕ) → o ≡ One r → a ≡ written out 0 (reply_bytes own r) → a ≡ written out 0 (owed_bytes own o)
      unfolding owed_bytes
      lay-one r a e v = rw e v

      pub lay-two : (r q : Reply) (a b : List ℕ) → o ≡ Two r q → a ≡ over out 0 (reply_bytes own r) → b
          ≡ over a reply_length (reply_bytes own q) → b ≡ written out 0 (owed_bytes own o)
      unfolding owed_bytes reply_bytes
      lay-two r q a b e u v =
          let k : w ≡ reply_length + reply_length = rw e at l in
          let R : List ℕ = reply_bytes own r in
          let Q : List ℕ = reply_bytes own q in
          let lr : length R ≡ reply_length = length_reply own r in
          let n : length (R ++ Q) ≡ reply_length + reply_length = length-append R Q ∙ ap₂ (λ (x y : ℕ). x + y) lr (length_reply own q) in
          v ∙ ap (λ (y : List ℕ). over y reply_length Q) u ∙ ap (λ (y : ℕ). over (over out 0 R) y Q) (sym lr)
          ∙ over_over out 0 R Q (omega arith) ∙ sym (written_in out 0 (R ++ Q) (omega arith)) ∙ ap (λ (x : Owed). written out 0 (owed_bytes own x)) (sym e)

-- no writer refuses a reply where it has room
pub reply_writable : (r : Reply) (room : ℕ) → reply_length ≤ room → write_refusal platform_domain (reply_id r) (bytes 2 (reply_field r)) room ≡ 0
reply_writable (StatusUp n) room h = no_lt 10 0 room reply_length h
reply_writable (PullAll n) room h = no_lt 10 0 room reply_length h
reply_writable (Unknown n id) room h = no_lt 10 0 room reply_length h

-- a reply at the output's start: its header, and the field behind it
module _ (own : ℕ) (r : Reply) (out : List ℕ) where
  pub reply-put : {h : Header} {i n f : ℕ} {a b : List ℕ} → reply_length ≤ length out → i ≡ reply_id r → n ≡ reply_number r → h
      ≡ record { domain = platform_domain; platform = own; id = i; payload_size = 4; sequence = n } → a ≡ written out 0 (header_bytes h) → f
      ≡ reply_field r → b ≡ written a header_length (bytes 2 f) → b ≡ written out 0 (reply_bytes own r)
  unfolding reply_bytes
  reply-put {h} {i} {n} {f} {a} {b} long ei en eh ea ef eb =
      let H : Header = reply_header own r in
      let field : List ℕ = bytes 2 (reply_field r) in
      let k : h ≡ H = eh ∙ ap₂ (λ (x y : ℕ). record { domain = platform_domain; platform = own; id = x; payload_size = 4; sequence = y }) ei en in
      let w : a ≡ over out 0 (header_bytes H) = ea ∙ written_in out 0 (header_bytes h) (omega arith) ∙ ap (λ (x : Header). over out 0 (header_bytes x)) k in
      written_behind out (header_bytes H) field header_length w refl (omega arith) (eb ∙ ap (λ (x : ℕ). written a header_length (bytes 2 x)) ef)
      ∙ sym (written_in out 0 (reply_bytes own r) (omega arith))

  pub no-reply : length out < reply_length → out ≡ written out 0 (reply_bytes own r)
  unfolding reply_bytes
  no-reply short = sym (written_out out 0 (reply_bytes own r) (omega arith))

-- and in the part of the output from p on
pub part_laid : {last : List ℕ} (M : List ℕ) (p : ℕ) (out : List ℕ) → p + length M ≤ length out → last
    ≡ written (take (length out - p) (drop p out)) 0 M → put_mid p (length out - p) out last ≡ over out p M
part_laid {last} M p out h el =
    let D : List ℕ = drop p out in
    let ld : length D ≡ length out - p = length-drop p out in
    let d : take (length out - p) D ≡ D = take_all (length out - p) D (omega arith) in
    let k : last ≡ M ++ drop (0 + length M) D = el ∙ ap (λ (x : List ℕ). written x 0 M) d ∙ written_in D 0 M (omega arith) in
    let b : drop (length out - p) D ≡ [] = ap (λ (z : ℕ). drop z D) (sym ld) ∙ drop-length D in
    let g : drop (0 + length M) D ≡ drop (p + length M) out = drop-drop (0 + length M) p out ∙ ap (λ (z : ℕ). drop (p + z) out) (zero-add (length M)) in
    ap₂ (λ (x y : List ℕ). take p out ++ (x ++ y)) k b ∙ ap (λ (x : List ℕ). take p out ++ x) (append-nil (M ++ drop (0 + length M) D))
    ∙ ap (λ (x : List ℕ). take p out ++ (M ++ x)) g

pub reply_laid : {last : List ℕ} (own : ℕ) (r : Reply) (p : ℕ) (out : List ℕ) → p + reply_length ≤ length out → last
    ≡ written (take (length out - p) (drop p out)) 0 (reply_bytes own r) → put_mid p (length out - p) out last ≡ over out p (reply_bytes own r)
reply_laid own r p out h el = let n : length (reply_bytes own r) ≡ reply_length = length_reply own r in part_laid (reply_bytes own r) p out (omega arith) el

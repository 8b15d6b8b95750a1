-- What is known of a message that nothing refuses, in reading and in writing.
-- Assumes nothing.
use Prim.Native.Nat.{ℕ, zero, suc, ◌+◌, ◌-◌, ◌≤◌, ◌<◌}
use mathlib.Core.Path.{◌≡◌, refl, ◌∙◌}
use mathlib.Core.Bool.{not}
use mathlib.Core.List.{List}
use native.Mathlib.Nat.{suc-ne-zero}
use borrow.Author.Tests.{ltb-false, leb-false, eqb-true, eqb-false, not-false}
use lib.Dec.{eqb, leb, ltb}
use lib.ListN.{length}
use Rattle.wire.proofs.Cond.{no_lt, no_le, no-ne, no_eq, passed}
use Rattle.message.specs.Header.{header_length, the_mark, mark_in, the_version, version_in, reserved_domains, domain_in, sender_in}
use Rattle.message.specs.Header.{id_in, payload_size_in, payload_in}
use Rattle.message.specs.Refusal.{first, contents_refusal, frame_refusal, address_refusal, read_refusal, size_limit, write_refusal}

pub record Readable (own : ℕ) (s : List ℕ) : Type 0 where
  pub long : header_length ≤ length s
  pub mark : mark_in s ≡ the_mark
  pub version : version_in s ≡ the_version
  pub domain : domain_in s < reserved_domains
  pub size : payload_size_in s ≡ length s - header_length
  pub other : sender_in s ≡ own → ⊥
  pub contents : contents_refusal (domain_in s) (id_in s) (payload_in s) ≡ 0

pub record Writable (dom id : ℕ) (payload : List ℕ) (room : ℕ) : Type 0 where
  pub domain : dom < reserved_domains
  pub size : length payload < size_limit
  pub contents : contents_refusal dom id payload ≡ 0
  pub fits : header_length + length payload ≤ room

-- `first` by the number that comes first
pub first_none : (n m : ℕ) → n ≡ 0 → first n m ≡ m
first_none n m e = rw e

pub first_some : (n m : ℕ) → (n ≡ 0 → ⊥) → first n m ≡ n
first_some zero m h = absurd (h refl)
first_some (suc n) m h = refl

pub both : (n m : ℕ) → first n m ≡ 0 → (n ≡ 0) × (m ≡ 0)
both zero m e = (refl, e)
both (suc n) m e = absurd (suc-ne-zero n e)

pub readable : (own : ℕ) (s : List ℕ) → read_refusal own s ≡ 0 → Readable own s
readable own s e =
    let r = both (frame_refusal s) _ e in
    let q = both (address_refusal own s) _ r.1 in
    let f1 = passed (ltb (length s) header_length) 0 _ r.0 in
    let f2 = passed (not (eqb (mark_in s) the_mark)) 1 _ f1.1 in
    let f3 = passed (not (eqb (version_in s) the_version)) 2 _ f2.1 in
    let f4 = passed (leb reserved_domains (domain_in s)) 3 0 f3.1 in
    let a5 = passed (not (eqb (payload_size_in s) (length s - header_length))) 4 _ q.0 in
    let a6 = passed (eqb (sender_in s) own) 5 0 a5.1 in
    record {
      long = ltb-false (length s) header_length f1.0;
      mark = eqb-true (mark_in s) the_mark (not-false _ f2.0);
      version = eqb-true (version_in s) the_version (not-false _ f3.0);
      domain = leb-false reserved_domains (domain_in s) f4.0;
      size = eqb-true (payload_size_in s) (length s - header_length) (not-false _ a5.0);
      other = eqb-false (sender_in s) own a6.0;
      contents = q.1;
    }

pub writable : (domain id : ℕ) (payload : List ℕ) (room : ℕ) → write_refusal domain id payload room ≡ 0 → Writable domain id payload room
writable domain id payload room e =
    let w4 = passed (leb reserved_domains domain) 3 _ e in
    let w5 = passed (leb size_limit (length payload)) 4 _ w4.1 in
    let c = both (contents_refusal domain id payload) _ w5.1 in
    let w10 = passed (ltb room (header_length + length payload)) 9 0 c.1 in
    record {
      domain = leb-false reserved_domains domain w4.0;
      size = leb-false size_limit (length payload) w5.0;
      contents = c.0;
      fits = ltb-false room (header_length + length payload) w10.0;
    }

-- and the other way: what is so is not refused
pub accepts : (own : ℕ) (s : List ℕ) → Readable own s → read_refusal own s ≡ 0
accepts own s a =
    let f : frame_refusal s ≡ 0 =
    no_lt 1 _ (length s) header_length a.long ∙ no-ne 2 _ (mark_in s) the_mark a.mark ∙ no-ne 3 _ (version_in s) the_version a.version
    ∙ no_le 4 0 reserved_domains (domain_in s) a.domain in
    let q : address_refusal own s ≡ 0 =
    no-ne 5 _ (payload_size_in s) (length s - header_length) a.size
    ∙ no_eq 6 0 (sender_in s) own a.other in
    first_none (frame_refusal s) _ f ∙ first_none (address_refusal own s) _ q ∙ a.contents

pub admits : (domain id : ℕ) (payload : List ℕ) (room : ℕ) → Writable domain id payload room → write_refusal domain id payload room ≡ 0
admits domain id payload room a =
    no_le 4 _ reserved_domains domain a.domain ∙ no_le 5 _ size_limit (length payload) a.size
    ∙ first_none (contents_refusal domain id payload) _ a.contents
    ∙ no_lt 10 0 room (header_length + length payload) a.fits

-- What is known of a message of Issue 3 that nothing refuses, in reading and in writing.
-- Assumes nothing.
use Prim.Native.Nat.{ℕ, ◌+◌, ◌-◌, ◌≤◌, ◌<◌}
use mathlib.Core.Path.{◌≡◌, ◌∙◌}
use mathlib.Core.Bool.{not}
use mathlib.Core.List.{List}
use borrow.Author.Tests.{ltb-false, leb-false, eqb-true, eqb-false, not-false}
use lib.Dec.{eqb, leb, ltb}
use lib.ListN.{length}
use Rattle.wire.proofs.Cond.{no_lt, no_le, no-ne, no_eq, passed}
use Rattle.message.specs.Header.{the_mark, mark_in, reserved_domains}
use Rattle.message.specs.Refusal.{size_limit}
use Rattle.message.proofs.Accepted.{first_none, both}
use Rattle.message3.specs.Header.{header_length3, the_version3, version_in3, domain_in3, sender_in3, id_in3, payload_size_in3, payload_in3}
use Rattle.message3.specs.Refusal.{contents_refusal3, frame_refusal3, address_refusal3, read_refusal3, write_refusal3}

pub record Readable (own : ℕ) (s : List ℕ) : Type 0 where
  pub long : header_length3 ≤ length s
  pub mark : mark_in s ≡ the_mark
  pub version : version_in3 s ≡ the_version3
  pub domain : domain_in3 s < reserved_domains
  pub size : payload_size_in3 s ≡ length s - header_length3
  pub other : sender_in3 s ≡ own → ⊥
  pub contents : contents_refusal3 (domain_in3 s) (id_in3 s) (payload_in3 s) ≡ 0

pub record Writable (dom id : ℕ) (payload : List ℕ) (room : ℕ) : Type 0 where
  pub domain : dom < reserved_domains
  pub size : length payload < size_limit
  pub contents : contents_refusal3 dom id payload ≡ 0
  pub fits : header_length3 + length payload ≤ room

pub readable : (own : ℕ) (s : List ℕ) → read_refusal3 own s ≡ 0 → Readable own s
readable own s e =
    let r = both (frame_refusal3 s) _ e in
    let q = both (address_refusal3 own s) _ r.1 in
    let f1 = passed (ltb (length s) header_length3) 0 _ r.0 in
    let f2 = passed (not (eqb (mark_in s) the_mark)) 1 _ f1.1 in
    let f3 = passed (not (eqb (version_in3 s) the_version3)) 2 _ f2.1 in
    let f4 = passed (leb reserved_domains (domain_in3 s)) 3 0 f3.1 in
    let a5 = passed (not (eqb (payload_size_in3 s) (length s - header_length3))) 4 _ q.0 in
    let a6 = passed (eqb (sender_in3 s) own) 5 0 a5.1 in
    record {
      long = ltb-false (length s) header_length3 f1.0;
      mark = eqb-true (mark_in s) the_mark (not-false _ f2.0);
      version = eqb-true (version_in3 s) the_version3 (not-false _ f3.0);
      domain = leb-false reserved_domains (domain_in3 s) f4.0;
      size = eqb-true (payload_size_in3 s) (length s - header_length3) (not-false _ a5.0);
      other = eqb-false (sender_in3 s) own a6.0;
      contents = q.1;
    }

pub writable : (domain id : ℕ) (payload : List ℕ) (room : ℕ) → write_refusal3 domain id payload room ≡ 0 → Writable domain id payload room
writable domain id payload room e =
    let w4 = passed (leb reserved_domains domain) 3 _ e in
    let w5 = passed (leb size_limit (length payload)) 4 _ w4.1 in
    let c = both (contents_refusal3 domain id payload) _ w5.1 in
    let w10 = passed (ltb room (header_length3 + length payload)) 9 0 c.1 in
    record {
      domain = leb-false reserved_domains domain w4.0;
      size = leb-false size_limit (length payload) w5.0;
      contents = c.0;
      fits = ltb-false room (header_length3 + length payload) w10.0;
    }

-- and the other way: what is so is not refused
pub accepts : (own : ℕ) (s : List ℕ) → Readable own s → read_refusal3 own s ≡ 0
accepts own s a =
    let f : frame_refusal3 s ≡ 0 =
    no_lt 1 _ (length s) header_length3 a.long ∙ no-ne 2 _ (mark_in s) the_mark a.mark ∙ no-ne 3 _ (version_in3 s) the_version3 a.version
    ∙ no_le 4 0 reserved_domains (domain_in3 s) a.domain in
    let q : address_refusal3 own s ≡ 0 =
    no-ne 5 _ (payload_size_in3 s) (length s - header_length3) a.size
    ∙ no_eq 6 0 (sender_in3 s) own a.other in
    first_none (frame_refusal3 s) _ f ∙ first_none (address_refusal3 own s) _ q ∙ a.contents

pub admits : (domain id : ℕ) (payload : List ℕ) (room : ℕ) → Writable domain id payload room → write_refusal3 domain id payload room ≡ 0
admits domain id payload room a =
    no_le 4 _ reserved_domains domain a.domain ∙ no_le 5 _ size_limit (length payload) a.size
    ∙ first_none (contents_refusal3 domain id payload) _ a.contents
    ∙ no_lt 10 0 room (header_length3 + length payload) a.fits

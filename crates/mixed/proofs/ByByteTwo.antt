-- What both forms of a message could claim: byte 2 tells where the sender stands, and the set-up which issue it speaks.
-- Assumes nothing.
use Prim.Native.Nat.{ℕ, ◌≤◌}
use mathlib.Core.Path.{◌≡◌, refl, ap, ◌∙◌}
use mathlib.Core.Bool.{Bool, true, false, cond}
use mathlib.Core.List.{List}
use native.Mathlib.Omega.{arith}
use lib.Dec.{leb}
use lib.ListN.{length}
use Rattle.wire.proofs.Cond.{no_lt, no-ne, yes-ne}
use Rattle.message.specs.Header.{header_length, the_mark, mark_in, the_version, version_in, reserved_domains, domain_in, sender_in}
use Rattle.message.specs.Refusal.{first, frame_refusal}
use Rattle.message.specs.Reading.{read_of}
use Rattle.message3.specs.Header.{header_length3, the_version3, version_in3, domain_in3, sender_in3, id_in3, payload_in3}
use Rattle.message3.specs.Refusal.{frame_refusal3, address_refusal3, contents_refusal3}
use Rattle.message3.specs.Reading.{answered3, read_out3, read_of3}
use Rattle.partners.specs.Threes.{is_three}
use Rattle.mixed.specs.declared.AnyReading.TheVariants.{Refused}
use Rattle.mixed.specs.Reading.{other_issue, from_six, from_three, any_of}
use Rattle.mixed.proofs.Issues.{if-three, if-other, if-six, of-six-form, of-three-form}
use Rattle.mixed.proofs.NoCrossing.{gets-3}

module _ (i : List ℕ) (own : ℕ) (s : List ℕ) where
  pub two_of_six : version_in s ≡ the_version → is_three i (sender_in s) ≡ false → any_of i own s ≡ from_six (read_of own s)
  two_of_six v e = if-six i own s (of-six-form i own s v) e

  pub one_of_three : version_in3 s ≡ the_version3 → is_three i (sender_in3 s) ≡ true → any_of i own s ≡ from_three (read_of3 own s)
  one_of_three v e = if-three i own s (of-three-form i own s (λ z. omega (arith, v, z)) ∙ e)

  module _ (long : header_length ≤ length s) (mark : mark_in s ≡ the_mark) where
    pub two_of_three : version_in s ≡ the_version → is_three i (sender_in s) ≡ true → any_of i own s ≡ Refused 3
    two_of_three v e =
        let frame : frame_refusal s ≡ cond (leb reserved_domains (domain_in s)) 4 0 =
        no_lt 1 _ (length s) header_length long ∙ no-ne 2 _ (mark_in s) the_mark mark ∙ no-ne 3 _ (version_in s) the_version v in
        if-other i own s (of-six-form i own s v) e ∙ ap (λ (n : ℕ). Refused (other_issue n)) frame ∙ go (leb reserved_domains (domain_in s))
      where
        go : (b : Bool) → Refused (other_issue (cond b 4 0)) ≡ Refused 3
        go true = refl
        go false = refl

  module _ (long : header_length3 ≤ length s) (mark : mark_in s ≡ the_mark) (a : version_in s ≡ the_version → ⊥) (b : version_in3 s ≡ the_version3 → ⊥) where
    not-read3 : from_three (read_of3 own s) ≡ Refused 3
    not-read3 =
        let rest : ℕ = first (address_refusal3 own s) (contents_refusal3 (domain_in3 s) (id_in3 s) (payload_in3 s)) in
        let frame : frame_refusal3 s ≡ 3 =
        no_lt 1 _ (length s) header_length3 long ∙ no-ne 2 _ (mark_in s) the_mark mark ∙ yes-ne 3 _ (version_in3 s) the_version3 b in
        ap (λ (n : ℕ). from_three (answered3 (first n rest) (read_out3 s))) frame

    -- neither issue's version: 3, whoever the sender is
    pub no-version : any_of i own s ≡ Refused 3
    no-version = go (is_three i (sender_in3 s)) refl
      where
        go : (c : Bool) → is_three i (sender_in3 s) ≡ c → any_of i own s ≡ Refused 3
        go true q = if-three i own s (of-three-form i own s a ∙ q) ∙ not-read3
        go false q = gets-3 s (omega (arith, long)) mark a i own q

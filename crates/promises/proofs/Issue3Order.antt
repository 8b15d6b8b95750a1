-- The order of checks for a message of Issue 3, and what a refusal leaves.
-- Assumes nothing.
use Prim.Native.Nat.{ℕ, suc, ◌+◌, ◌-◌, ◌<◌}
use mathlib.Core.Path.{◌≡◌, refl, sym}
use mathlib.Core.Bool.{Bool, true, false, not, cond, ◌&&◌}
use mathlib.Core.Logic.{◌⊎◌, inl, inr}
use mathlib.Core.List.{List, [], ◌∷◌, ◌++◌}
use native.Mathlib.Omega.{arith}
use borrow.Author.Tests.{ltb-false, le-ltb}
use lib.Dec.{eqb, leb, ltb}
use lib.ListN.{length}
use Rattle.wire.specs.Bytes.{over}
use Rattle.wire.specs.All.{all_below}
use Rattle.wire.proofs.AllBelow.{stop-below}
use Rattle.wire.proofs.Cond.{clash}
use Rattle.message.specs.declared.Writing.{Writing}
use Rattle.message.specs.declared.Writing.TheVariants as writing
use Rattle.message.specs.Header.{the_mark, mark_in, platform_domain, reserved_domains}
use Rattle.message.specs.Platform.{reserved_states}
use Rattle.message.specs.Refusal.{first, size_limit}
use Rattle.message.specs.Writing.{answered, number_given}
use Rattle.message3.specs.declared.Reading3.{Reading3}
use Rattle.message3.specs.declared.Reading3.TheVariants as reading
use Rattle.message3.specs.Header.{header_length3, the_version3, version_in3, domain_in3, sender_in3, id_in3, payload_size_in3, payload_in3}
use Rattle.message3.specs.Platform.{platform_status3, availability_status, composite_change_request_ack, reserved_id3, payload_length3}
use Rattle.message3.specs.Platform.{first_in, state_at, known_state, has_status, reserved_in}
use Rattle.message3.specs.Refusal.{address_refusal3, contents_refusal3}
use Rattle.message3.specs.Reading.{answered3, read_out3, read_of3, number_given3}
use Rattle.message3.specs.Writing.{message_bytes3, write_of3}
use Rattle.promises.specs.Checks.{Check, ◌when◌, Answers, Outside, none, below, above}
use Rattle.promises.specs.Issue3Order.{HasReserved, contents_checks3, read_checks3, write_checks3, Issue3Order}
use Rattle.promises.proofs.Checks.{Decides, lt_decides, le_decides, eq_decides, not_decides, or_decides, and_decides, decides_same}
use Rattle.promises.proofs.Checks.{by_number, passing, numbers}
use Rattle.promises.proofs.Demand1.{write_keeps}
use Rattle.promises.proofs.Rules32.{some_below}

-- reserved IDs
pub reserved_decides : (id : ℕ) → Decides (reserved_id3 id) (Outside 1 9 id)
reserved_decides id =
    decides_same (or_decides (eqb id 0) (ltb composite_change_request_ack id) (eq_decides id 0) (lt_decides composite_change_request_ack id)) there back
  where
    there : (id ≡ 0) ⊎ (9 < id) → Outside 1 9 id
    there (inl e) = below (omega arith)
    there (inr l) = above l

    back : Outside 1 9 id → (id ≡ 0) ⊎ (9 < id)
    back (below l) = inl (omega arith)
    back (above l) = inr l

-- some service's state is reserved
states_decide : (payload : List ℕ)
    → Decides (not (all_below (known_state payload) (first_in payload))) ((i : ℕ) × (i < first_in payload) × (1 < state_at payload i))
states_decide payload = go (all_below (known_state payload) (first_in payload)) refl
  where
    some : all_below (known_state payload) (first_in payload) ≡ false → (i : ℕ) × (i < first_in payload) × (1 < state_at payload i)
    some e =
        let r = some_below (known_state payload) (first_in payload) e in
        (r.0, r.1, ltb-false (state_at payload r.0) reserved_states r.2)

    all : all_below (known_state payload) (first_in payload) ≡ true → ¬ ((i : ℕ) × (i < first_in payload) × (1 < state_at payload i))
    all e r =
        let f : known_state payload r.0 ≡ false = le-ltb (state_at payload r.0) reserved_states r.2 in
        clash (sym (stop-below (known_state payload) (first_in payload) r.0 false (sym f) refl r.1)) e

    go : (b : Bool) → all_below (known_state payload) (first_in payload) ≡ b
        → Decides (not b) ((i : ℕ) × (i < first_in payload) × (1 < state_at payload i))
    go true e = record { yes_is = λ q. absurd (clash refl q); no_is = λ q. all e }
    go false e = record { yes_is = λ q. some e; no_is = λ q. absurd (clash q refl) }

-- a field has a reserved value
value_decides : (id : ℕ) (payload : List ℕ) → Decides (reserved_in id payload) (HasReserved id payload)
value_decides id payload = go (eqb id availability_status) refl
  where
    of-status : Decides (has_status id && leb reserved_states (first_in payload)) (((id ≡ 1) ⊎ (id ≡ 9)) × (1 < first_in payload))
    of-status =
        and_decides (has_status id) (leb reserved_states (first_in payload))
        (or_decides (eqb id platform_status3) (eqb id composite_change_request_ack) (eq_decides id platform_status3) (eq_decides id composite_change_request_ack))
        (le_decides reserved_states (first_in payload))

    go : (b : Bool) → eqb id availability_status ≡ b
        → Decides (cond b (not (all_below (known_state payload) (first_in payload))) (has_status id && leb reserved_states (first_in payload)))
        (HasReserved id payload)
    go true e =
        let h : id ≡ 3 = (eq_decides id availability_status).yes_is e in
        decides_same (states_decide payload) (λ r. inr (h, r)) back
      where
        back : HasReserved id payload → (i : ℕ) × (i < first_in payload) × (1 < state_at payload i)
        back (inl p) = absurd (neither p.0)
          where
            neither : (id ≡ 1) ⊎ (id ≡ 9) → ⊥
            neither (inl q) = let h : id ≡ 3 = (eq_decides id availability_status).yes_is e in omega arith
            neither (inr q) = let h : id ≡ 3 = (eq_decides id availability_status).yes_is e in omega arith
        back (inr r) = r.1
    go false e = decides_same of-status (λ p. inl p) back
      where
        back : HasReserved id payload → ((id ≡ 1) ⊎ (id ≡ 9)) × (1 < first_in payload)
        back (inl p) = p
        back (inr r) = absurd ((eq_decides id availability_status).no_is e r.0)

-- 7 to 9, and what stands behind them
module _ {A : Type 0} (refused : ℕ → A) (good : A) (g : ℕ → A) (e : (k : ℕ) → g (suc k) ≡ refused (suc k)) (domain id : ℕ)
    (payload : List ℕ) (rest : List Check) (a : Answers refused good rest (g 0)) where
  contents-in-order : Answers refused good (contents_checks3 domain id payload ++ rest) (g (contents_refusal3 domain id payload))
  contents-in-order = go (eqb domain platform_domain) refl
    where
      in-domain : {C : Type 0} (b : Bool) → domain ≡ 0 → Decides b C → Decides b ((domain ≡ 0) × C)
      in-domain b z d = decides_same d (λ c. (z, c)) (λ p. p.1)

      go : (b : Bool) → eqb domain platform_domain ≡ b
          → Answers refused good (contents_checks3 domain id payload ++ rest)
          (g (cond (not b) 0 (cond (reserved_id3 id) 7
          (cond (not (eqb (length payload) (payload_length3 id payload))) 8 (cond (reserved_in id payload) 9 0)))))
      go true q =
          let z : domain ≡ 0 = (eq_decides domain platform_domain).yes_is q in
          by_number refused good g e (reserved_id3 id) 6 _ (in-domain (reserved_id3 id) z (reserved_decides id))
          (by_number refused good g e (not (eqb (length payload) (payload_length3 id payload))) 7 _
          (in-domain _ z (not_decides (eqb (length payload) (payload_length3 id payload)) (eq_decides (length payload) (payload_length3 id payload))))
          (by_number refused good g e (reserved_in id payload) 8 0 (in-domain _ z (value_decides id payload)) a))
      go false q =
          let z : ¬ (domain ≡ 0) = (eq_decides domain platform_domain).no_is q in
          passing refused good 7 z (passing refused good 8 z (passing refused good 9 z a))

read_in_order : (own : ℕ) (s : List ℕ) → Answers reading.Refused (read_out3 s) (read_checks3 own s) (read_of3 own s)
read_in_order own s =
    let contents : ℕ = contents_refusal3 (domain_in3 s) (id_in3 s) (payload_in3 s) in
    let framed : ℕ → Reading3 = λ r. answered3 (first r (first (address_refusal3 own s) contents)) (read_out3 s) in
    let addressed : ℕ → Reading3 = λ r. answered3 (first r contents) (read_out3 s) in
    let checked : ℕ → Reading3 = λ r. answered3 r (read_out3 s) in
    by_number reading.Refused (read_out3 s) framed (λ k. refl) (ltb (length s) header_length3) 0 _ (lt_decides (length s) header_length3)
    (by_number reading.Refused (read_out3 s) framed (λ k. refl) (not (eqb (mark_in s) the_mark)) 1 _
    (not_decides (eqb (mark_in s) the_mark) (eq_decides (mark_in s) the_mark))
    (by_number reading.Refused (read_out3 s) framed (λ k. refl) (not (eqb (version_in3 s) the_version3)) 2 _
    (not_decides (eqb (version_in3 s) the_version3) (eq_decides (version_in3 s) the_version3))
    (by_number reading.Refused (read_out3 s) framed (λ k. refl) (leb reserved_domains (domain_in3 s)) 3 0 (le_decides reserved_domains (domain_in3 s))
    (by_number reading.Refused (read_out3 s) addressed (λ k. refl) (not (eqb (payload_size_in3 s) (length s - header_length3))) 4 _
    (not_decides (eqb (payload_size_in3 s) (length s - header_length3)) (eq_decides (payload_size_in3 s) (length s - header_length3)))
    (by_number reading.Refused (read_out3 s) addressed (λ k. refl) (eqb (sender_in3 s) own) 5 0 (eq_decides (sender_in3 s) own)
    (contents-in-order reading.Refused (read_out3 s) checked (λ k. refl) (domain_in3 s) (id_in3 s) (payload_in3 s) [] none))))))

write_in_order : (domain id : ℕ) (payload : List ℕ) (room : ℕ)
    → Answers writing.Refused (writing.Written (header_length3 + length payload)) (write_checks3 domain id payload room) (write_of3 domain id payload room)
write_in_order domain id payload room =
    let n : ℕ = header_length3 + length payload in
    let good : Writing = writing.Written n in
    let whole : ℕ → Writing = λ r. answered r n in
    let behind : ℕ → Writing = λ r. answered (first r (cond (ltb room n) 10 0)) n in
    by_number writing.Refused good whole (λ k. refl) (leb reserved_domains domain) 3 _ (le_decides reserved_domains domain)
    (by_number writing.Refused good whole (λ k. refl) (leb size_limit (length payload)) 4 _ (le_decides size_limit (length payload))
    (contents-in-order writing.Refused good behind (λ k. refl) domain id payload (10 when (room < n) ∷ [])
    (by_number writing.Refused good whole (λ k. refl) (ltb room n) 9 0 (lt_decides room n) none)))

pub issue3_order : Issue3Order
issue3_order =
    record {
      read = read_in_order;
      write = write_in_order;
      read_number = λ own s. numbers number_given3 (λ n. refl) refl (read_in_order own s);
      write_number = λ domain id payload room. numbers number_given (λ n. refl) refl (write_in_order domain id payload room);
      write_output = λ own t domain id seq payload out. write_keeps (write_of3 domain id payload (length out)) out
          (over out 0 (message_bytes3 own t domain id seq payload));
    }

-- The order of checks for messages, datagrams and cutting.
-- Assumes nothing.
use Prim.Native.Nat.{ℕ, suc, ◌+◌, ◌-◌, ◌≤◌, ◌<◌}
use Rattle.std.specs.Prelude.{Result, Ok}
use Rattle.refusal.specs.Refusal.{refused}
use Rattle.refusal.specs.declared.Refusal.{Refusal}
use mathlib.Core.Path.{◌≡◌, refl}
use mathlib.Core.Bool.{Bool, true, false, not, cond, ◌&&◌}
use mathlib.Core.Logic.{◌⊎◌, inl, inr, ⊎_elim}
use mathlib.Core.List.{List, [], ◌∷◌, ◌++◌}
use native.Mathlib.Omega.{arith}
use borrow.Author.Tests.{ltb-true, ltb-false}
use lib.Dec.{eqb, leb, ltb}
use lib.ListN.{length}
use Rattle.wire.specs.Bytes.{number}
use Rattle.wire.proofs.Cond.{clash}
use Rattle.message.specs.declared.Reading.{Reading}
use Rattle.message.specs.declared.Reading.TheVariants as reading
use Rattle.message.specs.declared.Writing.{Writing}
use Rattle.message.specs.declared.Writing.TheVariants as writing
use Rattle.message.specs.Header.{header_length, the_mark, mark_in, the_version, version_in, platform_domain, reserved_domains, domain_in}
use Rattle.message.specs.Header.{sender_in, id_in, payload_size_in, payload_in}
use Rattle.message.specs.Platform.{platform_status, versioned_data_pull, reserved_id, payload_length, reserved_states}
use Rattle.message.specs.Refusal.{first, size_limit, address_refusal, contents_refusal}
use Rattle.message.specs.Reading.{reading_out, read_of}
use Rattle.message.specs.Reading as reads
use Rattle.message.specs.Writing.{write_of}
use Rattle.message.specs.Writing as writes
use Rattle.binding.specs.Header.{senders, counters, version_in as version_of, header_in, heading_in}
use Rattle.binding.specs.Cutting.{can_cut, can_head, piece_count, datagram_of, counted_of, made_of}
use Rattle.binding.proofs.Cutting.{Cuttable, cuttable, can-cut}
use Rattle.promises.specs.Checks.{Check, ◌when◌, Answers, Outside, none, below, above}
use Rattle.promises.specs.Order.{contents_checks, read_checks, write_checks, header_checks, cut_checks}
use Rattle.promises.proofs.Checks.{Decides, lt_decides, le_decides, eq_decides, not_decides, or_decides, and_decides}
use Rattle.promises.proofs.Checks.{decides_same, flip_decides, where_is, not_outside, unless, by_number, passing}

-- reserved IDs
pub reserved_decides : (id : ℕ) → Decides (reserved_id id) (Outside 1 4 id)
reserved_decides id = decides_same (or_decides (eqb id 0) (ltb versioned_data_pull id) (eq_decides id 0) (lt_decides versioned_data_pull id)) there back
  where
    there : (id ≡ 0) ⊎ (4 < id) → Outside 1 4 id
    there (inl e) = below (omega arith)
    there (inr l) = above l

    back : Outside 1 4 id → (id ≡ 0) ⊎ (4 < id)
    back (below l) = inl (omega arith)
    back (above l) = inr l

-- 7 to 9, and what stands behind them
module _ {A : Type 0} (refused : ℕ → A) (good : A) (g : ℕ → A) (e : (k : ℕ) → g (suc k) ≡ refused (suc k)) (domain id : ℕ)
    (payload : List ℕ) (rest : List Check) (a : Answers refused good rest (g 0)) where
  contents-in-order : Answers refused good (contents_checks domain id payload ++ rest) (g (contents_refusal domain id payload))
  contents-in-order = go (eqb domain platform_domain) refl
    where
      in-domain : {C : Type 0} (b : Bool) → domain ≡ 0 → Decides b C → Decides b ((domain ≡ 0) × C)
      in-domain b z d = decides_same d (λ c. (z, c)) (λ p. p.1)

      go : (b : Bool) → eqb domain platform_domain ≡ b
          → Answers refused good (contents_checks domain id payload ++ rest)
          (g (cond (not b) 0 (cond (reserved_id id) 7
          (cond (not (eqb (length payload) (payload_length id))) 8 (cond (eqb id platform_status && leb reserved_states (number 2 payload 0)) 9 0)))))
      go true q =
          let z : domain ≡ 0 = (eq_decides domain platform_domain).yes_is q in
          by_number refused good g e (reserved_id id) 6 _ (in-domain (reserved_id id) z (reserved_decides id))
          (by_number refused good g e (not (eqb (length payload) (payload_length id))) 7 _
          (in-domain _ z (not_decides (eqb (length payload) (payload_length id)) (eq_decides (length payload) (payload_length id))))
          (by_number refused good g e (eqb id platform_status && leb reserved_states (number 2 payload 0)) 8 0
          (in-domain _ z (and_decides (eqb id platform_status) (leb reserved_states (number 2 payload 0)) (eq_decides id platform_status)
          (le_decides reserved_states (number 2 payload 0)))) a))
      go false q =
          let z : ¬ (domain ≡ 0) = (eq_decides domain platform_domain).no_is q in
          passing refused good 7 z (passing refused good 8 z (passing refused good 9 z a))

-- a message read
pub read_in_order : (own : ℕ) (s : List ℕ) → Answers reading.Refused (reading_out s) (read_checks own s) (read_of own s)
unfolding read_checks
read_in_order own s =
    let contents : ℕ = contents_refusal (domain_in s) (id_in s) (payload_in s) in
    let framed : ℕ → Reading = λ r. reads.answered (first r (first (address_refusal own s) contents)) (reading_out s) in
    let addressed : ℕ → Reading = λ r. reads.answered (first r contents) (reading_out s) in
    let checked : ℕ → Reading = λ r. reads.answered r (reading_out s) in
    by_number reading.Refused (reading_out s) framed (λ k. refl) (ltb (length s) header_length) 0 _ (lt_decides (length s) header_length)
    (by_number reading.Refused (reading_out s) framed (λ k. refl) (not (eqb (mark_in s) the_mark)) 1 _
    (not_decides (eqb (mark_in s) the_mark) (eq_decides (mark_in s) the_mark))
    (by_number reading.Refused (reading_out s) framed (λ k. refl) (not (eqb (version_in s) the_version)) 2 _
    (not_decides (eqb (version_in s) the_version) (eq_decides (version_in s) the_version))
    (by_number reading.Refused (reading_out s) framed (λ k. refl) (leb reserved_domains (domain_in s)) 3 0 (le_decides reserved_domains (domain_in s))
    (by_number reading.Refused (reading_out s) addressed (λ k. refl) (not (eqb (payload_size_in s) (length s - header_length))) 4 _
    (not_decides (eqb (payload_size_in s) (length s - header_length)) (eq_decides (payload_size_in s) (length s - header_length)))
    (by_number reading.Refused (reading_out s) addressed (λ k. refl) (eqb (sender_in s) own) 5 0 (eq_decides (sender_in s) own)
    (contents-in-order reading.Refused (reading_out s) checked (λ k. refl) (domain_in s) (id_in s) (payload_in s) [] none))))))

-- a message written
pub write_in_order : (domain id : ℕ) (payload : List ℕ) (room : ℕ)
    → Answers writing.Refused (writing.Written (header_length + length payload)) (write_checks domain id payload room) (write_of domain id payload room)
write_in_order domain id payload room =
    let n : ℕ = header_length + length payload in
    let good : Writing = writing.Written n in
    let whole : ℕ → Writing = λ r. writes.answered r n in
    let behind : ℕ → Writing = λ r. writes.answered (first r (cond (ltb room n) 10 0)) n in
    by_number writing.Refused good whole (λ k. refl) (leb reserved_domains domain) 3 _ (le_decides reserved_domains domain)
    (by_number writing.Refused good whole (λ k. refl) (leb size_limit (length payload)) 4 _ (le_decides size_limit (length payload))
    (contents-in-order writing.Refused good behind (λ k. refl) domain id payload (10 when (room < n) ∷ [])
    (by_number writing.Refused good whole (λ k. refl) (ltb room n) 9 0 (lt_decides room n) none)))

-- a datagram's header
pub inside : (lo hi x : ℕ) → Decides (not (leb lo x && leb x hi)) (Outside lo hi x)
inside lo hi x = flip_decides (leb lo x && leb x hi) (and_decides (leb lo x) (leb x hi) (le_decides lo x) (le_decides x hi)) there back
  where
    there : ¬ ((lo ≤ x) × (x ≤ hi)) → Outside lo hi x
    there n = ⊎_elim (λ o. o) (λ p. absurd (n p)) (where_is lo hi x)

    back : Outside lo hi x → ¬ ((lo ≤ x) × (x ≤ hi))
    back o p = not_outside lo hi x p.0 p.1 o

pub version_decides : (d : List ℕ) → Decides (not (eqb (version_of d) 0)) (¬ (version_of d ≡ 0))
version_decides d = not_decides (eqb (version_of d) 0) (eq_decides (version_of d) 0)

pub header_in_order : (d : List ℕ) → Answers refused (Ok (header_in d)) (header_checks d) (heading_in d)
header_in_order d =
    unless refused (Ok (header_in d)) (leb 5 (length d) && leb (length d) 65507) 21 (inside 5 65507 (length d))
    (unless refused (Ok (header_in d)) (eqb (version_of d) 0) 22 (version_decides d) none)

-- not below, and not up to
pub below_decides : (m n : ℕ) → Decides (not (ltb m n)) (n ≤ m)
below_decides m n = flip_decides (ltb m n) (lt_decides m n) (λ l. omega arith) (λ l k. omega arith)

pub above_decides : (m n : ℕ) → Decides (not (leb m n)) (n < m)
above_decides m n = flip_decides (leb m n) (le_decides m n) (λ l. omega arith) (λ l k. omega arith)

-- cutting
cut_decides : (m s : ℕ) → Decides (not (can_cut m s)) (Outside 1 65560 m ⊎ Outside 1 65503 s)
cut_decides m s = flip_decides (can_cut m s) (record { yes_is = cuttable m s; no_is = λ e w. clash e (can-cut m s w) }) there back
  where
    there : ¬ (Cuttable m s) → Outside 1 65560 m ⊎ Outside 1 65503 s
    there n =
        ⊎_elim (λ o. inl o)
        (λ p. ⊎_elim (λ o. inr o) (λ q. absurd (n (record { some = p.0; most = p.1; size = q.0; piece = q.1 }))) (where_is 1 65503 s))
        (where_is 1 65560 m)

    back : Outside 1 65560 m ⊎ Outside 1 65503 s → ¬ (Cuttable m s)
    back o w = ⊎_elim (not_outside 1 65560 m w.some w.most) (not_outside 1 65503 s w.size w.piece) o

head_decides : (sender counter : ℕ) → Decides (not (can_head sender counter)) ((senders ≤ sender) ⊎ (counters ≤ counter))
head_decides sender counter =
    flip_decides (can_head sender counter)
    (and_decides (ltb sender senders) (ltb counter counters) (lt_decides sender senders) (lt_decides counter counters)) there back
  where
    there : ¬ ((sender < senders) × (counter < counters)) → (senders ≤ sender) ⊎ (counters ≤ counter)
    there n = go (ltb sender senders) refl (ltb counter counters) refl
      where
        go : (a : Bool) → ltb sender senders ≡ a → (b : Bool) → ltb counter counters ≡ b → (senders ≤ sender) ⊎ (counters ≤ counter)
        go false e b f = inl (ltb-false sender senders e)
        go true e false f = inr (ltb-false counter counters f)
        go true e true f = absurd (n (ltb-true sender senders e, ltb-true counter counters f))

    back : (senders ≤ sender) ⊎ (counters ≤ counter) → ¬ ((sender < senders) × (counter < counters))
    back (inl l) p = omega (arith, p.0)
    back (inr l) p = omega (arith, p.1)

both_decide : {A B : Type 0} (a b : Bool) → Decides (not a) A → Decides (not b) B → Decides (not (a && b)) (A ⊎ B)
both_decide true b d f = record { yes_is = λ e. inr (f.yes_is e); no_is = λ e. ⊎_elim (d.no_is refl) (f.no_is e) }
both_decide false b d f = record { yes_is = λ e. inl (d.yes_is refl); no_is = λ e. let z : ◌≡◌ {A = ℕ} 0 1 = cc in absurd (omega arith) }

pub pieces_in_order : (m s : ℕ)
    → Answers refused (Ok (piece_count m s)) (50 when (Outside 1 65560 m ⊎ Outside 1 65503 s) ∷ []) (counted_of m s)
pieces_in_order m s = unless refused (Ok (piece_count m s)) (can_cut m s) 50 (cut_decides m s) none

pub cut_in_order : (msg : List ℕ) (s sender counter i room : ℕ)
    → Answers refused (Ok (length (datagram_of msg s sender counter i))) (cut_checks msg s sender counter i room)
    (made_of msg s sender counter i room)
cut_in_order msg s sender counter i room =
    let n : ℕ = length (datagram_of msg s sender counter i) in
    let good : Result ℕ Refusal = Ok n in
    unless refused good (can_cut (length msg) s && can_head sender counter) 50
    (both_decide (can_cut (length msg) s) (can_head sender counter) (cut_decides (length msg) s) (head_decides sender counter))
    (unless refused good (ltb i (piece_count (length msg) s)) 51 (below_decides i (piece_count (length msg) s))
    (unless refused good (leb n room) 52 (above_decides n room) none))

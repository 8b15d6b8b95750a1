-- A status of services tells what was laid into it: each service at its place with its state, however many they are. And nothing
-- refuses its contents.
-- Assumes nothing.
use Prim.Native.Nat.{ℕ, zero, suc, ◌+◌, ◌*◌, ◌^◌, ◌<◌}
use mathlib.Core.Path.{◌≡◌, refl, ap, ◌∙◌}
use mathlib.Core.Bool.{not}
use mathlib.Core.List.{List, [], ◌∷◌, ◌++◌}
use native.Mathlib.Omega.{arith}
use borrow.Author.Tests.{lt-ltb}
use lib.ListN.{length, get_or}
use Rattle.wire.specs.Bytes.{span, number, bytes}
use Rattle.wire.proofs.AllBelow.{all-below}
use Rattle.wire.proofs.Cond.{no-ne, no-if}
use Rattle.wire.proofs.Numbers.{number_bytes, number_append}
use Rattle.message.specs.Header.{platform_domain}
use Rattle.message.specs.Platform.{reserved_states}
use Rattle.message3.specs.Platform.{availability_status, first_in, service_at, state_at, services_length, payload_length3, known_state}
use Rattle.message3.specs.Platform.{pair_bytes, services_bytes}
use Rattle.message3.specs.Refusal.{contents_refusal3}

-- the i-th of some pairs
abbrev pub pair_at : List (ℕ × ℕ) → ℕ → ℕ × ℕ
pair_at ps i = get_or ps i (0, 0)

-- IDs fit their fields, and no state is reserved
abbrev pub Good : List (ℕ × ℕ) → Type 0
Good ps = (i : ℕ) → ((pair_at ps i).0 < span 2) × ((pair_at ps i).1 < reserved_states)

pub length_pairs : (ps : List (ℕ × ℕ)) → length (pair_bytes ps) ≡ 8 * length ps
length_pairs [] = refl
length_pairs (p ∷ ps) = let n = length_pairs ps in omega arith

pub length_services : (ps : List (ℕ × ℕ)) → length (services_bytes ps) ≡ services_length (length ps)
length_services ps = let n = length_pairs ps in omega arith

-- each pair stands at its place
pub id_at : (ps : List (ℕ × ℕ)) (i : ℕ) → Good ps → i < length ps → number 2 (pair_bytes ps) (8 * i) ≡ (pair_at ps i).0
id_at [] i g h = absurd (omega arith)
id_at (p ∷ ps) zero g h = number_bytes 2 p.0 (bytes 2 p.1 ++ pair_bytes ps) (g 0).0
id_at (p ∷ ps) (suc i) g h =
    let front : List ℕ = bytes 2 p.0 ++ bytes 2 p.1 in
    let place : 8 * suc i ≡ length front + 8 * i = omega arith in
    ap (number 2 (pair_bytes (p ∷ ps))) place ∙ number_append 2 front (pair_bytes ps) (8 * i) ∙ id_at ps i (λ k. g (suc k)) (omega arith)

pub state-at : (ps : List (ℕ × ℕ)) (i : ℕ) → Good ps → i < length ps → number 2 (pair_bytes ps) (4 + 8 * i) ≡ (pair_at ps i).1
state-at [] i g h = absurd (omega arith)
state-at (p ∷ ps) zero g h = number_bytes 2 p.1 (pair_bytes ps) (omega (arith, (g 0).1))
state-at (p ∷ ps) (suc i) g h =
    let front : List ℕ = bytes 2 p.0 ++ bytes 2 p.1 in
    let place : 4 + 8 * suc i ≡ length front + (4 + 8 * i) = omega arith in
    ap (number 2 (pair_bytes (p ∷ ps))) place ∙ number_append 2 front (pair_bytes ps) (4 + 8 * i) ∙ state-at ps i (λ k. g (suc k)) (omega arith)

-- a payload that is as long as it says, with states that are known
pub services_pass : (payload : List ℕ) → length payload ≡ services_length (first_in payload)
    → ((i : ℕ) → i < first_in payload → state_at payload i < reserved_states) → contents_refusal3 platform_domain availability_status payload ≡ 0
services_pass payload l h =
    no-ne 8 _ (length payload) (payload_length3 availability_status payload) l
    ∙ no-if 9 0 (ap not (all-below (known_state payload) (first_in payload) (λ i k. lt-ltb (state_at payload i) reserved_states (h i k))))

module _ (ps : List (ℕ × ℕ)) (g : Good ps) where
  pub service-told : (i : ℕ) → i < length ps → service_at (services_bytes ps) i ≡ (pair_at ps i).0
  service-told i h = number_append 2 (bytes 2 (length ps)) (pair_bytes ps) (8 * i) ∙ id_at ps i g h

  pub state-told : (i : ℕ) → i < length ps → state_at (services_bytes ps) i ≡ (pair_at ps i).1
  state-told i h =
      let place : 8 + 8 * i ≡ 4 + (4 + 8 * i) = omega arith in
      ap (number 2 (services_bytes ps)) place ∙ number_append 2 (bytes 2 (length ps)) (pair_bytes ps) (4 + 8 * i) ∙ state-at ps i g h

  module _ (few : length ps < 2 ^ 29) where
    pub how-many : first_in (services_bytes ps) ≡ length ps
    how-many = number_bytes 2 (length ps) (pair_bytes ps) (omega arith)

    pub services-written : contents_refusal3 platform_domain availability_status (services_bytes ps) ≡ 0
    services-written =
        let n = how-many in
        services_pass (services_bytes ps) (omega (arith, length_services ps))
        (λ i h. omega (arith, state-told i (omega arith), (g i).1))

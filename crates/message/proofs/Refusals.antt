-- Which refusal each return of the functions in `refusal` stands for: the tests that led there say which case of the
-- definition holds.
-- Assumes nothing.
use Prim.Native.Nat.{ℕ, ◌-◌, ◌≤◌, ◌<◌}
use mathlib.Core.Path.{◌≡◌, sym, ◌∙◌}
use mathlib.Core.Bool.{Bool, true, false, not, cond, ◌&&◌}
use mathlib.Core.List.{List, []}
use native.Mathlib.Omega.{arith}
use borrow.Author.Tests.{eq-eqb, ne_eqb}
use lib.Dec.{eqb, leb}
use lib.ListN.{length, take, drop, length-drop, drop_of_length-le}
use lib.Seq.{take_all}
use Rattle.wire.specs.Bytes.{number}
use Rattle.message.specs.Header.{header_length, the_mark, mark_in, the_version, version_in, platform_domain, domain_in}
use Rattle.message.specs.Header.{reserved_domains, sender_in, id_in, payload_size_in, payload_in}
use Rattle.message.specs.Platform.{platform_status, reserved_id, payload_length, reserved_states}
use Rattle.message.specs.Refusal.{first, frame_refusal, address_refusal, contents_refusal, read_refusal}
use Rattle.message.proofs.Accepted.{first_none, first_some}
use Rattle.wire.proofs.Cond.{yes-if, no-if, yes_lt, no_lt, yes_le, no_le, yes-ne, no-ne, yes-eq, no_eq}

module _ (s : List ℕ) where
  pub frame-1 : length s < header_length → 1 ≡ frame_refusal s
  frame-1 h = sym (yes_lt 1 _ (length s) header_length h)

  module _ (mark : ℕ) (long : header_length ≤ length s) (m : mark ≡ mark_in s) where
    pub frame-2 : (mark ≡ the_mark → ⊥) → 2 ≡ frame_refusal s
    frame-2 h = sym (no_lt 1 _ (length s) header_length long ∙ yes-ne 2 _ (mark_in s) the_mark (λ e. h (m ∙ e)))

    module _ (version : ℕ) (marked : mark ≡ the_mark) (v : version ≡ version_in s) where
      past-mark : frame_refusal s ≡ cond (not (eqb (version_in s) the_version)) 3 (cond (leb reserved_domains (domain_in s)) 4 0)
      past-mark = no_lt 1 _ (length s) header_length long ∙ no-ne 2 _ (mark_in s) the_mark (sym m ∙ marked)

      pub frame-3 : (version ≡ the_version → ⊥) → 3 ≡ frame_refusal s
      frame-3 h = sym (past-mark ∙ yes-ne 3 _ (version_in s) the_version (λ e. h (v ∙ e)))

      module _ (domain : ℕ) (versioned : version ≡ the_version) (d : domain ≡ domain_in s) where
        pub frame-4 : reserved_domains ≤ domain → 4 ≡ frame_refusal s
        frame-4 h = sym (past-mark ∙ no-ne 3 _ (version_in s) the_version (sym v ∙ versioned) ∙ yes_le 4 0 reserved_domains (domain_in s) (omega arith))

        pub frame-0 : domain < reserved_domains → 0 ≡ frame_refusal s
        frame-0 h = sym (past-mark ∙ no-ne 3 _ (version_in s) the_version (sym v ∙ versioned) ∙ no_le 4 0 reserved_domains (domain_in s) (omega arith))

module _ (own : ℕ) (s : List ℕ) (size len : ℕ) (z : size ≡ payload_size_in s) (l : len ≡ length s - header_length) where
  pub address-5 : (size ≡ len → ⊥) → 5 ≡ address_refusal own s
  address-5 h = sym (yes-ne 5 _ (payload_size_in s) (length s - header_length) (λ e. h (z ∙ e ∙ sym l)))

  module _ (sender : ℕ) (sized : size ≡ len) (f : sender ≡ sender_in s) where
    past-size : address_refusal own s ≡ cond (eqb (sender_in s) own) 6 0
    past-size = no-ne 5 _ (payload_size_in s) (length s - header_length) (sym z ∙ sized ∙ l)

    pub address-6 : sender ≡ own → 6 ≡ address_refusal own s
    address-6 h = sym (past-size ∙ yes-eq 6 0 (sender_in s) own (sym f ∙ h))

    pub address-0 : (sender ≡ own → ⊥) → 0 ≡ address_refusal own s
    address-0 h = sym (past-size ∙ no_eq 6 0 (sender_in s) own (λ e. h (f ∙ e)))

module _ (domain id : ℕ) (payload : List ℕ) where
  pub contents-other : (domain ≡ platform_domain → ⊥) → 0 ≡ contents_refusal domain id payload
  contents-other h = sym (yes-ne 0 _ domain platform_domain h)

  module _ (p : domain ≡ platform_domain) (reserved : Bool) (r : reserved ≡ reserved_id id) where
    pub contents-7 : reserved ≡ true → 7 ≡ contents_refusal domain id payload
    contents-7 h = sym (no-ne 0 _ domain platform_domain p ∙ yes-if 7 _ (sym r ∙ h))

    module _ (known : reserved ≡ false) (len : ℕ) (l : len ≡ payload_length id) where
      past-id : contents_refusal domain id payload
          ≡ cond (not (eqb (length payload) (payload_length id))) 8 (cond (eqb id platform_status && leb reserved_states (number 2 payload 0)) 9 0)
      past-id = no-ne 0 _ domain platform_domain p ∙ no-if 7 _ (sym r ∙ known)

      pub contents-8 : (length payload ≡ len → ⊥) → 8 ≡ contents_refusal domain id payload
      contents-8 h = sym (past-id ∙ yes-ne 8 _ (length payload) (payload_length id) (λ e. h (e ∙ sym l)))

      module _ (sized : length payload ≡ len) where
        past-length : contents_refusal domain id payload ≡ cond (eqb id platform_status && leb reserved_states (number 2 payload 0)) 9 0
        past-length = past-id ∙ no-ne 8 _ (length payload) (payload_length id) (sized ∙ l)

        pub contents-stateless : (id ≡ platform_status → ⊥) → 0 ≡ contents_refusal domain id payload
        contents-stateless h = sym (past-length ∙ rw (ne_eqb id platform_status h))

        module _ (field : ℕ) (i : id ≡ platform_status) (f : field ≡ number 2 payload 0) where
          past-status : contents_refusal domain id payload ≡ cond (leb reserved_states field) 9 0
          past-status = past-length ∙ rw (eq-eqb id platform_status i, f)

          pub contents-9 : reserved_states ≤ field → 9 ≡ contents_refusal domain id payload
          contents-9 h = sym (past-status ∙ yes_le 9 0 reserved_states field h)

          pub contents-0 : field < reserved_states → 0 ≡ contents_refusal domain id payload
          contents-0 h = sym (past-status ∙ no_le 9 0 reserved_states field h)

module _ (own : ℕ) (s : List ℕ) (frame : ℕ) (f : frame ≡ frame_refusal s) where
  pub frame-first : (frame ≡ 0 → ⊥) → frame ≡ read_refusal own s
  frame-first h = f ∙ sym (first_some (frame_refusal s) _ (λ e. h (f ∙ e)))

  module _ (framed : frame ≡ 0) (address : ℕ) (a : address ≡ address_refusal own s) where
    past-frame : read_refusal own s ≡ first (address_refusal own s) (contents_refusal (domain_in s) (id_in s) (payload_in s))
    past-frame = first_none (frame_refusal s) _ (sym f ∙ framed)

    pub address-first : (address ≡ 0 → ⊥) → address ≡ read_refusal own s
    address-first h = a ∙ sym (past-frame ∙ first_some (address_refusal own s) _ (λ e. h (a ∙ e)))

    pub contents-last : {domain id contents : ℕ} {payload : List ℕ} → address ≡ 0 → domain ≡ domain_in s → id ≡ id_in s → payload
        ≡ payload_in s → contents ≡ contents_refusal domain id payload → contents ≡ read_refusal own s
    contents-last addressed d i p e =
        e ∙ (λ t. contents_refusal (d t) (i t) (p t)) ∙ sym (past-frame ∙ first_none (address_refusal own s) _ (sym a ∙ addressed))

-- what stands behind the header
pub behind : (s : List ℕ) → take (length s - header_length) (drop header_length s) ≡ payload_in s
behind s = take_all (length s - header_length) (drop header_length s) (omega (arith, length-drop header_length s))

pub nothing_behind : (s : List ℕ) → length s < header_length → [] ≡ payload_in s
nothing_behind s h = sym (drop_of_length-le s {i = header_length} (omega arith))

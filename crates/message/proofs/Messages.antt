-- Which message each return of the functions in `kind` stands for.
-- Assumes nothing.
use Prim.Native.Nat.{ℕ}
use mathlib.Core.Path.{◌≡◌, sym, ap, ◌∙◌}
use Rattle.message.specs.declared.Status.{Status}
use Rattle.message.specs.declared.Message.{Message}
use Rattle.message.specs.declared.Message.TheVariants.{PlatformStatus, PlatformStatusRequest, UnknownOperation, VersionedDataPull, Operation}
use Rattle.message.specs.Header.{platform_domain}
use Rattle.message.specs.Platform.{platform_status, platform_status_request, unknown_operation, status_of, platform_message, message_of}
use Rattle.wire.proofs.Cond.{yes-eq, no_eq}

module _ (id field : ℕ) where
  pub is-status : {x : Status} → id ≡ platform_status → x ≡ status_of field → PlatformStatus x ≡ platform_message id field
  is-status h e = ap PlatformStatus e ∙ sym (yes-eq (PlatformStatus (status_of field)) _ id platform_status h)

  module _ (a : id ≡ platform_status → ⊥) where
    pub is-request : id ≡ platform_status_request → PlatformStatusRequest ≡ platform_message id field
    is-request h = sym (no_eq (PlatformStatus (status_of field)) _ id platform_status a ∙ yes-eq PlatformStatusRequest _ id platform_status_request h)

    module _ (b : id ≡ platform_status_request → ⊥) where
      pub is-unknown : id ≡ unknown_operation → UnknownOperation field ≡ platform_message id field
      is-unknown h =
          sym (no_eq (PlatformStatus (status_of field)) _ id platform_status a ∙ no_eq PlatformStatusRequest _ id platform_status_request b
          ∙ yes-eq (UnknownOperation field) (VersionedDataPull field) id unknown_operation h)

      pub is-pull : (id ≡ unknown_operation → ⊥) → VersionedDataPull field ≡ platform_message id field
      is-pull h =
          sym (no_eq (PlatformStatus (status_of field)) _ id platform_status a ∙ no_eq PlatformStatusRequest _ id platform_status_request b
          ∙ no_eq (UnknownOperation field) (VersionedDataPull field) id unknown_operation h)

module _ (domain id field : ℕ) where
  pub of_platform : {m : Message} → domain ≡ platform_domain → m ≡ platform_message id field → m ≡ message_of domain id field
  of_platform h e = e ∙ sym (yes-eq (platform_message id field) Operation domain platform_domain h)

  pub of_operation : (domain ≡ platform_domain → ⊥) → Operation ≡ message_of domain id field
  of_operation h = sym (no_eq (platform_message id field) Operation domain platform_domain h)

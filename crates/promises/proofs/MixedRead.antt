-- What is known of a message of Issue 3 that the platform call reads, and the number that it gives for a platform message.
-- Assumes nothing.
use Prim.Native.Nat.{ℕ, ◌≤◌}
use Rattle.std.specs.Prelude.{Option}
use mathlib.Core.Path.{◌≡◌, refl, sym, ap, ◌∙◌}
use mathlib.Core.Bool.{false, cond}
use mathlib.Core.Logic.{⊎_elim}
use mathlib.Core.List.{List}
use native.Mathlib.Omega.{arith}
use lib.ListN.{drop, length-drop}
use lib.Seq.{take_all}
use Rattle.wire.specs.Bytes.{part}
use Rattle.wire.proofs.Cond.{passed, no-if, yes-eq}
use Rattle.wire.proofs.Runs.{part_in}
use Rattle.table.specs.declared.Sections.{Sections}
use Rattle.operations.specs.Search.{sought_in}
use Rattle.message3.specs.declared.Header3.{Header3}
use Rattle.message3.specs.declared.Message3.{Message3}
use Rattle.message3.specs.Header.{domain_in3, id_in3, payload_size_in3, payload_in3, header_in3}
use Rattle.message3.specs.Platform.{first_in, second_in, reserved_id3, platform_message3, message_of3}
use Rattle.message3.specs.Refusal.{contents_refusal3}
use Rattle.message3.specs.Reading.{read_out3, read_of3}
use Rattle.message3.proofs.Accepted.{Readable}
use Rattle.platform.specs.declared.reactions.Standing.{Standing}
use Rattle.mixed.specs.declared.AnyReceived.{AnyReceived}
use Rattle.mixed.specs.Reaction.{operation_for3, reaction3}
use Rattle.mixed.specs.Receiving.{number_given, is_answer3, response_to3, settled3}
use Rattle.mixed.proofs.Issues.{three-readable}
use Rattle.promises.specs.Checks.{Outside}
use Rattle.promises.proofs.Checks.{where_is}
use Rattle.promises.proofs.Issue3Messages.{nine}
use Rattle.promises.proofs.Issue3Order.{reserved_decides}
use Rattle.promises.proofs.MixedChains.{settled-number, chain, by-id}

module _ (own : ℕ) (i ours t : List ℕ) (s : Sections) (index : List ℕ) (p : Standing) (l ws m : List ℕ) (room : ℕ) (e : read_of3 own m ≡ read_out3 m) where
  abbrev pub h : Header3
  h = header_in3 m

  abbrev pub D : ℕ
  D = domain_in3 m

  abbrev pub ID : ℕ
  ID = id_in3 m

  abbrev pub field : ℕ
  field = first_in (payload_in3 m)

  abbrev pub len : ℕ
  len = payload_size_in3 m

  abbrev pub payload : List ℕ
  payload = part m 24 len

  abbrev pub look : ℕ → Option (ℕ × ℕ)
  look id = sought_in t index s.operations.count id

  pub seen : Readable own m
  seen = three-readable own m h (message_of3 D ID field (second_in (payload_in3 m))) 24 len e

  pub payload-is : payload ≡ drop 24 m
  payload-is =
      let a = seen.long in
      let z = seen.size in
      part_in m 24 len (omega arith) ∙ take_all len (drop 24 m) (omega (arith, length-drop 24 m))

  -- what a message of this kind gives
  abbrev pub Given : Message3 → ℕ
  Given k =
      number_given (cond (is_answer3 t (operation_for3 t s index h k) k) (response_to3 l (operation_for3 t s index h k) p h 24 len)
      (settled3 i ours p h (reaction3 own ours t s (operation_for3 t s index h k) p h k 24 len) payload ws room)).answer

  abbrev pub kind : Message3
  kind = message_of3 D ID field (second_in (payload_in3 m))

  -- a platform message
  module _ (d : D ≡ 0) where
    not-reserved : ¬ (Outside 1 9 ID)
    not-reserved =
        let c : contents_refusal3 0 ID (payload_in3 m) ≡ 0 = ap (λ (n : ℕ). contents_refusal3 n ID (payload_in3 m)) (sym d) ∙ seen.contents in
        (reserved_decides ID).no_is (passed (reserved_id3 ID) 6 _ c).0

    pub bounds : (1 ≤ ID) × (ID ≤ 9)
    bounds = ⊎_elim (λ o. absurd (not-reserved o)) (λ b. b) (where_is 1 9 ID)

    pub no_answer : (id : ℕ) → 1 ≤ id → id ≤ 9 → (f : Option (ℕ × ℕ)) (a b : ℕ) → is_answer3 t f (platform_message3 id a b) ≡ false
    unfolding is_answer3
    no_answer =
        nine (λ (n : ℕ). (f : Option (ℕ × ℕ)) (a b : ℕ) → is_answer3 t f (platform_message3 n a b) ≡ false) (
          λ f a b. refl,
          λ f a b. refl,
          λ f a b. refl,
          λ f a b. refl,
          λ f a b. refl,
          λ f a b. refl,
          λ f a b. refl,
          λ f a b. refl,
          λ f a b. refl,
        )

    pub kind-is : kind ≡ platform_message3 ID field (second_in (payload_in3 m))
    kind-is = yes-eq {A = Message3} _ _ D 0 d

    pub given_is : Given kind ≡ chain own i ours t s index p h payload ws len room ID field
    given_is =
        ap Given kind-is
        ∙ ap (λ (x : AnyReceived). number_given x.answer)
        (no-if {A = AnyReceived} _ _ (no_answer ID bounds.0 bounds.1 _ field (second_in (payload_in3 m))))
        ∙ settled-number own i ours t s index p h payload ws len room _
        ∙ by-id own i ours t s index p h payload ws len room ID bounds.0 bounds.1 field (second_in (payload_in3 m))

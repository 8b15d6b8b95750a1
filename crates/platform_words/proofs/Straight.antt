-- A message under the ID of an operation of the table, told straight from its bytes, is told as the general way tells it.
-- Assumes nothing.
use Prim.Native.Nat.{ℕ, ◌-◌, ◌≤◌}
use Rattle.std.specs.Prelude.{Option, Some, None}
use mathlib.Core.Path.{◌≡◌, refl, sym, ap, ap₂, subst, ◌∙◌}
use mathlib.Core.Bool.{Bool, true, false, cond}
use mathlib.Core.List.{List, [], ◌++◌}
use native.Mathlib.Omega.{arith}
use borrow.Author.Tests.{eqb-true}
use borrow.Rule.Slice.PartMut.{put_mid}
use lib.Dec.{eqb}
use lib.ListN.{length, take, drop}
use Rattle.wire.specs.Bytes.{number, over}
use Rattle.wire.proofs.Cond.{no-if, yes-eq, no_eq, no_lt}
use Rattle.wire.proofs.Runs.{over_none}
use Rattle.table.specs.declared.Sections.{Sections}
use Rattle.operations.specs.Entries.{sent_kind, kind_at}
use Rattle.operations.specs.Search.{sought_in}
use Rattle.pending.specs.Answers.{is_response}
use Rattle.message.specs.declared.Message.{Message}
use Rattle.message.specs.declared.Message.TheVariants as message
use Rattle.message.specs.declared.Reading.{Reading}
use Rattle.message.specs.declared.Reading.TheVariants as reading
use Rattle.message.specs.declared.Header.{Header}
use Rattle.message.specs.Header.{header_length, platform_domain, domain_in, sender_in, id_in, payload_size_in, sequence_in, payload_in, header_in}
use Rattle.message.specs.Platform.{platform_message}
use Rattle.message.specs.Refusal.{no_room, read_refusal}
use Rattle.message.specs.Reading.{reading_out, read_of}
use Rattle.message.specs.Reading as read
use Rattle.platform.specs.declared.reactions.Standing.{Standing}
use Rattle.platform.specs.declared.reactions.Heard.TheVariants as heard
use Rattle.platform.specs.declared.Noting.TheVariants.{Response}
use Rattle.platform.specs.Replies.{owed_bytes}
use Rattle.platform.specs.Reaction.{operation_for, operation_in, silent, on_operation, reaction_to}
use Rattle.platform.specs.declared.Received.{Received}
use Rattle.platform.specs.Receiving.{refused, taken, answered, laid_out, not_awaited, is_sent, is_answer, response_to, list_answered}
use Rattle.platform.specs.Receiving.{outcome_of, output_of, list_of, outcome_in, output_in, list_in}
use Rattle.platform.specs.Noting.{number_given}
use Rattle.platform_words.specs.Words.{standing_length, standing_in, pending_in, standing_words}
use Rattle.platform_words.specs.HeardWords.{heard_after, platform_after}
use Rattle.platform_words.specs.Within.{outcome_within, number_within, words_within, output_within, heard_within}
use Rattle.platform_words.specs.Within.{operation_heard, is_awaited, kind_heard, list_heard, straight_words}
use Rattle.platform_words.proofs.Behind.{lent-behind, back_by}
use Rattle.platform_words.proofs.Answering.{kept_behind}

-- `operation_heard`
module _ (own : ℕ) (t : List ℕ) (s : Sections) (index m : List ℕ) (d : ℕ) (ed : d ≡ domain_in m) where
  abbrev looked_up : Option (ℕ × ℕ)
  looked_up = sought_in t index s.operations.count (id_in m)

  abbrev ifRead : Option (ℕ × ℕ)
  ifRead = cond (eqb (read_refusal own m) 0) looked_up None

  pub of_platform : d ≡ platform_domain → None ≡ operation_heard own t s index m
  unfolding operation_heard
  of_platform z = sym (yes-eq {A = Option (ℕ × ℕ)} None ifRead (domain_in m) platform_domain (sym ed ∙ z))

  module _ (zd : d ≡ platform_domain → ⊥) (n : ℕ) (en : n ≡ read_refusal own m) where
    other : operation_heard own t s index m ≡ ifRead
    unfolding operation_heard
    other = no_eq {A = Option (ℕ × ℕ)} None ifRead (domain_in m) platform_domain (λ (z : domain_in m ≡ platform_domain). zd (ed ∙ z))

    pub unread : (n ≡ 0 → ⊥) → None ≡ operation_heard own t s index m
    unread z = sym (other ∙ no_eq {A = Option (ℕ × ℕ)} looked_up None (read_refusal own m) 0 (λ (k : read_refusal own m ≡ 0). z (en ∙ k)))

    pub was_read : {x : Option (ℕ × ℕ)} {id : ℕ} → n ≡ 0 → id ≡ id_in m → x ≡ sought_in t index s.operations.count id → x ≡ operation_heard own t s index m
    was_read z ei ex =
        ex ∙ ap (sought_in t index s.operations.count) ei ∙ sym (other ∙ yes-eq {A = Option (ℕ × ℕ)} looked_up None (read_refusal own m) 0 (sym en ∙ z))

-- an operation; the response to a request; what no pending request asked for. By its kind in the table and whether it is awaited
module _ (p : Standing) (m : List ℕ) (i : ℕ) where
  abbrev pub operation : Received
  operation = taken (header_in m) (silent p (heard.Operation i header_length (payload_size_in m))) 0

  abbrev pub response : Received
  response = record { standing = p; answer = Response (header_in m) i header_length (payload_size_in m) }

  abbrev pub outcome_by : Bool → Bool → Received
  outcome_by sent awaited = cond sent (cond awaited response (refused p not_awaited)) operation

  abbrev pub kindBy : Bool → Bool → ℕ
  kindBy sent awaited = cond sent (cond awaited 9 0) 7

  nothing-told : (sent awaited : Bool) → kindBy sent awaited ≡ 0 → refused p not_awaited ≡ outcome_by sent awaited
  nothing-told true true e = absurd (omega arith)
  nothing-told true false e = refl
  nothing-told false awaited e = absurd (omega arith)

  pub record Told (kind : ℕ) (o : Received) : Type 0 where
    pub number_is : 0 ≡ number_given o.answer
    pub words_are : (ws l : List ℕ) → standing_words p ++ l ≡ platform_after o ws l
    pub heard-is : (heard : List ℕ) → straight_words kind m i ≡ heard_after o heard

  as-told : (sent awaited : Bool) → (kindBy sent awaited ≡ 0 → ⊥) → Told (kindBy sent awaited) (outcome_by sent awaited)
  as-told true true d = record { number_is = refl; words_are = λ ws l. refl; heard-is = λ heard. refl }
  as-told true false d = absurd (d refl)
  as-told false awaited d = record { number_is = refl; words_are = λ ws l. refl; heard-is = λ heard. refl }

-- what the general way comes to where there is such an operation
pub never : {i q : ℕ} → ◌≡◌ {A = Option (ℕ × ℕ)} None (Some (i, q)) → ⊥
never e = let z : ◌≡◌ {A = ℕ} 0 1 = cc in omega arith

module _ (own : ℕ) (t : List ℕ) (s : Sections) (index : List ℕ) (p : Standing) (l m : List ℕ) (i q : ℕ) where
  abbrev sought-is : Option (ℕ × ℕ)
  sought-is = sought_in t index s.operations.count (id_in m)

  pub record Straight : Type 0 where
    pub read_is : read_of own m ≡ reading.Read (header_in m) message.Operation header_length (payload_size_in m)
    pub looked-is : sought_in t index s.operations.count (id_in m) ≡ Some (i, q)

  pub straight : operation_heard own t s index m ≡ Some (i, q) → Straight
  unfolding operation_heard
  straight e = go (eqb (domain_in m) platform_domain) refl (eqb (read_refusal own m) 0) refl e
    where
      as_read : read_refusal own m ≡ 0 → eqb (domain_in m) platform_domain ≡ false → read_of own m
          ≡ reading.Read (header_in m) message.Operation header_length (payload_size_in m)
      as_read er ed =
          ap (λ (n : ℕ). read.answered n (reading_out m)) er
          ∙ ap (λ (y : Message). reading.Read (header_in m) y header_length (payload_size_in m))
          (no-if {A = Message} (platform_message (id_in m) (number 2 (payload_in m) 0)) message.Operation ed)

      go : (a : Bool) → eqb (domain_in m) platform_domain ≡ a → (b : Bool) → eqb (read_refusal own m) 0 ≡ b
          → cond a None (cond b sought-is None) ≡ Some (i, q) → Straight
      go true ea b eb h = absurd (never h)
      go false ea false eb h = absurd (never h)
      go false ea true eb h = record { read_is = as_read (eqb-true (read_refusal own m) 0 eb) ea; looked-is = h }

  module _ (k : Straight) where
    abbrev sent : Bool
    sent = eqb (kind_at t q) sent_kind

    pub its-outcome : (room : ℕ) → outcome_in own t s index p l m room ≡ outcome_by p m i sent (is_response l (sequence_in m) (id_in m) (sender_in m))
    unfolding outcome_of operation_in operation_for is_answer is_sent response_to reaction_to on_operation answered
    its-outcome room =
        let h : Header = header_in m in
        ap (λ (x : Reading). outcome_of own t s (operation_in t s index x) p l x room) k.read_is
        ∙ ap (λ (f : Option (ℕ × ℕ)). cond (is_sent t f) (response_to l f p h header_length (payload_size_in m))
        (answered p h (on_operation f p h header_length (payload_size_in m)) room)) k.looked-is
        ∙ ap (λ (o : Received). cond sent (response_to l (Some (i, q)) p h header_length (payload_size_in m)) o)
        (no_lt {A = Received} (refused p no_room) (operation p m i) room 0 (omega arith))

    pub its-output : (out : List ℕ) → output_in own t s index p m out ≡ out
    unfolding output_of operation_in operation_for is_answer is_sent reaction_to on_operation laid_out owed_bytes
    its-output out =
        let h : Header = header_in m in
        ap (λ (x : Reading). output_of own t s (operation_in t s index x) p x out) k.read_is
        ∙ ap (λ (f : Option (ℕ × ℕ)). cond (is_sent t f) out (laid_out own (on_operation f p h header_length (payload_size_in m)) out)) k.looked-is
        ∙ ap (λ (o : List ℕ). cond sent out o) (no_lt out (over out 0 []) (length out) 0 (omega arith) ∙ sym (over_none out 0 [])) ∙ either_way sent
      where
        either_way : (b : Bool) → cond b out out ≡ out
        either_way true = refl
        either_way false = refl

    pub its-list : list_in own t s index l m ≡ cond sent (list_answered l (header_in m)) l
    unfolding list_of operation_in operation_for is_answer is_sent
    its-list =
        ap (λ (x : Reading). list_of t (operation_in t s index x) l x) k.read_is
        ∙ ap (λ (f : Option (ℕ × ℕ)). cond (is_sent t f) (list_answered l (header_in m)) l) k.looked-is

-- `received`: straight from its bytes
module _ {f : Option (ℕ × ℕ)} {kind : ℕ} (own : ℕ) (ws t : List ℕ) (s : Sections) (index m out : List ℕ) (i q : ℕ) (ef : f ≡ operation_heard own t s index m)
    (at : f ≡ Some (i, q)) (ek : kind ≡ kind_heard (pending_in ws) t q m) where
  its : Straight own t s index (standing_in ws) (pending_in ws) m i q
  its = straight own t s index (standing_in ws) (pending_in ws) m i q (sym ef ∙ at)

  meant : outcome_by (standing_in ws) m i (eqb (kind_at t q) sent_kind) (is_awaited (pending_in ws) m) ≡ outcome_within own ws t s index m out
  meant = sym (its-outcome own t s index (standing_in ws) (pending_in ws) m i q its (length out))

  its-words : (o : Received) → o ≡ outcome_within own ws t s index m out
      → platform_after o ws (list_heard (pending_in ws) t q m) ≡ words_within own ws t s index m out
  its-words o e =
      ap₂ (λ (x : Received) (l : List ℕ). platform_after x ws l) e (sym (its-list own t s index (standing_in ws) (pending_in ws) m i q its))

  pub straight-output : out ≡ output_within own ws t s index m out
  straight-output = sym (its-output own t s index (standing_in ws) (pending_in ws) m i q its out)

  module _ (z : kind ≡ 0) where
    nothing-meant : refused (standing_in ws) not_awaited ≡ outcome_within own ws t s index m out
    nothing-meant = nothing-told (standing_in ws) m i (eqb (kind_at t q) sent_kind) (is_awaited (pending_in ws) m) (sym ek ∙ z) ∙ meant

    pub refused-number : 61 ≡ number_within own ws t s index m out
    refused-number = ap (λ (o : Received). number_given o.answer) nothing-meant

    pub refused-words : {x : List ℕ} → x ≡ take standing_length ws ++ list_heard (pending_in ws) t q m → x ≡ words_within own ws t s index m out
    refused-words e = e ∙ its-words (refused (standing_in ws) not_awaited) nothing-meant

    pub refused-heard : (heard : List ℕ) → heard ≡ heard_within own ws t s index m out heard
    refused-heard heard = ap (λ (o : Received). heard_after o heard) nothing-meant

  module _ (z : kind ≡ 0 → ⊥) where
    so-told : Told (standing_in ws) m i kind (outcome_within own ws t s index m out)
    so-told =
        subst (λ (n : ℕ). Told (standing_in ws) m i n (outcome_within own ws t s index m out)) (sym ek)
        (subst (Told (standing_in ws) m i (kind_heard (pending_in ws) t q m)) meant
        (as-told (standing_in ws) m i (eqb (kind_at t q) sent_kind) (is_awaited (pending_in ws) m) (λ e. z (ek ∙ e))))

    pub straight-number : 0 ≡ number_within own ws t s index m out
    straight-number = so-told.number_is

    pub straight-words : {x was : List ℕ} → standing_length ≤ length ws → was ≡ take standing_length ws ++ list_heard (pending_in ws) t q m
        → x ≡ standing_words (standing_in was) ++ pending_in was → x ≡ words_within own ws t s index m out
    straight-words h ew ex =
        ex ∙ ap (λ (y : List ℕ). standing_words (standing_in y) ++ pending_in y) ew ∙ kept_behind ws (list_heard (pending_in ws) t q m) h
        ∙ so-told.words_are ws (list_heard (pending_in ws) t q m) ∙ its-words (outcome_within own ws t s index m out) refl

    pub straight-heard : {x : List ℕ} (heard : List ℕ) → x ≡ straight_words kind m i → x ≡ heard_within own ws t s index m out heard
    straight-heard heard ex = ex ∙ so-told.heard-is heard

-- `taken`: the list is lent by itself
module _ (own : ℕ) (ws t : List ℕ) (s : Sections) (index m : List ℕ) where
  pub taken-list : {last : List ℕ} → last ≡ list_in own t s index (take (length ws - 5) (drop 5 ws)) m
      → put_mid 5 (length ws - 5) ws last ≡ take standing_length ws ++ list_in own t s index (pending_in ws) m
  taken-list e = back_by standing_length ws (λ (l : List ℕ). list_in own t s index l m) e

  module _ {p : Standing} (out : List ℕ) (ep : p ≡ standing_in ws) where
    pub taken-outcome : {o : Received} → o ≡ outcome_in own t s index p (take (length ws - 5) (drop 5 ws)) m (length out)
        → o ≡ outcome_within own ws t s index m out
    taken-outcome e = e ∙ ap₂ (λ (y : Standing) (l : List ℕ). outcome_in own t s index y l m (length out)) ep (lent-behind standing_length ws)

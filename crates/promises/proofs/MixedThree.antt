-- The checks behind 1 to 9 for a message of Issue 3 that the platform call reads.
-- Assumes nothing.
use Prim.Native.Nat.{ℕ, ◌+◌, ◌*◌, ◌^◌, ◌≤◌, ◌<◌}
use Rattle.std.specs.Prelude.{Option, Some, None}
use mathlib.Core.Path.{◌≡◌, refl, sym, ap, subst, ◌∙◌}
use mathlib.Core.Bool.{Bool, true, false, not, cond, ◌&&◌}
use mathlib.Core.Logic.{◌⊎◌, inl, inr, ⊎_elim}
use mathlib.Core.List.{List, [], ◌∷◌}
use native.Mathlib.Omega.{arith}
use borrow.Author.Tests.{eqb-true, eqb-false, le-ltb}
use lib.Dec.{eqb, leb, ltb}
use lib.ListN.{length, drop}
use Rattle.wire.specs.Bytes.{part}
use Rattle.wire.proofs.Cond.{clash, and_left, yes-eq, no_eq}
use Rattle.table.specs.declared.Sections.{Sections}
use Rattle.operations.specs.Search.{sought_in}
use Rattle.pending.specs.Answers.{awaited_of, is_response}
use Rattle.message3.specs.declared.Header3.{Header3}
use Rattle.message3.specs.declared.Message3.{Message3}
use Rattle.message3.specs.declared.Message3.TheVariants as message3
use Rattle.message3.specs.Header.{domain_in3, sender_in3, id_in3, payload_size_in3, payload_in3, header_in3}
use Rattle.message3.specs.Platform.{first_in}
use Rattle.message3.specs.Reading.{read_out3, read_of3}
use Rattle.services.specs.Block.{services, status_fits}
use Rattle.partners.specs.Threes.{block_start}
use Rattle.states.specs.States.{stands_up}
use Rattle.platform.specs.declared.reactions.Standing.{Standing}
use Rattle.platform.specs.Reaction.{found_data}
use Rattle.platform.specs.Receiving.{not_awaited, is_sent}
use Rattle.mixed.specs.Reaction.{operation_for3, reaction3}
use Rattle.mixed.specs.Keeping.{is_there, block_of}
use Rattle.mixed.specs.Receiving.{number_given, refused_any, is_answer3, delivered3, response_to3}
use Rattle.promises.specs.Checks.{Check, ◌when◌, Answers, none, this, next}
use Rattle.promises.specs.Platforms.{is_there as isFound}
use Rattle.promises.specs.AnyOrder.{ThreeForm, ByForm}
use Rattle.promises.specs.MixedOrder.{NotAwaited3, NotAwaited6, TellsServices, GoesDown, NoWords, AsksForAll, owed3, owed6, behind_reading}
use Rattle.promises.proofs.Checks.{Decides, lt_decides, le_decides, eq_decides, or_decides, and_decides, decides_same, by, by-then}
use Rattle.promises.proofs.Order.{above_decides}
use Rattle.promises.proofs.Kind2.{awaited-decides}
use Rattle.promises.proofs.MixedRead.{seen, payload-is, Given, kind, given_is}
use Rattle.promises.proofs.MixedChains.{settled-number, needs, owedTo, of_operation}

-- what is sent is found
pub sent_is_found : (t : List ℕ) (f : Option (ℕ × ℕ)) → is_sent t f ≡ true → isFound f ≡ true
unfolding is_sent
sent_is_found t (Some (j, q)) e = refl
sent_is_found t None e = absurd (clash refl e)

module _ (own : ℕ) (i ours t : List ℕ) (s : Sections) (index : List ℕ) (p : Standing) (l ws m : List ℕ) (room : ℕ)
    (F : ℕ → Option (ℕ × ℕ)) (finds : (id : ℕ) → sought_in t index s.operations.count id ≡ F id)
    (K : ℕ → Type 0) (sent : (id : ℕ) → Decides (is_sent t (sought_in t index s.operations.count id)) (K id)) (Full : Type 0)
    (tf : ThreeForm i m) (e : read_of3 own m ≡ read_out3 m)
    (full : is_there i (sender_in3 m) ws ≡ true → Decides (not (status_fits (block_of i (sender_in3 m) ws) (drop 24 m))) Full) where
  abbrev pub behind : List Check
  behind = behind_reading t s F K own i ours p l ws m room Full

  abbrev h : Header3
  h = header_in3 m

  abbrev D : ℕ
  D = domain_in3 m

  abbrev ID : ℕ
  ID = id_in3 m

  abbrev field : ℕ
  field = first_in (payload_in3 m)

  abbrev len : ℕ
  len = payload_size_in3 m

  abbrev payload : List ℕ
  payload = part m 24 len

  abbrev look : ℕ → Option (ℕ × ℕ)
  look id = sought_in t index s.operations.count id

  abbrev pub number_of : Message3 → ℕ
  number_of = Given own i ours t s index p l ws m room e

  abbrev pub itsKind : Message3
  itsKind = kind own i ours t s index p l ws m room e

  -- a platform message
  module _ (d : D ≡ 0) where
    in-domain : {C : Type 0} {b : Bool} → Decides b C → Decides b ((D ≡ 0) × C)
    in-domain c = decides_same c (λ x. (d, x)) (λ x. x.1)

    of-form : {C : Type 0} {b : Bool} → Decides b C → Decides b (ThreeForm i m × C)
    of-form c = decides_same c (λ x. (tf, x)) (λ x. x.1)

    up-decides : Decides (stands_up own p.states (sender_in3 m)) (stands_up own p.states (sender_in3 m) ≡ true)
    up-decides = record { yes_is = λ q. q; no_is = clash }

    needs-decides : Decides (needs own i ours t s index p h payload ws len room ID field) (TellsServices m ⊎ GoesDown own p m)
    needs-decides =
        or_decides (eqb ID 3) (eqb ID 1 && (eqb field 0 && stands_up own p.states (sender_in3 m))) (in-domain (eq_decides ID 3))
        (in-domain (and_decides (eqb ID 1) (eqb field 0 && stands_up own p.states (sender_in3 m)) (eq_decides ID 1)
        (and_decides (eqb field 0) (stands_up own p.states (sender_in3 m)) (eq_decides field 0) up-decides)))

    no_words : Decides (not (is_there i (sender_in3 m) ws)) (NoWords i ws m)
    no_words = above_decides (block_start i (sender_in3 m) + services) (length ws)

    -- a status of services, once its words are there
    full-decides : (needs own i ours t s index p h payload ws len room ID field && not (is_there i (sender_in3 m) ws)) ≡ false
        → Decides (eqb ID 3 && not (status_fits (block_of i (sender_in3 m) ws) payload)) (ThreeForm i m × (TellsServices m × Full))
    full-decides q = of-form (go (eqb ID 3) refl (is_there i (sender_in3 m) ws) refl)
      where
        go : (a : Bool) → eqb ID 3 ≡ a → (b : Bool) → is_there i (sender_in3 m) ws ≡ b
            → Decides (eqb ID 3 && not (status_fits (block_of i (sender_in3 m) ws) payload)) (TellsServices m × Full)
        go true ea true eb =
            and_decides (eqb ID 3) (not (status_fits (block_of i (sender_in3 m) ws) payload)) (in-domain (eq_decides ID 3))
            (subst (λ (v : List ℕ). Decides (not (status_fits (block_of i (sender_in3 m) ws) v)) Full)
            (sym (payload-is own i ours t s index p l ws m room e)) (full eb))
        go true ea false eb = absurd (clash q (rw (ea, eb) refl))
        go false ea b eb =
            record {
              yes_is = λ x. absurd (clash ea (and_left (eqb ID 3) (not (status_fits (block_of i (sender_in3 m) ws) payload)) x));
              no_is = λ x y. (eq_decides ID 3).no_is ea y.0.1;
            }

    all-decides : Decides (eqb ID 4 && (eqb field 0xFFFFFFFF && leb (2 ^ 29) (length ours))) (ThreeForm i m × (AsksForAll m × (2 ^ 29 ≤ length ours)))
    all-decides =
        of-form
        (decides_same
        (and_decides (eqb ID 4) (eqb field 0xFFFFFFFF && leb (2 ^ 29) (length ours)) (eq_decides ID 4)
        (and_decides (eqb field 0xFFFFFFFF) (leb (2 ^ 29) (length ours)) (eq_decides field 0xFFFFFFFF) (le_decides (2 ^ 29) (length ours))))
        (λ x. ((d, (x.0, x.1.0)), x.1.1)) (λ x. (x.0.1.0, (x.0.1.1, x.1))))

    owed-is : owedTo own i ours t s index p h payload ws len room ID field ≡ owed3 t F own ours p m
    owed-is =
        ap (λ (f : Option (ℕ × ℕ)). cond (eqb ID 1) (cond (eqb field 0) 0 (cond (stands_up own p.states (sender_in3 m)) 0 88))
        (cond (eqb ID 2) 32
        (cond (eqb ID 4) (cond (eqb field 0xFFFFFFFF) (28 + 8 * length ours) 36)
        (cond (eqb ID 7) (cond (eqb field 0xFFFFFFFF) 0 (cond (found_data t f) 0 28))
        0)))) (finds field)
        ∙ sym (yes-eq {A = ℕ} _ _ D 0 d)

    room-decides : Decides (ltb room (owedTo own i ours t s index p h payload ws len room ID field))
        (ByForm i m (room < owed3 t F own ours p m) (room < owed6 t s F own p m))
    room-decides =
        decides_same (lt_decides room (owedTo own i ours t s index p h payload ws len room ID field))
        (λ x. inl (tf, subst (λ (n : ℕ). room < n) owed-is x))
        (λ o. ⊎_elim (λ x. subst (λ (n : ℕ). room < n) (sym owed-is) x.1) (λ x. absurd (x.0 tf)) o)

    not-61 : ¬ (ByForm i m (NotAwaited3 K l m) (NotAwaited6 K l m))
    not-61 (inl x) = let z = x.1.0 in omega arith
    not-61 (inr x) = x.0 tf

    platform-in-order : Answers (λ (n : ℕ). n) 0 behind (number_of itsKind)
    platform-in-order =
        subst (Answers (λ (n : ℕ). n) 0 behind) (sym (given_is own i ours t s index p l ws m room e d))
        (next not-61
        (by-then (λ n. n) 0 (needs own i ours t s index p h payload ws len room ID field && not (is_there i (sender_in3 m) ws)) 10
        (of-form (and_decides (needs own i ours t s index p h payload ws len room ID field) (not (is_there i (sender_in3 m) ws)) needs-decides no_words))
        (λ q. by (λ n. n) 0 (eqb ID 3 && not (status_fits (block_of i (sender_in3 m) ws) payload)) 63 (full-decides q)
        (by (λ n. n) 0 (eqb ID 4 && (eqb field 0xFFFFFFFF && leb (2 ^ 29) (length ours))) 5 all-decides
        (by (λ n. n) 0 (ltb room (owedTo own i ours t s index p h payload ws len room ID field)) 10 room-decides none)))))

  -- an operation
  module _ (d : ¬ (D ≡ 0)) where
    is-1 : D ≡ 1
    is-1 = omega (arith, (seen own i ours t s index p l ws m room e).domain, d)

    operation-is : itsKind ≡ message3.Operation
    operation-is = no_eq {A = Message3} _ _ D 0 d

    owed-for : cond (isFound (look ID)) 0 28 ≡ owed3 t F own ours p m
    owed-for = ap (λ (f : Option (ℕ × ℕ)). cond (isFound f) 0 28) (finds ID) ∙ sym (no_eq {A = ℕ} _ _ D 0 d)

    abbrev matched : Bool
    matched = is_response l h.sequence h.id h.platform

    awaited : Decides matched (awaited_of l h.sequence ≡ Some (h.id, h.platform))
    awaited = awaited-decides h.id h.platform l h.sequence

    of-response : is_sent t (look ID) ≡ true → number_of message3.Operation ≡ cond matched 0 61
    unfolding is_answer3 operation_for3 response_to3
    of-response a = rw a (go matched)
      where
        go : (b : Bool) → number_given (cond b (delivered3 (look ID) p h 24 len) (refused_any p not_awaited)).answer ≡ cond b 0 61
        go true = refl
        go false = refl

    of_other : is_sent t (look ID) ≡ false → number_of message3.Operation ≡ cond (ltb room (cond (isFound (look ID)) 0 28)) 10 0
    unfolding is_answer3 operation_for3
    of_other a =
        rw a (settled-number own i ours t s index p h payload ws len room (reaction3 own ours t s (look ID) p h message3.Operation 24 len)
        ∙ of_operation own i ours t s index p h payload ws len room (look ID))

    no_services : ¬ (ThreeForm i m × ((TellsServices m ⊎ GoesDown own p m) × NoWords i ws m))
    no_services (a, (inl x, b)) = d x.0
    no_services (a, (inr x, b)) = d x.0

    -- the three checks that ask for domain 0
    past : {x : ℕ} → Answers (λ (n : ℕ). n) 0 (10 when ByForm i m (room < owed3 t F own ours p m) (room < owed6 t s F own p m) ∷ []) x
        → Answers (λ (n : ℕ). n) 0
        (10 when (ThreeForm i m × ((TellsServices m ⊎ GoesDown own p m) × NoWords i ws m))
        ∷ 63 when (ThreeForm i m × (TellsServices m × Full))
        ∷ 5 when (ThreeForm i m × (AsksForAll m × (2 ^ 29 ≤ length ours)))
        ∷ 10 when ByForm i m (room < owed3 t F own ours p m) (room < owed6 t s F own p m)
        ∷ []) x
    past a =
        next no_services
        (next (λ (q : ThreeForm i m × (TellsServices m × Full)). d q.1.0.0)
        (next (λ (q : ThreeForm i m × (AsksForAll m × (2 ^ 29 ≤ length ours))). d q.1.0.0) a))

    fits-decides : Decides (ltb room (cond (isFound (look ID)) 0 28)) (ByForm i m (room < owed3 t F own ours p m) (room < owed6 t s F own p m))
    fits-decides =
        decides_same (lt_decides room (cond (isFound (look ID)) 0 28))
        (λ x. inl (tf, subst (λ (n : ℕ). room < n) owed-for x))
        (λ o. ⊎_elim (λ x. subst (λ (n : ℕ). room < n) (sym owed-for) x.1) (λ x. absurd (x.0 tf)) o)

    operation-in-order : Answers (λ (n : ℕ). n) 0 behind (number_of itsKind)
    operation-in-order = subst (Answers (λ (n : ℕ). n) 0 behind) (sym (ap number_of operation-is)) (go (is_sent t (look ID)) refl matched refl)
      where
        last : is_sent t (look ID) ≡ true
            → Answers (λ (n : ℕ). n) 0 (10 when ByForm i m (room < owed3 t F own ours p m) (room < owed6 t s F own p m) ∷ []) 0
        last a =
            next (fits-decides.no_is (ap (λ (b : Bool). ltb room (cond b 0 28)) (sent_is_found t (look ID) a) ∙ le-ltb room 0 (omega arith))) none

        not-awaited : matched ≡ true → ¬ (ByForm i m (NotAwaited3 K l m) (NotAwaited6 K l m))
        not-awaited b (inl x) = x.1.1.1 (awaited.yes_is b)
        not-awaited b (inr x) = x.0 tf

        not-sent : is_sent t (look ID) ≡ false → ¬ (ByForm i m (NotAwaited3 K l m) (NotAwaited6 K l m))
        not-sent a (inl x) = (sent ID).no_is a x.1.1.0
        not-sent a (inr x) = x.0 tf

        go : (a : Bool) → is_sent t (look ID) ≡ a → (b : Bool) → matched ≡ b → Answers (λ (n : ℕ). n) 0 behind (number_of message3.Operation)
        go true ea true eb =
            subst (Answers (λ (n : ℕ). n) 0 behind) (sym (of-response ea ∙ ap (λ (b : Bool). cond b 0 61) eb)) (next (not-awaited eb) (past (last ea)))
        go true ea false eb =
            subst (Answers (λ (n : ℕ). n) 0 behind) (sym (of-response ea ∙ ap (λ (b : Bool). cond b 0 61) eb))
            (this {c = 61 when ByForm i m (NotAwaited3 K l m) (NotAwaited6 K l m)} (inl (tf, (is-1, ((sent ID).yes_is ea, awaited.no_is eb)))))
        go false ea b eb =
            subst (Answers (λ (n : ℕ). n) 0 behind) (sym (of_other ea))
            (next (not-sent ea) (past (by (λ n. n) 0 (ltb room (cond (isFound (look ID)) 0 28)) 10 fits-decides none)))

  pub three-behind : Answers (λ (n : ℕ). n) 0 behind (number_of itsKind)
  three-behind = go (eqb D 0) refl
    where
      go : (b : Bool) → eqb D 0 ≡ b → Answers (λ (n : ℕ). n) 0 behind (number_of itsKind)
      go true q = platform-in-order (eqb-true D 0 q)
      go false q = operation-in-order (eqb-false D 0 q)

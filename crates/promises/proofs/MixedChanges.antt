-- What one call changes of the services' words.
-- Assumes nothing.
use Prim.Native.Nat.{ℕ, zero, suc}
use Rattle.std.specs.Prelude.{Option}
use mathlib.Core.Path.{◌≡◌, refl, sym, ap, subst, ◌∙◌}
use mathlib.Core.Bool.{Bool, true, false, not, cond, ◌&&◌}
use mathlib.Core.Logic.{◌⊎◌, inl, inr, ⊎_elim}
use mathlib.Core.List.{List}
use native.Mathlib.Omega.{arith}
use borrow.Author.Tests.{eqb-true, eqb-false, eq-eqb}
use lib.Dec.{eqb, ltb}
use lib.ListN.{drop}
use Rattle.wire.specs.Bytes.{part}
use Rattle.wire.proofs.Cond.{clash, and_true, both, yes-if, no-if, no_lt, no_eq}
use Rattle.table.specs.declared.Sections.{Sections}
use Rattle.message3.specs.declared.Header3.{Header3}
use Rattle.message3.specs.declared.Message3.{Message3}
use Rattle.message3.specs.declared.Message3.TheVariants as message3
use Rattle.message3.specs.Header.{domain_in3, sender_in3, id_in3, payload_size_in3, payload_in3, header_in3}
use Rattle.message3.specs.Platform.{first_in, second_in}
use Rattle.message3.specs.Refusal.{read_refusal3}
use Rattle.message3.specs.Reading.{answered3, read_out3, read_of3}
use Rattle.services.specs.Block.{status_fits}
use Rattle.states.specs.States.{stands_up}
use Rattle.platform.specs.declared.reactions.Standing.{Standing}
use Rattle.mixed.specs.Reaction.{operation_for3, reaction3}
use Rattle.mixed.specs.Keeping.{is_there, block_of, with_noted, with_marked}
use Rattle.mixed.specs.Receiving.{number_given, is_answer3, kept3}
use Rattle.promises.specs.AnyOrder.{ThreeForm}
use Rattle.promises.specs.MixedOrder.{TellsServices, GoesDown}
use Rattle.promises.proofs.MixedChains.{chain}
use Rattle.promises.proofs.MixedRead.{payload-is, Given, kind, bounds, no_answer, kind-is, given_is}
use Rattle.message.specs.declared.Reading.{Reading}
use Rattle.message.specs.declared.Reading.TheVariants as six
use Rattle.message.specs.Header.{sender_in}
use Rattle.message.specs.Refusal.{frame_refusal}
use Rattle.message.specs.Reading.{read_of}
use Rattle.partners.specs.Threes.{is_three}
use Rattle.mixed.specs.declared.AnyReading.{AnyReading}
use Rattle.mixed.specs.declared.AnyReading.TheVariants as reading
use Rattle.mixed.specs.declared.AnyReceived.{AnyReceived}
use Rattle.mixed.specs.Form.{three_form}
use Rattle.mixed.specs.Reading.{other_issue, from_six, from_three, any_of, number_given as number_read}
use Rattle.mixed.specs.Receiving.{any_outcome_of, any_words_of}
use Rattle.mixed.proofs.Issues.{if-three, if-other, if-six}
use Rattle.promises.specs.MixedCalls.{TableGiven, answer_on, services_on}
use Rattle.promises.specs.MixedServices.{GoodTable}
use Rattle.promises.proofs.AnyOrder.{form-decides}
use Rattle.promises.proofs.MixedCalls.{Way, refused, goes, way}
use Rattle.promises.proofs.MixedNot0.{any_not_0}
use Rattle.promises.proofs.MixedWords.{changed, kept-words, words-by-id, operation-words}

-- what a call changes, and the number n that it gives: a status of services, DOWN, or nothing; and where nothing refuses the table and the
-- message, which G says, or the call gives 0, it is neither of the two
pub data Change (G : Type 0) (own : ℕ) (i : List ℕ) (p : Standing) (ws m : List ℕ) (n : ℕ) (after : List ℕ) : Type 0 where
  noted : ThreeForm i m → TellsServices m → after ≡ with_noted i (sender_in3 m) (drop 24 m) ws
      → n ≡ cond (is_there i (sender_in3 m) ws) (cond (status_fits (block_of i (sender_in3 m) ws) (drop 24 m)) 0 63) 10 → Change G own i p ws m n after
  went_down : ThreeForm i m → GoesDown own p m → after ≡ with_marked i (sender_in3 m) ws → (n ≡ 0 → is_there i (sender_in3 m) ws ≡ true)
      → Change G own i p ws m n after
  nothing : after ≡ ws → (G ⊎ (n ≡ 0) → ¬ (ThreeForm i m × (TellsServices m ⊎ GoesDown own p m))) → Change G own i p ws m n after

-- a message of Issue 3 that was read
module _ (own : ℕ) (i ours t : List ℕ) (s : Sections) (index : List ℕ) (p : Standing) (l ws m : List ℕ) (room : ℕ) (tf : ThreeForm i m)
    (e : read_of3 own m ≡ read_out3 m) (G : Type 0) where
  abbrev head : Header3
  head = header_in3 m

  abbrev size : ℕ
  size = payload_size_in3 m

  abbrev ID : ℕ
  ID = id_in3 m

  abbrev first_field : ℕ
  first_field = first_in (payload_in3 m)

  abbrev body : List ℕ
  body = part m 24 size

  abbrev After : Message3 → List ℕ
  After k =
      cond (is_answer3 t (operation_for3 t s index head k) k) ws
      (kept3 i ours head (reaction3 own ours t s (operation_for3 t s index head k) p head k 24 size) body ws room)

  abbrev number_of : Message3 → ℕ
  number_of = Given own i ours t s index p l ws m room e

  abbrev itsKind : Message3
  itsKind = kind own i ours t s index p l ws m room e

  operation-after : After message3.Operation ≡ ws
  operation-after = go (is_answer3 t f message3.Operation)
    where
      f : Option (ℕ × ℕ)
      f = operation_for3 t s index head message3.Operation

      go : (b : Bool) → cond b ws (kept3 i ours head (reaction3 own ours t s f p head message3.Operation 24 size) body ws room) ≡ ws
      go true = refl
      go false =
          kept-words own i ours t s index p head body ws size room (reaction3 own ours t s f p head message3.Operation 24 size)
          ∙ operation-words own i ours t s index p head body ws size room f

  module _ (d : domain_in3 m ≡ 0) where
    payload-there : body ≡ drop 24 m
    payload-there = payload-is own i ours t s index p l ws m room e

    after_is : After itsKind ≡ changed own i ours t s index p head (drop 24 m) ws size room ID first_field
    after_is =
        let b = bounds own i ours t s index p l ws m room e d in
        ap After (kind-is own i ours t s index p l ws m room e d)
        ∙ no-if _ _ (no_answer own i ours t s index p l ws m room e d ID b.0 b.1 _ first_field (second_in (payload_in3 m)))
        ∙ kept-words own i ours t s index p head body ws size room _
        ∙ words-by-id own i ours t s index p head body ws size room ID b.0 b.1 first_field (second_in (payload_in3 m))
        ∙ ap (λ (v : List ℕ). changed own i ours t s index p head v ws size room ID first_field) payload-there

    given-as : number_of itsKind ≡ chain own i ours t s index p head (drop 24 m) ws size room ID first_field
    given-as =
        given_is own i ours t s index p l ws m room e d
        ∙ ap (λ (v : List ℕ). chain own i ours t s index p head v ws size room ID first_field) payload-there

    -- a status of services
    tells : ID ≡ 3 → Change G own i p ws m (number_of itsKind) (After itsKind)
    tells q =
        noted tf (d, q) (after_is ∙ ap (λ (n : ℕ). changed own i ours t s index p head (drop 24 m) ws size room n first_field) q)
        (given-as ∙ ap (λ (n : ℕ). chain own i ours t s index p head (drop 24 m) ws size room n first_field) q
        ∙ go (is_there i (sender_in3 m) ws) (status_fits (block_of i (sender_in3 m) ws) (drop 24 m)))
      where
        go : (a b : Bool) → ◌≡◌ {A = ℕ} (cond (not a) 10 (cond (not b) 63 (cond (ltb room 0) 10 0))) (cond a (cond b 0 63) 10)
        go true true = no_lt {A = ℕ} 10 0 room 0 (omega arith)
        go true false = refl
        go false b = refl

    -- DOWN of one that is UP
    goes_down : ID ≡ 1 → first_field ≡ 0 → stands_up own p.states (sender_in3 m) ≡ true → Change G own i p ws m (number_of itsKind) (After itsKind)
    goes_down q f u =
        went_down tf (d, (q, (f, u)))
        (after_is ∙ ap (λ (n : ℕ). changed own i ours t s index p head (drop 24 m) ws size room n first_field) q
        ∙ yes-if _ _ (and_true _ _ (eq-eqb first_field 0 f) u))
        (λ z. go (is_there i (sender_in3 m) ws) (eqb first_field 0 && stands_up own p.states (sender_in3 m)) (and_true _ _ (eq-eqb first_field 0 f) u)
        (sym (given-as ∙ ap (λ (n : ℕ). chain own i ours t s index p head (drop 24 m) ws size room n first_field) q) ∙ z))
      where
        owed : ℕ
        owed = cond (eqb first_field 0) 0 (cond (stands_up own p.states (sender_in3 m)) 0 88)

        go : (a b : Bool) → b ≡ true → ◌≡◌ {A = ℕ} (cond (b && not a) 10 (cond (ltb room owed) 10 0)) 0 → a ≡ true
        go true b y z = refl
        go false true y z = absurd (omega arith)
        go false false y z = absurd (clash refl y)

    -- any other
    quiet : ¬ (ID ≡ 3) → (eqb ID 1 && (eqb first_field 0 && stands_up own p.states (sender_in3 m))) ≡ false
        → Change G own i p ws m (number_of itsKind) (After itsKind)
    quiet n f =
        nothing (after_is ∙ no_eq _ _ ID 3 n ∙ no-if _ _ f)
        (λ z o. ⊎_elim (λ (x : TellsServices m). n x.1)
        (λ (x : GoesDown own p m). clash f (and_true _ _ (eq-eqb ID 1 x.1.0) (and_true _ _ (eq-eqb first_field 0 x.1.1.0) x.1.1.1))) o.1)

    platform-change : Change G own i p ws m (number_of itsKind) (After itsKind)
    platform-change =
        go (eqb ID 3) refl (eqb ID 1 && (eqb first_field 0 && stands_up own p.states (sender_in3 m))) refl
      where
        go : (a : Bool) → eqb ID 3 ≡ a → (b : Bool) → (eqb ID 1 && (eqb first_field 0 && stands_up own p.states (sender_in3 m))) ≡ b
            → Change G own i p ws m (number_of itsKind) (After itsKind)
        go true ea b eb = tells (eqb-true ID 3 ea)
        go false ea true eb =
            let x = both (eqb ID 1) (eqb first_field 0 && stands_up own p.states (sender_in3 m)) eb in
            let y = both (eqb first_field 0) (stands_up own p.states (sender_in3 m)) x.1 in
            goes_down (eqb-true ID 1 x.0) (eqb-true first_field 0 y.0) y.1
        go false ea false eb = quiet (eqb-false ID 3 ea) eb

  pub three-change : Change G own i p ws m (number_of itsKind) (After itsKind)
  three-change = go (eqb (domain_in3 m) 0) refl
    where
      go : (b : Bool) → eqb (domain_in3 m) 0 ≡ b → Change G own i p ws m (number_of itsKind) (After itsKind)
      go true q = platform-change (eqb-true (domain_in3 m) 0 q)
      go false q =
          let n : ¬ (domain_in3 m ≡ 0) = eqb-false (domain_in3 m) 0 q in
          nothing (ap After (no_eq {A = Message3} _ _ (domain_in3 m) 0 n) ∙ operation-after)
          (λ z o. ⊎_elim (λ (x : TellsServices m). n x.0) (λ (x : GoesDown own p m). n x.0) o.1)

-- any message, on sections that lie in the table
module _ (own : ℕ) (i ours t : List ℕ) (s : Sections) (index : List ℕ) (p : Standing) (l ws m : List ℕ) (room : ℕ) where
  abbrev number_at : AnyReading → ℕ
  number_at x = number_given (any_outcome_of own i ours t s index p l ws m room x).answer

  abbrev wordsAt : AnyReading → List ℕ
  wordsAt x = any_words_of own i ours t s index p ws m room x

  abbrev ChangeAt : AnyReading → Type 0
  ChangeAt x = Change (number_read (any_of i own m) ≡ 0) own i p ws m (number_at x) (wordsAt x)

  refused-change : (n : ℕ) → any_of i own m ≡ reading.Refused n → ChangeAt (reading.Refused n)
  unfolding any_outcome_of any_words_of
  refused-change n e =
      nothing refl (λ z. absurd (⊎_elim (λ (y : number_read (any_of i own m) ≡ 0). any_not_0 i own m n e (sym (ap number_read e) ∙ y))
      (λ y. any_not_0 i own m n e y) z))

  six-change : three_form i m ≡ false → (x : Reading) → any_of i own m ≡ from_six x → ChangeAt (from_six x)
  unfolding any_outcome_of any_words_of
  six-change f (six.Refused n) e = refused-change n e
  six-change f (six.Read h k start len) e = nothing refl (λ z o. (form-decides i own m).no_is f o.0)

  read-change : three_form i m ≡ true → (n : ℕ) → read_refusal3 own m ≡ n → any_of i own m ≡ from_three (answered3 n (read_out3 m))
      → ChangeAt (from_three (answered3 n (read_out3 m)))
  unfolding any_outcome_of any_words_of
  read-change f zero q e =
      three-change own i ours t s index p l ws m room ((form-decides i own m).yes_is f) (ap (λ (n : ℕ). answered3 n (read_out3 m)) q)
      (number_read (any_of i own m) ≡ 0)
  read-change f (suc n) q e = refused-change (suc n) e

  pub any-change : ChangeAt (any_of i own m)
  any-change = go (three_form i m) refl (is_three i (sender_in m)) refl
    where
      go : (a : Bool) → three_form i m ≡ a → (b : Bool) → is_three i (sender_in m) ≡ b → ChangeAt (any_of i own m)
      go true ea b eb =
          let q = if-three i own m ea in
          subst ChangeAt (sym q) (read-change ea (read_refusal3 own m) refl q)
      go false ea true eb =
          let q = if-other i own m ea eb in
          subst ChangeAt (sym q) (refused-change (other_issue (frame_refusal m)) q)
      go false ea false eb =
          let q = if-six i own m ea eb in
          subst ChangeAt (sym q) (six-change ea (read_of own m) q)

abbrev pub Good : TableGiven → ℕ → List ℕ → List ℕ → Type 0
Good g own i m = GoodTable g × (number_read (any_of i own m) ≡ 0)

-- of a message that is good on a good table
widened : {A B : Type 0} {own : ℕ} {i : List ℕ} {p : Standing} {ws m : List ℕ} {n : ℕ} {after : List ℕ} → (B → A)
    → Change A own i p ws m n after → Change B own i p ws m n after
widened f (noted tf ts e q) = noted tf ts e q
widened f (went_down tf ts e q) = went_down tf ts e q
widened f (nothing e q) = nothing e (λ z. q (⊎_elim (λ b. inl (f b)) (λ y. inr y) z))

pub change : (g : TableGiven) (own : ℕ) (i ours : List ℕ) (p : Standing) (l ws m : List ℕ) (room : ℕ)
    → Change (Good g own i m) own i p ws m (number_given (answer_on g own i ours p l ws m room).answer) (services_on g own i ours p ws m room)
change g own i ours p l ws m room = go (way g)
  where
    go : Way g
        → Change (Good g own i m) own i p ws m (number_given (answer_on g own i ours p l ws m room).answer) (services_on g own i ours p ws m room)
    go (refused n r) =
        nothing (r.services own i ours p ws m room)
        (λ z. absurd (⊎_elim (λ (y : Good g own i m). r.bad y.0)
        (λ y. r.number (sym (ap (λ (x : AnyReceived). number_given x.answer) (r.answer own i ours p l ws m room)) ∙ y)) z))
    go (goes t s index r) =
        subst (λ (n : ℕ). Change (Good g own i m) own i p ws m n (services_on g own i ours p ws m room))
        (sym (ap (λ (x : AnyReceived). number_given x.answer) (r.answer own i ours p l ws m room)))
        (subst (Change (Good g own i m) own i p ws m (number_given (any_outcome_of own i ours t s index p l ws m room (any_of i own m)).answer))
        (sym (r.services own i ours p ws m room)) (widened (λ (y : Good g own i m). y.1) (any-change own i ours t s index p l ws m room)))

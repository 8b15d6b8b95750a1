-- The order of checks for the platform call among partners of both issues: the table's, reading's, and those behind it of the form that the
-- message has.
-- Assumes nothing.
use Prim.Native.Nat.{ℕ, ◌+◌, ◌<◌, ◌≤◌}
use Rattle.refusal.specs.Refusal.{refused}
use Rattle.std.specs.Prelude.{Result, Ok}
use Rattle.refusal.specs.declared.Refusal.{Refusal}
use Rattle.std.specs.Prelude.{Option}
use mathlib.Core.Path.{◌≡◌, refl, sym, ap, subst, ◌∙◌}
use mathlib.Core.Bool.{Bool, true, false, not, cond}
use mathlib.Core.List.{List, ◌++◌}
use native.Mathlib.Omega.{arith}
use borrow.Author.Tests.{eq-eqb, lt-ltb, ltb-true}
use lib.Dec.{eqb}
use lib.ListN.{length, drop}
use lib.Seq.{get_or-drop}
use Rattle.wire.specs.Bytes.{Octets}
use Rattle.wire.specs.All.{all_below}
use Rattle.wire.proofs.AllBelow.{at-below, all-below}
use Rattle.wire.proofs.Cond.{clash, and_right, and_true}
use Rattle.table.specs.declared.Sections.{Sections}
use Rattle.table.specs.Layout.{cut_short, within}
use Rattle.types.specs.Table.{checked}
use Rattle.operations.specs.Search.{sought_in}
use Rattle.message.specs.declared.Header.{Header}
use Rattle.message.specs.declared.Message.TheVariants as message
use Rattle.message.specs.Header.{sender_in}
use Rattle.message.specs.Refusal.{frame_refusal}
use Rattle.message.specs.Reading.{reading_out, read_of}
use Rattle.message3.specs.Header.{sender_in3}
use Rattle.message3.specs.Reading.{read_out3, read_of3}
use Rattle.services.specs.Block.{services, service_place, pairs_in, pair_id, pair_has_place, pairs_told, has_place, all_have_places, status_fits}
use Rattle.services.specs.Known.{known, known_with}
use Rattle.services.proofs.Telling.{told_long}
use Rattle.services.proofs.Exactly.{fits-exactly}
use Rattle.partners.specs.Threes.{is_three, block_start}
use Rattle.platform.specs.declared.reactions.Standing.{Standing}
use Rattle.platform.specs.Reaction.{operation_for}
use Rattle.platform.specs.Receiving.{is_sent, is_answer, index_of}
use Rattle.mixed.specs.declared.AnyReading.{AnyReading}
use Rattle.mixed.specs.declared.AnyReading.TheVariants.{Refused}
use Rattle.mixed.specs.Form.{three_form}
use Rattle.mixed.specs.Reading.{other_issue, from_six, from_three, any_of}
use Rattle.mixed.specs.Keeping.{is_there, block_of}
use Rattle.mixed.specs.Receiving.{number_given, refused_any, any_outcome_of, any_outcome}
use Rattle.mixed.specs.Tables.{sections_answer, answer_if}
use Rattle.mixed.proofs.Issues.{as_six, as_three, six_back, three_back, if-three, if-other, if-six}
use Rattle.promises.specs.Checks.{Check, Answers, Gives, this, next}
use Rattle.promises.specs.TableOrder.{sections_in}
use Rattle.promises.specs.PayloadOrder.{LieIn}
use Rattle.promises.specs.Reports.{IsKind2}
use Rattle.promises.specs.Demand1.{FindsKind2}
use Rattle.promises.specs.AnyOrder.{ThreeForm, any_checks, its_reading}
use Rattle.promises.specs.Services.{pair_count, named_by, KemptBlock}
use Rattle.promises.specs.MixedCalls.{TableGiven, bytes, sections, answer_on}
use Rattle.promises.specs.MixedOrder.{found_on, Kind2On, NoWords, sender_block, FindsNoPlace, NeedsMore, behind_reading, mixed_checks, MixedOrder}
use Rattle.promises.proofs.Checks.{Decides, not_decides, decides_same, then, then-each}
use Rattle.promises.proofs.Order.{above_decides}
use Rattle.promises.proofs.TableOrder.{table_in_order, table_made}
use Rattle.promises.proofs.PayloadOrder.{lie_decides}
use Rattle.promises.proofs.Kind2.{found_decides, answer_decides}
use Rattle.promises.proofs.ByID.{looked}
use Rattle.promises.proofs.AnyOrder.{form-decides, any_order}
use Rattle.promises.proofs.MixedBlocks.{is-there, block-long}
use Rattle.promises.proofs.MixedThree.{three-behind}
use Rattle.promises.proofs.MixedSix.{six-behind}

-- when a status of services needs a 257th, decided once the sender's words are there
abbrev FullBy : List ℕ → List ℕ → List ℕ → Type 0 → Type 0
FullBy i ws m Full =
    ThreeForm i m → is_there i (sender_in3 m) ws ≡ true → Decides (not (status_fits (block_of i (sender_in3 m) ws) (drop 24 m))) Full

module _ (own : ℕ) (i ours t : List ℕ) (s : Sections) (index : List ℕ) (p : Standing) (l ws m : List ℕ) (room : ℕ)
    (F : ℕ → Option (ℕ × ℕ)) (finds : (id : ℕ) → sought_in t index s.operations.count id ≡ F id)
    (K : ℕ → Type 0) (sent : (id : ℕ) → Decides (is_sent t (sought_in t index s.operations.count id)) (K id)) (Full : Type 0)
    (full : FullBy i ws m Full) where
  abbrev behind : List Check
  behind = behind_reading t s F K own i ours p l ws m room Full

  abbrev given : AnyReading → ℕ
  given x = number_given (any_outcome_of own i ours t s index p l ws m room x).answer

  three-read : three_form i m ≡ true → any_of i own m ≡ from_three (read_out3 m) → read_of3 own m ≡ read_out3 m
  three-read f e = three_back (read_of3 own m) ∙ ap as_three (sym (if-three i own m f) ∙ e) ∙ sym (three_back (read_out3 m))

  six-read : three_form i m ≡ false → any_of i own m ≡ from_six (reading_out m) → read_of own m ≡ reading_out m
  six-read f e = go (is_three i (sender_in m)) refl
    where
      go : (b : Bool) → is_three i (sender_in m) ≡ b → read_of own m ≡ reading_out m
      go true g =
          let q : Refused (other_issue (frame_refusal m)) ≡ from_six (reading_out m) = sym (if-other i own m f g) ∙ e in
          let z : ◌≡◌ {A = ℕ} 0 1 = cc in
          absurd (omega arith)
      go false g = six_back (read_of own m) ∙ ap as_six (sym (if-six i own m f g) ∙ e) ∙ sym (six_back (reading_out m))

  behind-in-order : any_of i own m ≡ its_reading i m → Answers (λ (n : ℕ). n) 0 behind (given (its_reading i m))
  unfolding any_outcome_of
  behind-in-order e = go (three_form i m) refl e
    where
      go : (b : Bool) → three_form i m ≡ b → any_of i own m ≡ cond b (from_three (read_out3 m)) (from_six (reading_out m))
          → Answers (λ (n : ℕ). n) 0 behind (given (cond b (from_three (read_out3 m)) (from_six (reading_out m))))
      go true f q =
          let tf : ThreeForm i m = (form-decides i own m).yes_is f in
          three-behind own i ours t s index p l ws m room F finds K sent Full tf (three-read f q) (full tf)
      go false f q = six-behind own i ours t s index p l ws m room F finds K sent Full ((form-decides i own m).no_is f) (six-read f q)

  message-in-order : Answers (λ (n : ℕ). n) 0 (any_checks i own m ++ behind) (number_given (any_outcome own i ours t s index p l ws m room).answer)
  unfolding any_outcome_of
  message-in-order = then Refused (its_reading i m) (λ n. n) 0 given (λ n. refl) (any_order.read i own m) behind-in-order

-- a message of domain 1 with this ID: whether it is of kind 2
abbrev headed : ℕ → Header
headed id = record { domain = 1; platform = 0; id = id; payload_size = 0; sequence = 0 }

by_index : (t : List ℕ) (s : Sections) (index : List ℕ) (id : ℕ) → Decides (is_sent t (sought_in t index s.operations.count id)) (FindsKind2 t s index id)
unfolding is_answer operation_for
by_index t s index id = decides_same (found_decides t s index (headed id) message.Operation) (λ q. q.1) (λ q. (refl, q))

by_table : (t : List ℕ) → checked t ≡ Ok (sections_in t) → (id : ℕ)
    → Decides (is_sent t (sought_in t (index_of t (sections_in t)) (sections_in t).operations.count id)) (IsKind2 t (sections_in t) id)
unfolding is_answer operation_for
by_table t e id = decides_same (answer_decides t (sections_in t) e (headed id) message.Operation) (λ q. q.1) (λ q. (refl, q))

module _ (own : ℕ) (i ours : List ℕ) (p : Standing) (l ws m : List ℕ) (room : ℕ) (Full : Type 0) (full : FullBy i ws m Full) where
  on_bytes : (t : List ℕ) → Gives (mixed_checks (bytes t) own i ours p l ws m room Full) (number_given (answer_on (bytes t) own i ours p l ws m room).answer)
  unfolding answer_if
  on_bytes t =
      let f = λ (x : Result Sections Refusal). number_given (answer_if x own i ours t p l ws m room).answer in
      then-each refused (Ok (sections_in t)) (λ n. n) 0 f (table_made f (λ n. n) t refl refl refl refl) (table_in_order t)
      (λ e. message-in-order own i ours t (sections_in t) (index_of t (sections_in t)) p l ws m room (found_on (bytes t)) (looked t (sections_in t) e)
      (Kind2On (bytes t))
      (by_table t e) Full full)

  on_sections : (t : List ℕ) (s : Sections) (index : List ℕ)
      → Gives (mixed_checks (sections t s index) own i ours p l ws m room Full) (number_given (answer_on (sections t s index) own i ours p l ws m room).answer)
  unfolding sections_answer
  on_sections t s index = go (within t s) refl
    where
      go : (b : Bool) → within t s ≡ b → Answers (λ (n : ℕ). n) 0 (mixed_checks (sections t s index) own i ours p l ws m room Full)
          (number_given (cond b (any_outcome own i ours t s index p l ws m room) (refused_any p cut_short)).answer)
      go true e =
          next (λ (z : ¬ (LieIn t s)). z ((lie_decides t s).yes_is e))
          (message-in-order own i ours t s index p l ws m room (found_on (sections t s index)) (λ id. refl) (Kind2On (sections t s index))
          (by_index t s index) Full full)
      go false e = this ((lie_decides t s).no_is e)

  on : (g : TableGiven) → Gives (mixed_checks g own i ours p l ws m room Full) (number_given (answer_on g own i ours p l ws m room).answer)
  on (bytes t) = on_bytes t
  on (sections t s index) = on_sections t s index

-- in any words
places_decide : (b s : List ℕ) → length b ≡ 256 → Decides (not (status_fits b s)) (FindsNoPlace b s)
unfolding status_fits all_have_places has_place pair_has_place
places_decide b s h = not_decides (status_fits b s) (record { yes_is = yes; no_is = no })
  where
    yes : status_fits b s ≡ true → (j : ℕ) → j < pair_count s → service_place (pairs_told b s j) (named_by s j) < 256
    yes e j l =
        let a : all_below (has_place b s) (pairs_in s) ≡ true = and_right (eqb (length b) services) (all_have_places b s) e in
        let q : service_place (pairs_told b s j) (pair_id s j) < length (pairs_told b s j) = ltb-true _ _ (at-below (has_place b s) (pairs_in s) j a l) in
        omega (arith, told_long b s j)

    no : status_fits b s ≡ false → ¬ ((j : ℕ) → j < pair_count s → service_place (pairs_told b s j) (named_by s j) < 256)
    no e all =
        clash e (and_true (eqb (length b) services) (all_have_places b s) (eq-eqb (length b) services h)
        (all-below (has_place b s) (pairs_in s)
        (λ j l. lt-ltb (service_place (pairs_told b s j) (pair_id s j)) (length (pairs_told b s j)) (omega (arith, told_long b s j, all j l)))))

-- in words that calls lead to
more_decides : (b s : List ℕ) → Octets s → KemptBlock b → Decides (not (status_fits b s)) (NeedsMore b s)
more_decides b s o k =
    subst (λ (c : Bool). Decides (not c) (NeedsMore b s)) (sym (fits-exactly b s o k.packed k.whole))
    (above_decides (length (known_with (known b) s (pairs_in s))) services)

pub octets_behind : (m : List ℕ) → Octets m → Octets (drop 24 m)
octets_behind m o j = subst (λ (n : ℕ). n < 256) (sym (get_or-drop 24 m j 0)) (o (24 + j))

pub mixed_order : MixedOrder
mixed_order =
    record {
      any_words = λ g own i ours p l ws m room.
          on own i ours p l ws m room (FindsNoPlace (sender_block i ws m) (drop 24 m))
          (λ tf e. places_decide (sender_block i ws m) (drop 24 m) (block-long i (sender_in3 m) ws e)) g;
      kempt_words = λ g own i ours p l ws m room o kempt.
          on own i ours p l ws m room (NeedsMore (sender_block i ws m) (drop 24 m))
          (λ tf e. more_decides (sender_block i ws m) (drop 24 m) (octets_behind m o) (kempt tf (there i m ws e))) g;
    }
  where
    there : (i m ws : List ℕ) → is_there i (sender_in3 m) ws ≡ true → ¬ (NoWords i ws m)
    there i m ws e n =
        let h : block_start i (sender_in3 m) + 256 ≤ length ws = is-there i (sender_in3 m) ws e in
        omega arith

-- A refusal of the platform call among partners of both issues changes nothing.
-- Assumes nothing.
use Prim.Native.Nat.{ℕ}
use Rattle.std.specs.Prelude.{Option}
use mathlib.Core.Path.{◌≡◌, refl, sym, ap, ◌∙◌}
use mathlib.Core.Bool.{Bool, true, false, cond}
use mathlib.Core.List.{List, ◌++◌}
use borrow.Author.Tests.{eqb-false}
use lib.Dec.{eqb}
use lib.ListN.{length, take, drop, take-append-drop}
use Rattle.wire.specs.Bytes.{over, part}
use Rattle.table.specs.declared.Sections.{Sections}
use Rattle.table.specs.Layout.{cut_short, within}
use Rattle.wire.proofs.Cond.{clash}
use Rattle.pending.specs.Answers.{is_response, cancelled}
use Rattle.message.specs.Refusal.{no_room}
use Rattle.message3.specs.declared.Stamp.{Stamp}
use Rattle.message3.specs.declared.Header3.{Header3}
use Rattle.services.specs.Block.{services, note_refusal, status_noted, marked}
use Rattle.services.proofs.Afterwards.{refusal_keeps}
use Rattle.partners.specs.Threes.{block_start}
use Rattle.platform.specs.declared.reactions.Standing.{Standing}
use Rattle.platform.specs.declared.Noting.TheVariants as noting
use Rattle.platform.specs.Receiving.{refused as unread, not_awaited, outcome_in, output_in, list_in}
use Rattle.platform.specs.Receiving.{sections_outcome, sections_output, sections_list}
use Rattle.platform.proofs.Unchanged.{Unchanged, sections-refusal-changes-nothing}
use Rattle.mixed.specs.declared.AnyReading.{AnyReading}
use Rattle.mixed.specs.declared.AnyReading.TheVariants as reading
use Rattle.mixed.specs.declared.AnyAnswer.{AnyAnswer}
use Rattle.mixed.specs.declared.AnyAnswer.TheVariants.{Refused, Six, SixResponse, Three, ThreeResponse}
use Rattle.mixed.specs.declared.AnyReceived.{AnyReceived}
use Rattle.mixed.specs.declared.reactions.Deed.{Deed}
use Rattle.mixed.specs.declared.reactions.Deed.TheVariants.{Nothing, One, StartUp, TellAll, TellOne, Note, MarkAll}
use Rattle.mixed.specs.declared.reactions.Reaction3.{Reaction3}
use Rattle.mixed.specs.Reading.{any_of}
use Rattle.mixed.specs.Reaction.{operation_for3, reaction3}
use Rattle.mixed.specs.Replies.{deed_bytes}
use Rattle.mixed.specs.Keeping.{is_there, block_of, with_block, note_number, with_noted, mark_number, with_marked, kept_number, kept_words}
use Rattle.mixed.specs.Receiving.{number_given, from_noting, refused_any, is_answer3, delivered3, response_to3, list_answered3, taken3}
use Rattle.mixed.specs.Receiving.{settled3, laid3, kept3, any_outcome_of, any_output_of, any_list_of, any_words_of}
use Rattle.promises.specs.MixedCalls.{TableGiven, answer_on, output_on, list_on, services_on}
use Rattle.promises.specs.MixedRefusals.{KeptMixed, MixedRefusals}
use Rattle.promises.proofs.MixedCalls.{Way, refused, goes, way}
use Rattle.promises.proofs.MixedRooms.{length_for, short_by, settled-as, laid_as, kept-as}
use Rattle.promises.proofs.MixedNot0.{never, never_delivered, was_refused, call-not-0}

-- the services' words: a block that is put back as it was
put_back : (i : List ℕ) (k : ℕ) (ws : List ℕ) → with_block i k ws (block_of i k ws) ≡ ws
put_back i k ws =
    ap (λ (r : List ℕ). take (block_start i k) ws ++ r) (take-append-drop services (drop (block_start i k) ws))
    ∙ take-append-drop (block_start i k) ws

module _ (i : List ℕ) (k : ℕ) (payload ws : List ℕ) where
  not_noted : (note_number i k payload ws ≡ 0 → ⊥) → with_noted i k payload ws ≡ ws
  unfolding note_number with_noted
  not_noted h = go (is_there i k ws) h
    where
      go : (b : Bool) → (cond b (note_refusal (block_of i k ws) payload) no_room ≡ 0 → ⊥)
          → cond b (with_block i k ws (status_noted (block_of i k ws) payload)) ws ≡ ws
      go true n = ap (with_block i k ws) (refusal_keeps (block_of i k ws) payload n) ∙ put_back i k ws
      go false n = refl

  not-marked : (mark_number i k ws ≡ 0 → ⊥) → with_marked i k ws ≡ ws
  unfolding mark_number with_marked
  not-marked h = go (is_there i k ws) h
    where
      go : (b : Bool) → (cond b 0 no_room ≡ 0 → ⊥) → cond b (with_block i k ws (marked (block_of i k ws))) ws ≡ ws
      go true n = absurd (n refl)
      go false n = refl

  not-kept : (d : Deed) → (kept_number i k d payload ws ≡ 0 → ⊥) → kept_words i k d payload ws ≡ ws
  unfolding kept_number kept_words
  not-kept Nothing h = refl
  not-kept (One r) h = refl
  not-kept (StartUp n) h = refl
  not-kept (TellAll n) h = refl
  not-kept (TellOne n id available) h = refl
  not-kept Note h = not_noted h
  not-kept MarkAll h = not-marked h

-- what stays where the answer is a refusal
record Stays (p : Standing) (out l ws : List ℕ) (r : AnyReceived) (left after words : List ℕ) : Type 0 where
  pub standing : r.standing ≡ p
  pub output : left ≡ out
  pub list : after ≡ l
  pub services : words ≡ ws

module _ (own : ℕ) (st : Stamp) (c : ℕ) (i ours : List ℕ) (p : Standing) (l ws m out : List ℕ) (n : ℕ) where
  abbrev Same : AnyReceived → List ℕ → List ℕ → List ℕ → Type 0
  Same r left after words = Stays p out l ws r left after words

  all_same : (r : AnyReceived) → r.standing ≡ p → Same r out l ws
  all_same r e = record { standing = e; output = refl; list = refl; services = refl }

  response-same : (f : Option (ℕ × ℕ)) (h : Header3) (start len : ℕ) → (response_to3 l f p h start len).answer ≡ Refused n
      → Same (response_to3 l f p h start len) out (list_answered3 l h) ws
  unfolding response_to3
  response-same f h start len e = go (is_response l h.sequence h.id h.platform) e
    where
      go : (b : Bool) → (cond b (delivered3 f p h start len) (refused_any p not_awaited)).answer ≡ Refused n
          → Same (cond b (delivered3 f p h start len) (refused_any p not_awaited)) out (cond b (cancelled l h.sequence) l) ws
      go true q = absurd (never_delivered q)
      go false q = all_same (refused_any p not_awaited) refl

  settled_same : (h : Header3) (x : Reaction3) (payload : List ℕ) → (settled3 i ours p h x payload ws (length out)).answer ≡ Refused n
      → Same (settled3 i ours p h x payload ws (length out)) (laid3 own st c i ours h x payload ws out) l (kept3 i ours h x payload ws (length out))
  unfolding settled3 laid3 kept3
  settled_same h x payload e =
      let q = settled-as k p h x ours x.deed (length out) in
      let u = by-short (eqb short 0) (sym (ap (λ (y : AnyReceived). y.answer) q) ∙ e) in
      record {
        standing = ap (λ (y : AnyReceived). y.standing) q ∙ u.standing;
        output = laid_as k new out ours x.deed (length out) ∙ u.output;
        list = refl;
        services = kept-as after ws ours x.deed (length out) ∙ u.services;
      }
    where
      k : ℕ
      k = kept_number i h.platform x.deed payload ws

      new : List ℕ
      new = over out 0 (deed_bytes own st c ours x.deed)

      after : List ℕ
      after = kept_words i h.platform x.deed payload ws

      short : ℕ
      short = short_by ours x.deed (length out)

      r : ℕ
      r = length_for ours x.deed

      by-kept : (b : Bool) → eqb k 0 ≡ b → (cond b (taken3 h x r) (refused_any p k)).answer ≡ Refused n
          → Same (cond b (taken3 h x r) (refused_any p k)) (cond b new out) l after
      by-kept true z q = absurd (never q)
      by-kept false z q =
          record { standing = refl; output = refl; list = refl; services = not-kept i h.platform payload ws x.deed (eqb-false k 0 z) }

      by-short : (b : Bool) → (cond b (cond (eqb k 0) (taken3 h x r) (refused_any p k)) (refused_any p short)).answer ≡ Refused n
          → Same (cond b (cond (eqb k 0) (taken3 h x r) (refused_any p k)) (refused_any p short)) (cond b (cond (eqb k 0) new out) out) l (cond b after ws)
      by-short true q = by-kept (eqb k 0) refl q
      by-short false q = all_same (refused_any p short) refl

  module _ (t : List ℕ) (s : Sections) (index : List ℕ) (inside : within t s ≡ true) where
    -- Issue 6: as `platform` has it
    six-same : from_noting (outcome_in own t s index p l m (length out)).answer ≡ Refused n
        → Unchanged p out l (outcome_in own t s index p l m (length out)) (output_in own t s index p m out) (list_in own t s index l m)
    unfolding sections_outcome sections_output sections_list
    six-same e = go (within t s) inside (sections-refusal-changes-nothing own p n out l t s index m)
      where
        go : (b : Bool) → b ≡ true
            → ((cond b (outcome_in own t s index p l m (length out)) (unread p cut_short)).answer ≡ noting.Refused n
            → Unchanged p out l (cond b (outcome_in own t s index p l m (length out)) (unread p cut_short)) (cond b (output_in own t s index p m out) out)
            (cond b (list_in own t s index l m) l))
            → Unchanged p out l (outcome_in own t s index p l m (length out)) (output_in own t s index p m out) (list_in own t s index l m)
        go true q u = u (was_refused (outcome_in own t s index p l m (length out)).answer n e)
        go false q u = absurd (clash refl q)

    read_same : (x : AnyReading) → (any_outcome_of own i ours t s index p l ws m (length out) x).answer ≡ Refused n
        → Same (any_outcome_of own i ours t s index p l ws m (length out) x) (any_output_of own st c i ours t s index p ws m out x)
        (any_list_of own t s index l m x) (any_words_of own i ours t s index p ws m (length out) x)
    unfolding any_outcome_of any_output_of any_list_of any_words_of
    read_same (reading.Refused k) e = all_same (refused_any p k) refl
    read_same (reading.Six h k start len) e =
        let u = six-same e in
        record { standing = u.standing; output = u.output; list = u.list; services = refl }
    read_same (reading.Three h k start len) e = go (is_answer3 t f k) e
      where
        f : Option (ℕ × ℕ)
        f = operation_for3 t s index h k

        x : Reaction3
        x = reaction3 own ours t s f p h k start len

        payload : List ℕ
        payload = part m start len

        go : (b : Bool) → (cond b (response_to3 l f p h start len) (settled3 i ours p h x payload ws (length out))).answer ≡ Refused n
            → Same (cond b (response_to3 l f p h start len) (settled3 i ours p h x payload ws (length out)))
            (cond b out (laid3 own st c i ours h x payload ws out)) (cond b (list_answered3 l h) l) (cond b ws (kept3 i ours h x payload ws (length out)))
        go true q = response-same f h start len q
        go false q = settled_same h x payload q

  call_same : (g : TableGiven) → Way g → (answer_on g own i ours p l ws m (length out)).answer ≡ Refused n
      → Same (answer_on g own i ours p l ws m (length out)) (output_on g own st c i ours p ws m out) (list_on g own i l m)
      (services_on g own i ours p ws m (length out))
  call_same g (refused k r) e =
      record {
        standing = ap (λ (x : AnyReceived). x.standing) (r.answer own i ours p l ws m (length out));
        output = r.output own st c i ours p ws m out;
        list = r.list own i l m;
        services = r.services own i ours p ws m (length out);
      }
  call_same g (goes t s index r) e =
      let q = r.answer own i ours p l ws m (length out) in
      let u = read_same t s index r.inside (any_of i own m) (sym (ap (λ (x : AnyReceived). x.answer) q) ∙ e) in
      record {
        standing = ap (λ (x : AnyReceived). x.standing) q ∙ u.standing;
        output = r.output own st c i ours p ws m out ∙ u.output;
        list = r.list own i l m ∙ u.list;
        services = r.services own i ours p ws m (length out) ∙ u.services;
      }

-- a number that is not 0 is a refusal's
kept_by : (p : Standing) (out l ws : List ℕ) (r : AnyReceived) (left after words : List ℕ)
    → ((n : ℕ) → r.answer ≡ Refused n → Stays p out l ws r left after words) → KeptMixed p out l ws r left after words
kept_by p out l ws r left after words stays =
    record {
      states = λ h. ap (λ (x : Standing). x.states) (all h).standing;
      next = λ h. ap (λ (x : Standing). x.next) (all h).standing;
      output = λ h. (all h).output;
      list = λ h. (all h).list;
      services = λ h. (all h).services;
    }
  where
    by : (a : AnyAnswer) → r.answer ≡ a → ¬ (number_given a ≡ 0) → Stays p out l ws r left after words
    by (Refused n) e h = stays n e
    by (Six k x n) e h = absurd (h refl)
    by (SixResponse k x a b) e h = absurd (h refl)
    by (Three k x n) e h = absurd (h refl)
    by (ThreeResponse k x a b) e h = absurd (h refl)

    all : ¬ (number_given r.answer ≡ 0) → Stays p out l ws r left after words
    all h = by r.answer refl h

pub mixed_refusals : MixedRefusals
mixed_refusals =
    record {
      changes_nothing = λ g own st composite i ours p l ws m out.
          kept_by p out l ws (answer_on g own i ours p l ws m (length out)) (output_on g own st composite i ours p ws m out) (list_on g own i l m)
          (services_on g own i ours p ws m (length out))
          (λ n. call_same own st composite i ours p l ws m out n g (way g));
      never_0 = λ g own i ours p l ws m room n. call-not-0 own i ours p l ws m room n g (way g);
    }

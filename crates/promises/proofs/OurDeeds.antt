-- With our deeds the frame of the wrong calls (specs/WrongMixed) is our call: number and words, on every input.
-- Assumes nothing.
use Prim.Native.Nat.{ℕ}
use Rattle.refusal.specs.Refusal.{number_of}
use Rattle.std.specs.Prelude.{Result, Ok, Err}
use Rattle.refusal.specs.declared.Refusal.{Refusal}
use Rattle.std.specs.Prelude.{Option}
use mathlib.Core.Path.{◌≡◌, refl, sym, ◌∙◌}
use mathlib.Core.Bool.{Bool, true, false, cond}
use mathlib.Core.List.{List}
use native.Mathlib.Omega.{arith}
use borrow.Author.Tests.{eqb-true, ne_eqb}
use lib.Dec.{eqb}
use Rattle.wire.specs.Bytes.{part}
use Rattle.table.specs.declared.Sections.{Sections}
use Rattle.table.specs.Layout.{within}
use Rattle.types.specs.Table.{checked}
use Rattle.message.specs.declared.Status.TheVariants.{Down, Up}
use Rattle.message.specs.declared.Message.{Message}
use Rattle.message.specs.declared.Message.TheVariants as message
use Rattle.message3.specs.declared.Header3.{Header3}
use Rattle.message3.specs.declared.Message3.{Message3}
use Rattle.message3.specs.declared.Message3.TheVariants as message3
use Rattle.states.specs.States.{stands_up}
use Rattle.platform.specs.declared.reactions.Standing.{Standing}
use Rattle.platform.specs.declared.reactions.Heard.{Heard}
use Rattle.platform.specs.declared.reactions.Heard.TheVariants as heard
use Rattle.platform.specs.Replies.{all_data}
use Rattle.platform.specs.Reaction.{reaction_to}
use Rattle.platform.specs.Receiving.{index_of, is_sent}
use Rattle.mixed.specs.declared.AnyReading.{AnyReading}
use Rattle.mixed.specs.declared.AnyReading.TheVariants.{Refused, Six, Three}
use Rattle.mixed.specs.declared.reactions.Heard3.TheVariants as heard3
use Rattle.mixed.specs.declared.reactions.Deed.TheVariants.{TellAll, TellOne, Note}
use Rattle.mixed.specs.declared.reactions.Reaction3.{Reaction3}
use Rattle.mixed.specs.Reading.{any_of}
use Rattle.mixed.specs.Ours.{ours_available}
use Rattle.mixed.specs.Reaction.{all_services, in_six_words, operation_for3, deed_for, commonly, on_pull3, coming_up3, went_down, on_status3, on_services_request, reaction3}
use Rattle.mixed.specs.Replies.{room_for}
use Rattle.mixed.specs.Keeping.{kept_number, kept_words, mark_number, with_marked, note_number}
use Rattle.mixed.specs.Receiving.{number_given, refused_any, is_answer3, taken3, settled3, kept3, any_outcome_of, any_words_of}
use Rattle.mixed.specs.Tables.{sections_answer, sections_words, answer_if, words_if}
use Rattle.promises.specs.MixedCalls.{TableGiven, bytes, sections}
use Rattle.promises.specs.MixedServices.{our_call}
use Rattle.promises.specs.WrongMixed.{our_deeds, number_read, words_read, call_by, OursByDeeds}
use Rattle.promises.proofs.Numbered.{TableNumbered, table_numbered}
use Rattle.promises.proofs.MixedRooms.{short_by, kept-as}

-- the number of what is kept; words that are kept as they were
kept-number : (p : Standing) (h : Header3) (x : Reaction3) (kept : ℕ)
    → kept ≡ number_given (cond (eqb kept 0) (taken3 h x 0) (refused_any p kept)).answer
kept-number p h x kept = go (eqb kept 0) refl
  where
    go : (b : Bool) → eqb kept 0 ≡ b → kept ≡ number_given (cond b (taken3 h x 0) (refused_any p kept)).answer
    go true e = eqb-true kept 0 e
    go false e = refl

same_words : (b : Bool) (new ws : List ℕ) → new ≡ ws → ws ≡ cond b new ws
same_words true new ws e = sym e
same_words false new ws e = refl

module _ (own : ℕ) (i ours t : List ℕ) (s : Sections) (index : List ℕ) (p : Standing) (l ws m : List ℕ) (room : ℕ) where
  abbrev number_at : AnyReading → ℕ
  number_at x = number_given (any_outcome_of own i ours t s index p l ws m room x).answer

  abbrev wordsAt : AnyReading → List ℕ
  wordsAt x = any_words_of own i ours t s index p ws m room x

  module _ (h : Header3) (start len : ℕ) where
    abbrev found : Message3 → Option (ℕ × ℕ)
    found k = operation_for3 t s index h k

    down-number : (c : ℕ) → number_read our_deeds own i p ws m (number_at (Three h (message3.PlatformStatus Down c) start len))
        (Three h (message3.PlatformStatus Down c) start len) ≡ number_at (Three h (message3.PlatformStatus Down c) start len)
    unfolding any_outcome_of is_answer3 settled3 reaction3 on_status3 room_for kept_number
    down-number c = go (stands_up own p.states h.platform) refl
      where
        go : (b : Bool) → stands_up own p.states h.platform ≡ b
            → number_read our_deeds own i p ws m (number_at (Three h (message3.PlatformStatus Down c) start len))
            (Three h (message3.PlatformStatus Down c) start len) ≡ number_at (Three h (message3.PlatformStatus Down c) start len)
        go true e = rw e (kept-number p h (went_down p h.platform c) (mark_number i h.platform ws))
        go false e = rw e refl

    tells-number : (n : ℕ) → number_read our_deeds own i p ws m (number_at (Three h (message3.AvailabilityStatus n) start len))
        (Three h (message3.AvailabilityStatus n) start len) ≡ number_at (Three h (message3.AvailabilityStatus n) start len)
    unfolding any_outcome_of is_answer3 settled3 reaction3 room_for kept_number
    tells-number n =
        kept-number p h (record { standing = p; heard = heard3.Services n; deed = Note }) (note_number i h.platform (part m start len) ws)

    kind-number : (k : Message3) → number_read our_deeds own i p ws m (number_at (Three h k start len)) (Three h k start len) ≡ number_at (Three h k start len)
    kind-number (message3.PlatformStatus Up c) = refl
    kind-number (message3.PlatformStatus Down c) = down-number c
    kind-number message3.PlatformStatusRequest = refl
    kind-number (message3.AvailabilityStatus n) = tells-number n
    kind-number (message3.AvailabilityStatusRequest id) = refl
    kind-number (message3.UnknownOperation id) = refl
    kind-number (message3.ServiceNotAvailable id) = refl
    kind-number (message3.VersionedDataPull id) = refl
    kind-number (message3.CompositeChangeRequest c) = refl
    kind-number (message3.CompositeChangeRequestAck a) = refl
    kind-number message3.Operation = refl

    -- what both issues have keeps no services
    common-words : (n : ℕ) (x : Heard) → kept_words i h.platform (deed_for n x) (part m start len) ws ≡ ws
    unfolding kept_words
    common-words n (heard.Status x) = refl
    common-words n heard.Request = refl
    common-words n (heard.UnknownOperation id) = refl
    common-words n heard.PullOfAll = refl
    common-words n (heard.PullOfOne id j) = refl
    common-words n (heard.NotVersionedData id) = refl
    common-words n (heard.Operation j a b) = refl
    common-words n (heard.NotInTable id) = refl

    settled-words : (x : Reaction3) → kept_words i h.platform x.deed (part m start len) ws ≡ ws → ws ≡ kept3 i ours h x (part m start len) ws room
    unfolding kept3
    settled-words x e =
        same_words (eqb (short_by ours x.deed room) 0) (kept_words i h.platform x.deed (part m start len) ws) ws e
        ∙ sym (kept-as (kept_words i h.platform x.deed (part m start len) ws) ws ours x.deed room)

    common : (k : Message) (f : Option (ℕ × ℕ)) → ws ≡ kept3 i ours h (commonly own t s f p h k start len) (part m start len) ws room
    unfolding commonly
    common k f = settled-words (commonly own t s f p h k start len) (common-words h.sequence (reaction_to own t s f p (in_six_words h) k start len).heard)

    up-words : (c : ℕ) → ws ≡ kept3 i ours h (on_status3 own p h.platform Up c) (part m start len) ws room
    unfolding on_status3 coming_up3 kept_words
    up-words c = settled-words (on_status3 own p h.platform Up c) (go (stands_up own p.states h.platform) refl)
      where
        go : (b : Bool) → stands_up own p.states h.platform ≡ b
            → kept_words i h.platform (on_status3 own p h.platform Up c).deed (part m start len) ws ≡ ws
        go true e = rw e refl
        go false e = rw e refl

    down-words : (c : ℕ) → cond (stands_up own p.states h.platform) (with_marked i h.platform ws) ws
        ≡ kept3 i ours h (on_status3 own p h.platform Down c) (part m start len) ws room
    unfolding on_status3 kept3 room_for kept_words
    down-words c = go (stands_up own p.states h.platform) refl
      where
        go : (b : Bool) → stands_up own p.states h.platform ≡ b
            → cond (stands_up own p.states h.platform) (with_marked i h.platform ws) ws
            ≡ kept3 i ours h (on_status3 own p h.platform Down c) (part m start len) ws room
        go true e = rw e refl
        go false e = rw e refl

    asked-words : (id : ℕ) → ws ≡ kept3 i ours h (on_services_request ours p h.sequence id) (part m start len) ws room
    unfolding on_services_request kept_words
    asked-words id = settled-words (on_services_request ours p h.sequence id) (go (eqb id all_services))
      where
        go : (b : Bool)
            → kept_words i h.platform (cond b (TellAll h.sequence) (TellOne h.sequence id (ours_available ours id))) (part m start len) ws ≡ ws
        go true = refl
        go false = refl

    pull-words : (id : ℕ) (f : Option (ℕ × ℕ)) → ws ≡ kept3 i ours h (on_pull3 own t s f p h id start len) (part m start len) ws room
    unfolding on_pull3 kept3 room_for kept_words
    pull-words id f = go (eqb id all_data) refl
      where
        go : (b : Bool) → eqb id all_data ≡ b → ws ≡ kept3 i ours h (on_pull3 own t s f p h id start len) (part m start len) ws room
        go true e = rw e refl
        go false e = rw e (common (message.VersionedDataPull id) f)

    operation-words : (b : Bool) (f : Option (ℕ × ℕ))
        → ws ≡ cond b ws (kept3 i ours h (commonly own t s f p h message.Operation start len) (part m start len) ws room)
    operation-words true f = refl
    operation-words false f = common message.Operation f

    kind-words : (k : Message3) → words_read our_deeds own i p ws m (Three h k start len) ≡ wordsAt (Three h k start len)
    unfolding any_words_of is_answer3 reaction3 kept3 room_for kept_words
    kind-words (message3.PlatformStatus Up c) = up-words c
    kind-words (message3.PlatformStatus Down c) = down-words c
    kind-words message3.PlatformStatusRequest = common message.PlatformStatusRequest (found message3.PlatformStatusRequest)
    kind-words (message3.AvailabilityStatus n) = refl
    kind-words (message3.AvailabilityStatusRequest id) = asked-words id
    kind-words (message3.UnknownOperation id) = common (message.UnknownOperation id) (found (message3.UnknownOperation id))
    kind-words (message3.ServiceNotAvailable id) = refl
    kind-words (message3.VersionedDataPull id) = pull-words id (found (message3.VersionedDataPull id))
    kind-words (message3.CompositeChangeRequest c) = refl
    kind-words (message3.CompositeChangeRequestAck a) = refl
    kind-words message3.Operation = operation-words (is_sent t (found message3.Operation)) (found message3.Operation)

  read_number : (x : AnyReading) → number_read our_deeds own i p ws m (number_at x) x ≡ number_at x
  read_number (Refused n) = refl
  read_number (Six h k start len) = refl
  read_number (Three h k start len) = kind-number h start len k

  read-words : (x : AnyReading) → words_read our_deeds own i p ws m x ≡ wordsAt x
  unfolding any_words_of
  read-words (Refused n) = refl
  read-words (Six h k start len) = refl
  read-words (Three h k start len) = kind-words h start len k

-- whichever way the table is handed over
module _ (own : ℕ) (i ours : List ℕ) (p : Standing) (l ws m : List ℕ) (room : ℕ) where
  abbrev Same : TableGiven → Type 0
  Same g = ((call_by our_deeds).number g own i ours p l ws m room ≡ our_call.number g own i ours p l ws m room)
      × ((call_by our_deeds).after g own i ours p ws m room ≡ our_call.after g own i ours p ws m room)

  on_bytes : (t : List ℕ) (x : Result Sections Refusal) → checked t ≡ x → TableNumbered x → Same (bytes t)
  unfolding answer_if words_if
  on_bytes t (Err k) e h =
      let z : eqb (number_of k) 0 ≡ false = ne_eqb (number_of k) 0 (λ q. omega (arith, h.0, q)) in
      (rw (e, z) refl, rw (e, z) refl)
  on_bytes t (Ok s) e h = (
    rw e (read_number own i ours t s (index_of t s) p l ws m room (any_of i own m)),
    rw e (read-words own i ours t s (index_of t s) p l ws m room (any_of i own m)),
  )

  on_sections : (t : List ℕ) (s : Sections) (index : List ℕ) (b : Bool) → within t s ≡ b → Same (sections t s index)
  unfolding sections_answer sections_words
  on_sections t s index true e =
      (rw e (read_number own i ours t s index p l ws m room (any_of i own m)), rw e (read-words own i ours t s index p l ws m room (any_of i own m)))
  on_sections t s index false e = (rw e refl, rw e refl)

pub ours_by_deeds : OursByDeeds
ours_by_deeds (bytes t) own i ours p l ws m room = on_bytes own i ours p l ws m room t (checked t) refl (table_numbered t)
ours_by_deeds (sections t s index) own i ours p l ws m room = on_sections own i ours p l ws m room t s index (within t s) refl

-- What is to be written for a message of Issue 3, by its length: where it fits it is laid and the standing of the reaction holds; where it
-- does not fit, or where our services pass the size field, nothing changes.
-- Assumes nothing.
use Prim.Native.Nat.{ℕ, ◌+◌, ◌*◌, ◌≤◌, ◌<◌}
use mathlib.Core.Path.{◌≡◌, refl, sym, ap, ◌∙◌}
use mathlib.Core.Bool.{Bool, true, false}
use mathlib.Core.List.{List, [], ◌∷◌, ◌++◌}
use native.Mathlib.Omega.{arith}
use borrow.Author.Tests.{leb-false, leb-true}
use lib.Dec.{leb}
use lib.ListN.{length, length-append}
use Rattle.wire.specs.Bytes.{over}
use Rattle.pending.specs.Free.{drawn}
use Rattle.message3.specs.declared.Stamp.{Stamp}
use Rattle.message3.specs.declared.Header3.{Header3}
use Rattle.message3.specs.Platform.{availability_status_request, versioned_data_pull3}
use Rattle.message3.proofs.Told.{length_services}
use Rattle.platform.specs.declared.reactions.Standing.{Standing}
use Rattle.platform.specs.declared.reactions.Reply.{Reply}
use Rattle.platform.specs.declared.reactions.Reply.TheVariants.{StatusUp, PullAll, Unknown}
use Rattle.platform.specs.Replies.{all_data}
use Rattle.mixed.specs.declared.AnyReceived.{AnyReceived}
use Rattle.mixed.specs.declared.reactions.Deed.{Deed}
use Rattle.mixed.specs.declared.reactions.Deed.TheVariants.{Nothing, One, StartUp, TellAll, TellOne, Note, MarkAll}
use Rattle.mixed.specs.declared.reactions.Reaction3.{Reaction3}
use Rattle.mixed.specs.declared.reactions.Room.TheVariants.{Short, Enough}
use Rattle.mixed.specs.Reaction.{all_services}
use Rattle.mixed.specs.Replies.{field_message, status_message, reply_bytes3, reply_length3, start_up_bytes, start_up_length, state_told, pairs_of}
use Rattle.mixed.specs.Replies.{services_message, head_length, pair_length, most_ours, deed_bytes, room_for}
use Rattle.mixed.specs.Keeping.{kept_number, kept_words}
use Rattle.mixed.specs.Receiving.{refused_any, taken3, settled3, laid3, kept3}
use Rattle.mixed.proofs.LaidReplies.{length-field, length-status}
use Rattle.mixed.proofs.ToldLaws.{length-ours}
use Rattle.mixed.proofs.Rooms.{fits, fits_not, room-all, room-all-not}
use Rattle.mixed.proofs.Receipts.{short, short-words, short-output, enough-words, all-kept, all_laid}

abbrev pub deed_length : List ℕ → Deed → ℕ
deed_length ours Nothing = 0
deed_length ours (One r) = reply_length3 r
deed_length ours (StartUp n) = start_up_length
deed_length ours (TellAll n) = head_length + pair_length * length ours
deed_length ours (TellOne n id available) = head_length + pair_length
deed_length ours Note = 0
deed_length ours MarkAll = 0

abbrev pub too_many : List ℕ → Deed → Bool
too_many ours Nothing = false
too_many ours (One r) = false
too_many ours (StartUp n) = false
too_many ours (TellAll n) = leb most_ours (length ours)
too_many ours (TellOne n id available) = false
too_many ours Note = false
too_many ours MarkAll = false

-- its bytes are as many
module _ (own : ℕ) (t : Stamp) (c : ℕ) where
  pub length-services-message : (n : ℕ) (ps : List (ℕ × ℕ)) → length (services_message own t n ps) ≡ head_length + pair_length * length ps
  unfolding services_message
  length-services-message n ps = omega (arith, length_services ps)

  pub length-reply3 : (r : Reply) → length (reply_bytes3 own t c r) ≡ reply_length3 r
  unfolding reply_bytes3
  length-reply3 (StatusUp n) = length-status own t c n
  length-reply3 (PullAll n) = length-field own t _ n all_data
  length-reply3 (Unknown n id) = length-field own t _ n id

  length-start-up : (n : ℕ) → length (start_up_bytes own t c n) ≡ start_up_length
  unfolding start_up_bytes
  length-start-up n =
      let S : List ℕ = status_message own t c n in
      let A : List ℕ = field_message own t availability_status_request (drawn n) all_services in
      let P : List ℕ = field_message own t versioned_data_pull3 (drawn (drawn n)) all_data in
      let ls : length S ≡ 32 = length-status own t c n in
      let la : length A ≡ 28 = length-field own t availability_status_request (drawn n) all_services in
      let lp : length P ≡ 28 = length-field own t versioned_data_pull3 (drawn (drawn n)) all_data in
      let lap : length (A ++ P) ≡ 56 = length-append A P ∙ omega arith in
      let l : length (S ++ (A ++ P)) ≡ start_up_length = length-append S (A ++ P) ∙ omega arith in
      l

  pub length-deed : (ours : List ℕ) (d : Deed) → length (deed_bytes own t c ours d) ≡ deed_length ours d
  unfolding deed_bytes
  length-deed ours Nothing = refl
  length-deed ours (One r) = length-reply3 r
  length-deed ours (StartUp n) = length-start-up n
  length-deed ours (TellAll n) =
      length-services-message n (pairs_of ours) ∙ ap (λ (k : ℕ). head_length + pair_length * k) (length-ours own t n ours)
  length-deed ours (TellOne n id available) = length-services-message n ((id, state_told available) ∷ [])
  length-deed ours Note = refl
  length-deed ours MarkAll = refl

-- the room that it takes
module _ (ours : List ℕ) (room : ℕ) where
  pub room_fits : (d : Deed) → too_many ours d ≡ false → deed_length ours d ≤ room → Enough (deed_length ours d) ≡ room_for ours d room
  unfolding room_for
  room_fits Nothing f h = refl
  room_fits (One r) f h = fits (reply_length3 r) room h
  room_fits (StartUp n) f h = fits start_up_length room h
  room_fits (TellAll n) f h =
      room-all ours (TellAll n) room n refl (leb-false most_ours (length ours) f) (fits (head_length + pair_length * length ours) room h)
  room_fits (TellOne n id available) f h = fits (head_length + pair_length) room h
  room_fits Note f h = refl
  room_fits MarkAll f h = refl

  pub room-short : (d : Deed) → too_many ours d ≡ false → room < deed_length ours d → Short 10 ≡ room_for ours d room
  unfolding room_for
  room-short Nothing f h = absurd (omega arith)
  room-short (One r) f h = fits_not (reply_length3 r) room h
  room-short (StartUp n) f h = fits_not start_up_length room h
  room-short (TellAll n) f h =
      room-all ours (TellAll n) room n refl (leb-false most_ours (length ours) f) (fits_not (head_length + pair_length * length ours) room h)
  room-short (TellOne n id available) f h = fits_not (head_length + pair_length) room h
  room-short Note f h = absurd (omega arith)
  room-short MarkAll f h = absurd (omega arith)

  pub room-many : (d : Deed) → too_many ours d ≡ true → Short 5 ≡ room_for ours d room
  room-many Nothing f = let z : ◌≡◌ {A = ℕ} 0 1 = cc in absurd (omega arith)
  room-many (One r) f = let z : ◌≡◌ {A = ℕ} 0 1 = cc in absurd (omega arith)
  room-many (StartUp n) f = let z : ◌≡◌ {A = ℕ} 0 1 = cc in absurd (omega arith)
  room-many (TellAll n) f = room-all-not ours (TellAll n) room n refl (leb-true most_ours (length ours) f)
  room-many (TellOne n id available) f = let z : ◌≡◌ {A = ℕ} 0 1 = cc in absurd (omega arith)
  room-many Note f = let z : ◌≡◌ {A = ℕ} 0 1 = cc in absurd (omega arith)
  room-many MarkAll f = let z : ◌≡◌ {A = ℕ} 0 1 = cc in absurd (omega arith)

-- what the call comes to
module _ (own : ℕ) (t : Stamp) (c : ℕ) (i ours : List ℕ) (p : Standing) (h : Header3) (x : Reaction3) (payload ws out : List ℕ) where
  abbrev n : ℕ
  n = deed_length ours x.deed

  abbrev k : ℕ
  k = kept_number i h.platform x.deed payload ws

  pub record Leaves (answer : AnyReceived) (output words : List ℕ) : Type 0 where
    pub answer-is : settled3 i ours p h x payload ws (length out) ≡ answer
    pub output-is : laid3 own t c i ours h x payload ws out ≡ output
    pub words_are : kept3 i ours h x payload ws (length out) ≡ words

  pub laid-whole : too_many ours x.deed ≡ false → n ≤ length out → k ≡ 0
      → Leaves (taken3 h x n) (over out 0 (deed_bytes own t c ours x.deed)) (kept_words i h.platform x.deed payload ws)
  laid-whole f l z =
      let e : Enough n ≡ room_for ours x.deed (length out) = room_fits ours (length out) x.deed f l in
      record {
        answer-is = sym (all-kept own t c i ours p h x payload ws (length out) (Enough n) e n k refl refl (taken3 h x n) z refl);
        output-is = sym (all_laid own t c i ours p h x payload ws out (Enough n) e n k refl refl _ z refl);
        words_are = sym (enough-words own t c i ours p h x payload ws (length out) (Enough n) e n _ refl refl);
      }

  not-laid : (r : ℕ) → Short r ≡ room_for ours x.deed (length out) → Leaves (refused_any p r) out ws
  not-laid r e =
      record {
        answer-is = sym (short own t c i ours p h x payload ws (length out) (Short r) e r (refused_any p r) refl refl);
        output-is = sym (short-output own t c i ours p h x payload ws out (Short r) e r refl);
        words_are = sym (short-words own t c i ours p h x payload ws (length out) (Short r) e r refl);
      }

  pub does-not-fit : too_many ours x.deed ≡ false → length out < n → Leaves (refused_any p 10) out ws
  does-not-fit f l = not-laid 10 (room-short ours (length out) x.deed f l)

  pub passes-the-size : too_many ours x.deed ≡ true → Leaves (refused_any p 5) out ws
  passes-the-size f = not-laid 5 (room-many ours (length out) x.deed f)

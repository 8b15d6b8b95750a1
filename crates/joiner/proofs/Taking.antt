-- What taking a datagram and handing back a message show at their returns.
-- Assumes nothing.
use Prim.Native.Nat.{ℕ, ◌+◌, ◌-◌, ◌*◌, ◌<◌}
use Rattle.std.specs.Prelude.{Result, Ok, Err}
use Rattle.refusal.specs.declared.Refusal.{Refusal}
use Rattle.binding.specs.declared.BindingHeader.{BindingHeader}
use Rattle.channel.specs.declared.Channel.{Channel}
use Rattle.std.specs.Prelude.{Option, Some, None}
use mathlib.Core.Path.{◌≡◌, refl, sym, ap, ◌∙◌}
use mathlib.Core.Bool.{Bool, true, false}
use mathlib.Core.List.{List, []}
use native.Mathlib.Omega.{arith}
use mir.Syntax.{w64}
use mir.Val.{Fits}
use lib.Dec.{leb}
use borrow.Author.Tests.{leb-true}
use lib.ListN.{length, take, drop, length-drop}
use lib.Seq.{take_all}
use Rattle.wire.specs.Bytes.{written, part}
use Rattle.wire.proofs.Runs.{over_none, over_all, no_run}
use Rattle.binding.specs.Header.{header_length, heading_in}
use Rattle.channel.specs.declared.Step.{Step}
use Rattle.channel.specs.declared.Slice.{Slice}
use Rattle.channel.specs.declared.Slice.TheVariants.{Datagram, Rooms}
use Rattle.channel.specs.declared.Outcome.{Outcome}
use Rattle.channel.specs.declared.Outcome.TheVariants.{Repeated, Delivered, Held, Stray, TooLong}
use Rattle.channel.specs.Record.{channel_limit}
use Rattle.joiner.specs.declared.Joiner.{Joiner}
use Rattle.joiner.specs.Setup.{found_of}
use Rattle.joiner.specs.Take.{sender_by, judged_by, judged_of, changed, taken_by, taken_of, put_by, rooms_by, rooms_after, message_of}
use Rattle.joiner.specs.JoinerWords.{joiner_in, words_of}
use Rattle.joiner.proofs.FoundBack.{looked}
use Rattle.joiner.proofs.Judging.{Moved, judged-by, judged-moved, good-sizes}

module _ {E : Type 0} {o : Result Outcome E} {pl : Slice} (d rooms : List ℕ) where
  pub in-datagram : {x : List ℕ} (m s l : ℕ) → o ≡ Ok (Delivered m pl) → pl ≡ Datagram s l → x ≡ part d s l → x ≡ message_of o d rooms
  unfolding message_of
  in-datagram m s l eo ep ex = rw (eo, ep) ex

  pub in-rooms : {x : List ℕ} (m s l : ℕ) → o ≡ Ok (Delivered m pl) → pl ≡ Rooms s l → x ≡ part rooms s l → x ≡ message_of o d rooms
  unfolding message_of
  in-rooms m s l eo ep ex = rw (eo, ep) ex

pub put_nowhere : {p : Option ℕ} (rooms d : List ℕ) → p ≡ None → rooms ≡ put_by rooms p d
unfolding put_by
put_nowhere rooms d e = rw e

pub put_at : {p : Option ℕ} {x : List ℕ} (rooms d : List ℕ) (a : ℕ) → p ≡ Some a → x
    ≡ written rooms a (take (length d - header_length) (drop header_length d)) → x ≡ put_by rooms p d
unfolding put_by
put_at rooms d a e f = rw e (f ∙ ap (written rooms a) (take_all (length d - header_length) (drop header_length d) (omega (arith, length-drop header_length d))))

pub put_none : {p : Option ℕ} (rooms d : List ℕ) (a : ℕ) → p ≡ Some a → length d < header_length → rooms ≡ put_by rooms p d
unfolding put_by
put_none rooms d a e h = rw e (go (leb (a + length (drop header_length d)) (length rooms)) refl)
  where
    go : (t : Bool) → leb (a + length (drop header_length d)) (length rooms) ≡ t → rooms ≡ written rooms a (drop header_length d)
    go true q =
        over_all rooms a (drop header_length d) 0 (over_none rooms a (drop header_length d)) (omega (arith, length-drop header_length d))
        (leb-true (a + length (drop header_length d)) (length rooms) q)
    go false q = no_run rooms a (drop header_length d) refl q

-- any outcome but a delivery
pub not_delivered : {E : Type 0} (o : Result Outcome E) (d rooms : List ℕ) → ((m : ℕ) (p : Slice) → o ≡ Ok (Delivered m p) → ⊥) → [] ≡ message_of o d rooms
unfolding message_of
not_delivered (Err n) d rooms t = refl
not_delivered (Ok Repeated) d rooms t = refl
not_delivered (Ok (Delivered m p)) d rooms t = absurd (t m p refl)
not_delivered (Ok (Held m n)) d rooms t = refl
not_delivered (Ok (Stray m)) d rooms t = refl
not_delivered (Ok (TooLong m)) d rooms t = refl

-- `take`
module _
    {f : Result (Option (ℕ × Channel)) Refusal} {r : Result BindingHeader Refusal} {ws : List ℕ} {y : ℕ} {x : Result (ℕ × Step) Refusal}
    (j : Joiner) (rooms d : List ℕ) (w : length j.channels ≡ channel_limit)
    (er : r ≡ heading_in d) (ey : y ≡ sender_by r) (ew : ws ≡ words_of j) (ef : f ≡ found_of (joiner_in ws) (length rooms) y)
    (ex : x ≡ judged_by f j.room r (length d)) where
  judged : x ≡ judged_of j (length rooms) d
  judged = judged-by j (length rooms) d w er ey (looked j (length rooms) y w ew ef) ex

  module _ (n : Refusal) (m : x ≡ Err n) where
    refused-taken : record { outcome = Err n; joiner = j } ≡ taken_of j rooms d
    unfolding taken_of taken_by
    refused-taken = rw (sym judged ∙ m)

    refused-rooms : rooms ≡ rooms_after j rooms d
    unfolding rooms_after rooms_by
    refused-rooms = rw (sym judged ∙ m)

    pub refused : (record { outcome = Err n; joiner = j } ≡ taken_of j rooms d) × (rooms ≡ rooms_after j rooms d)
    refused = (refused-taken, refused-rooms)

  module _ (k : ℕ) (s : Step) (m : x ≡ Ok (k, s)) where
    pub moved-known : k < channel_limit
    moved-known =
        let v : Moved j (length rooms) d k s = judged-moved j (length rooms) d k s (sym judged ∙ m) in
        omega (arith, v.known, (good-sizes j (length rooms) v.well).few)

    pub moved-fits : Fits w64 (k * 12)
    moved-fits = record { fits = omega (arith, moved-known) }

    moved-taken : record { outcome = Ok s.outcome; joiner = changed j k s.channel } ≡ taken_of j rooms d
    unfolding taken_of taken_by
    moved-taken = rw (sym judged ∙ m)

    module _ {after : List ℕ} (g : after ≡ put_by rooms s.put d) where
      moved-rooms : after ≡ rooms_after j rooms d
      unfolding rooms_after rooms_by
      moved-rooms = rw (sym judged ∙ m) g

      pub moved : (record { outcome = Ok s.outcome; joiner = changed j k s.channel } ≡ taken_of j rooms d) × (after ≡ rooms_after j rooms d)
      moved = (moved-taken, moved-rooms)

-- What a call wrote is read by its sender's issue, and is 3 elsewhere; and each message of Issue 3 is written.
-- Assumes nothing.
use Prim.Native.Nat.{ℕ, zero, suc, ◌+◌, ◌^◌, ◌<◌}
use mathlib.Core.Path.{◌≡◌, refl, sym, ap, ap₂, ◌∙◌}
use mathlib.Core.List.{List, [], ◌∷◌, ◌++◌}
use native.Mathlib.Omega.{arith}
use lib.ListN.{length, take, drop}
use lib.Seq.{drop_at}
use Rattle.wire.specs.Bytes.{number, bytes}
use Rattle.message.specs.declared.Writing.TheVariants.{Written}
use Rattle.message.specs.Platform.{message_of}
use Rattle.message.specs.Refusal.{write_refusal}
use Rattle.message.specs.Writing.{header_for, write_of}
use Rattle.message.specs.Writing as writes
use Rattle.message.proofs.Accepted.{writable}
use Rattle.message3.specs.declared.Stamp.{Stamp}
use Rattle.message3.specs.Platform.{services_bytes, message_of3}
use Rattle.message3.specs.Refusal.{contents_refusal3, write_refusal3}
use Rattle.message3.specs.Writing.{header_for3, message_bytes3, write_of3}
use Rattle.message3.proofs.Accepted as accepted3
use Rattle.message3.proofs.RoundTrip as round3
use Rattle.message3.proofs.Told.{length_services, services-written}
use Rattle.mixed.specs.declared.AnyReading.TheVariants.{Refused, Six, Three}
use Rattle.mixed.proofs.NoCrossing.{all_of_six, six_from_three, all_of_three, three_from_six}
use Rattle.nyrkovash.specs.MessageCalls.{write_left}
use Rattle.nyrkovash.specs.IssueCalls.{stamped}
use Rattle.promises.specs.Headers.{ReadsAs}
use Rattle.promises.specs.Issue3Messages.{ReadsAs3}
use Rattle.promises.specs.LinkedIssue3.{WriteLent, Write3Lent, WriteLeft, Writes, Writes3}
use Rattle.promises.specs.LinkedIssue3.{tells_three, tells_six, Told, SpeaksThree, SpeaksSix, Fits, Wrote3, WroteSix, IsWritten3, EachIsWritten3}
use Rattle.promises.proofs.Headers.{written_then_read, front}
use Rattle.promises.proofs.LinkedMessages.{told_words, wrote_zero}
use Rattle.promises.proofs.Issue3Messages.{issue3_messages}
use Rattle.promises.proofs.Issue3Words.{told_words3, ten_words}
use Rattle.promises.proofs.IssueContracts.{write_by, write3_by, told_as, out_of, out_of3}

-- a message of Issue 3 that was written
module _ (l : Write3Lent) (f : Fits l.lent) (hs : l.seconds < 2 ^ 32) (hn : l.nanoseconds < 2 ^ 32)
    (w : write_refusal3 l.lent.domain l.lent.id l.lent.payload (length l.lent.out) ≡ 0) where
  abbrev x : WriteLent
  x = l.lent

  abbrev t : Stamp
  t = stamped l.seconds l.nanoseconds

  abbrev n3 : ℕ
  n3 = 24 + length x.payload

  abbrev m3 : List ℕ
  m3 = take n3 (out_of3 l)

  write3-is : write_of3 x.domain x.id x.payload (length x.out) ≡ Written n3
  write3-is = ap (λ (r : ℕ). writes.answered r n3) w

  reads3 : (reader : ℕ) → ¬ (x.own ≡ reader)
      → ReadsAs3 reader m3 (header_for3 x.own t x.domain x.id x.sequence x.payload)
      (message_of3 x.domain x.id (number 2 x.payload 0) (number 2 x.payload 4)) x.payload
  reads3 reader other =
      issue3_messages.written_then_read x.own reader x.domain x.id x.sequence n3 t x.payload x.out
      (record {
        other = other;
        id_fits = f.id_fits;
        sequence_fits = f.sequence_fits;
        seconds_fit = hs;
        nanoseconds_fit = hn;
      }) write3-is

  told3 : Told x.own m3 (SpeaksThree x.own) 0 (λ y. tells_three l)
  told3 y n left s em other so =
      let r = reads3 y.own other in
      let h = header_for3 x.own t x.domain x.id x.sequence x.payload in
      let k = message_of3 x.domain x.id (number 2 x.payload 0) (number 2 x.payload 4) in
      let a = told_as y n left s m3 em (Three h k 24 (length x.payload))
      (all_of_three y.partners y.own m3 h k 24 (length x.payload) r.answer so) in
      let c = accepted3.writable x.domain x.id x.payload (length x.out) w in
      let words = told_words3 x.domain x.id x.payload c.domain c.contents in
      (a.0, a.1 ∙ ten_words words x.own x.sequence (length x.payload) l.seconds l.nanoseconds)

  elsewhere3 : Told x.own m3 (SpeaksSix x.own) 3 (λ y. y.answer)
  elsewhere3 y n left s em other so =
      let r = reads3 y.own other in
      let h = header_for3 x.own t x.domain x.id x.sequence x.payload in
      let k = message_of3 x.domain x.id (number 2 x.payload 0) (number 2 x.payload 4) in
      told_as y n left s m3 em (Refused 3) (three_from_six y.partners y.own m3 h k 24 (length x.payload) r.answer so)

  behind3 : drop 24 m3 ≡ x.payload
  behind3 = ap (drop 24) (round3.front x.own t x.domain x.id x.sequence x.payload x.out w)

  rest3 : drop n3 (out_of3 l) ≡ drop n3 x.out
  rest3 =
      let b : List ℕ = message_bytes3 x.own t x.domain x.id x.sequence x.payload in
      let e : 0 + length b ≡ n3 = omega arith in
      ap (drop n3) (round3.written_out x.own t x.domain x.id x.sequence x.payload x.out w)
      ∙ drop_at b (drop (0 + length b) x.out) n3 (omega arith) ∙ ap (λ (j : ℕ). drop j x.out) e

  wrote3 : (r : WriteLeft) → r.out ≡ out_of3 l → r.written ≡ n3 → Wrote3 l r
  wrote3 r e g =
      let c = accepted3.writable x.domain x.id x.payload (length x.out) w in
      rw (e, g) (record { count = refl; room = c.fits; behind = behind3; rest = rest3; told = told3; elsewhere = elsewhere3 })

pub write_3 : (l : Write3Lent) (n : ℕ) (r : WriteLeft) → Writes3 l n r → Fits l.lent → l.seconds < 2 ^ 32 → l.nanoseconds < 2 ^ 32 → n ≡ 0
    → Wrote3 l r
write_3 l n r s f hs hn z =
    let b = write3_by l n r s in
    let w : write_refusal3 l.lent.domain l.lent.id l.lent.payload (length l.lent.out) ≡ 0 =
    wrote_zero _ (24 + length l.lent.payload) (sym b.0 ∙ z) in
    wrote3 l f hs hn w r b.1 (b.2 ∙ ap (write_left l.lent.written) (write3-is l f hs hn w))

-- a message of Issue 6 that was written
module _ (x : WriteLent) (f : Fits x) (w : write_refusal x.domain x.id x.payload (length x.out) ≡ 0) where
  abbrev n6 : ℕ
  n6 = 20 + length x.payload

  abbrev m6 : List ℕ
  m6 = take n6 (out_of x)

  write-is : write_of x.domain x.id x.payload (length x.out) ≡ Written n6
  write-is = ap (λ (r : ℕ). writes.answered r n6) w

  reads6 : (reader : ℕ) → ¬ (x.own ≡ reader)
      → ReadsAs reader m6 (header_for x.own x.domain x.id x.sequence x.payload)
      (message_of x.domain x.id (number 2 x.payload 0)) x.payload
  reads6 reader other =
      written_then_read x.own reader x.domain x.id x.sequence n6 x.payload x.out
      (record { platform = f.own_fits; other = other; id_fits = f.id_fits; sequence_fits = f.sequence_fits }) write-is

  told6 : Told x.own m6 (SpeaksSix x.own) 0 (λ y. tells_six x)
  told6 y n left s em other so =
      let r = reads6 y.own other in
      let h = header_for x.own x.domain x.id x.sequence x.payload in
      let k = message_of x.domain x.id (number 2 x.payload 0) in
      let a = told_as y n left s m6 em (Six h k 20 (length x.payload))
      (all_of_six y.partners y.own m6 h k 20 (length x.payload) r.answer so) in
      let c = writable x.domain x.id x.payload (length x.out) w in
      let t = told_words x.domain x.id x.payload c.domain c.contents in
      (a.0, a.1 ∙ ap₂ (λ (u v : ℕ). u ∷ v ∷ x.own ∷ x.sequence ∷ 20 ∷ length x.payload ∷ 6 ∷ 0 ∷ 0 ∷ 0 ∷ []) t.0 t.1)

  elsewhere6 : Told x.own m6 (SpeaksThree x.own) 3 (λ y. y.answer)
  elsewhere6 y n left s em other so =
      let r = reads6 y.own other in
      let h = header_for x.own x.domain x.id x.sequence x.payload in
      let k = message_of x.domain x.id (number 2 x.payload 0) in
      told_as y n left s m6 em (Refused 3) (six_from_three y.partners y.own m6 h k 20 (length x.payload) r.answer so)

  wrote6 : (r : WriteLeft) → r.out ≡ out_of x → r.written ≡ n6 → WroteSix x r
  wrote6 r e g =
      rw (e, g) (record {
        behind = ap (drop 20) (front x.own x.domain x.id x.sequence x.payload x.out w);
        told = told6;
        elsewhere = elsewhere6;
      })

pub write_six : (l : WriteLent) (n : ℕ) (r : WriteLeft) → Writes l n r → Fits l → n ≡ 0 → WroteSix l r
write_six l n r s f z =
    let b = write_by l n r s in
    let w : write_refusal l.domain l.id l.payload (length l.out) ≡ 0 = wrote_zero _ (20 + length l.payload) (sym b.0 ∙ z) in
    wrote6 l f w r b.1 (b.2 ∙ ap (write_left l.written) (write-is l f w))

-- each message of Issue 3
is_written : (domain id : ℕ) (payload : List ℕ) → domain < 2 → length payload < 2 ^ 32 → contents_refusal3 domain id payload ≡ 0
    → IsWritten3 domain id payload
is_written domain id payload dom few ok l n r s ed ei ep room =
    let w : write_refusal3 domain id payload (length l.lent.out) ≡ 0 =
    accepted3.admits domain id payload (length l.lent.out) (record { domain = dom; size = few; contents = ok; fits = room }) in
    (write3_by l n r s).0 ∙ rw (ed, ei, ep) (ap (λ (x : ℕ). writes.number_given (writes.answered x (24 + length payload))) w)

pub each_is_written : EachIsWritten3
each_is_written =
    record {
      status = status;
      request = is_written 0 2 [] (omega arith) (omega arith) refl;
      services = λ ps g few. is_written 0 3 (services_bytes ps) (omega arith) (omega (arith, length_services ps)) (services-written ps g few);
      services_request = λ id h. is_written 0 4 (bytes 2 id) (omega arith) (omega arith) refl;
      unknown = λ id h. is_written 0 5 (bytes 2 id) (omega arith) (omega arith) refl;
      not_available = λ id h. is_written 0 6 (bytes 2 id) (omega arith) (omega arith) refl;
      pull = λ id h. is_written 0 7 (bytes 2 id) (omega arith) (omega arith) refl;
      composite = λ id h. is_written 0 8 (bytes 2 id) (omega arith) (omega arith) refl;
      composite_ack = ack;
      operation = λ id payload h. is_written 1 id payload (omega arith) h refl;
    }
  where
    status : (x composite : ℕ) → x < 2 → composite < 2 ^ 32 → IsWritten3 0 1 (bytes 2 x ++ bytes 2 composite)
    status zero composite h g = is_written 0 1 (bytes 2 0 ++ bytes 2 composite) (omega arith) (omega arith) refl
    status (suc zero) composite h g = is_written 0 1 (bytes 2 1 ++ bytes 2 composite) (omega arith) (omega arith) refl
    status (suc (suc x)) composite h g = absurd (omega arith)

    ack : (x : ℕ) → x < 2 → IsWritten3 0 9 (bytes 2 x)
    ack zero h = is_written 0 9 (bytes 2 0) (omega arith) (omega arith) refl
    ack (suc zero) h = is_written 0 9 (bytes 2 1) (omega arith) (omega arith) refl
    ack (suc (suc x)) h = absurd (omega arith)

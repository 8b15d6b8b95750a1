-- Replies of Issue 3, one behind another, as a reader that has their sender set up as Issue 3 reads them.
-- Assumes nothing.
use Prim.{Unit}
use Prim.Native.Nat.{ℕ, zero, suc, ◌+◌, ◌-◌, ◌/◌, ◌^◌, ◌<◌}
use mathlib.Core.Path.{◌≡◌, refl, sym, ap, ap₂, subst, ◌∙◌}
use mathlib.Core.Bool.{Bool, true, false}
use mathlib.Core.List.{List, [], ◌∷◌, ◌++◌, append-nil}
use native.Mathlib.Nat.{mod-lt}
use native.Mathlib.Omega.{arith}
use borrow.Author.Tests.{leb-false}
use lib.Dec.{eqb}
use lib.Pow.{pow_pos}
use lib.ListN.{length}
use lib.Seq.{take_at, drop_at}
use Rattle.wire.specs.Bytes.{number, bytes}
use Rattle.wire.proofs.Numbers.{number_bytes}
use Rattle.pending.specs.Free.{drawn}
use Rattle.message.specs.declared.Status.TheVariants.{Up}
use Rattle.message.specs.Platform.{status_value}
use Rattle.message3.specs.declared.Message3.{Message3}
use Rattle.message3.specs.declared.Message3.TheVariants.{PlatformStatus, PlatformStatusRequest, AvailabilityStatus, AvailabilityStatusRequest}
use Rattle.message3.specs.declared.Message3.TheVariants.{UnknownOperation, ServiceNotAvailable, VersionedDataPull, CompositeChangeRequest}
use Rattle.message3.specs.declared.Message3.TheVariants.{CompositeChangeRequestAck, Operation}
use Rattle.message3.specs.Header.{header_length3, header_of3}
use Rattle.message3.specs.Platform.{agreement_value, message_of3, services_bytes}
use Rattle.message3.specs.Refusal.{contents_refusal3, write_refusal3}
use Rattle.message3.specs.Writing.{header_for3, message_bytes3}
use Rattle.message3.proofs.Accepted.{admits}
use Rattle.message3.proofs.RoundTrip.{Fields, reads-back}
use Rattle.message3.proofs.Told.{Good, how-many, length_services, services-written, service-told, state-told}
use Rattle.platform.specs.declared.reactions.Reply.TheVariants.{StatusUp, PullAll, Unknown}
use Rattle.mixed.specs.declared.AnyReading.TheVariants.{Three}
use Rattle.mixed.specs.declared.reactions.Deed.{Deed}
use Rattle.mixed.specs.declared.reactions.Deed.TheVariants.{Nothing, One, StartUp, TellAll, TellOne, Note, MarkAll}
use Rattle.mixed.specs.Replies.{field_message, status_message, reply_bytes3, start_up_bytes, state_told, pair_of, pairs_of, services_message, deed_bytes}
use Rattle.mixed.proofs.NoCrossing.{all_of_three}
use Rattle.mixed.proofs.Deeds.{deed_length, too_many}
use Rattle.promises.specs.Issue3Messages.{Tells}
use Rattle.promises.specs.Owed3.{MixedCall, all_ours, OwedReply3, says_up, asks_for_all, pulls_all, unknown_here, tells_these}
use Rattle.promises.specs.Owed3.{id_in_table3, length_of3, bytes_owed, HeardAs3, AreReplies3}

-- a reply in bytes
abbrev pub payload_for : Message3 → List (ℕ × ℕ) → List ℕ
payload_for (PlatformStatus x composite) ps = bytes 2 (status_value x) ++ bytes 2 composite
payload_for PlatformStatusRequest ps = []
payload_for (AvailabilityStatus n) ps = services_bytes ps
payload_for (AvailabilityStatusRequest id) ps = bytes 2 id
payload_for (UnknownOperation id) ps = bytes 2 id
payload_for (ServiceNotAvailable id) ps = bytes 2 id
payload_for (VersionedDataPull id) ps = bytes 2 id
payload_for (CompositeChangeRequest composite) ps = bytes 2 composite
payload_for (CompositeChangeRequestAck a) ps = bytes 2 (agreement_value a)
payload_for Operation ps = []

abbrev pub laid_reply : MixedCall → OwedReply3 → List ℕ
laid_reply c o = message_bytes3 c.own c.stamp 0 (id_in_table3 o.means) o.number (payload_for o.means o.tells)

abbrev pub laid_replies : MixedCall → List OwedReply3 → List ℕ
laid_replies c [] = []
laid_replies c (o ∷ os) = laid_reply c o ++ laid_replies c os

-- what is so of a reply whose numbers fit their fields
pub record Sound (o : OwedReply3) : Type 0 where
  pub number_fits : o.number < 2 ^ 32
  pub id_fits : id_in_table3 o.means < 2 ^ 32
  pub passes : contents_refusal3 0 (id_in_table3 o.means) (payload_for o.means o.tells) ≡ 0
  pub is_meant : message_of3 0 (id_in_table3 o.means) (number 2 (payload_for o.means o.tells) 0) (number 2 (payload_for o.means o.tells) 4)
      ≡ o.means
  pub long : 24 + length (payload_for o.means o.tells) ≡ length_of3 o.means
  pub few : length (payload_for o.means o.tells) < 2 ^ 32
  pub tells_them : Tells (payload_for o.means o.tells) o.tells

abbrev pub EachSound : List OwedReply3 → Type 0
EachSound [] = Unit {0}
EachSound (o ∷ os) = Sound o × EachSound os

module _ (n : ℕ) (hn : n < 2 ^ 32) where
  up-sound : (composite : ℕ) → composite < 2 ^ 32 → Sound (says_up n composite)
  up-sound composite h =
      record {
        number_fits = hn;
        id_fits = omega arith;
        passes = refl;
        is_meant = ap (PlatformStatus Up) (number_bytes 2 composite [] h);
        long = refl;
        few = omega arith;
        tells_them = λ i l. absurd (omega arith);
      }

  -- one of those that have an ID in their payload and nothing else
  id-sound : (kind : ℕ → Message3) (id : ℕ) → id < 2 ^ 32 → id_in_table3 (kind id) < 2 ^ 32 → payload_for (kind id) [] ≡ bytes 2 id
      → contents_refusal3 0 (id_in_table3 (kind id)) (bytes 2 id) ≡ 0 → ((x y : ℕ) → message_of3 0 (id_in_table3 (kind id)) x y ≡ kind x)
      → length_of3 (kind id) ≡ 28 → Sound (record { number = n; means = kind id; tells = [] })
  id-sound kind id h i e ok means l =
      record {
        number_fits = hn;
        id_fits = i;
        passes = rw e ok;
        is_meant = rw e (means (number 2 (bytes 2 id) 0) (number 2 (bytes 2 id) 4) ∙ ap kind (number_bytes 2 id [] h));
        long = rw e (sym l);
        few = rw e (omega arith);
        tells_them = λ i l. absurd (omega arith);
      }

  asks-sound : Sound (asks_for_all n)
  asks-sound = id-sound AvailabilityStatusRequest 0xFFFFFFFF (omega arith) (omega arith) refl refl (λ x y. refl) refl

  pulls-sound : Sound (pulls_all n)
  pulls-sound = id-sound VersionedDataPull 0xFFFFFFFF (omega arith) (omega arith) refl refl (λ x y. refl) refl

  unknown-sound : (id : ℕ) → id < 2 ^ 32 → Sound (unknown_here n id)
  unknown-sound id h = id-sound UnknownOperation id h (omega arith) refl refl (λ x y. refl) refl

  pub tells-sound : (ps : List (ℕ × ℕ)) → Good ps → length ps < 2 ^ 29 → Sound (tells_these n ps)
  tells-sound ps g few =
      record {
        number_fits = hn;
        id_fits = omega arith;
        passes = services-written ps g few;
        is_meant = ap AvailabilityStatus (how-many ps g few);
        long = omega (arith, length_services ps);
        few = omega (arith, length_services ps);
        tells_them = λ i h. (service-told ps g i h, state-told ps g i h);
      }

-- as they are read
module _ (c : MixedCall) (reader : ℕ) (hs : c.stamp.seconds < 2 ^ 32) (hn : c.stamp.nanoseconds < 2 ^ 32) (other : c.own ≡ reader → ⊥) where
  pub reads-reply : (o : OwedReply3) → Sound o → HeardAs3 reader c (laid_reply c o) o
  reads-reply o k =
      let id : ℕ = id_in_table3 o.means in
      let P : List ℕ = payload_for o.means o.tells in
      let w : write_refusal3 0 id P (header_length3 + length P) ≡ 0 =
      admits 0 id P (header_length3 + length P) (record { domain = omega arith; size = k.few; contents = k.passes; fits = omega arith }) in
      let f : Fields c.own reader id o.number c.stamp =
      record { other = other; id_fits = k.id_fits; sequence_fits = k.number_fits; seconds_fit = hs; nanoseconds_fit = hn } in
      let r = reads-back c.own c.stamp 0 id o.number P (header_length3 + length P) reader f w in
      let l : length P ≡ length_of3 o.means - 24 = omega (arith, k.long) in
      record {
        reads = λ i e.
            all_of_three i reader (laid_reply c o) (header_for3 c.own c.stamp 0 id o.number P) _ header_length3 (length P) r e
            ∙ ap₂ (λ (m : Message3) (z : ℕ). Three (header_of3 0 c.own id c.stamp z o.number) m 24 z) k.is_meant l;
        told = k.tells_them;
      }

  pub are-replies3 : (os : List OwedReply3) → EachSound os → AreReplies3 reader c (laid_replies c os) os
  are-replies3 [] k = refl
  are-replies3 (o ∷ os) k =
      let n : ℕ = length_of3 o.means in
      let l : length (laid_reply c o) ≡ n = omega (arith, k.0.long) in (
        subst (λ (b : List ℕ). HeardAs3 reader c b o) (sym (take_at (laid_reply c o) (laid_replies c os) n l)) (reads-reply o k.0),
        subst (λ (b : List ℕ). AreReplies3 reader c b os) (sym (drop_at (laid_reply c o) (laid_replies c os) n l)) (are-replies3 os k.1),
      )

-- our services, as the code tells them
pub pairs_are : (ws : List ℕ) → pairs_of ws ≡ all_ours ws
unfolding pairs_of
pairs_are [] = refl
pairs_are (w ∷ ws) = ap (λ (ps : List (ℕ × ℕ)). pair_of w ∷ ps) (pairs_are ws)

pub length_all : (ws : List ℕ) → length (all_ours ws) ≡ length ws
length_all [] = refl
length_all (w ∷ ws) = ap suc (length_all ws)

state_lt : (b : Bool) → state_told b < 2
state_lt true = omega arith
state_lt false = omega arith

pub good_ours : (ws : List ℕ) → Good (all_ours ws)
good_ours [] i = (omega arith, omega arith)
good_ours (w ∷ ws) zero = (mod-lt w (pow_pos 32), state_lt (eqb (w / 2 ^ 32) 2))
good_ours (w ∷ ws) (suc i) = good_ours ws i

good_one : (id : ℕ) (b : Bool) → id < 2 ^ 32 → Good ((id, state_told b) ∷ [])
good_one id b h zero = (h, state_lt b)
good_one id b h (suc i) = (omega arith, omega arith)

-- what is to be written, and what it means
abbrev pub meant_by : MixedCall → Deed → List OwedReply3
meant_by c Nothing = []
meant_by c (One (StatusUp n)) = says_up n c.composite ∷ []
meant_by c (One (PullAll n)) = pulls_all n ∷ []
meant_by c (One (Unknown n id)) = unknown_here n id ∷ []
meant_by c (StartUp n) = says_up n c.composite ∷ asks_for_all (drawn n) ∷ pulls_all (drawn (drawn n)) ∷ []
meant_by c (TellAll n) = tells_these n (all_ours c.ours) ∷ []
meant_by c (TellOne n id b) = tells_these n ((id, state_told b) ∷ []) ∷ []
meant_by c Note = []
meant_by c MarkAll = []

abbrev pub WideDeed : Deed → Type 0
WideDeed Nothing = Unit {0}
WideDeed (One (StatusUp n)) = n < 2 ^ 32
WideDeed (One (PullAll n)) = n < 2 ^ 32
WideDeed (One (Unknown n id)) = (n < 2 ^ 32) × (id < 2 ^ 32)
WideDeed (StartUp n) = n < 2 ^ 32
WideDeed (TellAll n) = n < 2 ^ 32
WideDeed (TellOne n id b) = (n < 2 ^ 32) × (id < 2 ^ 32)
WideDeed Note = Unit {0}
WideDeed MarkAll = Unit {0}

module _ (c : MixedCall) where
  pub bytes-are : (d : Deed) → deed_bytes c.own c.stamp c.composite c.ours d ≡ laid_replies c (meant_by c d)
  unfolding deed_bytes reply_bytes3 start_up_bytes status_message field_message services_message
  bytes-are Nothing = refl
  bytes-are (One (StatusUp n)) = sym (append-nil (laid_reply c (says_up n c.composite)))
  bytes-are (One (PullAll n)) = sym (append-nil (laid_reply c (pulls_all n)))
  bytes-are (One (Unknown n id)) = sym (append-nil (laid_reply c (unknown_here n id)))
  bytes-are (StartUp n) =
      ap (λ (u : List ℕ). laid_reply c (says_up n c.composite) ++ (laid_reply c (asks_for_all (drawn n)) ++ u))
      (sym (append-nil (laid_reply c (pulls_all (drawn (drawn n))))))
  bytes-are (TellAll n) =
      ap (λ (ps : List (ℕ × ℕ)). message_bytes3 c.own c.stamp 0 3 n (services_bytes ps)) (pairs_are c.ours)
      ∙ sym (append-nil (laid_reply c (tells_these n (all_ours c.ours))))
  bytes-are (TellOne n id b) = sym (append-nil (laid_reply c (tells_these n ((id, state_told b) ∷ []))))
  bytes-are Note = refl
  bytes-are MarkAll = refl

  pub length_is : (d : Deed) → deed_length c.ours d ≡ bytes_owed (meant_by c d)
  length_is Nothing = refl
  length_is (One (StatusUp n)) = refl
  length_is (One (PullAll n)) = refl
  length_is (One (Unknown n id)) = refl
  length_is (StartUp n) = refl
  length_is (TellAll n) = omega (arith, length_all c.ours)
  length_is (TellOne n id b) = refl
  length_is Note = refl
  length_is MarkAll = refl

  module _ (hc : c.composite < 2 ^ 32) where
    pub sounds : (d : Deed) → WideDeed d → (too_many c.ours d ≡ false) → EachSound (meant_by c d)
    sounds Nothing w f = tt
    sounds (One (StatusUp n)) w f = (up-sound n w c.composite hc, tt)
    sounds (One (PullAll n)) w f = (pulls-sound n w, tt)
    sounds (One (Unknown n id)) w f = (unknown-sound n w.0 id w.1, tt)
    sounds (StartUp n) w f =
        let a = asks-sound (drawn n) (mod-lt (n + 1) (pow_pos 32)) in
        let p = pulls-sound (drawn (drawn n)) (mod-lt (drawn n + 1) (pow_pos 32)) in
        (up-sound n w c.composite hc, (a, (p, tt)))
    sounds (TellAll n) w f =
        (tells-sound n w (all_ours c.ours) (good_ours c.ours) (omega (arith, length_all c.ours, leb-false (2 ^ 29) (length c.ours) f)), tt)
    sounds (TellOne n id b) w f = (tells-sound n w.0 ((id, state_told b) ∷ []) (good_one id b w.1) (omega arith), tt)
    sounds Note w f = tt
    sounds MarkAll w f = tt

-- What a message under way can still cause at its receiver, by how it is read there, and how heavy one is whose bytes are known.
-- Assumes nothing.
use Prim.{Unit}
use Prim.Native.Nat.{ℕ, zero, suc, ◌≤◌}
use mathlib.Core.Path.{◌≡◌, refl, sym, subst, ◌∙◌}
use mathlib.Core.Bool.{Bool, true, false, cond}
use mathlib.Core.List.{List}
use native.Mathlib.Omega.{arith}
use lib.Dec.{eqb}
use lib.ListN.{length}
use Rattle.wire.specs.Bytes.{number}
use Rattle.message.specs.declared.Status.TheVariants.{Down, Up}
use Rattle.message.specs.declared.Message.{Message}
use Rattle.message.specs.declared.Message.TheVariants as message
use Rattle.message.specs.Header.{header_length, the_mark, the_version, version_in, mark_in, domain_in, sender_in, id_in, payload_in}
use Rattle.message.specs.Platform.{message_of}
use Rattle.message.specs.Refusal.{frame_refusal, read_refusal}
use Rattle.message.specs.Reading.{answered, reading_out, read_of}
use Rattle.message3.specs.declared.Message3.{Message3}
use Rattle.message3.specs.declared.Message3.TheVariants as message3
use Rattle.message3.specs.Header.{domain_in3, sender_in3, id_in3, payload_in3}
use Rattle.message3.specs.Platform.{first_in, second_in, message_of3}
use Rattle.message3.specs.Refusal.{read_refusal3}
use Rattle.message3.specs.Reading.{answered3, read_out3, read_of3}
use Rattle.partners.specs.Threes.{is_three}
use Rattle.platform.specs.Replies.{all_data}
use Rattle.mixed.specs.declared.AnyReading.{AnyReading}
use Rattle.mixed.specs.declared.AnyReading.TheVariants.{Refused, Six, Three}
use Rattle.mixed.specs.Reading.{other_issue, from_six, from_three, any_of}
use Rattle.mixed.proofs.Issues.{if-three, if-other, if-six, of-six-form, of-three-form}
use Rattle.mixed.proofs.NoCrossing.{gets-3}

-- a message that is refused causes nothing; a status DOWN, that its sender is answered once more when it is UP again
abbrev pub cost6 : Message → ℕ
cost6 (message.PlatformStatus Up) = 1
cost6 (message.PlatformStatus Down) = 4
cost6 message.PlatformStatusRequest = 2
cost6 (message.UnknownOperation id) = 1
cost6 (message.VersionedDataPull id) = 2
cost6 message.Operation = 2

abbrev pub cost3 : Message3 → ℕ
cost3 (message3.PlatformStatus Up c) = 1
cost3 (message3.PlatformStatus Down c) = 5
cost3 message3.PlatformStatusRequest = 2
cost3 (message3.AvailabilityStatus n) = 1
cost3 (message3.AvailabilityStatusRequest id) = 2
cost3 (message3.UnknownOperation id) = 1
cost3 (message3.ServiceNotAvailable id) = 1
cost3 (message3.VersionedDataPull id) = cond (eqb id all_data) 1 2
cost3 (message3.CompositeChangeRequest c) = 1
cost3 (message3.CompositeChangeRequestAck a) = 1
cost3 message3.Operation = 2

abbrev pub cost : AnyReading → ℕ
cost (Refused n) = 1
cost (Six h m start len) = cost6 m
cost (Three h m start len) = cost3 m

-- and what is not refused bears this sender
abbrev pub Bears : ℕ → AnyReading → Type 0
Bears sender (Refused n) = Unit {0}
Bears sender (Six h m start len) = h.platform ≡ sender
Bears sender (Three h m start len) = h.platform ≡ sender

pub cost6_pos : (m : Message) → 1 ≤ cost6 m
cost6_pos (message.PlatformStatus Up) = omega arith
cost6_pos (message.PlatformStatus Down) = omega arith
cost6_pos message.PlatformStatusRequest = omega arith
cost6_pos (message.UnknownOperation id) = omega arith
cost6_pos (message.VersionedDataPull id) = omega arith
cost6_pos message.Operation = omega arith

pub cost3_pos : (m : Message3) → 1 ≤ cost3 m
cost3_pos (message3.PlatformStatus Up c) = omega arith
cost3_pos (message3.PlatformStatus Down c) = omega arith
cost3_pos message3.PlatformStatusRequest = omega arith
cost3_pos (message3.AvailabilityStatus n) = omega arith
cost3_pos (message3.AvailabilityStatusRequest id) = omega arith
cost3_pos (message3.UnknownOperation id) = omega arith
cost3_pos (message3.ServiceNotAvailable id) = omega arith
cost3_pos (message3.VersionedDataPull id) = go (eqb id all_data)
  where
    go : (b : Bool) → 1 ≤ cond b 1 2
    go true = omega arith
    go false = omega arith
cost3_pos (message3.CompositeChangeRequest c) = omega arith
cost3_pos (message3.CompositeChangeRequestAck a) = omega arith
cost3_pos message3.Operation = omega arith

pub cost_pos : (x : AnyReading) → 1 ≤ cost x
cost_pos (Refused n) = omega arith
cost_pos (Six h m start len) = cost6_pos m
cost_pos (Three h m start len) = cost3_pos m

-- messages under way to a platform from a sender: their weight, and that they bear it
abbrev pub weighs_at : List ℕ → ℕ → List ℕ → ℕ
weighs_at i own m = cost (any_of i own m)

abbrev pub BearsAt : List ℕ → ℕ → ℕ → List ℕ → Type 0
BearsAt i own sender m = Bears sender (any_of i own m)

-- a message whose bytes are known weighs no more than w
pub record Light (i : List ℕ) (reader sender w : ℕ) (s : List ℕ) : Type 0 where
  pub weight : cost (any_of i reader s) ≤ w
  pub bears : Bears sender (any_of i reader s)

abbrev LightRead : ℕ → ℕ → AnyReading → Type 0
LightRead sender w x = (cost x ≤ w) × Bears sender x

module _ (i : List ℕ) (reader sender w : ℕ) (s : List ℕ) (hw : 1 ≤ w) where
  light : (x : AnyReading) → any_of i reader s ≡ x → LightRead sender w x → Light i reader sender w s
  light x e l =
      let k : LightRead sender w (any_of i reader s) = subst (LightRead sender w) (sym e) l in
      record { weight = k.0; bears = k.1 }

  refused : (n : ℕ) → LightRead sender w (Refused n)
  refused n = (hw, tt)

  -- in Issue 6's form
  pub light-six : version_in s ≡ the_version → sender_in s ≡ sender
      → cost6 (message_of (domain_in s) (id_in s) (number 2 (payload_in s) 0)) ≤ w → Light i reader sender w s
  light-six v e c = go (is_three i (sender_in s)) refl
    where
      read : (r : ℕ) → LightRead sender w (from_six (answered r (reading_out s)))
      read zero = (c, e)
      read (suc r) = refused (suc r)

      go : (b : Bool) → is_three i (sender_in s) ≡ b → Light i reader sender w s
      go true q = light (Refused (other_issue (frame_refusal s))) (if-other i reader s (of-six-form i reader s v) q) (refused (other_issue (frame_refusal s)))
      go false q = light (from_six (read_of reader s)) (if-six i reader s (of-six-form i reader s v) q) (read (read_refusal reader s))

  -- in Issue 3's form
  pub light-three : header_length ≤ length s → mark_in s ≡ the_mark → (version_in s ≡ the_version → ⊥) → sender_in3 s ≡ sender
      → cost3 (message_of3 (domain_in3 s) (id_in3 s) (first_in (payload_in3 s)) (second_in (payload_in3 s))) ≤ w → Light i reader sender w s
  light-three long mark v e c = go (is_three i (sender_in3 s)) refl
    where
      read : (r : ℕ) → LightRead sender w (from_three (answered3 r (read_out3 s)))
      read zero = (c, e)
      read (suc r) = refused (suc r)

      go : (b : Bool) → is_three i (sender_in3 s) ≡ b → Light i reader sender w s
      go true q = light (from_three (read_of3 reader s)) (if-three i reader s (of-three-form i reader s v ∙ q)) (read (read_refusal3 reader s))
      go false q = light (Refused 3) (gets-3 s long mark v i reader q) (refused 3)

-- a message in the form of an issue for which its reader does not have its sender
abbrev pub IsRefused : AnyReading → Type 0
IsRefused (Refused n) = Unit {0}
IsRefused (Six h m start len) = ⊥
IsRefused (Three h m start len) = ⊥

module _ (i : List ℕ) (reader : ℕ) (s : List ℕ) where
  pub six-refused : version_in s ≡ the_version → is_three i (sender_in s) ≡ true → IsRefused (any_of i reader s)
  six-refused v q = subst IsRefused (sym (if-other i reader s (of-six-form i reader s v) q)) tt

  pub three-refused : header_length ≤ length s → mark_in s ≡ the_mark → (version_in s ≡ the_version → ⊥) → is_three i (sender_in3 s) ≡ false
      → IsRefused (any_of i reader s)
  three-refused long mark v q = subst IsRefused (sym (gets-3 s long mark v i reader q)) tt

-- Readers that choose another issue: one message of a few bytes each, computed.
-- Assumes nothing.
use Prim.Native.Nat.{ℕ}
use mathlib.Core.Path.{◌≡◌, refl, ap}
use mathlib.Core.List.{List, [], ◌∷◌}
use native.Mathlib.Omega.{arith}
use Rattle.message.specs.declared.Header.{Header}
use Rattle.message.specs.declared.Message.TheVariants as message
use Rattle.message.specs.declared.Status.TheVariants.{Up}
use Rattle.message3.specs.declared.Message3.TheVariants as message3
use Rattle.partners.specs.Threes.{bit_in, is_three, with_three, three_set, listed}
use Rattle.mixed.specs.Form.{three_form}
use Rattle.mixed.specs.Reading.{any_of, issue_in, number_given}
use Rattle.promises.specs.NoCrossReading.{NoCrossReadingBy, status_of7, request_of5, its_header7, its_header5}
use Rattle.promises.specs.WrongReaders.{six_alone, by_set_up, by_version, six_from_anybody, by_last_byte, long_for_both, NoWrongReader}

-- 7 speaks Issue 3, and its status is not read
six-alone : NoCrossReadingBy six_alone → ⊥
unfolding is_three bit_in listed three_set with_three
six-alone d =
    let z : ◌≡◌ {A = ℕ} 0 3 = ap issue_in (d.all_of_three (listed (7 ∷ [])) 9 status_of7 its_header7 (message3.PlatformStatus Up 0x11223344) 24 8 refl refl) in
    omega arith

-- 0 speaks Issue 3, and a request of 5 is refused, whose domain is 0
by-set-up : NoCrossReadingBy by_set_up → ⊥
unfolding is_three bit_in listed three_set with_three
by-set-up d =
    let z : ◌≡◌ {A = ℕ} 0 6 = ap issue_in (d.all_of_six (listed (0 ∷ [])) 9 (request_of5 0) its_header5 message.PlatformStatusRequest 20 0 refl refl) in
    omega arith

-- 7 does not speak Issue 3, and its status is read
by-version : NoCrossReadingBy by_version → ⊥
unfolding is_three bit_in listed three_set with_three
by-version d =
    let z : ◌≡◌ {A = ℕ} 0 3 = ap number_given (d.three_from_six (listed []) 9 status_of7 its_header7 (message3.PlatformStatus Up 0x11223344) 24 8 refl refl) in
    omega arith

-- 5 speaks Issue 3, and its request in Issue 6's form is read
six-from-anybody : NoCrossReadingBy six_from_anybody → ⊥
unfolding three_form is_three bit_in listed three_set with_three
six-from-anybody d =
    let z : ◌≡◌ {A = ℕ} 0 3 = ap number_given (d.six_from_three (listed (5 ∷ [])) 9 (request_of5 0) its_header5 message.PlatformStatusRequest 20 0 refl refl) in
    omega arith

-- 192 speaks Issue 3, and a request of 448 is refused
request_of448 : List ℕ
request_of448 = 0xEC ∷ 0x0A ∷ 2 ∷ 0 ∷ 0 ∷ 0 ∷ 1 ∷ 0xC0 ∷ 0 ∷ 0 ∷ 0 ∷ 2 ∷ 0 ∷ 0 ∷ 0 ∷ 0 ∷ 0 ∷ 0 ∷ 0 ∷ 1 ∷ []

its_header448 : Header
its_header448 = record { domain = 0; platform = 448; id = 2; payload_size = 0; sequence = 1 }

by-last-byte : NoCrossReadingBy by_last_byte → ⊥
unfolding three_form is_three bit_in listed three_set with_three request_of448 its_header448
by-last-byte d =
    let z : ◌≡◌ {A = ℕ} 0 6 = ap issue_in (d.all_of_six (listed (192 ∷ [])) 9 request_of448 its_header448 message.PlatformStatusRequest 20 0 refl refl) in
    omega arith

-- a request of Issue 6 has 20 bytes
long-for-both : NoCrossReadingBy long_for_both → ⊥
unfolding any_of three_form is_three bit_in listed three_set with_three
long-for-both d =
    let z : ◌≡◌ {A = ℕ} 0 6 = ap issue_in (d.all_of_six (listed []) 9 (request_of5 0) its_header5 message.PlatformStatusRequest 20 0 refl refl) in
    omega arith

pub no_wrong_reader : NoWrongReader
no_wrong_reader =
    record {
      six-alone = six-alone;
      by-set-up = by-set-up;
      by-version = by-version;
      six-from-anybody = six-from-anybody;
      by-last-byte = by-last-byte;
      long-for-both = long-for-both;
    }

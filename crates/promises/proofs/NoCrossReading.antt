-- Every message is read by its sender's issue alone.
-- Assumes nothing.
use Prim.Native.Nat.{ℕ, ◌≤◌}
use mathlib.Core.Path.{◌≡◌, refl}
use mathlib.Core.List.{List}
use native.Mathlib.Omega.{arith}
use lib.ListN.{length}
use Rattle.wire.specs.Bytes.{number}
use Rattle.partners.specs.Threes.{bit_in, is_three, with_three, three_set, listed}
use Rattle.mixed.specs.Form.{three_form}
use Rattle.mixed.specs.Reading.{any_of}
use Rattle.mixed.proofs.NoCrossing.{six_is_six, all_of_six, six_from_three, three_is_three, all_of_three, three_from_six, never_both, as_before}
use Rattle.mixed.proofs.NoCrossing.{gets-3}
use Rattle.mixed.proofs.ByByteTwo.{two_of_six, two_of_three, one_of_three, no-version}
use Rattle.promises.specs.NoCrossReading.{ByByteTwo, WorkedReadings, NoCrossReadingBy, NoCrossReading}

ours : NoCrossReadingBy any_of
ours =
    record {
      six_is_six = six_is_six;
      three_is_three = three_is_three;
      all_of_six = all_of_six;
      all_of_three = all_of_three;
      six_from_three = six_from_three;
      three_from_six = three_from_six;
      as_before = as_before;
    }

by_byte_two : (i : List ℕ) (own : ℕ) (s : List ℕ) (long : 24 ≤ length s) (mark : number 1 s 0 ≡ 0xEC0A) → ByByteTwo any_of i own s long mark
by_byte_two i own s long mark =
    let enough : 20 ≤ length s = omega arith in
    record {
      two_of_six = two_of_six i own s;
      two_of_three = two_of_three i own s enough mark;
      one_of_three = one_of_three i own s;
      one_of_six = λ v e. gets-3 s enough mark (λ z. omega (arith, v, z)) i own e;
      other = λ a b. no-version i own s long mark a b;
    }

worked : WorkedReadings any_of
unfolding any_of three_form is_three bit_in listed three_set with_three
worked =
    record {
      as_three = refl;
      as_six = refl;
      twenty_bytes = refl;
      nineteen_bytes = refl;
      cut_as_three = refl;
      its_domain_is_three = refl;
      four_are_three = refl;
      it_is_three = refl;
      another_domain = refl;
    }

pub no_cross_reading : NoCrossReading
no_cross_reading = record { ours = ours; never_both = never_both; by_byte_two = by_byte_two; worked = worked }

-- What demands 1 and 2 suppose is so at the outermost values.
-- Assumes nothing.
use mathlib.Core.Logic.{inl, inr}
use native.Mathlib.Omega.{arith}
use Rattle.binding.specs.Header.{header_of}
use Rattle.promises.specs.AtLimits.{AtLimits}

pub at_limits : AtLimits
at_limits = record {
  addressed = record { platform = omega arith; other = λ e. omega (arith, e); id_fits = omega arith; sequence_fits = omega arith };
  starts = λ p q a b. record {
    one = omega arith;
    other = omega arith;
    two = λ e. omega (arith, e);
    next_of_one = omega arith;
    next_of_other = omega arith;
    number_fits = omega arith;
  };
  receives = λ t s p m h kind start len n b c r k. record
      { platform = omega arith; next = omega arith; bytes = b; table = c; start = start; len = len; read = r; no_response = k };
  receive_in_order = λ r t p l m room n b. r 255 t p l m room (omega arith) (omega arith) b;
  another_is_down = λ r. r.others_start_down 254 255 (omega arith) (omega arith) (λ e. omega (arith, e));
  above_is_down = λ r s. r.none_above_255 255 s 256 (omega arith) (omega arith);
  counted = λ r s w. r.counted 255 s (omega arith) w;
  header = λ r part piece e. (r (header_of part 4095 65535) piece (omega arith) (omega arith) (omega arith) (omega arith)).0;
  shortest_piece = λ r part piece e. (r (header_of part 0 0) piece (omega arith) (omega arith) (omega arith) (omega arith)).0;
  cut = λ ids rooms k msg a l e o. record {
    set_up = a;
    known = l;
    some = omega arith;
    most = omega arith;
    size = omega arith;
    piece = omega arith;
    counter = omega arith;
    room = inr (omega arith);
    bytes = o;
  };
  cut_small = λ ids rooms k msg a l e o. record {
    set_up = a;
    known = l;
    some = omega arith;
    most = omega arith;
    size = omega arith;
    piece = omega arith;
    counter = omega arith;
    room = inl (omega arith);
    bytes = o;
  };
  known = λ t s i a e. record { accepted = a; known = omega arith };
}

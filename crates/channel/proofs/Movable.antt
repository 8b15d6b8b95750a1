-- What `room_start` and `moved` show: where a room lies, and what a record that can move grants to its step.
-- Assumes nothing.
use Prim.Native.Nat.{ℕ, ◌+◌, ◌-◌, ◌*◌, ◌^◌, ◌≤◌, ◌<◌}
use Rattle.std.specs.Prelude.{Ok, Err}
use Rattle.refusal.specs.declared.Refusal.TheVariants.{NoJoiner}
use mathlib.Core.Path.{◌≡◌, sym, ◌∙◌}
use mathlib.Core.Bool.{Bool, true, false, ◌&&◌}
use native.Mathlib.Nat.{mul-le-mul, mul-le-mul_right}
use native.Mathlib.Omega.{arith}
use borrow.Author.Tests.{leb-true, ltb-true}
use mir.Syntax.{w32, w64}
use mir.Val.{Fits}
use lib.Dec.{leb, ltb}
use Rattle.wire.proofs.Cond.{and_left, and_right}
use Rattle.binding.specs.Header.{header_length, largest_datagram, counters}
use Rattle.binding.specs.declared.BindingHeader.{BindingHeader}
use Rattle.channel.specs.declared.Channel.{Channel}
use Rattle.channel.specs.declared.Step.{Step}
use Rattle.channel.specs.Record.{channel_limit, largest_room, room_start}
use Rattle.channel.specs.Channel.{Steppable, stepped_of, can_move, moved_of}

-- a product of two 32-bit numbers is a usize
pub product_fits : (k R : ℕ) → k < 2 ^ 32 → R < 2 ^ 32 → Fits w64 (k * R)
product_fits k R h l =
    let a : k ≤ 2 ^ 32 - 1 = omega arith in
    let b : R ≤ 2 ^ 32 - 1 = omega arith in
    record { fits = omega (arith, mul-le-mul a b) }

-- each room lies within the rooms
pub room_within : (R n k : ℕ) → k < n → room_start R k + R ≤ room_start R n
room_within R n k h =
    let m : (k + 1) * R ≤ n * R = mul-le-mul_right R (omega arith) in
    omega arith

-- `moved`
pub record CanMove (k R : ℕ) (ch : Channel) (n : ℕ) : Type 0 where
  pub few : k < channel_limit
  pub narrow : R ≤ largest_room
  pub held : ch.held ≤ R
  pub last : ch.last < counters
  pub long : header_length ≤ n
  pub short : n ≤ largest_datagram

can_say : (k R : ℕ) (ch : Channel) (n : ℕ) → can_move k R ch n ≡ true → CanMove k R ch n
can_say k R ch n e =
    record {
      few = ltb-true k channel_limit (and_left (ltb k channel_limit) (leb R largest_room) place);
      narrow = leb-true R largest_room (and_right (ltb k channel_limit) (leb R largest_room) place);
      held = leb-true ch.held R (and_left (leb ch.held R) (ltb ch.last counters) kept);
      last = ltb-true ch.last counters (and_right (leb ch.held R) (ltb ch.last counters) kept);
      long = leb-true header_length n (and_left (leb header_length n) (leb n largest_datagram) length_is);
      short = leb-true n largest_datagram (and_right (leb header_length n) (leb n largest_datagram) length_is);
    }
  where
    place : (ltb k channel_limit && leb R largest_room) ≡ true
    place = and_left (ltb k channel_limit && leb R largest_room)
        ((leb ch.held R && ltb ch.last counters) && (leb header_length n && leb n largest_datagram)) e

    rest : ((leb ch.held R && ltb ch.last counters) && (leb header_length n && leb n largest_datagram)) ≡ true
    rest = and_right (ltb k channel_limit && leb R largest_room)
        ((leb ch.held R && ltb ch.last counters) && (leb header_length n && leb n largest_datagram)) e

    kept : (leb ch.held R && ltb ch.last counters) ≡ true
    kept = and_left (leb ch.held R && ltb ch.last counters) (leb header_length n && leb n largest_datagram) rest

    length_is : (leb header_length n && leb n largest_datagram) ≡ true
    length_is = and_right (leb ch.held R && ltb ch.last counters) (leb header_length n && leb n largest_datagram) rest

module _ {t : Bool} (k R : ℕ) (ch : Channel) (n : ℕ) (e : t ≡ can_move k R ch n) where
  pub not-moved : (h : BindingHeader) → t ≡ false → Err NoJoiner ≡ moved_of k R ch h n
  unfolding moved_of
  not-moved h f = rw (sym e ∙ f)

  module _ (g : t ≡ true) where
    says : CanMove k R ch n
    says = can_say k R ch n (sym e ∙ g)

    pub number_fits : Fits w32 k
    number_fits = record { fits = omega (arith, says.few) }

    pub long-enough : header_length ≤ n
    long-enough = says.long

    pub length-fits : Fits w32 (n - header_length)
    length-fits = record { fits = omega (arith, says.short) }

    pub steppable : {s : ℕ} → s ≡ room_start R k → Steppable (record { start = s; size = R }) ch (n - header_length)
    steppable es =
        record {
          size = says.narrow;
          ends = omega (arith, room_within R channel_limit k says.few, says.narrow);
          last = says.last;
          held = says.held;
          piece = omega (arith, says.short);
        }

    pub is-moved : {s : ℕ} {x : Step} (h : BindingHeader) → s ≡ room_start R k → x
        ≡ stepped_of (record { start = s; size = R }) ch h.part h.counter (n - header_length) → Ok (k, x) ≡ moved_of k R ch h n
    unfolding moved_of
    is-moved h es ex = rw (sym e ∙ g, ex, es)

-- Our services, told by one linked call and heard of by another.
-- Assumes nothing.
use Prim.Native.Nat.{ℕ, ◌+◌, ◌*◌, ◌/◌, ◌^◌}
use mathlib.Core.Path.{◌≡◌, refl, sym, ap, ap₂, ◌∙◌}
use mathlib.Core.Bool.{Bool, true, false, cond}
use mathlib.Core.List.{List, ◌++◌}
use native.Mathlib.Nat.{mod-lt}
use native.Mathlib.Omega.{arith}
use lib.Dec.{eqb}
use lib.Pow.{pow_pos}
use lib.ListN.{length, get_or, take, drop}
use Rattle.wire.proofs.Cond.{yes-if, no-if}
use Rattle.table.specs.declared.Sections.{Sections}
use Rattle.message3.specs.declared.Header3.{Header3}
use Rattle.message3.specs.declared.Message3.TheVariants as message3
use Rattle.services.specs.declared.Availability.{Availability}
use Rattle.services.specs.declared.Availability.TheVariants.{Unavailable, Available}
use Rattle.services.specs.Block.{availability_in}
use Rattle.partners.specs.Threes.{is_three}
use Rattle.states.specs.States.{stands_up}
use Rattle.platform.specs.declared.reactions.Standing.{Standing}
use Rattle.platform_words.specs.Words.{standing_words}
use Rattle.mixed.specs.declared.AnyAnswer.{AnyAnswer}
use Rattle.mixed.specs.Keeping.{block_of}
use Rattle.mixed.specs.Receiving.{number_given}
use Rattle.mixed_words.specs.HeardWords.{any_platform_after}
use Rattle.mixed_words.specs.ServiceCalls.{availability_number, service_number}
use Rattle.promises.specs.Owed3.{MixedCall, id_of}
use Rattle.promises.specs.Replies3.{our_outcome, our_output, our_list, our_words, our_receiving3, Receives3}
use Rattle.promises.specs.Replies3.{block_at}
use Rattle.promises.specs.ServicesAcross.{word_at, Hears, Learns}
use Rattle.promises.specs.LinkedReplies3.{call_of, ServiceIs, HearsIt, KnowsOurs}
use Rattle.promises.proofs.Received3.{sender-lt}
use Rattle.promises.proofs.LinkedReplies.{up_is}
use Rattle.promises.proofs.ServicesAcross.{services_across}
use Rattle.promises.proofs.LinkedReplying3.{receives}

-- a service that is asked for
pub in_numbers : (b : Bool) → availability_number (cond b Available Unavailable) ≡ cond {A = ℕ} b 2 1
in_numbers true = refl
in_numbers false = refl

pub service_is : (i ws : List ℕ) (k id x : ℕ) → service_number i ws k id ≡ x → ServiceIs i ws k id x
service_is i ws k id x e y a n f p ei ew ek ed =
    p ∙ ap₂ (λ (v w : List ℕ). service_number v w a.1.1.0 a.1.1.1.0) ei ew ∙ ap₂ (service_number i ws) ek ed ∙ e

-- our services, heard of by a partner
module _ (own : ℕ) (st i ours ws sv t m out : List ℕ) (s : Sections) (h : Header3) (its : ℕ) (its_stamp itsPartners its-ours itsWords itsServices
    itsTable its_message itsOutput : List ℕ) where
  abbrev us : MixedCall
  us = call_of own st i ours ws sv t m out

  abbrev it : MixedCall
  it = call_of its its_stamp itsPartners its-ours itsWords itsServices itsTable its_message itsOutput

  module _ (left : List ℕ) (z : HearsIt us it s h left) (el : left ≡ our_output us) where
    asked : Receives3 us s h (message3.AvailabilityStatusRequest 0xFFFFFFFF)
    asked = receives own st i ours ws sv t m out s h (message3.AvailabilityStatusRequest 0xFFFFFFFF) z.asked

    hears : Hears our_receiving3 us it s h
    hears =
        record {
          asked = asked;
          few = z.few;
          room = z.room;
          widths =
              record {
                platform = omega (arith, z.platform, sender-lt us s h (message3.AvailabilityStatusRequest 0xFFFFFFFF) asked);
                next = mod-lt (get_or itsWords 4 0) (pow_pos 32);
                seconds = z.seconds;
                nanoseconds = z.nanoseconds;
                composite = z.composite;
              };
          bytes = z.bytes;
          who = z.platform;
          its_sections = z.its_sections;
          its_table = z.its_table;
          set_up = z.set_up;
          there = z.there;
          kempt = z.kempt;
          carried = z.carried ∙ ap (take (28 + 8 * length ours)) el;
          takes = z.takes;
        }

    learns : Learns our_receiving3 us it h
    learns = services_across.learns us it s h hears

    module _ (n : ℕ) (after words output : List ℕ) (en : n ≡ number_given (our_outcome it).answer)
        (ea : after ≡ any_platform_after (our_outcome it) itsWords (our_list it)) (ew : words ≡ our_words it) (eo : output ≡ our_output it) where
      after_is : after ≡ standing_words (our_outcome it).standing ++ our_list it
      after_is =
          ea ∙ ap (λ (y : AnyAnswer). any_platform_after (record { standing = (our_outcome it).standing; answer = y }) itsWords (our_list it)) learns.answer

      -- a service of ours, by what is known of it
      of-us : (x : ℕ) (y : Availability) → availability_in (block_at it own (our_words it)) x ≡ y
          → service_number itsPartners words own x ≡ availability_number y
      of-us x y known =
          yes-if (availability_number (availability_in (block_of itsPartners own words) x)) 0 z.set_up
          ∙ ap availability_number (ap (λ (v : List ℕ). availability_in (block_of itsPartners own v) x) ew ∙ known)

      of-another : (j x : ℕ) → ¬ (j ≡ own) → service_number itsPartners words j x ≡ service_number itsPartners itsServices j x
      of-another j x differ = go (is_three itsPartners j) refl
        where
          go : (b : Bool) → is_three itsPartners j ≡ b → service_number itsPartners words j x ≡ service_number itsPartners itsServices j x
          go true e =
              ap (λ (v : List ℕ). cond (is_three itsPartners j) (availability_number (availability_in v x)) 0)
              (ap (block_of itsPartners j) ew ∙ learns.other_blocks j e differ)
          go false e =
              no-if (availability_number (availability_in (block_of itsPartners j words) x)) 0 e
              ∙ sym (no-if (availability_number (availability_in (block_of itsPartners j itsServices) x)) 0 e)

      pub knows-ours : KnowsOurs us it itsWords n after words output
      knows-ours =
          record {
            number = en ∙ ap number_given learns.answer;
            each = λ k l last.
                service_is itsPartners words own (id_of (word_at us k)) _
                (of-us (id_of (word_at us k)) _ (learns.of_ours k l last) ∙ in_numbers (eqb (word_at us k / 2 ^ 32) 2));
            others = λ x none.
                service_is itsPartners words own x _
                (of-us x _ (learns.of_others x none)
                ∙ sym (yes-if (availability_number (availability_in (block_of itsPartners own itsServices) x)) 0 z.set_up));
            other_platforms = λ j x differ. service_is itsPartners words j x _ (of-another j x differ);
            output = eo ∙ learns.output;
            states =
                up_is its after (our_outcome it).standing (our_list it) (stands_up its it.standing.states) hears.widths.platform after_is
                (λ k l. ap (λ (y : Standing). stands_up its y.states k) learns.standing);
            next = ap (λ (y : List ℕ). get_or y 4 0) after_is ∙ ap (λ (y : Standing). y.next) learns.standing;
            pending = ap (drop 5) after_is ∙ learns.list;
          }

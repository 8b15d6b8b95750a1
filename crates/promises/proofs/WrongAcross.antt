-- Partners that do something else with what they hear of our services: the worked pair of calls, computed.
-- Assumes nothing.
use Prim.Native.Nat.{ℕ, zero, suc, ◌<◌}
use mathlib.Core.Path.{◌≡◌, refl, sym, ap, ◌∙◌}
use mathlib.Core.List.{List}
use native.Mathlib.Omega.{arith}
use lib.ListN.{get_or, take}
use Rattle.services.specs.declared.Availability.{Availability}
use Rattle.services.specs.declared.Availability.TheVariants.{Unheard, Unavailable, Available}
use Rattle.services.specs.Word.{says}
use Rattle.services.specs.Block.{availability_in}
use Rattle.states.specs.States.{count_below}
use Rattle.partners.specs.Threes.{bit_in, is_three, with_three, three_set, listed}
use Rattle.platform.specs.declared.reactions.Standing.{Standing}
use Rattle.platform.specs.Receiving.{fresh_standing}
use Rattle.mixed.specs.Replies.{field_message}
use Rattle.promises.specs.Owed3.{MixedCall, id_of}
use Rattle.promises.specs.Replies3.{Receiving3, our_output, our_receiving3, block_at}
use Rattle.promises.specs.ServicesAcross.{word_at, Learns, ServicesAcrossBy}
use Rattle.promises.specs.WorkedReplies3.{at_one, asks_for_all_of1, ours2122, at_two, asks_header}
use Rattle.promises.specs.WrongAcross.{noting_nothing, drawing, asking_again, NoWrongAcross}
use Rattle.promises.proofs.ServicesAcross.{services_across}
use Rattle.promises.proofs.WorkedReplies3.{bare_sections, bare_is_table, worked_replies3}

abbrev c : MixedCall
c = at_one ours2122 (fresh_standing 1) asks_for_all_of1 44

numbered : Availability → ℕ
numbered Unheard = 0
numbered Unavailable = 1
numbered Available = 2

-- what is left in the asked one's output is ours
module _ (X : Receiving3) (same : X.left c ≡ our_output c) (r : ServicesAcrossBy X) where
  learns : Learns X c at_two asks_header
  learns =
      let h = worked_replies3.hears bare_sections bare_is_table in
      r.learns c at_two bare_sections asks_header
      (record {
        asked = h.asked;
        few = h.few;
        room = h.room;
        widths = h.widths;
        bytes = h.bytes;
        who = h.who;
        its_sections = h.its_sections;
        its_table = h.its_table;
        set_up = h.set_up;
        there = h.there;
        kempt = h.kempt;
        carried = h.carried ∙ ap (take 44) (sym same);
        takes = h.takes;
      })

  -- 21 is AVAILABLE
  first : availability_in (block_at at_two 1 (X.words at_two)) 21 ≡ Available
  first = learns.of_ours 0 (omega arith) other
    where
      other : (j : ℕ) → 0 < j → j < 2 → ¬ (id_of (word_at c j) ≡ id_of (word_at c 0))
      other zero a b e = omega arith
      other (suc zero) a b e = omega arith
      other (suc (suc j)) a b e = omega arith

no_notes : ServicesAcrossBy noting_nothing → ⊥
unfolding says count_below bit_in is_three with_three three_set listed numbered
no_notes r =
    let z : ◌≡◌ {A = ℕ} 0 2 = ap numbered (first noting_nothing refl r) in
    omega arith

no_draws : ServicesAcrossBy drawing → ⊥
no_draws r =
    let z : (drawing.outcome at_two).standing.next ≡ at_two.standing.next = ap (λ (p : Standing). p.next) (learns drawing refl r).standing in
    let w = ap (λ (p : Standing). p.next) (learns our_receiving3 refl services_across).standing in
    omega (arith, z, w)

no_asks_again : ServicesAcrossBy asking_again → ⊥
unfolding field_message
no_asks_again r =
    let z : ◌≡◌ {A = ℕ} 0xEC 0 = ap (λ (s : List ℕ). get_or s 0 0) (learns asking_again refl r).output in
    omega arith

pub no_wrong_across : NoWrongAcross
no_wrong_across = record { ours = services_across; notes_nothing = no_notes; draws = no_draws; asks_again = no_asks_again }

-- Two platforms among partners of both issues fall silent; and as many messages as may be are reached, computed.
-- Assumes nothing.
use Prim.Native.Nat.{ℕ, ◌+◌, ◌≤◌, ◌<◌}
use mathlib.Core.Path.{◌≡◌, refl, sym, subst}
use mathlib.Core.Bool.{Bool, true, false, not}
use mathlib.Core.List.{List, [], ◌∷◌}
use native.Mathlib.Omega.{arith}
use lib.ListN.{length, replicate}
use Rattle.wire.specs.All.{all_below}
use Rattle.table.specs.declared.Section.{Section}
use Rattle.table.specs.declared.Sections.{Sections}
use Rattle.table.specs.Layout.{lies_in, within}
use Rattle.operations.specs.Rules.{has_data}
use Rattle.services.specs.Block.{all_have_places, status_fits, note_refusal}
use Rattle.partners.specs.Threes.{bit_in, is_three}
use Rattle.states.specs.States.{word_of, with_word, bit_of, stands_up, turned, with_own, count_below}
use Rattle.platform.specs.declared.reactions.Standing.{Standing}
use Rattle.platform.specs.Replies.{reply_bytes, owed_bytes}
use Rattle.platform.specs.Reaction.{coming_up, on_state, on_status, on_pull_all, on_pull, reaction_to, operation_for, operation_in}
use Rattle.platform.specs.Receiving.{fresh_standing, answered, laid_out, is_answer, outcome_of, output_of}
use Rattle.mixed.specs.declared.AnyReceived.{AnyReceived}
use Rattle.mixed.specs.declared.AnyReading.{AnyReading}
use Rattle.mixed.specs.declared.AnyReading.TheVariants as reading
use Rattle.mixed.specs.Form.{three_form}
use Rattle.mixed.specs.Reading.{any_of}
use Rattle.mixed.specs.Reaction.{commonly, on_pull3, coming_up3, on_status3, on_services_request, reaction3}
use Rattle.mixed.specs.Replies.{field_message, status_message, start_up_bytes, pairs_of, services_message, deed_bytes, room_for}
use Rattle.mixed.specs.Keeping.{note_number, kept_number}
use Rattle.mixed.specs.Receiving.{is_answer3, settled3, laid3, any_outcome_of, any_output_of}
use Rattle.mixed.specs.Tables.{sections_answer, sections_out}
use Rattle.promises.specs.MixedCalls.{sections}
use Rattle.promises.specs.MixedExchange.{Lent, answer_to, output_to, messages_sent, our_answering, Two, Pair, Exchange, both}
use Rattle.promises.specs.MixedExchange.{Status, first_status, starts_from_a, starts_from_b, statuses_of}
use Rattle.promises.specs.MixedExchange.{starts_from_both, Apart, SilentAfter, StatusSilentAfter, FallSilentBy, Reached, speak_three, speak_six, MixedSilence}
use Rattle.promises.proofs.MixedMeasure.{Shrinks, AtA, AtB, silent-after}
use Rattle.promises.proofs.MixedByTable.{by_table}
use Rattle.promises.proofs.MixedWeights.{cost_pos, weighs_at, BearsAt, IsRefused}
use Rattle.promises.proofs.MixedReplies.{LightAll, none-light, started-light, started-refused}
use Rattle.promises.proofs.MixedHeld.{answer_weight, held, held_le}
use Rattle.promises.proofs.MixedArrivals.{arrival_lighter}
use Rattle.promises.proofs.MixedRuns.{a_hears, b_hears, run}

-- a message that is refused is answered with nothing, by whichever call
module _ (own : ℕ) (i : List ℕ) (c : Lent) (p : Standing) (m : List ℕ) where
  refused-unanswered : (t : List ℕ) (s : Sections) (index : List ℕ) (x : AnyReading) → IsRefused x
      → messages_sent (any_outcome_of own i c.ours t s index p c.list c.services m (length c.output) x)
      (any_output_of own c.stamp c.composite i c.ours t s index p c.services m c.output x) ≡ []
  unfolding any_outcome_of any_output_of
  refused-unanswered t s index (reading.Refused n) q = refl
  refused-unanswered t s index (reading.Six h l start len) q = absurd q
  refused-unanswered t s index (reading.Three h l start len) q = absurd q

  unanswered : IsRefused (any_of i own m) → messages_sent (answer_to own i c p m) (output_to own i c p m) ≡ []
  unanswered r =
      by_table own i c p m (λ (a : AnyReceived) (out : List ℕ). messages_sent a out ≡ []) (λ (n : ℕ). refl)
      (λ (t : List ℕ) (s : Sections) (index : List ℕ). refused-unanswered t s index (any_of i own m) r)

nothing_back : (f g : List ℕ → ℕ) {G : List ℕ → Type 0} {p : Standing} {m : List ℕ} {sent : List (List ℕ)} (q : Standing) → sent ≡ [] → 1 ≤ f m
    → Shrinks f g (λ (x : Standing). 0) G p m q sent
nothing_back f g {G} {p} {m} {sent} q e h =
    subst (λ (ms : List (List ℕ)). Shrinks f g (λ (x : Standing). 0) G p m q ms) (sym e) (record { sum = omega (arith, h); good = tt })

most_three : (x y : Bool) → 1 + answer_weight x + answer_weight y ≤ 9
most_three true true = omega arith
most_three true false = omega arith
most_three false true = omega arith
most_three false false = omega arith

module _ (w : Two) (k : Apart w) where
  abbrev fA : List ℕ → ℕ
  fA m = weighs_at w.threes_of_a w.a m

  abbrev fB : List ℕ → ℕ
  fB m = weighs_at w.threes_of_b w.b m

  abbrev kA : Standing → ℕ
  kA p = held w.a w.threes_of_a w.b p

  abbrev kB : Standing → ℕ
  kB p = held w.b w.threes_of_b w.a p

  abbrev GA : List ℕ → Type 0
  GA m = BearsAt w.threes_of_a w.a w.b m

  abbrev GB : List ℕ → Type 0
  GB m = BearsAt w.threes_of_b w.b w.a m

  posA : (m : List ℕ) → 1 ≤ fA m
  posA m = cost_pos (any_of w.threes_of_a w.a m)

  posB : (m : List ℕ) → 1 ≤ fB m
  posB m = cost_pos (any_of w.threes_of_b w.b m)

  at_a : AtA our_answering w fA fB kA kB GA GB
  at_a c p m g =
      let l = arrival_lighter w.a w.b w.threes_of_a w.threes_of_b p k.one k.other (λ e. k.two (sym e)) c m g in
      record { sum = l.sum; good = l.bear }

  at_b : AtB our_answering w fA fB kA kB GA GB
  at_b c p m g =
      let l = arrival_lighter w.b w.a w.threes_of_b w.threes_of_a p k.other k.one k.two c m g in
      record { sum = l.sum; good = l.bear }

  module _ (p q : Standing) (u : Status) (three : Bool) (most : ℕ)
      (h : 1 + answer_weight (is_three w.threes_of_a w.b) + answer_weight (is_three w.threes_of_b w.a) ≤ most) where
    from-a : SilentAfter our_answering w (starts_from_a w p q three u) most
    from-a =
        let l = started-light w.threes_of_b w.b w.a k.one u three in
        silent-after our_answering w fA fB kA kB GA GB posA posB at_a at_b (starts_from_a w p q three u) most
        (record { to_a = tt; to_b = (l.bears, tt) })
        (omega (arith, h, l.weight, held_le w.a w.threes_of_a w.b p, held_le w.b w.threes_of_b w.a q))

    from-b : SilentAfter our_answering w (starts_from_b w p q three u) most
    from-b =
        let l = started-light w.threes_of_a w.a w.b k.other u three in
        silent-after our_answering w fA fB kA kB GA GB posA posB at_a at_b (starts_from_b w p q three u) most
        (record { to_a = (l.bears, tt); to_b = tt })
        (omega (arith, h, l.weight, held_le w.a w.threes_of_a w.b p, held_le w.b w.threes_of_b w.a q))

  -- any statuses
  statuses-light : (i : List ℕ) (reader own : ℕ) → own < 256 → (us : List (Bool × Status)) → LightAll i reader own (length us) (statuses_of own us)
  statuses-light i reader own small [] = none-light i reader own
  statuses-light i reader own small (u ∷ us) =
      let l = started-light i reader own small u.1 u.0 in
      let m = statuses-light i reader own small us in
      record { weight = omega (arith, l.weight, m.weight); bear = (l.bears, m.bear) }

  from-both : (p q : Standing) (us vs : List (Bool × Status)) → SilentAfter our_answering w (starts_from_both w p q us vs) (8 + length us + length vs)
  from-both p q us vs =
      let l = statuses-light w.threes_of_b w.b w.a k.one us in
      let m = statuses-light w.threes_of_a w.a w.b k.other vs in
      let h = most_three (is_three w.threes_of_a w.b) (is_three w.threes_of_b w.a) in
      silent-after our_answering w fA fB kA kB GA GB posA posB at_a at_b (starts_from_both w p q us vs) (8 + length us + length vs)
      (record { to_a = m.bear; to_b = l.bear })
      (omega (arith, h, l.weight, m.weight, held_le w.a w.threes_of_a w.b p, held_le w.b w.threes_of_b w.a q))

  -- at odds: what is refused is answered with nothing
  abbrev none_kept : Standing → ℕ
  none_kept p = 0

  abbrev Ra : List ℕ → Type 0
  Ra m = IsRefused (any_of w.threes_of_a w.a m)

  abbrev RB : List ℕ → Type 0
  RB m = IsRefused (any_of w.threes_of_b w.b m)

  refused-a : AtA our_answering w fA fB none_kept none_kept Ra RB
  refused-a c p m g = nothing_back fA fB (our_answering.kept w.a w.threes_of_a c p m) (unanswered w.a w.threes_of_a c p m g) (posA m)

  refused-b : AtB our_answering w fA fB none_kept none_kept Ra RB
  refused-b c p m g = nothing_back fB fA (our_answering.kept w.b w.threes_of_b c p m) (unanswered w.b w.threes_of_b c p m g) (posB m)

  module _ (p q : Standing) (u : Status) (three : Bool) where
    at-odds-a : is_three w.threes_of_b w.a ≡ not three → SilentAfter our_answering w (starts_from_a w p q three u) 1
    at-odds-a e =
        let l = started-light w.threes_of_b w.b w.a k.one u three in
        silent-after our_answering w fA fB none_kept none_kept Ra RB posA posB refused-a refused-b (starts_from_a w p q three u) 1
        (record { to_a = tt; to_b = (started-refused w.threes_of_b w.b w.a k.one u three e, tt) }) (omega (arith, l.weight))

    at-odds-b : is_three w.threes_of_a w.b ≡ not three → SilentAfter our_answering w (starts_from_b w p q three u) 1
    at-odds-b e =
        let l = started-light w.threes_of_a w.a w.b k.other u three in
        silent-after our_answering w fA fB none_kept none_kept Ra RB posA posB refused-a refused-b (starts_from_b w p q three u) 1
        (record { to_a = (started-refused w.threes_of_a w.a w.b k.other u three e, tt); to_b = tt }) (omega (arith, l.weight))

other_way : (x y : Bool) → x ≡ not y → y ≡ not x
other_way true true e = e
other_way true false e = refl
other_way false true e = refl
other_way false false e = e

always : (w : Two) → Apart w → (ofA ofB : Bool) → StatusSilentAfter our_answering w ofA ofB 9
always w k ofA ofB p q u =
    let h = most_three (is_three w.threes_of_a w.b) (is_three w.threes_of_b w.a) in
    (from-a w k p q u ofA 9 h, from-b w k p q u ofB 9 h)

two_sixes : (w : Two) → Apart w → is_three w.threes_of_a w.b ≡ false → is_three w.threes_of_b w.a ≡ false → (ofA ofB : Bool)
    → StatusSilentAfter our_answering w ofA ofB 7
two_sixes w k a b ofA ofB p q u =
    let h : 1 + answer_weight (is_three w.threes_of_a w.b) + answer_weight (is_three w.threes_of_b w.a) ≤ 7 = rw (a, b) (omega arith) in
    (from-a w k p q u ofA 7 h, from-b w k p q u ofB 7 h)

at_odds : (w : Two) → Apart w → is_three w.threes_of_a w.b ≡ not (is_three w.threes_of_b w.a)
    → StatusSilentAfter our_answering w (is_three w.threes_of_a w.b) (is_three w.threes_of_b w.a) 1
at_odds w k e p q u =
    let x : Bool = is_three w.threes_of_a w.b in
    let y : Bool = is_three w.threes_of_b w.a in
    (at-odds-a w k p q u x (other_way x y e), at-odds-b w k p q u y e)

pub silent : FallSilentBy our_answering
silent = record { always = always; crossing = from-both; two_sixes = two_sixes; at_odds = at_odds }

-- two platforms that have no services and no operations, with room for what the other tells: both statuses, both requests for services, both pulls,
-- and what answers them
abbrev empty : Section
empty = record { at = 0; count = 0 }

abbrev pub bare : Lent
bare =
    record {
      table = sections [] (record { types = empty; members = empty; values = empty; operations = empty }) [];
      ours = [];
      list = [];
      services = replicate 512 0;
      stamp = record { seconds = 0; nanoseconds = 0 };
      composite = 0;
      output = replicate 88 0;
    }

nine_by_threes : Reached our_answering speak_three speak_three true 9
unfolding all_below word_of with_word bit_of stands_up turned with_own count_below lies_in within bit_in is_three three_form any_of status_message field_message
    services_message start_up_bytes pairs_of deed_bytes room_for all_have_places status_fits note_refusal note_number kept_number commonly on_pull3 coming_up3
    on_status3 on_services_request reaction3 is_answer3 settled3 laid3 any_outcome_of any_output_of sections_answer sections_out
nine_by_threes = (
  _,
  run our_answering (both speak_three speak_three) bare
      (b_hears ∷ a_hears ∷ a_hears ∷ a_hears ∷ b_hears ∷ b_hears ∷ b_hears ∷ b_hears ∷ a_hears ∷ [])
      (starts_from_a (both speak_three speak_three) (fresh_standing 1) (fresh_standing 2) true first_status) refl,
)

-- both statuses, all that is owed for them, and what answers that
ten_by_crossing : (z : Pair) × Exchange our_answering (both speak_three speak_three) 10
    (starts_from_both (both speak_three speak_three) (fresh_standing 1) (fresh_standing 2) ((true, first_status) ∷ []) ((true, first_status) ∷ [])) z
unfolding all_below word_of with_word bit_of stands_up turned with_own count_below lies_in within bit_in is_three three_form any_of status_message field_message
    services_message start_up_bytes pairs_of deed_bytes room_for all_have_places status_fits note_refusal note_number kept_number commonly on_pull3 coming_up3
    on_status3 on_services_request reaction3 is_answer3 settled3 laid3 any_outcome_of any_output_of sections_answer sections_out
ten_by_crossing = (
  _,
  run our_answering (both speak_three speak_three) bare
      (b_hears ∷ a_hears ∷ a_hears ∷ a_hears ∷ a_hears ∷ b_hears ∷ b_hears ∷ b_hears ∷ b_hears ∷ a_hears ∷ [])
      (starts_from_both (both speak_three speak_three) (fresh_standing 1) (fresh_standing 2) ((true, first_status) ∷ []) ((true, first_status) ∷ [])) refl,
)

seven_by_sixes : Reached our_answering speak_six speak_six false 7
unfolding all_below word_of with_word bit_of stands_up turned with_own lies_in within bit_in is_three three_form any_of has_data reply_bytes owed_bytes coming_up on_state
    on_status on_pull_all on_pull reaction_to operation_for operation_in answered laid_out is_answer outcome_of output_of any_outcome_of any_output_of sections_answer
    sections_out
seven_by_sixes = (
  _,
  run our_answering (both speak_six speak_six) bare (b_hears ∷ a_hears ∷ a_hears ∷ b_hears ∷ b_hears ∷ b_hears ∷ a_hears ∷ [])
      (starts_from_a (both speak_six speak_six) (fresh_standing 1) (fresh_standing 2) false first_status) refl,
)

one_at_odds : Reached our_answering speak_three speak_six true 1
unfolding all_below word_of with_word bit_of stands_up turned with_own lies_in within bit_in is_three three_form any_of status_message any_outcome_of any_output_of
    sections_answer sections_out
one_at_odds = (
  _,
  run our_answering (both speak_three speak_six) bare (b_hears ∷ [])
      (starts_from_a (both speak_three speak_six) (fresh_standing 1) (fresh_standing 2) true first_status) refl,
)

pub mixed_silence : MixedSilence
mixed_silence =
    record { silent = silent; nine_by_threes = nine_by_threes; ten_by_crossing = ten_by_crossing; seven_by_sixes = seven_by_sixes; one_at_odds = one_at_odds }

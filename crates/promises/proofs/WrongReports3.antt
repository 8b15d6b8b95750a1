-- Platforms that report something else of a message of Issue 3: one operation of a small table, computed.
-- Assumes nothing.
use Prim.Native.Nat.{ℕ, ◌≤◌}
use mathlib.Core.Path.{◌≡◌, refl, sym, ap, subst, ◌∙◌}
use mathlib.Core.List.{List, [], ◌∷◌}
use native.Mathlib.Omega.{arith}
use Rattle.operations.specs.Entries.{width_of, kind_at, op_width, op_place, id_at}
use Rattle.operations.specs.Search.{first_below, operation_of}
use Rattle.message3.specs.declared.Header3.{Header3}
use Rattle.message3.specs.declared.Message3.TheVariants.{Operation, AvailabilityStatusRequest}
use Rattle.message3.specs.Platform.{kind_in3}
use Rattle.partners.specs.Threes.{bit_in, is_three, with_three, three_set, listed}
use Rattle.platform.specs.declared.reactions.Heard.{Heard}
use Rattle.platform.specs.declared.reactions.Heard.TheVariants as heard
use Rattle.platform.specs.Heard.{start_in}
use Rattle.platform.specs.Receiving.{fresh_standing}
use Rattle.mixed.specs.declared.AnyAnswer.{AnyAnswer}
use Rattle.mixed.specs.declared.AnyAnswer.TheVariants as answer
use Rattle.mixed.specs.declared.reactions.Heard3.{Heard3}
use Rattle.mixed.specs.declared.reactions.Heard3.TheVariants as heard3
use Rattle.mixed.specs.Form.{three_form}
use Rattle.mixed.specs.Reading.{any_of}
use Rattle.promises.specs.Reports3.{Operated3, in_table, not_in_table}
use Rattle.promises.specs.WrongReports.{operation_by}
use Rattle.promises.specs.Owed3.{MixedCall, owed_for3, bytes_owed}
use Rattle.promises.specs.Replies3.{Receiving3, our_outcome, Receives3, NotesBy3, RepliesBy3}
use Rattle.promises.specs.WrongReports3.{reported3, reporting, from20, always_request3, NoWrongReport3}
use Rattle.promises.proofs.SmallTraffic.{octets_are}
use Rattle.promises.proofs.WrongReports.{t, s, id, is_table, no-request, has}

-- operation 0x0A0B0C0D of 2, which speaks Issue 3, with two bytes of payload
abbrev operation_of2 : List ℕ
operation_of2 =
    0xEC ∷ 0x0A ∷ 0x11 ∷ 2 ∷ 0x0A ∷ 0x0B ∷ 0x0C ∷ 0x0D ∷ 0 ∷ 0 ∷ 0 ∷ 5 ∷ 0 ∷ 0 ∷ 0 ∷ 6 ∷ 0 ∷ 0 ∷ 0 ∷ 2 ∷ 0 ∷ 0 ∷ 0 ∷ 9 ∷ 0 ∷ 1 ∷ []

abbrev h : Header3
h = record { domain = 1; platform = 2; id = id; seconds = 5; nanoseconds = 6; payload_size = 2; sequence = 9 }

abbrev c : MixedCall
c =
    record {
      own = 1;
      stamp = record { seconds = 2; nanoseconds = 2 };
      composite = 99;
      partners = listed (2 ∷ []);
      ours = [];
      table = t;
      standing = fresh_standing 1;
      pending = [];
      services = [];
      message = operation_of2;
      output = [];
    }

receives : Receives3 c s h Operation
unfolding any_of three_form bit_in is_three with_three three_set listed
receives =
    record {
      widths = record { platform = omega arith; next = omega arith; seconds = omega arith; nanoseconds = omega arith; composite = omega arith };
      bytes = octets_are operation_of2 refl;
      table = is_table;
      start = 24;
      len = 2;
      read = refl;
      no_response = λ k. no-request;
    }

nothing_owed : owed_for3 c s h Operation ≡ []
unfolding operation_of first_below id_at op_place op_width width_of kind_at
nothing_owed = refl

not_asked : ¬ (Operation ≡ AvailabilityStatusRequest 0xFFFFFFFF)
not_asked e = let z : ◌≡◌ {A = ℕ} 5 7 = ap kind_in3 e in omega arith

abbrev start_seen : Heard3 → ℕ
start_seen (heard3.Common x) = start_in x
start_seen (heard3.Status x composite) = 0
start_seen (heard3.Services n) = 0
start_seen (heard3.ServicesRequest x) = 0
start_seen (heard3.ServiceNotAvailable x) = 0
start_seen (heard3.CompositeChange composite) = 0
start_seen (heard3.CompositeAnswer a) = 0

abbrev heard_in : AnyAnswer → Heard3
heard_in (answer.Refused n) = heard3.Services 0
heard_in (answer.Six h x n) = heard3.Services 0
heard_in (answer.SixResponse h i start len) = heard3.Services 0
heard_in (answer.Three h x n) = x
heard_in (answer.ThreeResponse h i start len) = heard3.Services 0

-- what such a platform must report
module _ (X : Receiving3) (r : RepliesBy3 X) where
  notes : NotesBy3 X c s h Operation (bytes_owed (owed_for3 c s h Operation))
  notes = r.fit c s h Operation receives (λ e. absurd (not_asked e)) tt (subst (λ o. bytes_owed o ≤ 0) (sym nothing_owed) (omega arith))

  start_is : start_seen (heard_in (X.outcome c).answer) ≡ 24
  start_is = ap (λ (a : AnyAnswer). start_seen (heard_in a)) notes.answer ∙ go notes.reports
    where
      go : Operated3 t s id operation_of2 notes.heard → start_seen notes.heard ≡ 24
      go (in_table i k e q) = ap start_seen e
      go (not_in_table n e) = absurd (n 1 has)

-- a report that never has this start
module _ (g : Heard3 → Heard3) (never : (x : Heard3) → start_seen (g x) ≤ 20) where
  in-answer : (a : AnyAnswer) → start_seen (heard_in (reported3 g a)) ≤ 20
  in-answer (answer.Refused n) = omega arith
  in-answer (answer.Six h x n) = omega arith
  in-answer (answer.SixResponse h i start len) = omega arith
  in-answer (answer.Three h x n) = never x
  in-answer (answer.ThreeResponse h i start len) = omega arith

  no-report : RepliesBy3 (reporting g) → ⊥
  no-report r = omega (arith, in-answer (our_outcome c).answer, start_is (reporting g) r)

common : (x : Heard) → start_in (operation_by (λ i. i) (λ start. 20) x) ≤ 20
common (heard.Status x) = omega arith
common heard.Request = omega arith
common (heard.UnknownOperation id) = omega arith
common heard.PullOfAll = omega arith
common (heard.PullOfOne id i) = omega arith
common (heard.NotVersionedData id) = omega arith
common (heard.Operation i start len) = omega arith
common (heard.NotInTable id) = omega arith

at_20 : (x : Heard3) → start_seen (from20 x) ≤ 20
at_20 (heard3.Common x) = common x
at_20 (heard3.Status x composite) = omega arith
at_20 (heard3.Services n) = omega arith
at_20 (heard3.ServicesRequest id) = omega arith
at_20 (heard3.ServiceNotAvailable id) = omega arith
at_20 (heard3.CompositeChange composite) = omega arith
at_20 (heard3.CompositeAnswer a) = omega arith

pub no_wrong_report3 : NoWrongReport3
no_wrong_report3 = record { payload_from_20 = no-report from20 at_20; always-request = no-report always_request3 (λ x. omega arith) }

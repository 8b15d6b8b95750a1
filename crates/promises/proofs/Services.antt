-- Services and set-up: the laws of `services` and `partners`, in the words of the statement.
-- Assumes nothing.
use Prim.Native.Nat.{ℕ}
use mathlib.Core.Path.{◌≡◌, refl, sym, ap, ◌∙◌}
use mathlib.Core.Bool.{Bool, true, false, true≢false}
use mathlib.Core.List.{List}
use native.Mathlib.Omega.{arith}
use Rattle.wire.specs.Bytes.{Octets}
use Rattle.services.specs.declared.Availability.{Availability}
use Rattle.services.specs.declared.Availability.TheVariants.{Unheard, Unavailable, Available}
use Rattle.services.specs.Word.{told_state}
use Rattle.services.specs.Block.{availability_in, status_noted, marked, status_fits}
use Rattle.services.specs.Known.{known, is_heard, NoneTwice, when_down}
use Rattle.services.proofs.Exactly.{fits-exactly}
use Rattle.services.proofs.Afterwards.{fresh_packed, fresh_unheard, never-named, last-named, by-fitting, no-refusal, refusal_keeps, not_noted}
use Rattle.services.proofs.Afterwards.{noted-state, noted-known, noted-packed, noted_long}
use Rattle.services.proofs.WentDown.{marked_long, marked_known, marked_packed, marked_state, known_heard}
use Rattle.services.proofs.EachOnce.{once_named, once_fresh}
use Rattle.partners.proofs.Counting.{above_is_none, among-them, blocks-apart}
use Rattle.partners.proofs.SettingUp.{is_set, others_stay, above_sets_nothing, none_in, just_those}
use Rattle.promises.specs.Services.{our_keeping, pair_count, KemptBlock, Arises, start, status, went_down, ServicesBy, SetUp, Services}

-- what every call leaves
pub after_note : (b s : List ℕ) → Octets s → KemptBlock b → KemptBlock (status_noted b s)
after_note b s o k =
    record {
      whole = noted_long b s ∙ k.whole;
      packed = noted-packed b s o k.packed;
      once = go (status_fits b s) refl;
    }
  where
    go : (t : Bool) → status_fits b s ≡ t → NoneTwice (known (status_noted b s))
    go true f = rw (noted-known b s o k.packed f) (once_named (known b) s (pair_count s) k.once)
    go false f = rw (not_noted b s f) k.once

pub after_down : (b : List ℕ) → KemptBlock b → KemptBlock (marked b)
after_down b k =
    record { whole = marked_long b ∙ k.whole; packed = marked_packed b k.packed; once = rw (marked_known b) k.once }

block : (b : List ℕ) → Arises our_keeping b → KemptBlock b
block b start = record { whole = refl; packed = fresh_packed 256; once = once_fresh 256 }
block b (status {b = a} s o r) = after_note a s o (block a r)
block b (went_down {b = a} r) = after_down a (block a r)

-- a service that is known, and one that is not
is_unheard : (a : Availability) → is_heard a ≡ false → a ≡ Unheard
is_unheard Unheard e = refl
is_unheard Unavailable e = absurd (true≢false e)
is_unheard Available e = absurd (true≢false e)

pub is_marked : (a : Availability) → ¬ (a ≡ Unheard) → when_down a ≡ Unavailable
is_marked Unheard h = absurd (h refl)
is_marked Unavailable h = refl
is_marked Available h = refl

kept : ServicesBy our_keeping
unfolding told_state
kept =
    record {
      block = block;
      exactly = λ b s k o. by-fitting b s _ (fits-exactly b s o k.packed k.whole);
      keeps = λ b s h. refusal_keeps b s h;
      last_pair = λ b s k o e i l h.
          noted-state b s o k.packed (no-refusal b s e) _ ∙ last-named (availability_in b _) s _ (pair_count s) i l refl h;
      others = λ b s k o e x h. noted-state b s o k.packed (no-refusal b s e) x ∙ never-named (availability_in b x) s x (pair_count s) h;
      down_known = λ b x h. marked_state b x ∙ is_marked (availability_in b x) h;
      down_unheard = λ b x e. marked_state b x ∙ ap when_down e;
    }

set_up : SetUp
set_up =
    record {
      just_those = just_those;
      unsaid = none_in 4;
      without_words = none_in 0;
      above = above_is_none;
      one_set = λ w k three l h. is_set w k three h (omega arith);
      others_stay = others_stay;
      above_sets_nothing = above_sets_nothing;
      in_turn = among-them;
      apart = blocks-apart;
    }

pub services : Services
services =
    record {
      kept = kept;
      at_start = fresh_unheard 256;
      unheard = λ b x e. is_unheard (availability_in b x) (sym (known_heard b x) ∙ e);
      heard = λ b x e q. true≢false (sym e ∙ known_heard b x ∙ ap is_heard q);
      set_up = set_up;
    }

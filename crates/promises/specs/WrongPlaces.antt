-- Packing and unpacking that answer as ours do but for the place, or the leaves before it. None of them meets the laws of Places.
-- The theorems are in proofs/WrongPlaces.antt.
use Rattle.std.specs.Prelude.{ℕ, ◌+◌, ◌-◌, ◌≤◌, Bool, false, cond, ◌||◌, List, [], eqb, length}
use Rattle.std.specs.Prelude.{Result, Ok, Err}
use Rattle.refusal.specs.declared.Refusal.{Refusal}
use Rattle.table.specs.declared.Sections.{Sections}
use Rattle.table.specs.Entries.{array_kind, type_at}
use Rattle.types.specs.Table.{checked}
use Rattle.walk.specs.declared.Walked.{Walked}
use Rattle.walk.specs.declared.Walked.TheVariants as walked
use Rattle.walk.specs.Walk.{start, answer, type_walk}
use Rattle.pack.specs.Writing.{writer}
use Rattle.payload.specs.declared.Spot.{Spot}
use Rattle.payload.specs.declared.Answer.{Answer}
use Rattle.payload.specs.declared.Answer.TheVariants.{Refused, Stopped, Gave}
use Rattle.payload.specs.Calls.{unpacked, words_after, packed, bytes_after}
use Rattle.promises.specs.Payloads.{Coding}
use Rattle.promises.specs.Places.{PlacesBy}

-- another spot for ours, by the number
abbrev pub respot : (ℕ → Spot → Spot) → Answer → Answer
respot f (Refused k) = Refused k
respot f (Stopped k o) = Stopped k (f k o)
respot f (Gave k) = Gave k

abbrev pub unpacking_says : (List ℕ → ℕ → List ℕ → ℕ → Spot → Spot) → Coding
unpacking_says f =
    record {
      packs = packed;
      bytes_left = bytes_after;
      unpacks = λ t i b room. respot (f t i b) (unpacked t i b room);
      words_left = words_after;
    }

abbrev pub packing_says : (List ℕ → ℕ → List ℕ → ℕ → Spot → Spot) → Coding
packing_says f =
    record {
      packs = λ t i ws room. respot (f t i ws) (packed t i ws room);
      bytes_left = bytes_after;
      unpacks = unpacked;
      words_left = words_after;
    }

-- of a refused item: so many bytes behind its first, and so many leaves more, as if it were completed
abbrev pub is_refused : ℕ → Bool
is_refused k = eqb k 42 || eqb k 43

abbrev pub behind_it : ℕ → ℕ → Coding
behind_it far more = unpacking_says (λ t i b k o. cond (is_refused k) (record { at = o.at + far; leaves = o.leaves + more }) o)

-- the count of an array is not among the leaves: one less, of arrays
abbrev pub is_array : Result Sections Refusal → List ℕ → ℕ → Bool
is_array (Err k) t i = false
is_array (Ok s) t i = eqb (type_at t s i).kind array_kind

abbrev pub uncounted : Coding
uncounted = unpacking_says (λ t i b k o. cond (is_array (checked t) t i) (record { at = o.at; leaves = o.leaves - 1 }) o)

-- 41 at the payload's end; and 40, though a leaf may be cut
abbrev pub at_its_end : ℕ → Coding
at_its_end n = unpacking_says (λ t i b k o. cond (eqb k n) (record { at = length b; leaves = o.leaves }) o)

-- packing gives the byte of the output: how far the walk has written
abbrev pub written_to : Walked → ℕ
written_to (walked.Went q) = q.to
written_to (walked.Stopped k q) = q.to

abbrev pub byte_of : Result Sections Refusal → List ℕ → ℕ → List ℕ → ℕ
byte_of (Err k) t i ws = 0
byte_of (Ok s) t i ws = written_to (answer (type_walk (writer ws) t s i start []))

abbrev pub output_byte : Coding
output_byte = packing_says (λ t i ws k o. record { at = byte_of (checked t) t i ws; leaves = o.leaves })

pub record NoWrongPlace : Type 0 where
  pub behind-it : (far more : ℕ) → 1 ≤ far + more → PlacesBy (behind_it far more) → ⊥
  pub uncounted_counts : PlacesBy uncounted → ⊥
  pub left_over_at_end : PlacesBy (at_its_end 41) → ⊥
  pub cut_at_end : PlacesBy (at_its_end 40) → ⊥
  pub output-byte : PlacesBy output_byte → ⊥

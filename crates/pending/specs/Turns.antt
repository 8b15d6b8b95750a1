-- 02, request 1: "Over any calls the list answers as a plain map does." A turn is what one call does with the list; what a list tells
-- over any turns from fresh, the plain map tells. The theorems are in proofs/Turning.
use Rattle.std.specs.Prelude.{◌≡◌, ℕ, ◌^◌, ◌<◌, Bool, true, false, List, [], ◌∷◌, length}
use Rattle.std.specs.Prelude.{Option, Some, None}
use Prim.{Unit}
use Rattle.pending.specs.Places.{target_at, free_place, entered_at}
use Rattle.pending.specs.Free.{is_pending, next_free, IsNextFree}
use Rattle.pending.specs.Answers.{awaited_of, cancelled, is_response, responded}
use Rattle.pending.specs.PlainMap.{Map, taken, asks, inserted, deleted, Once}

-- a request is made, where `next` is the next own number; given up; a message arrives that may be its response; it is asked for
pub data Turn : Type 0 where
  request : (next id target : ℕ) → Turn
  give_up : (n : ℕ) → Turn
  arrival : (n id sender : ℕ) → Turn
  ask : (n : ℕ) → Turn

-- next own number, ID and target have 32 bits
abbrev pub Narrow : Turn → Type 0
Narrow (request next id target) = (next < 2 ^ 32) × ((id < 2 ^ 32) × (target < 2 ^ 32))
Narrow (give_up n) = Unit {0}
Narrow (arrival n id sender) = Unit {0}
Narrow (ask n) = Unit {0}

pub data Told : Type 0 where
  full : Told
  numbered : ℕ → Told
  whether : Bool → Told
  what : Option (ℕ × ℕ) → Told

-- the list
abbrev pub numbered_at : Option ℕ → ℕ → Told
numbered_at (Some k) n = numbered n
numbered_at None n = full

abbrev pub list_after : List ℕ → Turn → List ℕ
list_after l (request next id target) = entered_at l (free_place l) (next_free l next) id target
list_after l (give_up n) = cancelled l n
list_after l (arrival n id sender) = responded l n id sender
list_after l (ask n) = l

abbrev pub list_tells : List ℕ → Turn → Told
list_tells l (request next id target) = numbered_at (free_place l) (next_free l next)
list_tells l (give_up n) = whether (is_pending l n)
list_tells l (arrival n id sender) = whether (is_response l n id sender)
list_tells l (ask n) = what (awaited_of l n)

-- the map: what it can tell of a turn, and the map afterwards
pub data MapTurn : Map → Turn → Told → Map → Type 0 where
  refuses : {m : Map} {next id target : ℕ} → m.count ≡ 64 → MapTurn m (request next id target) full m
  enters : {m : Map} {next id target n : ℕ} → m.count < 64 → IsNextFree (taken m) next n
      → MapTurn m (request next id target) (numbered n) (inserted m n id target)
  forgets : {m : Map} {n : ℕ} → MapTurn m (give_up n) (whether (taken m n)) (deleted m n)
  delivers : {m : Map} {n id sender : ℕ} → asks (m.under n) id sender ≡ true → MapTurn m (arrival n id sender) (whether true) (deleted m n)
  passes : {m : Map} {n id sender : ℕ} → asks (m.under n) id sender ≡ false → MapTurn m (arrival n id sender) (whether false) m
  looks : {m : Map} {n : ℕ} → MapTurn m (ask n) (what (m.under n)) m

-- over any turns
abbrev pub AllNarrow : List Turn → Type 0
AllNarrow [] = Unit {0}
AllNarrow (t ∷ ts) = Narrow t × AllNarrow ts

abbrev pub list_tells_all : List ℕ → List Turn → List Told
list_tells_all l [] = []
list_tells_all l (t ∷ ts) = list_tells l t ∷ list_tells_all (list_after l t) ts

abbrev pub list_after_all : List ℕ → List Turn → List ℕ
list_after_all l [] = l
list_after_all l (t ∷ ts) = list_after_all (list_after l t) ts

-- what no turns from fresh undo: no number stands twice, and every target is a platform's number
pub record Kempt (l : List ℕ) : Type 0 where
  pub whole : length l ≡ 128
  pub once : Once l
  pub targets : (k : ℕ) → k < 64 → target_at l k < 2 ^ 32

pub data MapRun : Map → List Turn → List Told → Type 0 where
  ended : {m : Map} → MapRun m [] []
  then : {m n : Map} {t : Turn} {ts : List Turn} {a : Told} {bs : List Told} → MapTurn m t a n → MapRun n ts bs → MapRun m (t ∷ ts) (a ∷ bs)

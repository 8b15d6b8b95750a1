-- 02, request 1: "Over any calls the list answers as a plain map does." The map has no places: it tells what was asked under each
-- number, and how many numbers there are. `LikeMap` is what a list and its map have in common; proofs/AsMap shows that a fresh list
-- has it with the empty map, and that every call keeps it and answers as the map does.
use Rattle.std.specs.Prelude.{◌≡◌, ℕ, ◌+◌, ◌-◌, ◌<◌, Bool, true, false, cond, not, ◌&&◌, List, length, replicate, ◌==◌, ◌≢◌}
use Rattle.std.specs.Prelude.{Option, Some, None}
use Rattle.pending.specs.Places.{number_at}
use Rattle.pending.specs.Answers.{awaited_of}
use Rattle.pending.specs.Counted.{how_many}

pub record Map : Type 0 where
  pub under : ℕ → Option (ℕ × ℕ)
  pub count : ℕ

abbrev pub is_asked : Option (ℕ × ℕ) → Bool
is_asked (Some (id, target)) = true
is_asked None = false

-- whether it is this operation of this platform
abbrev pub asks : Option (ℕ × ℕ) → ℕ → ℕ → Bool
asks (Some (i, t)) id target = i == id && t == target
asks None id target = false

abbrev pub taken : Map → ℕ → Bool
taken m n = is_asked (m.under n)

abbrev pub empty_map : Map
empty_map = record { under = λ n. None; count = 0 }

abbrev pub inserted : Map → ℕ → ℕ → ℕ → Map
inserted m n id target = record { under = λ x. cond (x == n) (Some (id, target)) (m.under x); count = m.count + 1 }

abbrev pub deleted : Map → ℕ → Map
deleted m n = record { under = λ x. cond (x == n) None (m.under x); count = m.count - cond (taken m n) 1 0 }

-- a fresh platform has asked nothing
abbrev pub fresh_list : List ℕ
fresh_list = replicate 128 0

abbrev pub used : List ℕ → ℕ → Bool
used l k = not (number_at l k == 0)

-- no number stands twice
abbrev pub Once : List ℕ → Type 0
Once l = (j k : ℕ) → j < 64 → k < 64 → (number_at l j ≢ 0) → number_at l j ≡ number_at l k → j ≡ k

-- no number stands twice, a look at the list finds what the map has, and as many places are used as the map counts
pub record LikeMap (l : List ℕ) (m : Map) : Type 0 where
  pub whole : length l ≡ 128
  pub once : Once l
  pub looked : (n : ℕ) → awaited_of l n ≡ m.under n
  pub counted : how_many (used l) 64 ≡ m.count

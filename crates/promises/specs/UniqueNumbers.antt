-- 01, "What the promises have to say": two outcomes that one promise allows are equal, for the functions of `wire` on a number of any width,
-- over their very contracts: for every type that is a `Number`, with what it says of itself (`N`). What stands for a number is the same; and
-- so is the answer, where what stands for one number is one value, as the trait's law `apart` has it; of `u8` to `u64` without more ado
-- (`UniqueUnsigned`). The theorems are in proofs/UniqueNumbers.antt.
use Rattle.std.specs.Prelude.{◌≡◌, ℕ}
use mir.Syntax.{Width, Dict, w8, w16, w32, w64}
use denote.Plain.{UInt}
use denote.RattleType.{RattleType}
use denote.Param.Laws.{Laws, IsCopy}
use Rattle.std.specs.declared.clone.Clone.{Ghosts as Clones}
use Rattle.wire.specs.declared.Number.{Ghosts as Numbers}
use Rattle.wire.proofs.number_at.Reads.{Post as wire-number-at}
use Rattle.wire.proofs.whole_at.Reads.{Post as wire-whole-at}
use Rattle.wire.proofs.put_number.Reads.{Post as wire-put-number}
use Rattle.wire.proofs.order.Number.width.Reads.{Post as wire-width}
use Rattle.wire.proofs.order.Number.of_bytes.Reads.{Post as wire-of-bytes}
use Rattle.wire.proofs.order.Number.to_bytes.Reads.{Post as wire-to-bytes}
use Rattle.wire.proofs.order.Number.by_halves.Reads.{Post as wire-by-halves}
use Rattle.promises.specs.Unique.{Same, Answer, Lent}

module _ (T : RattleType) (L : Laws T) (C : IsCopy T) (N : Numbers T.Denot) (d : Dict) (K : Clones T.Denot) (c : Dict) where
  -- what is read and what is written, and the steps between a number and its bytes
  pub record UniqueNumbers : Type 0 where
    pub number_at : Same (wire-number-at T L C N d K c) (λ k z e. N.value z)
    pub whole_at : Same (wire-whole-at T L C N d K c) (λ k z e. N.value z)
    pub put_number_s : Lent (wire-put-number T L C N d K c) (λ k e. e.0.now)
    pub width : Answer (wire-width T L C N d K c)
    pub of_bytes : Same (wire-of-bytes T L C N d K c) (λ k z e. N.value z)
    pub to_bytes : Answer (wire-to-bytes T L C N d K c)
    pub by_halves : Same (wire-by-halves T L C N d K c) (λ k z e. N.value z)

  -- the trait's law, which each impl proves: of `u8` to `u64` the value is the number itself
  abbrev pub Apart : Type 0
  Apart = (x y : T.Denot) → N.value x ≡ N.value y → x ≡ y

  -- the answers themselves
  pub record UniqueReading : Type 0 where
    pub number_at : Answer (wire-number-at T L C N d K c)
    pub whole_at : Answer (wire-whole-at T L C N d K c)
    pub of_bytes : Answer (wire-of-bytes T L C N d K c)
    pub by_halves : Answer (wire-by-halves T L C N d K c)

-- what the impls of `u8` to `u64` say of themselves: 2 ^ k bytes, and the value is the number itself
abbrev pub itself : ℕ → Numbers ℕ
itself k = record { exponent = k; value = λ x. x }

-- the answers at one of these types, with whatever else a call hands over
abbrev pub UniqueAt : Width → ℕ → Type 2
UniqueAt w k = (L : Laws (UInt w)) (C : IsCopy (UInt w)) (d : Dict) (K : Clones ℕ) (c : Dict) → UniqueReading (UInt w) L C (itself k) d K c

pub record UniqueUnsigned : Type 2 where
  pub u8 : UniqueAt w8 0
  pub u16 : UniqueAt w16 1
  pub u32 : UniqueAt w32 2
  pub u64 : UniqueAt w64 3

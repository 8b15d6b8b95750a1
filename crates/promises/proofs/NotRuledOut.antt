-- What demand 3 alone leaves open.
-- Assumes nothing.
use Prim.Native.Nat.{ℕ}
use Rattle.std.specs.Prelude.{Result, Ok, Err}
use Rattle.refusal.specs.declared.Refusal.{Refusal}
use mathlib.Core.Path.{◌≡◌, refl, ap, ap₂, ◌∙◌}
use mathlib.Core.Bool.{cond}
use mathlib.Core.List.{List, [], ◌∷◌, ◌++◌}
use Rattle.channel.specs.declared.Outcome.{Outcome}
use Rattle.channel.specs.declared.Outcome.TheVariants.{Repeated, Delivered, Held, Stray, TooLong}
use Rattle.joiner.specs.declared.Joiner.{Joiner}
use Rattle.joiner.specs.Take.{message_of}
use Rattle.promises.specs.Traffic.{Datagram, is_of, handed_back, fresh, our_joining, delivered_by}
use Rattle.promises.specs.Demand3.{Demand3For}
use Rattle.promises.specs.NotRuledOut.{saying, one_more_missed, else_stray, NotRuledOut}
use Rattle.promises.proofs.Demand3.{demand_3}

module _ (f : Result Outcome Refusal → Result Outcome Refusal) (same : (o : Result Outcome Refusal) (d rooms : List ℕ) → handed_back (f o) d rooms ≡ handed_back o d rooms) where
  alike : (ids : List ℕ) (k : ℕ) (j : Joiner) (rooms : List ℕ) (ds : List Datagram) → delivered_by (saying f) ids k j rooms ds
      ≡ delivered_by our_joining ids k j rooms ds
  alike ids k j rooms [] = refl
  alike ids k j rooms (d ∷ ds) =
      let t = our_joining.take j rooms d in
      ap₂ ◌++◌ (ap (λ (x : List (List ℕ)). cond (is_of ids k d) x []) (same t.outcome d t.rooms)) (alike ids k t.state t.rooms ds)

  met : Demand3For (saying f)
  met ids R rooms sender traffic g k h = alike ids k (fresh ids R rooms) rooms traffic ∙ demand_3 ids R rooms sender traffic g k h

one_more : (o : Result Outcome Refusal) (d rooms : List ℕ) → handed_back (one_more_missed o) d rooms ≡ handed_back o d rooms
unfolding message_of
one_more (Err n) d rooms = refl
one_more (Ok Repeated) d rooms = refl
one_more (Ok (Delivered m p)) d rooms = refl
one_more (Ok (Held m n)) d rooms = refl
one_more (Ok (Stray m)) d rooms = refl
one_more (Ok (TooLong m)) d rooms = refl

else-stray : (o : Result Outcome Refusal) (d rooms : List ℕ) → handed_back (else_stray o) d rooms ≡ handed_back o d rooms
else-stray (Err n) d rooms = refl
else-stray (Ok Repeated) d rooms = refl
else-stray (Ok (Delivered m p)) d rooms = refl
else-stray (Ok (Held m n)) d rooms = refl
else-stray (Ok (Stray m)) d rooms = refl
else-stray (Ok (TooLong m)) d rooms = refl

pub not_ruled_out : NotRuledOut
not_ruled_out = record { missed_invented = met one_more_missed one_more; stray_for_all_else = met else_stray else-stray }

-- What demand 3 alone leaves open: what `take` says of a datagram that delivers nothing, and how many it says were missed.
use Rattle.std.specs.Prelude.{◌+◌}
use Rattle.std.specs.Prelude.{Result, Ok, Err}
use Rattle.refusal.specs.declared.Refusal.{Refusal}
use Rattle.channel.specs.declared.Outcome.{Outcome}
use Rattle.channel.specs.declared.Outcome.TheVariants.{Repeated, Delivered, Held, Stray, TooLong}
use Rattle.promises.specs.Traffic.{Joining, fresh, our_joining}
use Rattle.promises.specs.Demand3.{Demand3For}
use Rattle.joiner.specs.declared.Joiner.{Joiner}

abbrev pub saying : (Result Outcome Refusal → Result Outcome Refusal) → Joining
saying f =
    record {
      State = Joiner;
      start = fresh;
      take = λ j rooms d.
          record { outcome = f (our_joining.take j rooms d).outcome; state = (our_joining.take j rooms d).state; rooms = (our_joining.take j rooms d).rooms };
    }

-- one more missed than there were
abbrev pub one_more_missed : Result Outcome Refusal → Result Outcome Refusal
one_more_missed (Err n) = Err n
one_more_missed (Ok Repeated) = Ok Repeated
one_more_missed (Ok (Delivered m p)) = Ok (Delivered (m + 1) p)
one_more_missed (Ok (Held m n)) = Ok (Held (m + 1) n)
one_more_missed (Ok (Stray m)) = Ok (Stray (m + 1))
one_more_missed (Ok (TooLong m)) = Ok (TooLong (m + 1))

-- stray wherever nothing is delivered
abbrev pub else_stray : Result Outcome Refusal → Result Outcome Refusal
else_stray (Ok (Delivered m p)) = Ok (Delivered m p)
else_stray (Err n) = Ok (Stray 0)
else_stray (Ok Repeated) = Ok (Stray 0)
else_stray (Ok (Held m n)) = Ok (Stray 0)
else_stray (Ok (Stray m)) = Ok (Stray 0)
else_stray (Ok (TooLong m)) = Ok (Stray 0)

pub record NotRuledOut : Type 0 where
  pub missed_invented : Demand3For (saying one_more_missed)
  pub stray_for_all_else : Demand3For (saying else_stray)

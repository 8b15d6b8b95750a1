-- The numbers that refuse and their names are as many: each name is found by its number, and each number that a name has is given back.
use Rattle.std.proofs.Common.{◌≡◌, ℕ, refl, ap}
use Rattle.refusal.specs.declared.Refusal.{Refusal}
use Rattle.refusal.specs.declared.Refusal.TheVariants.{MessageShort, Mark, Version, Domain, PayloadSize, Sender, PlatformId}
use Rattle.refusal.specs.declared.Refusal.TheVariants.{PlatformLength, PlatformValue, NoRoom, NoJoiner, DatagramLength, DatagramVersion}
use Rattle.refusal.specs.declared.Refusal.TheVariants.{NotSetUp, TableLength, TableCount, TableEntry, TableSize, InputShort, InputLeft}
use Rattle.refusal.specs.declared.Refusal.TheVariants.{Value, ArrayCount, NoType, OutputShort, CannotCut, NoPiece, DatagramRoom}
use Rattle.refusal.specs.declared.Refusal.TheVariants.{ListFull, NotAwaited, NoRequest, ServicesFull}
use Rattle.refusal.specs.Refusal.{number_of, numbered, Back}

pub name-back : (e : Refusal) → Back e
name-back MessageShort = refl
name-back Mark = refl
name-back Version = refl
name-back Domain = refl
name-back PayloadSize = refl
name-back Sender = refl
name-back PlatformId = refl
name-back PlatformLength = refl
name-back PlatformValue = refl
name-back NoRoom = refl
name-back NoJoiner = refl
name-back DatagramLength = refl
name-back DatagramVersion = refl
name-back NotSetUp = refl
name-back TableLength = refl
name-back TableCount = refl
name-back TableEntry = refl
name-back TableSize = refl
name-back InputShort = refl
name-back InputLeft = refl
name-back Value = refl
name-back ArrayCount = refl
name-back NoType = refl
name-back OutputShort = refl
name-back CannotCut = refl
name-back NoPiece = refl
name-back DatagramRoom = refl
name-back ListFull = refl
name-back NotAwaited = refl
name-back NoRequest = refl
name-back ServicesFull = refl

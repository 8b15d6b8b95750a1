-- The numbers that refuse (01, Numbers given back; of 02 those of requests 1 and 8), and the names that the code has for them.
use Rattle.std.specs.Prelude.{◌≡◌, ℕ, zero, suc, ◌/◌, ◌%◌, List, [], ◌∷◌, get_or, Result, Ok, Err}
use Rattle.refusal.specs.declared.Refusal.{Refusal}
use Rattle.refusal.specs.declared.Refusal.TheVariants.{MessageShort, Mark, Version, Domain, PayloadSize, Sender, PlatformId}
use Rattle.refusal.specs.declared.Refusal.TheVariants.{PlatformLength, PlatformValue, NoRoom, NoJoiner, DatagramLength, DatagramVersion}
use Rattle.refusal.specs.declared.Refusal.TheVariants.{NotSetUp, TableLength, TableCount, TableEntry, TableSize, InputShort, InputLeft}
use Rattle.refusal.specs.declared.Refusal.TheVariants.{Value, ArrayCount, NoType, OutputShort, CannotCut, NoPiece, DatagramRoom}
use Rattle.refusal.specs.declared.Refusal.TheVariants.{ListFull, NotAwaited, NoRequest, ServicesFull}

abbrev pub number_of : Refusal → ℕ
number_of MessageShort = 1
number_of Mark = 2
number_of Version = 3
number_of Domain = 4
number_of PayloadSize = 5
number_of Sender = 6
number_of PlatformId = 7
number_of PlatformLength = 8
number_of PlatformValue = 9
number_of NoRoom = 10
number_of NoJoiner = 20
number_of DatagramLength = 21
number_of DatagramVersion = 22
number_of NotSetUp = 23
number_of TableLength = 30
number_of TableCount = 31
number_of TableEntry = 32
number_of TableSize = 33
number_of InputShort = 40
number_of InputLeft = 41
number_of Value = 42
number_of ArrayCount = 43
number_of NoType = 44
number_of OutputShort = 45
number_of CannotCut = 50
number_of NoPiece = 51
number_of DatagramRoom = 52
number_of ListFull = 60
number_of NotAwaited = 61
number_of NoRequest = 62
number_of ServicesFull = 63

-- the names of ten numbers, the first of which is ten times so many; 0 is no refusal's
abbrev pub decade : ℕ → List Refusal
decade zero =
    MessageShort ∷ MessageShort ∷ Mark ∷ Version ∷ Domain ∷ PayloadSize ∷ Sender ∷ PlatformId ∷ PlatformLength ∷ PlatformValue ∷ []
decade (suc zero) = NoRoom ∷ []
decade (suc (suc zero)) = NoJoiner ∷ DatagramLength ∷ DatagramVersion ∷ NotSetUp ∷ []
decade (suc (suc (suc zero))) = TableLength ∷ TableCount ∷ TableEntry ∷ TableSize ∷ []
decade (suc (suc (suc (suc zero)))) = InputShort ∷ InputLeft ∷ Value ∷ ArrayCount ∷ NoType ∷ OutputShort ∷ []
decade (suc (suc (suc (suc (suc zero))))) = CannotCut ∷ NoPiece ∷ DatagramRoom ∷ []
decade n = ListFull ∷ NotAwaited ∷ NoRequest ∷ ServicesFull ∷ []

-- the refusal that has the number; where none has it, any
abbrev pub numbered : ℕ → Refusal
numbered n = get_or (decade (n / 10)) (n % 10) ServicesFull

-- what a call answers that refuses with the number, or with none where it is 0
abbrev pub verdict_of : ℕ → Result Unit Refusal
verdict_of zero = Ok tt
verdict_of (suc n) = Err (numbered (suc n))

-- an answer that is refused with a number
abbrev pub refused : {A : Type 0} → ℕ → Result A Refusal
refused n = Err (numbered n)

-- each number that a name has is that name's
abbrev pub Back : Refusal → Type 0
Back e = numbered (number_of e) ≡ e

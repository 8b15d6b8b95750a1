-- Where an input may come from.
use Prim.{Unit}
use Rattle.std.specs.Prelude.{ℕ, ◌≤◌, ◌≡◌, Result, Ok, Err, length}
use Rattle.std.specs.declared.fs.File.{File as Opened}
use Rattle.files.specs.declared.Source.{Source}
use Rattle.files.specs.declared.Source.TheVariants.{StandardInput, File, Missing}
use Rattle.files.specs.declared.Input.{Input}

-- the bytes of the longest name of a file, with the 0 that ends it
abbrev pub path_length : ℕ
path_length = 4096

-- a file is open, as its type says, and its name has at most n bytes
abbrev pub SourceWithin : ℕ → Source → Type 0
SourceWithin n StandardInput = Unit {0}
SourceWithin n (File f k) = k ≤ n
SourceWithin n Missing = Unit {0}

-- what opening a file with a name of n bytes came to is the source: the file, or none
abbrev pub source_of : {E : Type 0} → Result Opened E → ℕ → Source
source_of (Ok f) n = File f n
source_of (Err e) n = Missing

-- its name lies in the path beside it
abbrev pub Opens : Input → Type 0
Opens i = (path_length ≡ length i.path) × SourceWithin path_length i.source

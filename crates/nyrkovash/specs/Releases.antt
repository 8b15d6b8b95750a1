-- docs/DECISIONS.md, 54: a version is three numbers in one that can be compared. The first grows where a struct
-- grows or a call changes its parameters or its meaning, the second where there is more to call, the third where neither is so.
use Rattle.std.specs.Prelude.{ℕ, ◌+◌, ◌*◌}

abbrev pub version_of : ℕ → ℕ → ℕ → ℕ
version_of first second third = first * 10000 + second * 100 + third

abbrev pub library_version : ℕ
library_version = version_of 4 3 1

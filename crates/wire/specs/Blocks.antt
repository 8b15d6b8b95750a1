-- How long a run `wire` copied at once, while it copied by way of an array; no code and no clause names it any more.
use Rattle.std.specs.Prelude.{ℕ}

abbrev pub block_length : ℕ
block_length = 65536

-- The codes of a record's members, read at once: that they are there, and that what reads leaves of these codes reads members.
-- Assumes nothing.
use Prim.Native.Nat.{ℕ, ◌+◌, ◌≤◌, ◌<◌}
use mathlib.Core.Path.{◌≡◌}
use mathlib.Core.List.{List}
use native.Mathlib.Omega.{arith}
use lib.ListN.{length, get_or, take}
use lib.Seq.{get_or-take, length-take-le}
use Rattle.wire.specs.Bytes.{over}
use Rattle.table.specs.declared.Sections.{Sections}
use Rattle.table.specs.declared.Entry.{Entry}
use Rattle.table.specs.Entries.{member_at}
use Rattle.walk.specs.Codes.{code_count, codes_of}
use Rattle.walk.proofs.Codes.{few-codes, codes-fit, codes-as-long, code_is}
use Rattle.unpack_leaves.specs.Steps.{ReadsCodes}
use Rattle.unpack.specs.Reading.{member_read}
use Rattle.unpack.proofs.ReadBases.{base-reads}

module _ (t : List ℕ) (s : Sections) (i : ℕ) (e : Entry) (m r : ℕ) (u v : List ℕ) (counts : r ≡ code_count t s i e m (length u))
    (given : v ≡ over u 0 (codes_of t s i e m (length u))) where
  pub codes-in : r ≤ length v
  codes-in = omega (arith, codes-fit t s i e m r u counts, codes-as-long t s i e m r u counts v given)

  pub all-given : length (take r v) ≡ r
  all-given = length-take-le r v codes-in

  members-in : m ≤ e.count → m + length (take r v) ≤ e.count
  members-in h = omega (arith, all-given, few-codes t s i e m (length u))

  pub members-few : m ≤ e.count → e.count < 65536 → m + length (take r v) ≤ 65535
  members-few h l = omega (arith, members-in h)

  pub upto-in : (n : ℕ) → m ≤ e.count → n ≤ m + length (take r v) → n ≤ e.count
  upto-in n h l = omega (arith, members-in h)

  pub codes-read : (b ps : List ℕ) → ReadsCodes b (take r v) m (member_read b ps t s i e)
  codes-read b ps j q y less there =
      let k : j < r = omega (arith, all-given) in
      base-reads b ps t s i (member_at t s (e.first + (m + j))) (get_or (take r v) j 0)
      (code_is t s i e m r u counts v given j (get_or (take r v) j 0) k (get_or-take r v j 0 k)) q y there

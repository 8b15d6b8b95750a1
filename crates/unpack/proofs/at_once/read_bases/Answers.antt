-- `unpack::at_once::read_bases` meets its contract: what was read of the codes was read of the members.
-- Assumes nothing.
use borrow.Author.Rules.{rules}
use mathlib.Core.Path.{sym}
use lib.ListN.{replicate}
use lib.Seq.{length-take-le}
use Rattle.unpack.proofs.ReadCodes.{codes-in, members-few, upto-in, codes-read}
use Rattle.unpack.proofs.at_once.read_bases.Goals as goal

pub slice_bounds-codes-end : goal.slice_bounds-codes-end
slice_bounds-codes-end c =
    codes-in _ _ _ _ _ _ (replicate 64 0) _ c.base_codes-n.ensures.value c.base_codes-n.ensures.codes_after

pub slice_bounds-read_codes-end : goal.slice_bounds-read_codes-end
slice_bounds-read_codes-end c =
    sym (length-take-le _ _ (codes-in _ _ _ _ _ _ (replicate 64 0) _ c.base_codes-n.ensures.value c.base_codes-n.ensures.codes_after))

pub read_codes-requires : goal.read_codes-requires
read_codes-requires c = (
  c.requires.0,
  members-few _ _ _ _ _ _ (replicate 64 0) _ c.base_codes-n.ensures.value c.base_codes-n.ensures.codes_after c.requires.1 (search rules),
)

pub returns : goal.returns
returns c = λ ps. record {
  onward = c.read_codes.ensures.from_le_upto.0;
  most = upto-in _ _ _ _ _ _ (replicate 64 0) _ c.base_codes-n.ensures.value c.base_codes-n.ensures.codes_after _
      c.requires.1 c.read_codes.ensures.from_le_upto.1;
  here = c.read_codes.ensures.from_le_upto.2;
  as_long = c.read_codes.ensures.words_len_unchanged;
  goes = c.read_codes.ensures.by_index _
      (codes-read _ _ _ _ _ _ (replicate 64 0) _ c.base_codes-n.ensures.value c.base_codes-n.ensures.codes_after _ ps);
}

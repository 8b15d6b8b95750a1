-- `unpack_leaves::bases::word_in` meets its contract: each arm is the rule of its code.
-- Assumes nothing.
use mathlib.Core.Path.{refl}
use Rattle.wire.specs.Bytes.{number}
use Rattle.table.specs.Leaf.{width, base, bytes_of}
use Rattle.leaf.specs.Forms.{word_at, word_of}
use Rattle.unpack_leaves.proofs.OneLeaf.{room_of, at_truth, at-extended, at-number, all_bits, no_word}
use Rattle.unpack_leaves.proofs.bases.word_in.Goals as goal

pub u8_in-requires : goal.u8_in-requires
unfolding width base bytes_of word_at word_of
u8_in-requires c =
    search (room_of 0 1 refl)

pub u8_in-requires-in-1 : goal.u8_in-requires-in-1
unfolding width base bytes_of word_at word_of
u8_in-requires-in-1 c =
    search (room_of 1 1 refl)

pub u8_in-requires-in-2 : goal.u8_in-requires-in-2
unfolding width base bytes_of word_at word_of
u8_in-requires-in-2 c =
    search (room_of 2 1 refl)

pub u16_in-requires : goal.u16_in-requires
unfolding width base bytes_of word_at word_of
u16_in-requires c =
    search (room_of 3 2 refl)

pub u32_in-requires : goal.u32_in-requires
unfolding width base bytes_of word_at word_of
u32_in-requires c =
    search (room_of 4 4 refl)

pub u64_in-requires : goal.u64_in-requires
unfolding width base bytes_of word_at word_of
u64_in-requires c =
    search (room_of 5 8 refl)

pub u8_in-requires-in-6 : goal.u8_in-requires-in-6
unfolding width base bytes_of word_at word_of
u8_in-requires-in-6 c =
    search (room_of 6 1 refl)

pub u8_in-requires-in-7 : goal.u8_in-requires-in-7
unfolding width base bytes_of word_at word_of
u8_in-requires-in-7 c =
    search (room_of 7 1 refl)

pub u16_in-requires-in-8 : goal.u16_in-requires-in-8
unfolding width base bytes_of word_at word_of
u16_in-requires-in-8 c =
    search (room_of 8 2 refl)

pub u32_in-requires-in-9 : goal.u32_in-requires-in-9
unfolding width base bytes_of word_at word_of
u32_in-requires-in-9 c =
    search (room_of 9 4 refl)

pub u64_in-requires-in-10 : goal.u64_in-requires-in-10
unfolding width base bytes_of word_at word_of
u64_in-requires-in-10 c =
    search (room_of 10 8 refl)

pub u32_in-requires-in-11 : goal.u32_in-requires-in-11
unfolding width base bytes_of word_at word_of
u32_in-requires-in-11 c =
    search (room_of 11 4 refl)

pub u64_in-requires-in-12 : goal.u64_in-requires-in-12
unfolding width base bytes_of word_at word_of
u64_in-requires-in-12 c =
    search (room_of 12 8 refl)

pub returns-in-0 : goal.returns-in-0
unfolding width base bytes_of word_at word_of
returns-in-0 c =
    search at_truth

pub returns-in-1 : goal.returns-in-1
unfolding width base bytes_of word_at word_of
returns-in-1 c =
    search (at-extended 1 0 128 (λ s p. refl))

pub returns-in-2 : goal.returns-in-2
unfolding width base bytes_of word_at word_of
returns-in-2 c =
    search (at-number 2 0 (λ s p. refl))

pub returns-in-3 : goal.returns-in-3
unfolding width base bytes_of word_at word_of
returns-in-3 c =
    search (at-extended 3 1 32768 (λ s p. refl))

pub returns-in-4 : goal.returns-in-4
unfolding width base bytes_of word_at word_of
returns-in-4 c =
    search (at-extended 4 2 2147483648 (λ s p. refl))

pub returns-in-5 : goal.returns-in-5
unfolding width base bytes_of word_at word_of
returns-in-5 c =
    search (at-number 5 3 (λ s p. all_bits (number 3 s p)))

pub returns-in-6 : goal.returns-in-6
unfolding width base bytes_of word_at word_of
returns-in-6 c =
    search (at-number 6 0 (λ s p. refl))

pub returns-in-7 : goal.returns-in-7
unfolding width base bytes_of word_at word_of
returns-in-7 c =
    search (at-number 7 0 (λ s p. refl))

pub returns-in-8 : goal.returns-in-8
unfolding width base bytes_of word_at word_of
returns-in-8 c =
    search (at-number 8 1 (λ s p. refl))

pub returns-in-9 : goal.returns-in-9
unfolding width base bytes_of word_at word_of
returns-in-9 c =
    search (at-number 9 2 (λ s p. refl))

pub returns-in-10 : goal.returns-in-10
unfolding width base bytes_of word_at word_of
returns-in-10 c =
    search (at-number 10 3 (λ s p. refl))

pub returns-in-11 : goal.returns-in-11
unfolding width base bytes_of word_at word_of
returns-in-11 c =
    search (at-number 11 2 (λ s p. refl))

pub returns-in-12 : goal.returns-in-12
unfolding width base bytes_of word_at word_of
returns-in-12 c =
    search (at-number 12 3 (λ s p. refl))

pub returns-in_default : goal.returns-in_default
unfolding width base bytes_of word_at word_of
returns-in_default c =
    search no_word

-- 02, request 8: what the partners of Issue 3 told of their services, in the caller's words: a block for each, one behind another in the
-- order of their numbers (`partners`). A block that does not lie whole in the words that are lent is not there.
use Rattle.std.specs.Prelude.{ℕ, ◌+◌, Bool, cond, List, ◌++◌, leb, length, take, drop}
use Rattle.message.specs.Refusal.{no_room}
use Rattle.services.specs.Block.{services, note_refusal, status_noted, marked}
use Rattle.partners.specs.Threes.{block_start}
use Rattle.mixed.specs.declared.reactions.Deed.{Deed}
use Rattle.mixed.specs.declared.reactions.Deed.TheVariants.{Nothing, One, StartUp, TellAll, TellOne, Note, MarkAll}

-- the block of platform k
abbrev pub is_there : List ℕ → ℕ → List ℕ → Bool
is_there i k ws = leb (block_start i k + services) (length ws)

abbrev pub block_of : List ℕ → ℕ → List ℕ → List ℕ
block_of i k ws = take services (drop (block_start i k) ws)

abbrev pub with_block : List ℕ → ℕ → List ℕ → List ℕ → List ℕ
with_block i k ws b = take (block_start i k) ws ++ (b ++ drop services (drop (block_start i k) ws))

-- an AVAILABILITY_STATUS noted, all of it or nothing
unfoldable pub note_number : List ℕ → ℕ → List ℕ → List ℕ → ℕ
note_number i k payload ws = cond (is_there i k ws) (note_refusal (block_of i k ws) payload) no_room

unfoldable pub with_noted : List ℕ → ℕ → List ℕ → List ℕ → List ℕ
with_noted i k payload ws = cond (is_there i k ws) (with_block i k ws (status_noted (block_of i k ws) payload)) ws

-- all services of a platform that went DOWN
unfoldable pub mark_number : List ℕ → ℕ → List ℕ → ℕ
mark_number i k ws = cond (is_there i k ws) 0 no_room

unfoldable pub with_marked : List ℕ → ℕ → List ℕ → List ℕ
with_marked i k ws = cond (is_there i k ws) (with_block i k ws (marked (block_of i k ws))) ws

-- a deed: every other leaves the words as they are, and asks for no block
unfoldable pub kept_number : List ℕ → ℕ → Deed → List ℕ → List ℕ → ℕ
kept_number i k Nothing payload ws = 0
kept_number i k (One r) payload ws = 0
kept_number i k (StartUp n) payload ws = 0
kept_number i k (TellAll n) payload ws = 0
kept_number i k (TellOne n id available) payload ws = 0
kept_number i k Note payload ws = note_number i k payload ws
kept_number i k MarkAll payload ws = mark_number i k ws

unfoldable pub kept_words : List ℕ → ℕ → Deed → List ℕ → List ℕ → List ℕ
kept_words i k Nothing payload ws = ws
kept_words i k (One r) payload ws = ws
kept_words i k (StartUp n) payload ws = ws
kept_words i k (TellAll n) payload ws = ws
kept_words i k (TellOne n id available) payload ws = ws
kept_words i k Note payload ws = with_noted i k payload ws
kept_words i k MarkAll payload ws = with_marked i k ws

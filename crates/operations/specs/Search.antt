-- 02, 4: an operation looked up by its ID, by halving over an index: a word for each operation, in ID order. Where the IDs rise and the
-- index is the table's, what is found is the operation of that ID (`found_first` of proofs/WhereIDsRise); with any index it is an entry
-- that bears the ID and lies within the bytes, or none (`found-bears` of proofs/Halving).
use Rattle.std.specs.Prelude.{ℕ, zero, suc, ◌+◌, ◌-◌, ◌*◌, ◌/◌, ◌%◌, ◌≡◌, cond, ◌&&◌, List, ltb, leb, eqb, length, get_or, set}
use Rattle.std.specs.Prelude.{Option, Some, None}
use Rattle.wire.specs.Bytes.{number}
use Rattle.operations.specs.Entries.{op_width, op_place, id_at}

-- an ID and a place in one word
abbrev pub half : ℕ
half = 4294967296

unfoldable pub index_word : List ℕ → ℕ → ℕ → ℕ
index_word t first i = id_at t first i * half + op_place t first i

-- the words of n entries are laid, as far as there is room; the rest stays
unfoldable pub indexed : List ℕ → ℕ → ℕ → List ℕ → List ℕ
indexed t first zero words = words
indexed t first (suc n) words = set (indexed t first n words) n (index_word t first n)

-- the ID and the place that the m-th word says; a word that is not there is 0
abbrev pub id_in : List ℕ → ℕ → ℕ
id_in index m = get_or index m 0 / half

abbrev pub place_in : List ℕ → ℕ → ℕ
place_in index m = get_or index m 0 % half

-- what the index says is held against the bytes: the whole entry lies within them, and bears the ID
unfoldable pub borne : List ℕ → ℕ → ℕ → ℕ → Option (ℕ × ℕ)
borne t id m p = cond (leb (p + op_width t p) (length t) && eqb (number 2 t p) id) (Some (m, p)) None

-- what a word by itself says of an ID, as the m-th; and what the m-th does
abbrev pub said_by : ℕ → ℕ → ℕ → Option (ℕ × ℕ)
said_by word id m = cond (eqb (word / half) id) (Some (m, word % half)) None

abbrev pub told_by : List ℕ → ℕ → ℕ → Option (ℕ × ℕ)
told_by index id m = said_by (get_or index m 0) id m

-- what an index says of an ID, an entry or none: held against the bytes of any table, it is what is sought there
abbrev pub held_to : List ℕ → ℕ → Option (ℕ × ℕ) → Option (ℕ × ℕ)
held_to t id (Some (m, p)) = borne t id m p
held_to t id None = None

abbrev pub middle : ℕ → ℕ → ℕ
middle base size = base + size / 2

-- the lower end after a look at the middle: there, unless the ID in the middle is above the one that is sought
abbrev pub raised : List ℕ → ℕ → ℕ → ℕ → ℕ
raised index id base size = cond (leb (id_in index (middle base size)) id) (middle base size) base

-- the ID among so many entries from base on, in at most n looks: at the middle, while there are several, and at the last one. How
-- many are left goes by how many there were alone
unfoldable pub halved : List ℕ → List ℕ → ℕ → ℕ → ℕ → ℕ → Option (ℕ × ℕ)
halved t index id zero base size = None
halved t index id (suc n) base size =
    cond (ltb 1 size) (halved t index id n (raised index id base size) (size - size / 2)) (cond (ltb 0 size) (held_to t id (told_by index id base)) None)

-- a count has 16 bits, so that 16 looks leave one entry, and one more tells
abbrev pub most_looks : ℕ
most_looks = 17

unfoldable pub sought_in : List ℕ → List ℕ → ℕ → ℕ → Option (ℕ × ℕ)
sought_in t index count id = halved t index id most_looks 0 count

abbrev pub Says : List ℕ → ℕ → ℕ → Option (ℕ × ℕ) → Type 0
Says index count id r = (t : List ℕ) → held_to t id r ≡ sought_in t index count id

-- the first of the entries below n that bears the ID, by a plain scan; the operation of an ID is the first of all
abbrev pub or_else : Option (ℕ × ℕ) → Option (ℕ × ℕ) → Option (ℕ × ℕ)
or_else (Some (i, p)) y = Some (i, p)
or_else None y = y

unfoldable pub first_below : List ℕ → ℕ → ℕ → ℕ → Option (ℕ × ℕ)
first_below t first id zero = None
first_below t first id (suc n) = or_else (first_below t first id n) (cond (eqb (id_at t first n) id) (Some (n, op_place t first n)) None)

unfoldable pub operation_of : List ℕ → ℕ → ℕ → ℕ → Option (ℕ × ℕ)
operation_of t first count id = first_below t first id count

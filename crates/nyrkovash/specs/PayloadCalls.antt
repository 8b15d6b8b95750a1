-- What unpacking and packing give back: 01's number, and three words: how many words or bytes were given, and for 40 to 43 where (02,
-- request 3). Of the three those that a call does not give stay as they were.
use Rattle.std.specs.Prelude.{ℕ, List, [], ◌∷◌, length, get_or}
use Rattle.table.specs.Words.{sections_in}
use Rattle.payload.specs.declared.Answer.{Answer}
use Rattle.payload.specs.declared.Answer.TheVariants.{Refused, Stopped, Gave}
use Rattle.payload.specs.Calls.{number_given, unpacked, unpacked_in, packed, packed_in}

abbrev pub walked_left : List ℕ → Answer → List ℕ
walked_left was (Refused k) = was
walked_left was (Stopped k s) = get_or was 0 0 ∷ s.at ∷ s.leaves ∷ []
walked_left was (Gave k) = k ∷ get_or was 1 0 ∷ get_or was 2 0 ∷ []

-- a payload b unpacked into words, which are `words_after` afterwards; on sections in their words, `words_in`
abbrev pub unpack_number : List ℕ → ℕ → List ℕ → List ℕ → ℕ
unpack_number t i b words = number_given (unpacked t i b (length words))

abbrev pub unpack_walked : List ℕ → ℕ → List ℕ → List ℕ → List ℕ → List ℕ
unpack_walked t i b words was = walked_left was (unpacked t i b (length words))

abbrev pub unpack_number_in : List ℕ → List ℕ → ℕ → List ℕ → List ℕ → ℕ
unpack_number_in t sections i b words = number_given (unpacked_in t (sections_in sections) i b (length words))

abbrev pub unpack_walked_in : List ℕ → List ℕ → ℕ → List ℕ → List ℕ → List ℕ → List ℕ
unpack_walked_in t sections i b words was = walked_left was (unpacked_in t (sections_in sections) i b (length words))

-- words packed into an output, which is `bytes_after` afterwards; on sections in their words, `bytes_in`
abbrev pub pack_number : List ℕ → ℕ → List ℕ → List ℕ → ℕ
pack_number t i words out = number_given (packed t i words (length out))

abbrev pub pack_walked : List ℕ → ℕ → List ℕ → List ℕ → List ℕ → List ℕ
pack_walked t i words out was = walked_left was (packed t i words (length out))

abbrev pub pack_number_in : List ℕ → List ℕ → ℕ → List ℕ → List ℕ → ℕ
pack_number_in t sections i words out = number_given (packed_in t (sections_in sections) i words (length out))

abbrev pub pack_walked_in : List ℕ → List ℕ → ℕ → List ℕ → List ℕ → List ℕ → List ℕ
pack_walked_in t sections i words out was = walked_left was (packed_in t (sections_in sections) i words (length out))

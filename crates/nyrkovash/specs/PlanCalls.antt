-- 02, request 13: what laying plans out and the calls by plans give back and leave, over words that hold the sections. At a refusal what
-- the caller lent for an answer stays as it was, but for the place that 40 to 43 give (`walked_left`).
use Rattle.std.specs.Prelude.{ℕ, List, length}
use Rattle.std.specs.Prelude.{Result}
use Rattle.refusal.specs.declared.Refusal.{Refusal}
use Rattle.table.specs.Words.{sections_in}
use Rattle.plan.specs.Length as lengths
use Rattle.plan.specs.Layout.{length_in, laid_number, laid_out}
use Rattle.payload.specs.Calls.{number_given}
use Rattle.payload.specs.ByPlans.{unpacked_by, words_by, packed_by, bytes_by}
use Rattle.nyrkovash.specs.PayloadCalls.{walked_left}

-- how many words the plans can take: 30, or 0 and the number
abbrev pub length_left : ℕ → Result ℕ Refusal → ℕ
length_left was x = lengths.left_over_by x was (lengths.words_in x)

abbrev pub plans_length_number : List ℕ → List ℕ → ℕ
plans_length_number t sections = lengths.number_given (length_in t (sections_in sections))

abbrev pub plans_length_given : List ℕ → List ℕ → ℕ → ℕ
plans_length_given t sections was = length_left was (length_in t (sections_in sections))

-- plans laid out in words: 30, 10, or 0 and the plans
abbrev pub plans_number : List ℕ → List ℕ → List ℕ → ℕ
plans_number t sections plans = laid_number t (sections_in sections) (length plans)

abbrev pub plans_left : List ℕ → List ℕ → List ℕ → List ℕ
plans_left t sections plans = laid_out t (sections_in sections) plans

-- by plans, a payload b unpacked into words
abbrev pub unpack_number_by : List ℕ → List ℕ → List ℕ → ℕ → List ℕ → List ℕ → ℕ
unpack_number_by ps t sections i b words = number_given (unpacked_by ps t (sections_in sections) i b (length words))

abbrev pub unpack_words_by : List ℕ → List ℕ → List ℕ → ℕ → List ℕ → List ℕ → List ℕ
unpack_words_by ps t sections i b words = words_by ps t (sections_in sections) i b words

abbrev pub unpack_walked_by : List ℕ → List ℕ → List ℕ → ℕ → List ℕ → List ℕ → List ℕ → List ℕ
unpack_walked_by ps t sections i b words was = walked_left was (unpacked_by ps t (sections_in sections) i b (length words))

-- and words packed into an output
abbrev pub pack_number_by : List ℕ → List ℕ → List ℕ → ℕ → List ℕ → List ℕ → ℕ
pack_number_by ps t sections i words out = number_given (packed_by ps t (sections_in sections) i words (length out))

abbrev pub pack_bytes_by : List ℕ → List ℕ → List ℕ → ℕ → List ℕ → List ℕ → List ℕ
pack_bytes_by ps t sections i words out = bytes_by ps t (sections_in sections) i words out

abbrev pub pack_walked_by : List ℕ → List ℕ → List ℕ → ℕ → List ℕ → List ℕ → List ℕ → List ℕ
pack_walked_by ps t sections i words out was = walked_left was (packed_by ps t (sections_in sections) i words (length out))

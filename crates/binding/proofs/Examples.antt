-- The worked examples of 000, annex A.3.3, computed over the definitions: each header's bytes.
-- Assumes nothing.
use Prim.Native.Nat.{ℕ, ◌+◌, ◌*◌}
use mathlib.Core.Path.{◌≡◌, refl}
use mathlib.Core.List.{List, [], ◌∷◌}
use Rattle.binding.specs.declared.MessagePart.{MessagePart}
use Rattle.binding.specs.declared.MessagePart.TheVariants.{Begin, Middle, End, Whole}
use Rattle.binding.specs.Header.{header_of, header_bytes}

-- platform 1, channel 2 in each
abbrev from : MessagePart → ℕ → List ℕ
from p c = header_bytes (header_of p (1 * 256 + 2) c)

-- Tables 11; 12 and 13; 14, 15 and 16
abbrev headers : List (List ℕ)
headers = from Whole 5 ∷ from Begin 8 ∷ from End 9 ∷ from Begin 302 ∷ from Middle 303 ∷ from End 304 ∷ []

pub header-bytes :
    headers ≡ (0x31 ∷ 2 ∷ 0 ∷ 5 ∷ []) ∷ (0x01 ∷ 2 ∷ 0 ∷ 8 ∷ []) ∷ (0x21 ∷ 2 ∷ 0 ∷ 9 ∷ []) ∷ (0x01 ∷ 2 ∷ 1 ∷ 0x2e ∷ [])
    ∷ (0x11 ∷ 2 ∷ 1 ∷ 0x2f ∷ []) ∷ (0x21 ∷ 2 ∷ 1 ∷ 0x30 ∷ []) ∷ []
header-bytes = refl

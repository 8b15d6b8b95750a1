-- 01, "Values at the edges": the starred cases, each part of each line, as one table with one statement; a refusal with the spot of
-- 02, request 3, which is the start in each: one leaf, or a count. What a case says is `Holds` (specs/Cases.antt); the theorem is in
-- proofs/Starred.antt.
use Rattle.std.specs.Prelude.{List, [], ◌∷◌, ◌++◌, replicate}
use Rattle.std.specs.Prelude.{Ok}
use Rattle.binding.specs.declared.MessagePart.TheVariants.{Begin, End, Whole}
use Rattle.channel.specs.declared.Outcome.TheVariants.{Delivered, Held, TooLong}
use Rattle.channel.specs.declared.Slice.TheVariants.{Rooms}
use Rattle.promises.specs.Cases.{table, uint16, int16, int8, uint8, boolean8, float32, up_to_three, Case, unpacks, unpack_refused}
use Rattle.promises.specs.Cases.{packs, pack_refused, ◌behind◌, cuts, joins, AllHold}

abbrev pub starred : List Case
starred =
    -- uint16 word 258: `01 02`
    packs uint16 (258 ∷ []) (0x01 ∷ 0x02 ∷ [])
    ∷ unpacks uint16 (0x01 ∷ 0x02 ∷ []) (258 ∷ [])
    -- int16 -2: `FF FE`, word 0xFFFFFFFFFFFFFFFE
    ∷ packs int16 (0xFFFFFFFFFFFFFFFE ∷ []) (0xFF ∷ 0xFE ∷ [])
    ∷ unpacks int16 (0xFF ∷ 0xFE ∷ []) (0xFFFFFFFFFFFFFFFE ∷ [])
    -- int8 word 127 packs, 128 is 42, 0xFFFFFFFFFFFFFF80 packs to `80`
    ∷ packs int8 (127 ∷ []) (0x7F ∷ [])
    ∷ pack_refused int8 (128 ∷ []) 42 (0 behind 0)
    ∷ packs int8 (0xFFFFFFFFFFFFFF80 ∷ []) (0x80 ∷ [])
    -- uint8 word 256: 42
    ∷ pack_refused uint8 (256 ∷ []) 42 (0 behind 0)
    -- boolean byte 7: word 1, packs to `01`
    ∷ unpacks boolean8 (7 ∷ []) (1 ∷ [])
    ∷ packs boolean8 (1 ∷ []) (0x01 ∷ [])
    -- float32 `7F 7F FF FF` and `80 00 00 00` pass; `7F 80 00 00` is 42
    ∷ unpacks float32 (0x7F ∷ 0x7F ∷ 0xFF ∷ 0xFF ∷ []) (0x7F7FFFFF ∷ [])
    ∷ packs float32 (0x7F7FFFFF ∷ []) (0x7F ∷ 0x7F ∷ 0xFF ∷ 0xFF ∷ [])
    ∷ unpacks float32 (0x80 ∷ 0x00 ∷ 0x00 ∷ 0x00 ∷ []) (0x80000000 ∷ [])
    ∷ packs float32 (0x80000000 ∷ []) (0x80 ∷ 0x00 ∷ 0x00 ∷ 0x00 ∷ [])
    ∷ unpack_refused float32 (0x7F ∷ 0x80 ∷ 0x00 ∷ 0x00 ∷ []) 42 (0 behind 0)
    ∷ pack_refused float32 (0x7F800000 ∷ []) 42 (0 behind 0)
    -- array of uint8, maximum 3: `00 00 00 00` is the one word 0; count 4 is 43
    ∷ unpacks up_to_three (0 ∷ 0 ∷ 0 ∷ 0 ∷ []) (0 ∷ [])
    ∷ packs up_to_three (0 ∷ []) (0 ∷ 0 ∷ 0 ∷ 0 ∷ [])
    ∷ unpack_refused up_to_three (0 ∷ 0 ∷ 0 ∷ 4 ∷ 1 ∷ 2 ∷ 3 ∷ 4 ∷ []) 43 (0 behind 0)
    ∷ pack_refused up_to_three (4 ∷ 1 ∷ 2 ∷ 3 ∷ 4 ∷ []) 43 (0 behind 0)
    -- 65,503 bytes make one whole piece; 65,504 make two at s = 65,503, the second of 1 byte; counters from
    -- 7, and from M-1, 65,535, on
    ∷ cuts 65503 65503 7 (record { mark = Whole; counter = 7; bytes = 65503 } ∷ [])
    ∷ cuts 65504 65503 65535
    (record { mark = Begin; counter = 65535; bytes = 65503 } ∷ record { mark = End; counter = 0; bytes = 1 } ∷ [])
    -- R = 24: beginning of 24 then end of 1 is too long; 23 then 1 is delivered
    ∷ joins 24
    (record { mark = Begin; counter = 5; piece = replicate 24 0xAA } ∷ record { mark = End; counter = 6; piece = 0xBB ∷ [] } ∷ [])
    (Ok (Held 0 24) ∷ Ok (TooLong 0) ∷ []) []
    ∷ joins 24
    (record { mark = Begin; counter = 5; piece = replicate 23 0xAA } ∷ record { mark = End; counter = 6; piece = 0xBB ∷ [] } ∷ [])
    (Ok (Held 0 23) ∷ Ok (Delivered 0 (Rooms 0 24)) ∷ []) ((replicate 23 0xAA ++ (0xBB ∷ [])) ∷ [])
    -- counter M-1, 65,535, then 0: missed 0
    ∷ joins 24
    (record { mark = Begin; counter = 65535; piece = 0xAA ∷ [] } ∷ record { mark = End; counter = 0; piece = 0xBB ∷ [] } ∷ [])
    (Ok (Held 0 1) ∷ Ok (Delivered 0 (Rooms 0 2)) ∷ []) ((0xAA ∷ 0xBB ∷ []) ∷ [])
    ∷ []

-- every starred case holds
abbrev pub Starred : Type 0
Starred = AllHold table starred

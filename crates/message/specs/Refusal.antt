-- 01, "Numbers given back", 1 to 10: when each is given, in their order.
use Rattle.std.specs.Prelude.{ℕ, zero, suc, ◌+◌, ◌-◌, ◌^◌, List, not, cond, ◌&&◌, eqb, leb, ltb, length}
use Rattle.wire.specs.Bytes.{number}
use Rattle.message.specs.Header.{header_length, the_mark, mark_in, the_version, version_in, platform_domain, reserved_domains}
use Rattle.message.specs.Header.{domain_in, sender_in, id_in, payload_size_in, payload_in}
use Rattle.message.specs.Platform.{platform_status, reserved_id, payload_length, reserved_states}

-- 01's numbers, by name
abbrev pub too_short : ℕ
too_short = 1

abbrev pub wrong_mark : ℕ
wrong_mark = 2

abbrev pub wrong_version : ℕ
wrong_version = 3

abbrev pub reserved_domain : ℕ
reserved_domain = 4

abbrev pub wrong_size : ℕ
wrong_size = 5

abbrev pub wrong_sender : ℕ
wrong_sender = 6

abbrev pub reserved_message : ℕ
reserved_message = 7

abbrev pub wrong_length : ℕ
wrong_length = 8

abbrev pub reserved_value : ℕ
reserved_value = 9

abbrev pub no_room : ℕ
no_room = 10

-- the first of two refusals, 0 being none
abbrev pub first : ℕ → ℕ → ℕ
first zero m = m
first (suc n) m = suc n

-- 1 to 4: what a message shows before anything is asked about its length and its sender
abbrev pub frame_refusal : List ℕ → ℕ
frame_refusal s =
    cond (ltb (length s) header_length) too_short
    (cond (not (eqb (mark_in s) the_mark)) wrong_mark
    (cond (not (eqb (version_in s) the_version)) wrong_version
    (cond (leb reserved_domains (domain_in s)) reserved_domain
    0)))

-- how many platforms have a number and a state here, this one among them
abbrev pub platforms : ℕ
platforms = 256

-- 5 and 6. The sender may be any other number of 32 bits (docs/DECISIONS.md, 4)
abbrev pub address_refusal : ℕ → List ℕ → ℕ
address_refusal own s =
    cond (not (eqb (payload_size_in s) (length s - header_length))) wrong_size
    (cond (eqb (sender_in s) own) wrong_sender
    0)

-- 7 to 9: domain 0 alone is judged here
abbrev pub contents_refusal : ℕ → ℕ → List ℕ → ℕ
contents_refusal domain id payload =
    cond (not (eqb domain platform_domain)) 0
    (cond (reserved_id id) reserved_message
    (cond (not (eqb (length payload) (payload_length id))) wrong_length
    (cond (eqb id platform_status && leb reserved_states (number 2 payload 0)) reserved_value
    0)))

-- reading: the lowest that applies
abbrev pub read_refusal : ℕ → List ℕ → ℕ
read_refusal own s = first (frame_refusal s) (first (address_refusal own s) (contents_refusal (domain_in s) (id_in s) (payload_in s)))

-- writing (docs/DECISIONS.md, 7): 4, then a payload that is too long for the size field, 7 to 9 as in reading, and an output that
-- is shorter than the message
abbrev pub size_limit : ℕ
size_limit = 2 ^ 32

abbrev pub write_refusal : ℕ → ℕ → List ℕ → ℕ → ℕ
write_refusal domain id payload room =
    cond (leb reserved_domains domain) reserved_domain
    (cond (leb size_limit (length payload)) wrong_size
    (first (contents_refusal domain id payload)
    (cond (ltb room (header_length + length payload)) no_room
    0)))

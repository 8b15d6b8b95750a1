-- 01, "Numbers given back", 1 to 10, for a message of Issue 3 (02, request 8: 3 and 7 to 9 "of the sender's issue"): when each is
-- given, in their order. The numbers' names and `first` are those of `message/specs/Refusal`.
use Rattle.std.specs.Prelude.{ℕ, ◌+◌, ◌-◌, List, not, cond, eqb, leb, ltb, length}
use Rattle.message.specs.Header.{the_mark, mark_in, platform_domain, reserved_domains}
use Rattle.message.specs.Refusal.{too_short, wrong_mark, wrong_version, reserved_domain, wrong_size, wrong_sender, reserved_message}
use Rattle.message.specs.Refusal.{wrong_length, reserved_value, no_room, first, size_limit}
use Rattle.message3.specs.Header.{header_length3, the_version3, version_in3, domain_in3, sender_in3, id_in3, payload_size_in3, payload_in3}
use Rattle.message3.specs.Platform.{reserved_id3, payload_length3, reserved_in}

-- 1 to 4: what a message shows before anything is asked about its length and its sender
abbrev pub frame_refusal3 : List ℕ → ℕ
frame_refusal3 s =
    cond (ltb (length s) header_length3) too_short
    (cond (not (eqb (mark_in s) the_mark)) wrong_mark
    (cond (not (eqb (version_in3 s) the_version3)) wrong_version
    (cond (leb reserved_domains (domain_in3 s)) reserved_domain
    0)))

-- 5 and 6
abbrev pub address_refusal3 : ℕ → List ℕ → ℕ
address_refusal3 own s =
    cond (not (eqb (payload_size_in3 s) (length s - header_length3))) wrong_size
    (cond (eqb (sender_in3 s) own) wrong_sender
    0)

-- 7 to 9: domain 0 alone is judged here
abbrev pub contents_refusal3 : ℕ → ℕ → List ℕ → ℕ
contents_refusal3 domain id payload =
    cond (not (eqb domain platform_domain)) 0
    (cond (reserved_id3 id) reserved_message
    (cond (not (eqb (length payload) (payload_length3 id payload))) wrong_length
    (cond (reserved_in id payload) reserved_value
    0)))

-- reading: the lowest that applies
abbrev pub read_refusal3 : ℕ → List ℕ → ℕ
read_refusal3 own s = first (frame_refusal3 s) (first (address_refusal3 own s) (contents_refusal3 (domain_in3 s) (id_in3 s) (payload_in3 s)))

-- writing: 4, then a payload that is too long for the size field, 7 to 9 as in reading, and an output that is shorter than the message
abbrev pub write_refusal3 : ℕ → ℕ → List ℕ → ℕ → ℕ
write_refusal3 domain id payload room =
    cond (leb reserved_domains domain) reserved_domain
    (cond (leb size_limit (length payload)) wrong_size
    (first (contents_refusal3 domain id payload)
    (cond (ltb room (header_length3 + length payload)) no_room
    0)))

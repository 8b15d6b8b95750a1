-- 01, "What the promises have to say": "all refused, or one constant answer", "packing and unpacking by plain copy". None of them
-- meets demand 2. The theorems are in proofs/WrongCodecs.antt.
use Rattle.std.specs.Prelude.{ℕ, ◌≡◌, Bool, cond, ◌&&◌, List, eqb, leb, ltb, length, get_or}
use Rattle.std.specs.Prelude.{Result, Ok, Err}
use Rattle.refusal.specs.declared.Refusal.{Refusal}
use Rattle.table.specs.declared.Sections.{Sections}
use Rattle.wire.specs.Bytes.{over, written}
use Rattle.payload.specs.declared.Answer.{Answer}
use Rattle.payload.specs.declared.Answer.TheVariants.{Refused, Stopped, Gave}
use Rattle.types.specs.Table.{checked}
use Rattle.walk.specs.Walk.{Codec, start, left, type_walk}
use Rattle.unpack.specs.Reading.{reader}
use Rattle.pack.specs.Writing.{writer}
use Rattle.payload.specs.Calls.{number_given, packed, bytes_after, unpacked, words_after}
use Rattle.promises.specs.Checks.{Keeps}
use Rattle.promises.specs.TableOrder.{sections_in}
use Rattle.promises.specs.Rules32.{kind_of, of_of}
use Rattle.promises.specs.Payloads.{Coding, our_coding, PayloadsBy}

-- whatever else it does, it packs nothing; or it unpacks nothing
abbrev pub PacksNothing : Coding → Type 0
PacksNothing C = (t : List ℕ) (i : ℕ) (ws : List ℕ) (room k : ℕ) → C.packs t i ws room ≡ Gave k → ⊥

abbrev pub UnpacksNothing : Coding → Type 0
UnpacksNothing C = (t : List ℕ) (i : ℕ) (b : List ℕ) (room k : ℕ) → C.unpacks t i b room ≡ Gave k → ⊥

-- one answer to every packing
abbrev pub PacksAlike : Coding → Answer → Type 0
PacksAlike C a = (t : List ℕ) (i : ℕ) (ws : List ℕ) (room : ℕ) → C.packs t i ws room ≡ a

-- what is given goes out as it is, where there is room
abbrev pub copied : ℕ → ℕ → Answer
copied n room = cond (leb n room) (Gave n) (Refused 45)

abbrev pub copying_plainly : Coding
copying_plainly =
    record {
      packs = λ t i ws room. copied (length ws) room;
      bytes_left = λ t i ws out. written out 0 ws;
      unpacks = λ t i b room. copied (length b) room;
      words_left = λ t i b words. written words 0 b;
    }

-- wrong for one kind of type or payload alone: as ours, but that type i of the table is of this kind and code, and what is asked for is so
abbrev pub is_base : ℕ → List ℕ → ℕ → Bool
is_base code t i = eqb (kind_of t (sections_in t) i) 0 && eqb (of_of t (sections_in t) i) code

-- refused at the start, where no leaf is completed
abbrev pub refused_at_start : ℕ → Answer
refused_at_start n = Stopped n (record { at = 0; leaves = 0 })

-- arrays, types of kind 4, are refused
abbrev pub arrays_refused : Coding
arrays_refused =
    record {
      packs = λ t i ws room. cond (eqb (kind_of t (sections_in t) i) 4) (refused_at_start 42) (packed t i ws room);
      bytes_left = bytes_after;
      unpacks = λ t i b room. cond (eqb (kind_of t (sections_in t) i) 4) (refused_at_start 42) (unpacked t i b room);
      words_left = words_after;
    }

-- a true boolean (code 0) that came in as another byte than 1 is refused
abbrev pub only_one_is_true : Coding
only_one_is_true =
    record {
      packs = packed;
      bytes_left = bytes_after;
      unpacks = λ t i b room. cond (is_base 0 t i && ltb 1 (get_or b 0 0)) (refused_at_start 42) (unpacked t i b room);
      words_left = words_after;
    }

-- a uint8 (code 6) of any word is packed as it is
abbrev pub wide_bytes : Coding
wide_bytes =
    record {
      packs = λ t i ws room. cond (is_base 6 t i) (copied (length ws) room) (packed t i ws room);
      bytes_left = λ t i ws out. cond (is_base 6 t i) (written out 0 ws) (bytes_after t i ws out);
      unpacks = unpacked;
      words_left = words_after;
    }

-- the room is not looked at
abbrev pub room_not_seen : Coding
room_not_seen =
    record {
      packs = λ t i ws room. cond (is_base 6 t i) (Gave (length ws)) (packed t i ws room);
      bytes_left = λ t i ws out. cond (is_base 6 t i) (over out 0 ws) (bytes_after t i ws out);
      unpacks = unpacked;
      words_left = words_after;
    }

-- demand 1 of packing and unpacking: a refusal changes no output byte or word
pub record KeepsBy (C : Coding) : Type 0 where
  pub unpack_words : (t : List ℕ) (i : ℕ) (b words : List ℕ) → Keeps (number_given (C.unpacks t i b (length words))) words (C.words_left t i b words)
  pub pack_output : (t : List ℕ) (i : ℕ) (ws out : List ℕ) → Keeps (number_given (C.packs t i ws (length out))) out (C.bytes_left t i ws out)

-- "words stored before a late 42 is found": what the walk has written by then stays
abbrev pub stored_by : Result Sections Refusal → Codec → List ℕ → ℕ → List ℕ → List ℕ
stored_by (Err k) c t i x = x
stored_by (Ok s) c t i x = left (type_walk c t s i start x)

abbrev pub stores_at_once : Coding
stores_at_once =
    record {
      packs = packed;
      bytes_left = λ t i ws out. stored_by (checked t) (writer ws) t i out;
      unpacks = unpacked;
      words_left = λ t i b words. stored_by (checked t) (reader b) t i words;
    }

pub record NoWrongCodec : Type 0 where
  pub packs_nothing : (C : Coding) → PacksNothing C → PayloadsBy C → ⊥
  pub unpacks_nothing : (C : Coding) → UnpacksNothing C → PayloadsBy C → ⊥
  pub packs_alike : (C : Coding) (a : Answer) → PacksAlike C a → PayloadsBy C → ⊥
  pub plain_copy : PayloadsBy copying_plainly → ⊥
  pub arrays-refused : PayloadsBy arrays_refused → ⊥
  pub only-one-is-true : PayloadsBy only_one_is_true → ⊥
  pub wide-bytes : PayloadsBy wide_bytes → ⊥
  pub room-not-seen : PayloadsBy room_not_seen → ⊥
  pub ours_keeps : KeepsBy our_coding
  pub stores-at-once : KeepsBy stores_at_once → ⊥

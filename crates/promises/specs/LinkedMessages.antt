-- Demand 2 for messages and pieces, of the calls as programs in C have them (include/nyrkovash.h), over their very contracts, in
-- the papers' numbers. The theorems are in proofs/LinkedMessages.antt.
use Rattle.std.specs.Prelude.{ℕ, suc, ◌+◌, ◌-◌, ◌^◌, ◌≤◌, ◌<◌, ◌≡◌, cond, List, [], ◌∷◌, ◌⊎◌, eqb, length, get_or, take, drop, IsOk}
use Rattle.wire.specs.Bytes.{Octets, number, bytes, over}
use Rattle.joiner.specs.Setup.{setup_of}
use Rattle.nyrkovash.proofs.nyr_pieces.Reads.{Post as nyr-pieces}
use Rattle.nyrkovash.proofs.nyr_cut.Reads.{Post as nyr-cut}
use Rattle.nyrkovash.proofs.nyr_read.Reads.{Post as nyr-read}
use Rattle.nyrkovash.proofs.nyr_write.Reads.{Post as nyr-write}
use Rattle.promises.specs.Traffic.{Datagram, delivered_on, fresh}
use Rattle.promises.specs.LinkedPayloads.{Whenever}

-- 000, Tables 2 to 4: the kind is a platform message's ID, or 5 for an operation; the value is the 32-bit field of its payload, if it
-- has one, or the operation's ID
abbrev pub kind_sent : ℕ → ℕ → ℕ
kind_sent domain id = cond (eqb domain 0) id 5

abbrev pub value_sent : ℕ → ℕ → List ℕ → ℕ
value_sent domain id payload = cond (eqb domain 0) (number 2 payload 0) id

-- every call that reads these bytes at a platform other than their sender answers 0, and gives back kind, value, sender, sequence
-- number, and the payload behind the header's 20 bytes
abbrev pub IsRead : ℕ → List ℕ → ℕ → ℕ → ℕ → List ℕ → Type 0
IsRead own m kind value seq payload =
    Whenever nyr-read (λ k a n e. a.1.0.now ≡ m → (own ≡ a.0 → ⊥) →
    (n ≡ 0) × (e.1.1.0.now ≡ kind ∷ value ∷ own ∷ seq ∷ 20 ∷ length payload ∷ []) × (drop 20 m ≡ payload))

-- what a call that wrote gives back: how many bytes, the message at the output's start, which reads so, and the rest as it was
pub record Wrote (own domain id seq : ℕ) (payload out : List ℕ) (written : ℕ) (left : List ℕ) : Type 0 where
  pub count : written ≡ 20 + length payload
  pub room : written ≤ length out
  pub reads : IsRead own (take written left) (kind_sent domain id) (value_sent domain id payload) seq payload
  pub rest : drop written left ≡ drop written out

-- "A written message .. reads back the same at any platform but its sender": the numbers are as wide as C's types for them
abbrev pub WriteThenRead : Type 0
WriteThenRead =
    Whenever nyr-write (λ k a n e. a.0 < 256 → a.1.1.0 < 2 ^ 32 → a.1.1.1.0 < 2 ^ 32 → n ≡ 0 →
    Wrote a.0 a.1.0 a.1.1.0 a.1.1.1.0 a.1.1.1.1.0.now a.1.1.1.1.1.0.now
    e.1.1.1.1.1.1.0.now e.1.1.1.1.1.0.now)

-- a message that was read is told in six words, and what they tell of it, written again at its sender, is the same bytes: kind 5 is
-- domain 1, with the value for its ID, and any other is domain 0, with the kind for its ID
pub record WasRead (m answer : List ℕ) : Type 0 where
  pub kind : ℕ
  pub value : ℕ
  pub sender : ℕ
  pub seq : ℕ
  pub words : answer ≡ kind ∷ value ∷ sender ∷ seq ∷ 20 ∷ (length m - 20) ∷ []
  pub again : Whenever nyr-write (λ k a n e. a.0 ≡ sender → a.1.0 ≡ cond (eqb kind 5) 1 0 → a.1.1.0 ≡ cond (eqb kind 5) value kind →
      a.1.1.1.0 ≡ seq → a.1.1.1.1.0.now ≡ drop 20 m → length m ≤ length a.1.1.1.1.1.0.now →
      (n ≡ 0) × (e.1.1.1.1.1.1.0.now ≡ length m) × (e.1.1.1.1.1.0.now ≡ over a.1.1.1.1.1.0.now 0 m))

abbrev pub ReadThenWrite : Type 0
ReadThenWrite = Whenever nyr-read (λ k a n e. Octets a.1.0.now → n ≡ 0 → WasRead a.1.0.now e.1.1.0.now)

-- a message of this domain, ID and payload is written, wherever there is room
abbrev pub IsWritten : ℕ → ℕ → List ℕ → Type 0
IsWritten domain id payload =
    Whenever nyr-write (λ k a n e. a.1.0 ≡ domain → a.1.1.0 ≡ id → a.1.1.1.1.0.now ≡ payload →
    20 + length payload ≤ length a.1.1.1.1.1.0.now → n ≡ 0)

-- 000, Tables 3 and 4: a status, DOWN (0) or UP (1); a request; an unknown operation; a pull; and any operation
pub record EachIsWritten : Type 0 where
  pub status : (x : ℕ) → x < 2 → IsWritten 0 1 (bytes 2 x)
  pub request : IsWritten 0 2 []
  pub unknown : (id : ℕ) → id < 2 ^ 32 → IsWritten 0 3 (bytes 2 id)
  pub pull : (id : ℕ) → id < 2 ^ 32 → IsWritten 0 4 (bytes 2 id)
  pub operation : (id : ℕ) (payload : List ℕ) → length payload < 2 ^ 32 → IsWritten 1 id payload

-- 01, Joining: what can be cut, and the header that a piece may have
pub record CanBeCut (msg : List ℕ) (s sender first : ℕ) : Type 0 where
  pub some : 1 ≤ length msg
  pub most : length msg ≤ 65560
  pub size : 1 ≤ s
  pub largest : s ≤ 65503
  pub sender_fits : sender < 4096
  pub counter_fits : first < 65536

-- a call of this promise was made, and of it this is so
pub data CallMade {K : Type 0} {A E : K → Type 0} (post so : (k : K) → A k → ℕ → E k → Type 0) : Type 0 where
  call : (k : K) (a : A k) (n : ℕ) (e : E k) → post k a n e → so k a n e → CallMade post so

-- the datagram of piece i as a call wrote it, with number 0, at the start of its output
abbrev pub IsCut : List ℕ → ℕ → ℕ → ℕ → ℕ → Datagram → Type 0
IsCut msg s sender first i d =
    CallMade nyr-cut (λ k a n e. (a.0.now ≡ msg) × (a.1.0 ≡ s) × (a.1.1.0 ≡ sender) × (a.1.1.1.0 ≡ first) × (a.1.1.1.1.0 ≡ i)
    × (n ≡ 0) × (d ≡ take e.1.1.1.1.1.1.0.now e.1.1.1.1.1.0.now))

-- the datagrams from piece i on
pub data AreCut (msg : List ℕ) (s sender first : ℕ) : ℕ → List Datagram → Type 0 where
  none : {i : ℕ} → AreCut msg s sender first i []
  more : {i : ℕ} {d : Datagram} {ds : List Datagram} → IsCut msg s sender first i d → AreCut msg s sender first (suc i) ds
      → AreCut msg s sender first i (d ∷ ds)

-- what one piece comes to in an output with room for the 4 bytes of its header and s more
abbrev pub CutsEach : List ℕ → ℕ → ℕ → ℕ → ℕ → Type 0
CutsEach msg s sender first count =
    Whenever nyr-cut (λ k a n e. a.0.now ≡ msg → a.1.0 ≡ s → a.1.1.0 ≡ sender → a.1.1.1.0 ≡ first → a.1.1.1.1.0 < count →
    4 + s ≤ length a.1.1.1.1.1.0.now →
    (n ≡ 0) × (drop e.1.1.1.1.1.1.0.now e.1.1.1.1.1.0.now ≡ drop e.1.1.1.1.1.1.0.now a.1.1.1.1.1.0.now))

-- a joiner that knows the sender as its channel k, and has room for the message, or needs none as it is one piece
pub record CanJoin (ids : List ℕ) (R : ℕ) (rooms : List ℕ) (k : ℕ) (msg : List ℕ) (s sender : ℕ) : Type 0 where
  pub set_up : IsOk (setup_of ids R (length rooms))
  pub known : k < length ids
  pub its_id : get_or ids k 0 ≡ sender
  pub room : (length msg ≤ s) ⊎ (length msg ≤ R)
  pub bytes : Octets msg

-- a message that can be cut: its pieces are counted, with number 0, each of them is cut, and all of them in order, as they were
-- written, are delivered by a fresh joiner as the message, once
abbrev pub CutThenJoined : Type 0
CutThenJoined =
    (msg : List ℕ) (s sender first : ℕ) → CanBeCut msg s sender first
    → Whenever nyr-pieces (λ k a n e. a.0 ≡ length msg → a.1.0 ≡ s →
    (n ≡ 0) × CutsEach msg s sender first e.1.1.0.now
    × ((ids : List ℕ) (R : ℕ) (rooms : List ℕ) (c : ℕ) (ds : List Datagram) → CanJoin ids R rooms c msg s sender
    → length ds ≡ e.1.1.0.now → AreCut msg s sender first 0 ds → delivered_on ids c (fresh ids R rooms) rooms ds ≡ msg ∷ []))

pub record LinkedMessages : Type 0 where
  pub write_then_read : WriteThenRead
  pub read_then_write : ReadThenWrite
  pub each_is_written : EachIsWritten
  pub cut_then_joined : CutThenJoined

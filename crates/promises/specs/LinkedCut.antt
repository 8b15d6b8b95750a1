-- What `nyr_cut` cuts, `nyr_take` joins: the linked calls one behind the other, over their very contracts. The theorem is in
-- proofs/LinkedCut.antt.
use Rattle.std.specs.Prelude.{ℕ, zero, suc, ◌+◌, ◌≤◌, ◌<◌, ◌≡◌, ◌⊎◌, List, [], ◌∷◌, length, get_or, take, replicate}
use Rattle.wire.specs.Bytes.{Octets}
use Rattle.nyrkovash.proofs.nyr_pieces.Reads.{Post as nyr-pieces}
use Rattle.nyrkovash.proofs.nyr_cut.Reads.{Post as nyr-cut}
use Rattle.promises.specs.Order.{CanSetUp}
use Rattle.promises.specs.Traffic.{Datagram}
use Rattle.promises.specs.Linked.{Allows, nyr, SetUpAndRun, delivered_in}

-- `nyr_pieces`: the message's length, the piece size, and a number lent for the answer; and what it leaves there
pub record PiecesLent : Type 0 where
  pub total : ℕ
  pub size : ℕ
  pub given : ℕ

abbrev pub Counts : PiecesLent → ℕ → ℕ → Type 0
Counts = Allows nyr-pieces (λ k a. record { total = a.0; size = a.1.0; given = a.1.1.0.now }) (λ k e. e.1.1.0.now)

-- `nyr_cut`: a message, the piece size, the sender ID, the counter of its first datagram, which piece, and an output
pub record CutLent : Type 0 where
  pub message : List ℕ
  pub size : ℕ
  pub sender : ℕ
  pub first : ℕ
  pub piece : ℕ
  pub out : List ℕ

pub record CutLeft : Type 0 where
  pub out : List ℕ
  pub written : ℕ

abbrev pub Cuts : CutLent → ℕ → CutLeft → Type 0
Cuts = Allows nyr-cut
    (λ k a. record {
      message = a.0.now;
      size = a.1.0;
      sender = a.1.1.0;
      first = a.1.1.1.0;
      piece = a.1.1.1.1.0;
      out = a.1.1.1.1.1.0.now;
    })
    (λ k e. record { out = e.1.1.1.1.1.0.now; written = e.1.1.1.1.1.1.0.now })

-- calls of `nyr_cut` for n pieces from piece i on, each with an output that a piece and its header fit in
pub record CutCall : Type 0 where
  pub number : ℕ
  pub left : CutLeft

pub data CutRun (message : List ℕ) (size sender first : ℕ) : ℕ → ℕ → List CutCall → Type 0 where
  over : {i : ℕ} → CutRun message size sender first i zero []
  next : {i m n : ℕ} {out : List ℕ} {l : CutLeft} {cs : List CutCall} → 4 + size ≤ length out
      → Cuts (record { message = message; size = size; sender = sender; first = first; piece = i; out = out }) n l
      → CutRun message size sender first (suc i) m cs → CutRun message size sender first i (suc m) (record { number = n; left = l } ∷ cs)

abbrev pub numbers_in : List CutCall → List ℕ
numbers_in [] = []
numbers_in (c ∷ cs) = c.number ∷ numbers_in cs

-- what was written at the start of each output
abbrev pub datagrams_in : List CutCall → List Datagram
datagrams_in [] = []
datagrams_in (c ∷ cs) = take c.left.written c.left.out ∷ datagrams_in cs

pub record CanCut (ids : List ℕ) (R : ℕ) (rooms : List ℕ) (k : ℕ) (msg : List ℕ) (s first : ℕ) : Type 0 where
  pub set_up : CanSetUp ids R (length rooms)
  pub known : k < length ids
  -- a message of 1 to 65,560 bytes, a piece size of 1 to 65,503, a counter below 65,536
  pub some : 1 ≤ length msg
  pub most : length msg ≤ 65560
  pub size : 1 ≤ s
  pub piece : s ≤ 65503
  pub counter : first < 65536
  -- one piece, or a message that its room can hold
  pub room : (length msg ≤ s) ⊎ (length msg ≤ R)
  pub bytes : Octets msg

-- `nyr_pieces` answers 0; so does `nyr_cut` for each of the pieces that it counted; and what these wrote, taken in turn, delivers
-- the message and nothing else
abbrev pub CutThenTaken : Type 0
CutThenTaken =
    (ids : List ℕ) (R : ℕ) (rooms : List ℕ) (k : ℕ) (msg : List ℕ) (s first : ℕ) → CanCut ids R rooms k msg s first
    → (was n count : ℕ) → Counts (record { total = length msg; size = s; given = was }) n count
    → (cuts : List CutCall) → CutRun msg s (get_or ids k 0) first 0 count cuts
    → (n ≡ 0) × ((numbers_in cuts ≡ replicate count 0)
    × ((x : SetUpAndRun nyr ids R rooms (datagrams_in cuts)) → (x.number ≡ 0) × (delivered_in ids k x.calls ≡ msg ∷ [])))

-- and there are such calls, whatever is cut
abbrev pub SomeCutRun : Type 0
SomeCutRun =
    (msg : List ℕ) (s sender first : ℕ)
    → (n : ℕ) × ((count : ℕ) × (Counts (record { total = length msg; size = s; given = 0 }) n count
    × ((cuts : List CutCall) × CutRun msg s sender first 0 count cuts)))

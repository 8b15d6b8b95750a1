-- 02, request 1: the calls on a platform's requests, over the very definitions that the contracts cite. Each call has a table of its own,
-- any that `check` accepts. What is promised of any run of them is in specs/RequestRuns, and of two platforms in specs/AskedAndAnswered.
use Prim.{Unit}
use Rattle.std.specs.Prelude.{Ok}
use Rattle.std.specs.Prelude.{Option, Some, None}
use Rattle.std.specs.Prelude.{ℕ, ◌^◌, ◌≤◌, ◌<◌, ◌≡◌, Bool, List, [], ◌∷◌, length}
use Rattle.table.specs.declared.Sections.{Sections}
use Rattle.types.specs.Table.{checked}
use Rattle.operations.specs.Entries.{op_place, kind_at, id_at}
use Rattle.operations.specs.Search.{indexed, sought_in}
use Rattle.pending.specs.Free.{is_pending}
use Rattle.pending.specs.Answers.{awaited_of, cancelled}
use Rattle.requests.specs.declared.Sent.{Sent}
use Rattle.requests.specs.Sending.{sent_of, list_sent, output_sent}
use Rattle.platform.specs.declared.reactions.Standing.{Standing}
use Rattle.platform.specs.declared.Noting.{Noting}
use Rattle.platform.specs.Receiving.{received_of, left_of, list_after}

-- the i-th entry of the table bears the ID, and this kind: 2 "we send the request", 3 "we serve it"
pub record HasKind (t : List ℕ) (s : Sections) (id kind i : ℕ) : Type 0 where
  pub there : i < s.operations.count
  pub named : id_at t s.operations.at i ≡ id
  pub kinded : kind_at t (op_place t s.operations.at i) ≡ kind

-- the kind of the operation that is found for an ID, by the table's index as it is laid in any words; none counts as an event
abbrev pub kind_found : List ℕ → Option (ℕ × ℕ) → ℕ
kind_found t (Some (i, p)) = kind_at t p
kind_found t None = 0

abbrev pub kind_in : List ℕ → Sections → List ℕ → ℕ → ℕ
kind_in t s words id =
    kind_found t (sought_in t (indexed t s.operations.at s.operations.count words) s.operations.count id)

-- send: the table, its sections, the words in which its index was laid, the ID, the target, the payload and the output; receive: any
-- bytes as a message; a number is given up, or what is pending under it is asked
pub data RequestCall : Type 0 where
  send : (t : List ℕ) (s : Sections) (words : List ℕ) (id target : ℕ) (payload out : List ℕ) → RequestCall
  receive : (t : List ℕ) (s : Sections) (message out : List ℕ) → RequestCall
  cancel : (n : ℕ) → RequestCall
  ask : (n : ℕ) → RequestCall

-- any table that `check` accepts, with the sections that it handed back; ID and target have 32 bits
abbrev pub Fair : RequestCall → Type 0
Fair (send t s words id target payload out) =
    (checked t ≡ Ok s) × ((s.operations.count ≤ length words) × ((id < 2 ^ 32) × (target < 2 ^ 32)))
Fair (receive t s message out) = checked t ≡ Ok s
Fair (cancel n) = Unit {0}
Fair (ask n) = Unit {0}

abbrev pub AllFair : List RequestCall → Type 0
AllFair [] = Unit {0}
AllFair (c ∷ cs) = Fair c × AllFair cs

-- what is seen of a call: its answer, what it leaves in the output, and the states and the next own number after it
pub data Said : Type 0 where
  of_send : Sent → Said
  of_receive : Noting → Said
  whether : Bool → Said
  what : Option (ℕ × ℕ) → Said

pub record Shown : Type 0 where
  pub said : Said
  pub output : List ℕ
  pub standing : Standing

abbrev pub shown : Said → List ℕ → Standing → Shown
shown a out p = record { said = a; output = out; standing = p }

-- a program that keeps requests in a list, ours or any other: what is seen of a call, and the list after it
pub record Listing : Type 0 where
  pub shows : ℕ → Standing → List ℕ → RequestCall → Shown
  pub leaves : ℕ → Standing → List ℕ → RequestCall → List ℕ

abbrev pub our_shows : ℕ → Standing → List ℕ → RequestCall → Shown
our_shows own p l (send t s words id target payload out) =
    shown (of_send (sent_of p.next l (kind_in t s words id) id payload (length out)).answer)
    (output_sent own p.next l (kind_in t s words id) id payload out)
    (record { states = p.states; next = (sent_of p.next l (kind_in t s words id) id payload (length out)).next })
our_shows own p l (receive t s message out) =
    shown (of_receive (received_of own t p l message (length out)).answer) (left_of own t p message out)
    (received_of own t p l message (length out)).standing
our_shows own p l (cancel n) = shown (whether (is_pending l n)) [] p
our_shows own p l (ask n) = shown (what (awaited_of l n)) [] p

abbrev pub our_leaves : ℕ → Standing → List ℕ → RequestCall → List ℕ
our_leaves own p l (send t s words id target payload out) = list_sent p.next l (kind_in t s words id) id target payload (length out)
our_leaves own p l (receive t s message out) = list_after own t l message
our_leaves own p l (cancel n) = cancelled l n
our_leaves own p l (ask n) = l

abbrev pub our_listing : Listing
our_listing = record { shows = our_shows; leaves = our_leaves }

-- over any calls
abbrev pub shows_all : Listing → ℕ → Standing → List ℕ → List RequestCall → List Shown
shows_all X own p l [] = []
shows_all X own p l (c ∷ cs) = X.shows own p l c ∷ shows_all X own (X.shows own p l c).standing (X.leaves own p l c) cs

abbrev pub leaves_all : Listing → ℕ → Standing → List ℕ → List RequestCall → List ℕ
leaves_all X own p l [] = l
leaves_all X own p l (c ∷ cs) = leaves_all X own (X.shows own p l c).standing (X.leaves own p l c) cs

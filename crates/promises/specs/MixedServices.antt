-- 02, request 8, "availability states of up to 256 services per Issue 3 platform": what the platform call among partners of both issues keeps
-- of them, for every platform and every service; 63 exactly. The theorem is in proofs/MixedServices.antt; calls that keep something else are
-- in specs/WrongMixed. What is lent is 256 words for each that speaks Issue 3, in the order of their numbers.
use Rattle.std.specs.Prelude.{ℕ, ◌+◌, ◌*◌, ◌≤◌, ◌<◌, ◌≡◌, true, cond, List, eqb, leb, length, take, drop, replicate}
use Rattle.std.specs.Prelude.{Ok}
use Rattle.wire.specs.Bytes.{Octets, number}
use Rattle.types.specs.Table.{checked}
use Rattle.services.specs.declared.Availability.{Availability}
use Rattle.services.specs.declared.Availability.TheVariants.{Unheard, Unavailable, Available}
use Rattle.services.specs.Block.{availability_in}
use Rattle.services.specs.Known.{known, known_with}
use Rattle.partners.specs.Threes.{is_three, threes_before}
use Rattle.platform.specs.declared.reactions.Standing.{Standing}
use Rattle.mixed.specs.Reading.{any_of, number_given as number_read}
use Rattle.mixed.specs.Receiving.{number_given}
use Rattle.promises.specs.TableOrder.{sections_in}
use Rattle.promises.specs.PayloadOrder.{LieIn}
use Rattle.promises.specs.AnyOrder.{ThreeForm}
use Rattle.promises.specs.Services.{pair_count, named_by, said_by, KemptBlock}
use Rattle.promises.specs.MixedCalls.{TableGiven, bytes, sections, answer_on, services_on}
use Rattle.promises.specs.MixedOrder.{TellsServices, GoesDown}

-- a call, ours or any other: the number that it gives back, and the services' words after it
pub record KeepingCall : Type 0 where
  pub number : TableGiven → ℕ → List ℕ → List ℕ → Standing → List ℕ → List ℕ → List ℕ → ℕ → ℕ
  pub after : TableGiven → ℕ → List ℕ → List ℕ → Standing → List ℕ → List ℕ → ℕ → List ℕ

abbrev pub our_call : KeepingCall
our_call = record { number = λ g own i ours p l ws m room. number_given (answer_on g own i ours p l ws m room).answer; after = services_on }

-- the words of platform j, which speaks Issue 3, and what they say of a service
abbrev pub words_of : List ℕ → ℕ → List ℕ → List ℕ
words_of i j ws = take 256 (drop (256 * threes_before i j) ws)

abbrev pub state_of : List ℕ → ℕ → List ℕ → ℕ → Availability
state_of i j ws x = availability_in (words_of i j ws) x

-- words that calls of any kind lead to from fresh ones, with one set-up
pub data ArisesBy (X : KeepingCall) (i : List ℕ) : List ℕ → Type 0 where
  start : (n : ℕ) → ArisesBy X i (replicate n 0)
  call : {ws : List ℕ} (g : TableGiven) (own : ℕ) (ours : List ℕ) (p : Standing) (m : List ℕ) (room : ℕ) → Octets m → ArisesBy X i ws
      → ArisesBy X i (X.after g own i ours p ws m room)

-- a message of Issue 3 from platform j that tells of services; and one by which it goes from UP to DOWN
abbrev pub TellsOf : List ℕ → List ℕ → ℕ → Type 0
TellsOf i m j = ThreeForm i m × (TellsServices m × (number 0 m 3 ≡ j))

abbrev pub DownOf : ℕ → List ℕ → Standing → List ℕ → ℕ → Type 0
DownOf own i p m j = ThreeForm i m × (GoesDown own p m × (number 0 m 3 ≡ j))

-- a table that is not refused
abbrev pub GoodTable : TableGiven → Type 0
GoodTable (bytes t) = checked t ≡ Ok (sections_in t)
GoodTable (sections t s index) = LieIn t s

pub record KeepsServices (X : KeepingCall) : Type 0 where
  -- 256 words each, no service behind a free word, none known twice: so they stay over any calls
  pub kempt : (i ws : List ℕ) (j : ℕ) → ArisesBy X i ws → is_three i j ≡ true → 256 * threes_before i j + 256 ≤ length ws → KemptBlock (words_of i j ws)
  -- 63 exactly, for a status that is read: those that are known of its sender, with those that it names, each counted once, are more than 256.
  -- Ruled out: the 257th dropped and the rest noted; one count for all platforms
  pub exactly : (g : TableGiven) (own : ℕ) (i ours : List ℕ) (p : Standing) (l ws m : List ℕ) (room j : ℕ) → Octets m → GoodTable g →
      number_read (any_of i own m) ≡ 0 → TellsOf i m j → KemptBlock (words_of i j ws) →
      X.number g own i ours p l ws m room ≡ cond (leb (length (known_with (known (words_of i j ws)) (drop 24 m) (pair_count (drop 24 m)))) 256) 0 63
  -- Ruled out: 63 with the first pairs noted
  pub refused : (g : TableGiven) (own : ℕ) (i ours : List ℕ) (p : Standing) (l ws m : List ℕ) (room : ℕ) →
      ¬ (X.number g own i ours p l ws m room ≡ 0) → X.after g own i ours p ws m room ≡ ws
  -- a status of services that is not refused: the state of the last pair that names a service, 1 for AVAILABLE. Ruled out: the first of two wins
  pub last_pair : (g : TableGiven) (own : ℕ) (i ours : List ℕ) (p : Standing) (l ws m : List ℕ) (room j : ℕ) → Octets m →
      X.number g own i ours p l ws m room ≡ 0 → TellsOf i m j → KemptBlock (words_of i j ws) →
      (a : ℕ) → a < pair_count (drop 24 m) →
      ((b : ℕ) → a < b → b < pair_count (drop 24 m) → ¬ (named_by (drop 24 m) b ≡ named_by (drop 24 m) a)) →
      state_of i j (X.after g own i ours p ws m room) (named_by (drop 24 m) a) ≡ cond (eqb (said_by (drop 24 m) a) 1) Available Unavailable
  -- and any other service of that platform what it had. Ruled out: a status that takes the place of what was known
  pub not_named : (g : TableGiven) (own : ℕ) (i ours : List ℕ) (p : Standing) (l ws m : List ℕ) (room j : ℕ) → Octets m →
      X.number g own i ours p l ws m room ≡ 0 → TellsOf i m j → KemptBlock (words_of i j ws) →
      (x : ℕ) → ((b : ℕ) → b < pair_count (drop 24 m) → ¬ (named_by (drop 24 m) b ≡ x)) →
      state_of i j (X.after g own i ours p ws m room) x ≡ state_of i j ws x
  -- 001, 6.3: UP to DOWN marks all services of the sender UNAVAILABLE. Ruled out: services forgotten at DOWN, and services left as they were
  pub down_known : (g : TableGiven) (own : ℕ) (i ours : List ℕ) (p : Standing) (l ws m : List ℕ) (room j : ℕ) →
      X.number g own i ours p l ws m room ≡ 0 → DownOf own i p m j → (x : ℕ) → ¬ (state_of i j ws x ≡ Unheard) →
      state_of i j (X.after g own i ours p ws m room) x ≡ Unavailable
  pub down_unheard : (g : TableGiven) (own : ℕ) (i ours : List ℕ) (p : Standing) (l ws m : List ℕ) (room j : ℕ) →
      X.number g own i ours p l ws m room ≡ 0 → DownOf own i p m j → (x : ℕ) → state_of i j ws x ≡ Unheard →
      state_of i j (X.after g own i ours p ws m room) x ≡ Unheard
  -- every other platform, and every platform at every other message: each of its words stays. Ruled out: every platform's services marked; one
  -- block for all; DOWN of a platform that is DOWN, or any other message, that marks
  pub others : (g : TableGiven) (own : ℕ) (i ours : List ℕ) (p : Standing) (ws m : List ℕ) (room j : ℕ) → is_three i j ≡ true →
      ¬ (TellsOf i m j) → ¬ (DownOf own i p m j) → words_of i j (X.after g own i ours p ws m room) ≡ words_of i j ws
  pub as_many : (g : TableGiven) (own : ℕ) (i ours : List ℕ) (p : Standing) (ws m : List ℕ) (room : ℕ) →
      length (X.after g own i ours p ws m room) ≡ length ws

abbrev pub MixedServices : Type 0
MixedServices = KeepsServices our_call

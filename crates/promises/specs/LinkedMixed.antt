-- 02, request 8, of the calls as programs in C have them (include/nyrkovash.h), over their very contracts: the order of checks of
-- `nyr_receive_mixed` and `nyr_receive_mixed_in`, 30 to 33, 1 to 9 of the sender's issue, 61, 10 for words that are not there, 63, 5 and 10 for
-- the replies; and what `nyr_service` tells after them of every platform and every service. Each statement is of both calls. The theorem is in
-- proofs/LinkedMixed.antt. Wrong programs that the order rules out are in specs/MixedOrder; those that keep services wrongly, beside each line.
use Rattle.std.specs.Prelude.{ℕ, ◌+◌, ◌*◌, ◌≤◌, ◌<◌, ◌≡◌, true, false, cond, ◌⊎◌, List, eqb, leb, length, drop, replicate}
use Rattle.wire.specs.Bytes.{Octets}
use Rattle.table.specs.Words.{sections_in, index_in}
use Rattle.services.specs.Known.{known, is_in, known_with}
use Rattle.partners.specs.Threes.{is_three, threes_before}
use Rattle.platform_words.specs.Words.{standing_in, pending_in}
use Rattle.mixed.specs.Reading.{any_of, number_given}
use Rattle.nyrkovash.proofs.nyr_receive_mixed.Reads.{Post as nyr-receive-mixed}
use Rattle.nyrkovash.proofs.nyr_receive_mixed_in.Reads.{Post as nyr-receive-mixed-in}
use Rattle.nyrkovash.proofs.nyr_service.Reads.{Post as nyr-service}
use Rattle.promises.specs.Checks.{Check, Gives}
use Rattle.promises.specs.Linked.{Allows}
use Rattle.promises.specs.LinkedPayloads.{Whenever}
use Rattle.promises.specs.LinkedReplies3.{ServiceIs}
use Rattle.promises.specs.Services.{pair_count, named_by, said_by, KemptBlock}
use Rattle.promises.specs.MixedCalls.{TableGiven, bytes, sections}
use Rattle.promises.specs.MixedOrder.{sender_block, FindsNoPlace, NeedsMore, mixed_checks}
use Rattle.promises.specs.MixedServices.{words_of, TellsOf, DownOf, GoodTable}

-- what a call is handed: own number, who speaks Issue 3, our services, the platform's words, those of the partners' services, the table,
-- the message and the output
pub record MixedLent : Type 0 where
  pub own : ℕ
  pub partners : List ℕ
  pub ours : List ℕ
  pub platform : List ℕ
  pub services : List ℕ
  pub table : TableGiven
  pub message : List ℕ
  pub output : List ℕ

-- whatever the contracts allow: the number that a call gives back, and the services' words that it leaves. On table bytes, and on the words
-- that a check left, or any others in their place
abbrev pub ReceivesOn : MixedLent → ℕ → List ℕ → Type 0
ReceivesOn =
    Allows nyr-receive-mixed
    (λ k a. record {
      own = a.0;
      partners = a.1.1.0.now;
      ours = a.1.1.1.0.now;
      platform = a.1.1.1.1.0.now;
      services = a.1.1.1.1.1.0.now;
      table = bytes a.1.1.1.1.1.1.0.now;
      message = a.1.1.1.1.1.1.1.0.now;
      output = a.1.1.1.1.1.1.1.1.0.now;
    })
    (λ k e. e.1.1.1.1.1.0.now)

abbrev pub ReceivesIn : MixedLent → ℕ → List ℕ → Type 0
ReceivesIn =
    Allows nyr-receive-mixed-in
    (λ k a. record {
      own = a.0;
      partners = a.1.1.0.now;
      ours = a.1.1.1.0.now;
      platform = a.1.1.1.1.0.now;
      services = a.1.1.1.1.1.0.now;
      table = sections a.1.1.1.1.1.1.0.now (sections_in a.1.1.1.1.1.1.1.0.now) (index_in a.1.1.1.1.1.1.1.0.now);
      message = a.1.1.1.1.1.1.1.1.0.now;
      output = a.1.1.1.1.1.1.1.1.1.0.now;
    })
    (λ k e. e.1.1.1.1.1.0.now)

-- either call
abbrev pub Receives : MixedLent → ℕ → List ℕ → Type 0
Receives c n words = ReceivesOn c n words ⊎ ReceivesIn c n words

abbrev pub checks_of : MixedLent → Type 0 → List Check
checks_of c Full =
    mixed_checks c.table c.own c.partners c.ours (standing_in c.platform) (pending_in c.platform) c.services c.message
    (length c.output) Full

abbrev pub its_block : MixedLent → List ℕ
its_block c = sender_block c.partners c.services c.message

-- words of services that such calls lead to from words of 0, with one set-up, whatever else each of them is handed and gives back
pub data LedTo (i : List ℕ) : List ℕ → Type 0 where
  fresh : (n : ℕ) → LedTo i (replicate n 0)
  later : {c : MixedLent} {n : ℕ} {words : List ℕ} → c.partners ≡ i → Octets c.message → Receives c n words → LedTo i c.services
      → LedTo i words

-- 256 words for each that speaks Issue 3, in the order of their numbers: those that are there have no service behind a free word, and none twice
abbrev pub AllThere : List ℕ → List ℕ → ℕ → Type 0
AllThere i ws j = 256 * threes_before i j + 256 ≤ length ws

abbrev pub AllKempt : List ℕ → List ℕ → Type 0
AllKempt i ws = (j : ℕ) → is_three i j ≡ true → AllThere i ws j → KemptBlock (words_of i j ws)

-- what a call is handed where its words of services were kept by calls before it
abbrev pub Kept : MixedLent → Type 0
Kept c = Octets c.message × AllKempt c.partners c.services

-- whoever asks these words for a service of this platform is told a number of which this is so; and is told afterwards what was told before
abbrev pub WhoAsks : List ℕ → List ℕ → ℕ → ℕ → (ℕ → Type 0) → Type 0
WhoAsks i ws platform id So =
    Whenever nyr-service (λ k a n e. a.0.now ≡ i → a.1.0.now ≡ ws → a.1.1.0 ≡ platform → a.1.1.1.0 ≡ id → So n)

abbrev pub Stays : List ℕ → List ℕ → List ℕ → ℕ → ℕ → Type 0
Stays i was ws platform id = WhoAsks i was platform id (λ n. ServiceIs i ws platform id n)

-- what `nyr_service` tells of every platform and every service after a call that gave n and left these words: 2 AVAILABLE, 1 UNAVAILABLE, 0
-- nothing was heard
pub record ServicesAfter (c : MixedLent) (n : ℕ) (words : List ℕ) : Type 0 where
  -- Ruled out: 63 with the first pairs noted
  pub refused : ¬ (n ≡ 0) → (j x : ℕ) → Stays c.partners c.services words j x
  -- a status of services: the state of the last pair that names a service, 1 for AVAILABLE. Ruled out: the first of two pairs wins
  pub last_pair : Kept c → n ≡ 0 → (j : ℕ) → TellsOf c.partners c.message j → (a : ℕ) → a < pair_count (drop 24 c.message) →
      ((b : ℕ) → a < b → b < pair_count (drop 24 c.message) → ¬ (named_by (drop 24 c.message) b ≡ named_by (drop 24 c.message) a)) →
      ServiceIs c.partners words j (named_by (drop 24 c.message) a) (cond (eqb (said_by (drop 24 c.message) a) 1) 2 1)
  -- Ruled out: a status that takes the place of what was known
  pub not_named : Kept c → n ≡ 0 → (j : ℕ) → TellsOf c.partners c.message j → (x : ℕ) →
      ((b : ℕ) → b < pair_count (drop 24 c.message) → ¬ (named_by (drop 24 c.message) b ≡ x)) → Stays c.partners c.services words j x
  -- UP to DOWN: 1 where 1 or 2 was told, and 0 where 0 was. Ruled out: services forgotten at DOWN, and services left as they were
  pub went_down : n ≡ 0 → (j : ℕ) → DownOf c.own c.partners (standing_in c.platform) c.message j → (x : ℕ) →
      WhoAsks c.partners c.services j x (λ k. ServiceIs c.partners words j x (cond (eqb k 0) 0 1))
  -- every other platform, of either issue, and every platform at every other message. Ruled out: another platform's services touched
  pub others : (j x : ℕ) → ¬ (TellsOf c.partners c.message j) → ¬ (DownOf c.own c.partners (standing_in c.platform) c.message j) →
      Stays c.partners c.services words j x

-- those known of a platform, with those that the message names, each counted once
abbrev pub would_be_known : MixedLent → ℕ → ℕ
would_be_known c j = length (known_with (known (words_of c.partners j c.services)) (drop 24 c.message) (pair_count (drop 24 c.message)))

pub record LinkedMixed : Type 1 where
  -- the contracts allow a call, whatever it is handed
  pub some : (c : MixedLent) (t : List ℕ) → c.table ≡ bytes t → (n : ℕ) × ((words : List ℕ) × ReceivesOn c n words)
  pub some_in : (c : MixedLent) (t ss : List ℕ) → c.table ≡ sections t (sections_in ss) (index_in ss) → (n : ℕ) × ((words : List ℕ) × ReceivesIn c n words)
  -- the first check that applies, and 0 where none does
  pub order : (c : MixedLent) (n : ℕ) (words : List ℕ) → Receives c n words → Gives (checks_of c (FindsNoPlace (its_block c) (drop 24 c.message))) n
  -- over any calls
  pub kempt : (i ws : List ℕ) → LedTo i ws → AllKempt i ws
  pub services : (c : MixedLent) (n : ℕ) (words : List ℕ) → Receives c n words → ServicesAfter c n words
  -- 63 exactly, for a status that is read and whose sender's words are there: where more than 256 would be known; and the order with it. Ruled
  -- out: the 257th dropped and the rest noted; one count for all platforms
  pub exactly : (c : MixedLent) (n : ℕ) (words : List ℕ) → Receives c n words → Kept c → GoodTable c.table →
      number_given (any_of c.partners c.own c.message) ≡ 0 → (j : ℕ) → TellsOf c.partners c.message j → AllThere c.partners c.services j →
      n ≡ cond (leb (would_be_known c j) 256) 0 63
  pub order_kept : (c : MixedLent) (n : ℕ) (words : List ℕ) → Receives c n words → Kept c →
      Gives (checks_of c (NeedsMore (its_block c) (drop 24 c.message))) n
  -- those that are known, which 63 counts, are those of which 1 or 2 is told
  pub known_are : (i ws : List ℕ) (j x : ℕ) → is_three i j ≡ true →
      WhoAsks i ws j x (λ n. is_in x (known (words_of i j ws)) ≡ cond (eqb n 0) false true)

-- Over a genuine sender's messages the channel delivers exactly the complete ones: by induction over the messages, and within
-- one over its pieces. `h` is what the pieces so far come to, and is empty once one of them was lost.
-- Assumes nothing.
use Prim.Native.Nat.{ℕ, suc, ◌+◌, ◌≤◌, ◌<◌}
use mathlib.Core.Path.{◌≡◌, refl, sym, ap, ◌∙◌}
use mathlib.Core.Bool.{Bool, true, false, cond, not, ◌&&◌, ◌||◌, true≢false}
use mathlib.Core.List.{List, [], ◌∷◌, ◌++◌, append-nil, append_assoc}
use native.Mathlib.Omega.{arith}
use borrow.Author.Tests.{ne_eqb, leb-true, eqb-false}
use lib.Dec.{leb, eqb}
use lib.ListN.{length, length-append}
use Rattle.wire.proofs.Cond.{yes-if, no-if, yes_le, both}
use Rattle.binding.specs.declared.MessagePart.{MessagePart}
use Rattle.binding.specs.declared.MessagePart.TheVariants.{Begin, Middle, End, Whole}
use Rattle.binding.specs.Header.{counters, largest_piece}
use Rattle.promises.specs.Senders.{Piece, Message, Sent, sent_from, sent_by, after, arrived, losses_within, together}
use Rattle.promises.specs.Senders.{all_arrived, complete_of, good_pieces, good_message, good_messages}
use Rattle.promises.proofs.Machine.{Memory, Passage, at, followed, placed, deliveries}
use Rattle.promises.proofs.OneChannel.{Stands, stands_at, events_of, slot-lost, slot-arrived, losses-lost, losses-arrived}
use Rattle.promises.proofs.OneChannel.{after_below, arrives_here, lost_here, stands_next}

-- step 5 with nothing to follow, and with h to follow where there is room
followed_none : (R c : ℕ) (h q : List ℕ) (joined : Passage) → eqb (length h) 0 ≡ true → followed R c h q joined ≡ at c [] []
followed_none R c h q joined e = yes-if (at c [] []) _ e

followed_held : (R c : ℕ) (h q : List ℕ) (joined : Passage) → eqb (length h) 0 ≡ false → length h + length q ≤ R → followed R c h q joined ≡ joined
followed_held R c h q joined e f = no-if (at c [] []) _ e ∙ yes_le joined (at c [] []) (length h + length q) R f

-- what is still owed for a message of which h is held and ps are to come
abbrev owed : List ℕ → List Piece → List (List ℕ)
owed h ps = cond (not (eqb (length h) 0) && all_arrived ps) ((h ++ together ps) ∷ []) []

owed_none : (h : List ℕ) (ps : List Piece) → eqb (length h) 0 ≡ true → owed h ps ≡ []
owed_none h ps e = no-if _ [] (ap (λ (b : Bool). not b && all_arrived ps) e)

owed_lost : (h : List ℕ) (p : Piece) (ps : List Piece) → arrived p ≡ false → owed h (p ∷ ps) ≡ []
owed_lost h p ps e = no-if _ [] (go (not (eqb (length h) 0)))
  where
    go : (b : Bool) → (b && (arrived p && all_arrived ps)) ≡ false
    go true = ap (λ (a : Bool). a && all_arrived ps) e
    go false = refl

longer : (h q : List ℕ) → eqb (length h) 0 ≡ false → eqb (length (h ++ q)) 0 ≡ false
longer h q e =
    let l : length (h ++ q) ≡ length h + length q = length-append h q in
    ne_eqb (length (h ++ q)) 0 (λ (z : length (h ++ q) ≡ 0). eqb-false (length h) 0 e (omega arith))

-- once a piece arrives behind h, the rest is owed with that piece held too
owed_more : (h : List ℕ) (p : Piece) (ps : List Piece) → arrived p ≡ true → eqb (length h) 0 ≡ false → owed h (p ∷ ps) ≡ owed (h ++ p.bytes) ps
owed_more h p ps a e =
    let n : eqb (length (h ++ p.bytes)) 0 ≡ false = longer h p.bytes e in
    let x : (not (eqb (length h) 0) && (arrived p && all_arrived ps)) ≡ (not (eqb (length (h ++ p.bytes)) 0) && all_arrived ps) =
    simp (e, a, n) in
    rw (x, append_assoc h p.bytes (together ps))

owed_end : (h : List ℕ) → eqb (length h) 0 ≡ false → owed h [] ≡ h ∷ []
owed_end h e = yes-if _ [] (ap (λ (b : Bool). not b && true) e) ∙ ap (λ (u : List ℕ). u ∷ []) (append-nil h)

-- the statement for the messages still to come, from a channel that has nothing to go on with
abbrev pub Delivers : ℕ → List Message → Type 0
Delivers R ms =
    (v : Memory) (c g : ℕ) → Stands v c g [] → c < counters → losses_within v.seen g (sent_by ms) ≡ true
    → deliveries R v (events_of c (sent_by ms)) ≡ complete_of ms

abbrev sent : MessagePart → Piece → Sent
sent m p = record { mark = m; piece = p }

-- a piece and what follows it, by what becomes of the piece: it is lost, or it arrives and leaves h' held
module _ (R : ℕ) (m : MessagePart) (p : Piece) (v : Memory) (c g : ℕ) (h : List ℕ) (st : Stands v c g h) (b : c < counters)
    (ss : List Sent) (l : losses_within v.seen g (sent m p ∷ ss) ≡ true) where
  abbrev Onwards : List ℕ → List (List ℕ) → Type 0
  Onwards h' rest = (v : Memory) (c g : ℕ) → Stands v c g h' → c < counters → losses_within v.seen g ss ≡ true → deliveries R v (events_of c ss) ≡ rest

  if-lost : (rest : List (List ℕ)) → arrived p ≡ false → Onwards [] rest → deliveries R v (events_of c (sent m p ∷ ss)) ≡ rest
  if-lost rest a go =
      slot-lost R v c g (sent m p) ss a ∙ go v (after c) (suc g) (lost_here v c g h st) (after_below c) (losses-lost R v c g (sent m p) ss a l)

  if-arrived : (h' : List ℕ) (out rest : List (List ℕ)) → arrived p ≡ true → placed R m c h p.bytes ≡ at c h' out → Onwards h' rest
      → deliveries R v (events_of c (sent m p ∷ ss)) ≡ out ++ rest
  if-arrived h' out rest a e go =
      let w = losses-arrived R v c g (sent m p) ss a l in
      slot-arrived R v c g (sent m p) ss h' out a (arrives_here R m c g h p.bytes v w.0 st ∙ e)
      ∙ ap (λ (u : List (List ℕ)). out ++ u) (go (stands_at c h') (after c) 0 (stands_next c h' b) (after_below c) w.1)

-- two pieces and more are not one
fits_room : (n : ℕ) (b : Bool) → (eqb (suc (suc n)) 1 || b) ≡ true → b ≡ true
fits_room n b e = ap (λ (x : Bool). x || b) (sym (ne_eqb (suc (suc n)) 1 (λ (z : suc (suc n) ≡ 1). omega arith))) ∙ e

module _ (R : ℕ) (ms : List Message) (K : Delivers R ms) where
  then : {a b : List (List ℕ)} → a ≡ b → b ++ complete_of ms ≡ a ++ complete_of ms
  then e = ap (λ (u : List (List ℕ)). u ++ complete_of ms) (sym e)

  abbrev following : List Piece → List Sent
  following ps = sent_from false ps ++ sent_by ms

  -- what is to be shown of the pieces behind a message's first
  abbrev Behind : List Piece → List ℕ → Type 0
  Behind ps h =
      length h + length (together ps) ≤ R → (v : Memory) (c g : ℕ) → Stands v c g h → c < counters
      → losses_within v.seen g (sent_from false ps ++ sent_by ms) ≡ true → deliveries R v (events_of c (sent_from false ps ++ sent_by ms))
      ≡ owed h ps ++ complete_of ms

  end-piece : (p : Piece) (h : List ℕ) → Behind (p ∷ []) h
  end-piece p h fit v c g st b l = go (arrived p) refl (eqb (length h) 0) refl
    where
      go : (a : Bool) → arrived p ≡ a → (e : Bool) → eqb (length h) 0 ≡ e
          → deliveries R v (events_of c (sent_from false (p ∷ []) ++ sent_by ms)) ≡ owed h (p ∷ []) ++ complete_of ms
      go false a e f = if-lost R End p v c g h st b (sent_by ms) l _ a K ∙ then (owed_lost h p [] a)
      go true a true f = if-arrived R End p v c g h st b (sent_by ms) l [] [] _ a (followed_none R c h p.bytes _ f) K ∙ then (owed_none h (p ∷ []) f)
      go true a false f =
          if-arrived R End p v c g h st b (sent_by ms) l [] ((h ++ p.bytes) ∷ []) _ a
          (followed_held R c h p.bytes _ f (omega (arith, length-append p.bytes []))) K
          ∙ then (owed_more h p [] a f ∙ owed_end (h ++ p.bytes) (longer h p.bytes f))

  middle-piece : (p q : Piece) (qs : List Piece) (h : List ℕ) → ((h' : List ℕ) → Behind (q ∷ qs) h') → Behind (p ∷ q ∷ qs) h
  middle-piece p q qs h I fit v c g st b l = go (arrived p) refl (eqb (length h) 0) refl
    where
      total : length (together (p ∷ q ∷ qs)) ≡ length p.bytes + length (together (q ∷ qs))
      total = length-append p.bytes (together (q ∷ qs))

      go : (a : Bool) → arrived p ≡ a → (e : Bool) → eqb (length h) 0 ≡ e
          → deliveries R v (events_of c (sent_from false (p ∷ q ∷ qs) ++ sent_by ms)) ≡ owed h (p ∷ q ∷ qs) ++ complete_of ms
      go false a e f =
          if-lost R Middle p v c g h st b (following (q ∷ qs)) l _ a (I [] (omega (arith, total)))
          ∙ then (owed_lost h p (q ∷ qs) a ∙ sym (owed_none [] (q ∷ qs) refl))
      go true a true f =
          if-arrived R Middle p v c g h st b (following (q ∷ qs)) l [] [] _ a (followed_none R c h p.bytes _ f) (I [] (omega (arith, total)))
          ∙ then (owed_none h (p ∷ q ∷ qs) f ∙ sym (owed_none [] (q ∷ qs) refl))
      go true a false f =
          if-arrived R Middle p v c g h st b (following (q ∷ qs)) l (h ++ p.bytes) [] _ a (followed_held R c h p.bytes _ f (omega (arith, total)))
          (I (h ++ p.bytes) (omega (arith, total, length-append h p.bytes)))
          ∙ then (owed_more h p (q ∷ qs) a f)

  behind-first : (p : Piece) (ps : List Piece) (h : List ℕ) → Behind (p ∷ ps) h
  behind-first p [] h = end-piece p h
  behind-first p (q ∷ qs) h = middle-piece p q qs h (λ h'. behind-first q qs h')

  -- a whole message
  abbrev Message-delivered : Message → Type 0
  Message-delivered m =
      (v : Memory) (c g : ℕ) → Stands v c g [] → c < counters → losses_within v.seen g (sent_from true m ++ sent_by ms) ≡ true
      → deliveries R v (events_of c (sent_from true m ++ sent_by ms)) ≡ complete_of (m ∷ ms)

  one_piece : (p : Piece) → Message-delivered (p ∷ [])
  one_piece p v c g st b l = go (arrived p) refl
    where
      go : (a : Bool) → arrived p ≡ a → deliveries R v (events_of c (sent_from true (p ∷ []) ++ sent_by ms)) ≡ complete_of ((p ∷ []) ∷ ms)
      go false a = if-lost R Whole p v c g [] st b (sent_by ms) l _ a K ∙ then (no-if _ [] (ap (λ (x : Bool). x && true) a))
      go true a =
          if-arrived R Whole p v c g [] st b (sent_by ms) l [] (p.bytes ∷ []) _ a refl K
          ∙ then (yes-if _ [] (ap (λ (x : Bool). x && true) a) ∙ ap (λ (u : List ℕ). u ∷ []) (append-nil p.bytes))

  more-pieces : (p q : Piece) (qs : List Piece) → 1 ≤ length p.bytes → length (together (p ∷ q ∷ qs)) ≤ R → Message-delivered (p ∷ q ∷ qs)
  more-pieces p q qs some fit v c g st b l = go (arrived p) refl
    where
      total : length (together (p ∷ q ∷ qs)) ≡ length p.bytes + length (together (q ∷ qs))
      total = length-append p.bytes (together (q ∷ qs))

      held : eqb (length p.bytes) 0 ≡ false
      held = ne_eqb (length p.bytes) 0 (λ (z : length p.bytes ≡ 0). omega arith)

      whole : arrived p ≡ true → cond (all_arrived (p ∷ q ∷ qs)) (together (p ∷ q ∷ qs) ∷ []) [] ≡ owed p.bytes (q ∷ qs)
      whole a = simp (a, held)

      go : (a : Bool) → arrived p ≡ a → deliveries R v (events_of c (sent_from true (p ∷ q ∷ qs) ++ sent_by ms)) ≡ complete_of ((p ∷ q ∷ qs) ∷ ms)
      go false a =
          if-lost R Begin p v c g [] st b (following (q ∷ qs)) l _ a (behind-first q qs [] (omega (arith, total)))
          ∙ then (no-if _ [] (ap (λ (x : Bool). x && all_arrived (q ∷ qs)) a) ∙ sym (owed_none [] (q ∷ qs) refl))
      go true a =
          if-arrived R Begin p v c g [] st b (following (q ∷ qs)) l p.bytes [] _ a
          (yes_le (at c p.bytes []) (at c [] []) (length p.bytes) R (omega (arith, total)))
          (behind-first q qs p.bytes (omega (arith, total)))
          ∙ then (whole a)

  -- what a good message is, by its number of pieces
  message : (m : Message) → good_message R m ≡ true → Message-delivered m
  message [] e = absurd (true≢false (sym e))
  message (p ∷ []) e = one_piece p
  message (p ∷ q ∷ qs) e =
      let a = both (leb 1 (length (p ∷ q ∷ qs)) && good_pieces (p ∷ q ∷ qs)) _ e in
      let d = both (leb 1 (length (p ∷ q ∷ qs))) (good_pieces (p ∷ q ∷ qs)) a.0 in
      let f = both (leb 1 (length p.bytes) && leb (length p.bytes) largest_piece) (good_pieces (q ∷ qs)) d.1 in
      let s = both (leb 1 (length p.bytes)) (leb (length p.bytes) largest_piece) f.0 in
      more-pieces p q qs (leb-true 1 (length p.bytes) s.0) (leb-true (length (together (p ∷ q ∷ qs))) R (fits_room (length qs) _ a.1))

-- all messages
pub messages : (R : ℕ) (ms : List Message) → good_messages R ms ≡ true → Delivers R ms
messages R [] e = λ v c g st b l. refl
messages R (m ∷ ms) e =
    let a = both (good_message R m) (good_messages R ms) e in
    message R ms (messages R ms a.1) m a.0

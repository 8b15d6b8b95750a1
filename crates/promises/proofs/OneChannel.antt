-- One channel: over a genuine sender's arrivals the machine delivers exactly the complete messages. First counters go: at a
-- datagram that arrives after g lost ones, `moved` is `placed` on what is held if g is 0, and on nothing otherwise. Then
-- induction over the messages and, within one, over its pieces.
-- Assumes nothing.
use Prim.Native.Nat.{ℕ, zero, suc, ◌+◌, ◌-◌, ◌%◌, ◌≤◌, ◌<◌}
use mathlib.Core.Path.{◌≡◌, refl, sym, ap, ap₂, ◌∙◌}
use mathlib.Core.Bool.{Bool, true, false, cond, not, ◌&&◌, ◌||◌}
use mathlib.Core.List.{List, [], ◌∷◌, ◌++◌}
use mathlib.Core.Logic.{◌⊎◌, inl, inr, ⊎_elim}
use native.Mathlib.Nat.{suc-ne-zero}
use native.Mathlib.Omega.{arith}
use borrow.Author.Tests.{eq-eqb, ne_eqb, ltb-true, ltb-false, leb-true}
use lib.Dec.{leb, eqb}
use lib.ListN.{replicate}
use Rattle.wire.proofs.Cond.{yes-if, no-if, no_eq, both}
use Rattle.binding.specs.declared.MessagePart.{MessagePart}
use Rattle.binding.specs.Header.{counters}
use Rattle.promises.specs.Senders.{Sent, after, arrived, most_lost, losses_within}
use Rattle.promises.proofs.Machine.{Memory, Passage, at, missed, kept, placed, moved, Event, deliveries}

-- where the channel stands before the datagram with counter c, with h to go on with: either something was seen and g were lost
-- since, in which case c is as many counters further, or nothing was seen and nothing is held
pub record After (v : Memory) (c g : ℕ) (h : List ℕ) : Type 0 where
  pub seen : v.seen ≡ true
  pub below : v.last < counters
  pub next : c ≡ (v.last + 1 + g) % counters
  pub hold : cond (eqb g 0) v.held [] ≡ h

pub record Fresh (v : Memory) (h : List ℕ) : Type 0 where
  pub unseen : v.seen ≡ false
  pub empty : v.held ≡ []
  pub hold : h ≡ []

abbrev pub Stands : Memory → ℕ → ℕ → List ℕ → Type 0
Stands v c g h = After v c g h ⊎ Fresh v h

-- the two facts modulo M
not_again : (l g : ℕ) → l < counters → g ≤ most_lost → (l + 1 + g) % counters ≡ l → ⊥
not_again l g a b e = omega arith

gap : (l g : ℕ) → l < counters → g ≤ most_lost → ((l + 1 + g) % counters + counters - (l + 1)) % counters ≡ g
gap l g a b = omega arith

-- a datagram that arrives: it is no repeat, and what it goes on with is h
module _ (R : ℕ) (p : MessagePart) (c g : ℕ) (h q : List ℕ) where
  arrives-after : (v : Memory) → After v c g h → g ≤ most_lost → moved R v p c q ≡ placed R p c h q
  arrives-after v a b =
      let l = v.last in
      let new : eqb c l ≡ false = ne_eqb c l (λ e. not_again l g a.below b (sym a.next ∙ e)) in
      let lost : missed v c ≡ g =
      yes-if _ 0 a.seen ∙ ap (λ (n : ℕ). (n + counters - (l + 1)) % counters) a.next ∙ gap l g a.below b in
      let k : kept v c ≡ h = ap (λ (n : ℕ). cond (eqb n 0) v.held []) lost ∙ a.hold in
      no-if _ (placed R p c (kept v c) q) (ap₂ ◌&&◌ a.seen new) ∙ ap (λ (u : List ℕ). placed R p c u q) k

  arrives-fresh : (v : Memory) → Fresh v h → moved R v p c q ≡ placed R p c h q
  arrives-fresh v f =
      let k : kept v c ≡ h =
      ap (λ (n : ℕ). cond (eqb n 0) v.held []) (no-if ((c + counters - (v.last + 1)) % counters) 0 f.unseen) ∙ f.empty ∙ sym f.hold in
      no-if _ (placed R p c (kept v c) q) (ap (λ (b : Bool). b && eqb c v.last) f.unseen) ∙ ap (λ (u : List ℕ). placed R p c u q) k

-- what the losses that are allowed say at a datagram that arrives
within : (v : Memory) (c g : ℕ) (h : List ℕ) → (not v.seen || leb g most_lost) ≡ true → Stands v c g h → (g ≤ most_lost) ⊎ Fresh v h
within v c g h e (inl a) = inl (leb-true g most_lost (ap (λ (b : Bool). not b || leb g most_lost) (sym a.seen) ∙ e))
within v c g h e (inr f) = inr f

pub arrives_here : (R : ℕ) (p : MessagePart) (c g : ℕ) (h q : List ℕ) (v : Memory) → (not v.seen || leb g most_lost) ≡ true
    → Stands v c g h → moved R v p c q ≡ placed R p c h q
arrives_here R p c g h q v e (inl a) = ⊎_elim (λ b. arrives-after R p c g h q v a b) (λ f. arrives-fresh R p c g h q v f) (within v c g h e (inl a))
arrives_here R p c g h q v e (inr f) = arrives-fresh R p c g h q v f

-- one that is lost leaves nothing to go on with
pub lost_here : (v : Memory) (c g : ℕ) (h : List ℕ) → Stands v c g h → Stands v (after c) (suc g) []
lost_here v c g h (inl a) =
    inl (record { seen = a.seen; below = a.below; next = ap after a.next ∙ omega arith; hold = no_eq v.held [] (suc g) 0 (suc-ne-zero g) })
lost_here v c g h (inr f) = inr (record { unseen = f.unseen; empty = f.empty; hold = refl })

-- the channel after a datagram with counter c, and its repeats
abbrev pub stands_at : ℕ → List ℕ → Memory
stands_at c h = record { seen = true; last = c; held = h }

pub stands_next : (c : ℕ) (h : List ℕ) → c < counters → Stands (stands_at c h) (after c) 0 h
stands_next c h b = inl (record { seen = refl; below = b; next = ap (λ (n : ℕ). n % counters) (omega arith); hold = refl })

repeated : (R c : ℕ) (h q : List ℕ) (p : MessagePart) (n : ℕ) (es : List Event)
    → deliveries R (stands_at c h) (replicate n (record { mark = p; counter = c; bytes = q }) ++ es) ≡ deliveries R (stands_at c h) es
repeated R c h q p zero es = refl
repeated R c h q p (suc n) es =
    let e : eqb c c ≡ true = eq-eqb c c refl in
    rw e (repeated R c h q p n es)

-- the events of what a sender sends, each as often as it arrives
abbrev pub event_of : ℕ → Sent → Event
event_of c s = record { mark = s.mark; counter = c; bytes = s.piece.bytes }

abbrev pub events_of : ℕ → List Sent → List Event
events_of c [] = []
events_of c (s ∷ ss) = replicate s.piece.copies (event_of c s) ++ events_of (after c) ss

module _ (R : ℕ) (v : Memory) (c g : ℕ) (s : Sent) (ss : List Sent) where
  copied : (n : ℕ) → s.piece.copies ≡ n → deliveries R v (events_of c (s ∷ ss)) ≡ deliveries R v (replicate n (event_of c s) ++ events_of (after c) ss)
  copied n e = ap (λ (k : ℕ). deliveries R v (replicate k (event_of c s) ++ events_of (after c) ss)) e

  pub slot-lost : arrived s.piece ≡ false → deliveries R v (events_of c (s ∷ ss)) ≡ deliveries R v (events_of (after c) ss)
  slot-lost e = copied 0 (omega (arith, ltb-false 0 s.piece.copies e))

  pub slot-arrived : (h : List ℕ) (out : List (List ℕ)) → arrived s.piece ≡ true → moved R v s.mark c s.piece.bytes ≡ at c h out
      → deliveries R v (events_of c (s ∷ ss)) ≡ out ++ deliveries R (stands_at c h) (events_of (after c) ss)
  slot-arrived h out e m =
      let n : ℕ = s.piece.copies - 1 in
      let k : s.piece.copies ≡ suc n = omega (arith, ltb-true 0 s.piece.copies e) in
      copied (suc n) k
      ∙ ap (λ (x : Passage). x.delivered ++ deliveries R x.channel (replicate n (event_of c s) ++ events_of (after c) ss)) m
      ∙ ap (λ (u : List (List ℕ)). out ++ u) (repeated R c h s.piece.bytes s.mark n (events_of (after c) ss))

  -- what the losses say behind it
  pub losses-lost : arrived s.piece ≡ false → losses_within v.seen g (s ∷ ss) ≡ true → losses_within v.seen (suc g) ss ≡ true
  losses-lost e l = sym (no-if _ _ e) ∙ l

  pub losses-arrived : arrived s.piece ≡ true → losses_within v.seen g (s ∷ ss) ≡ true → ((not v.seen || leb g most_lost) ≡ true)
      × (losses_within true 0 ss ≡ true)
  losses-arrived e l = both (not v.seen || leb g most_lost) (losses_within true 0 ss) (sym (yes-if _ _ e) ∙ l)

pub after_below : (c : ℕ) → after c < counters
after_below c = omega arith

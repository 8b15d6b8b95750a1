-- Two platforms that answer each other fall silent: from any two states, an exchange that one status starts has at most
-- seven messages, in whatever order they arrive, and whichever are lost.
-- Each message under way has a weight, and so has a platform that holds the other for DOWN; every arrival makes the sum
-- smaller.
-- Assumes nothing.
use Prim.Native.Nat.{ℕ, ◌+◌, ◌*◌, ◌^◌, ◌≤◌, ◌<◌}
use Rattle.std.specs.Prelude.{Option}
use mathlib.Core.Path.{◌≡◌, refl, sym, ap, subst, ◌∙◌}
use mathlib.Core.Bool.{Bool, true, false, not, cond}
use mathlib.Core.List.{List, [], ◌∷◌, ◌++◌}
use native.Mathlib.Omega.{arith}
use native.Mathlib.Nat.{mod-lt}
use borrow.Author.Tests.{lt-ltb}
use lib.Dec.{ltb}
use lib.Pow.{pow_pos}
use Rattle.table.specs.declared.Sections.{Sections}
use Rattle.pending.specs.Free.{drawn}
use Rattle.message.specs.declared.Reading.{Reading}
use Rattle.message.specs.Header.{header_length}
use Rattle.message.specs.Refusal.{no_room}
use Rattle.platform.specs.declared.reactions.Standing.{Standing}
use Rattle.platform.specs.declared.reactions.Reply.{Reply}
use Rattle.platform.specs.declared.reactions.Reply.TheVariants.{StatusUp, PullAll, Unknown}
use Rattle.platform.specs.declared.reactions.Reaction.{Reaction}
use Rattle.states.specs.States.{stands_up}
use Rattle.platform.specs.Replies.{reply_header, meant, Wide, replies, Each, owed_length}
use Rattle.platform.specs.Reaction.{some_data, coming_up, on_state, on_status, on_pull_all, on_pull, reaction_to}
use Rattle.platform.specs.Receiving.{refused, taken, is_answer, response_to, answered, outcome_of}
use Rattle.platform.specs.Exchange.{written, sent_of, Setting, keeps, sends, Pair, Step, Exchange, started, longest_exchange}
use Rattle.platform.specs.Exchange.Step.{arrives_at_a, arrives_at_b, lost_to_a, lost_to_b}
use Rattle.platform.specs.Exchange.Exchange.{none, more}
use Rattle.states.proofs.Ups.{noted-there}
use Rattle.platform.proofs.ReadBack.{reply_reads_back}

-- what a message under way can still cause, and what a platform that holds the other for DOWN can
abbrev weight : Reply → ℕ
weight (StatusUp n) = 1
weight (PullAll n) = 2
weight (Unknown n id) = 1

abbrev weights : List Reply → ℕ
weights [] = 0
weights (r ∷ rs) = weight r + weights rs

abbrev down : ℕ → Standing → ℕ → ℕ
down own p other = cond (stands_up own p.states other) 0 1

weight_pos : (r : Reply) → 1 ≤ weight r
weight_pos (StatusUp n) = omega arith
weight_pos (PullAll n) = omega arith
weight_pos (Unknown n id) = omega arith

-- a reaction makes the sum smaller, and what it sends is as wide as its fields
record Lighter (own other : ℕ) (p : Standing) (r : Reply) (q : Standing) (sent : List Reply) : Type 0 where
  sum : weights sent + 3 * down own q other + 1 ≤ weight r + 3 * down own p other
  wide : Each (λ (x : Reply). Wide x) sent
  next : q.next < 2 ^ 32

module _ (own other : ℕ) (t : List ℕ) (s : Sections) (f : Option (ℕ × ℕ)) (p : Standing) (hp : other < 256) (d : other ≡ own → ⊥) (hn : p.next < 2 ^ 32) where
  abbrev X : Reply → Reaction
  X r = reaction_to own t s f p (reply_header other r) (meant r) header_length 4

  status-lighter : (n : ℕ) → Lighter own other p (StatusUp n) (X (StatusUp n)).standing (replies (X (StatusUp n)).owed)
  unfolding reaction_to on_status on_state coming_up
  status-lighter n = go (stands_up own p.states other) refl
    where
      go : (b : Bool) → stands_up own p.states other ≡ b → Lighter own other p (StatusUp n) (X (StatusUp n)).standing (replies (X (StatusUp n)).owed)
      go true e = rw (lt-ltb other 256 hp, e) (record { sum = rw e (omega arith); wide = tt; next = hn })
      go false e =
          let u : stands_up own (coming_up p other).standing.states other ≡ true = noted-there own p.states other hp d ∙ ap not e in
          let w : Wide (StatusUp p.next) = record { number = hn; field = omega arith } in
          let v : Wide (PullAll (drawn p.next)) = record { number = mod-lt (p.next + 1) (pow_pos 32); field = omega arith } in
          rw (lt-ltb other 256 hp, e) (record { sum = rw (u, e) (omega arith); wide = (w, (v, tt)); next = mod-lt (drawn p.next + 1) (pow_pos 32) })

  pull-lighter : (n : ℕ) → n < 2 ^ 32 → Lighter own other p (PullAll n) (X (PullAll n)).standing (replies (X (PullAll n)).owed)
  unfolding reaction_to on_pull on_pull_all
  pull-lighter n h = go (some_data t s) refl
    where
      go : (b : Bool) → some_data t s ≡ b → Lighter own other p (PullAll n) (X (PullAll n)).standing (replies (X (PullAll n)).owed)
      go true e = rw e (record { sum = omega arith; wide = tt; next = hn })
      go false e = rw e (record { sum = omega arith; wide = (record { number = h; field = omega arith }, tt); next = hn })

  reaction-lighter : (r : Reply) → Wide r → Lighter own other p r (X r).standing (replies (X r).owed)
  unfolding reaction_to
  reaction-lighter (StatusUp n) w = status-lighter n
  reaction-lighter (PullAll n) w = pull-lighter n w.number
  reaction-lighter (Unknown n id) w = record { sum = omega arith; wide = tt; next = hn }

  -- and so does a call, whether or not the replies fit
  call-lighter : (r : Reply) (room : ℕ) → Wide r → Lighter own other p r (answered p (reply_header other r) (X r) room).standing (written (X r) room)
  unfolding answered
  call-lighter r room w = go (ltb room (owed_length (X r).owed))
    where
      go : (b : Bool) → Lighter own other p r
          (cond b (refused p no_room) (taken (reply_header other r) (X r) (owed_length (X r).owed))).standing (cond b [] (replies (X r).owed))
      go true = record { sum = omega (arith, weight_pos r); wide = tt; next = hn }
      go false = reaction-lighter r w

-- no reply is a message of domain 1
no_answer : (t : List ℕ) (f : Option (ℕ × ℕ)) (r : Reply) → is_answer t f (meant r) ≡ false
unfolding is_answer
no_answer t f (StatusUp n) = refl
no_answer t f (PullAll n) = refl
no_answer t f (Unknown n id) = refl

arrival_lighter : (own other : ℕ) (c : Setting) (p : Standing) (r : Reply) → other < 256 → (other ≡ own → ⊥) → p.next < 2 ^ 32 → Wide r
    → Lighter own other p r (keeps own other c p r) (sends own other c p r)
unfolding keeps sends outcome_of sent_of
arrival_lighter own other c p r h d n w =
    let t : List ℕ = c.table in
    let s : Sections = c.sections in
    let f : Option (ℕ × ℕ) = c.looked in
    subst
    (λ (x : Reading). Lighter own other p r (outcome_of own t s f p c.list x c.room).standing (sent_of own t s f p x c.room))
    (sym (reply_reads_back other own r h d w))
    (subst
    (λ (b : Bool). Lighter own other p r
    (cond b (response_to c.list f p (reply_header other r) header_length 4)
    (answered p (reply_header other r) (reaction_to own t s f p (reply_header other r) (meant r) header_length 4) c.room)).standing
    (cond b [] (written (reaction_to own t s f p (reply_header other r) (meant r) header_length 4) c.room)))
    (sym (no_answer t f r))
    (call-lighter own other t s f p h d n r c.room w))

-- lists of messages
weights_append : (xs ys : List Reply) → weights (xs ++ ys) ≡ weights xs + weights ys
weights_append [] ys = omega arith
weights_append (x ∷ xs) ys = omega (arith, weights_append xs ys)

weights_without : (xs ys : List Reply) (r : Reply) → weights (xs ++ (r ∷ ys)) ≡ weight r + weights (xs ++ ys)
weights_without xs ys r = omega (arith, weights_append xs (r ∷ ys), weights_append xs ys)

abbrev AllWide : List Reply → Type 0
AllWide rs = Each (λ (x : Reply). Wide x) rs

wide_append : (xs ys : List Reply) → AllWide xs → AllWide ys → AllWide (xs ++ ys)
wide_append [] ys a b = b
wide_append (x ∷ xs) ys a b = (a.0, wide_append xs ys a.1 b)

wide_at : (xs ys : List Reply) (r : Reply) → AllWide (xs ++ (r ∷ ys)) → Wide r
wide_at [] ys r a = a.0
wide_at (x ∷ xs) ys r a = wide_at xs ys r a.1

wide_without : (xs ys : List Reply) (r : Reply) → AllWide (xs ++ (r ∷ ys)) → AllWide (xs ++ ys)
wide_without [] ys r a = a.1
wide_without (x ∷ xs) ys r a = (a.0, wide_without xs ys r a.1)

no_weight : (rs : List Reply) → weights rs ≡ 0 → rs ≡ []
no_weight [] e = refl
no_weight (r ∷ rs) e = absurd (omega (arith, weight_pos r))

-- the sum over the two platforms
module _ (a b : ℕ) (ha : a < 256) (hb : b < 256) (d : a ≡ b → ⊥) where
  abbrev sum_of : Pair → ℕ
  sum_of x = weights x.to_a + weights x.to_b + 3 * down a x.a b + 3 * down b x.b a

  record Fine (x : Pair) : Type 0 where
    nextA : x.a.next < 2 ^ 32
    nextB : x.b.next < 2 ^ 32
    wideA : AllWide x.to_a
    wideB : AllWide x.to_b

  step-lighter : (x y : Pair) → Step a b x y → Fine x → (sum_of y + 1 ≤ sum_of x) × Fine y
  step-lighter x y (arrives_at_a c p q before after to_b r) k =
      let l = arrival_lighter a b c p r hb (λ e. d (sym e)) k.nextA (wide_at before after r k.wideA) in
      let S : List Reply = sends a b c p r in (
        omega (arith, l.sum, weights_without before after r, weights_append to_b S),
        record { nextA = l.next; nextB = k.nextB; wideA = wide_without before after r k.wideA; wideB = wide_append to_b S k.wideB l.wide },
      )
  step-lighter x y (arrives_at_b c p q before after to_a r) k =
      let l = arrival_lighter b a c q r ha d k.nextB (wide_at before after r k.wideB) in
      let S : List Reply = sends b a c q r in (
        omega (arith, l.sum, weights_without before after r, weights_append to_a S),
        record { nextA = k.nextA; nextB = l.next; wideA = wide_append to_a S k.wideA l.wide; wideB = wide_without before after r k.wideB },
      )
  step-lighter x y (lost_to_a p q before after to_b r) k = (
    omega (arith, weight_pos r, weights_without before after r),
    record { nextA = k.nextA; nextB = k.nextB; wideA = wide_without before after r k.wideA; wideB = k.wideB },
  )
  step-lighter x y (lost_to_b p q before after to_a r) k = (
    omega (arith, weight_pos r, weights_without before after r),
    record { nextA = k.nextA; nextB = k.nextB; wideA = k.wideA; wideB = wide_without before after r k.wideB },
  )

  exchange-lighter : (n : ℕ) (x z : Pair) → Exchange a b n x z → Fine x → sum_of z + n ≤ sum_of x
  exchange-lighter n x z (none _) k = omega arith
  exchange-lighter n x z (more m _ y _ s e) k =
      let l = step-lighter x y s k in
      omega (arith, l.0, exchange-lighter m y z e l.1)

  module _ (p q : Standing) (number : ℕ) (hp : p.next < 2 ^ 32) (hq : q.next < 2 ^ 32) (hn : number < 2 ^ 32) where
    fine : Fine (started p q number)
    fine = record { nextA = hp; nextB = hq; wideA = tt; wideB = (record { number = hn; field = omega arith }, tt) }

    down_le : (own : ℕ) (s : Standing) (other : ℕ) → down own s other ≤ 1
    down_le own s other = go (stands_up own s.states other)
      where
        go : (t : Bool) → cond t 0 1 ≤ 1
        go true = omega arith
        go false = omega arith

    -- 01, "Easy wrong turns": two platforms would answer for ever. They do not: at most seven messages
    pub falls-silent : (n : ℕ) (z : Pair) → Exchange a b n (started p q number) z → n ≤ longest_exchange
    falls-silent n z e = omega (arith, exchange-lighter n (started p q number) z e fine, down_le a p b, down_le b q a)

    -- and after as many there is nothing under way
    pub silence-after-seven : (z : Pair) → Exchange a b longest_exchange (started p q number) z → (z.to_a ≡ []) × (z.to_b ≡ [])
    silence-after-seven z e =
        let l : sum_of z + longest_exchange ≤ sum_of (started p q number) = exchange-lighter longest_exchange (started p q number) z e fine in
        (no_weight z.to_a (omega (arith, l, down_le a p b, down_le b q a)), no_weight z.to_b (omega (arith, l, down_le a p b, down_le b q a)))

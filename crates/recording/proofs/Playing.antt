-- What `play` asks at its returns: one datagram is one step, and the run goes on exactly where the loop does.
-- Assumes nothing.
use Rattle.std.proofs.Common.{◌≡◌, ℕ, zero, suc, ◌+◌, ◌-◌, ◌%◌, ◌^◌, ◌<◌, ◌≤◌, Bool, true, false, cond, leb, List, length, sym, refl, ap, ◌∙◌, arith}
use Rattle.wire.specs.Bytes.{written, part}
use Rattle.wire.proofs.Cond.{yes-if, no-if}
use Rattle.joiner.specs.Take.{taken_of, rooms_after}
use Rattle.joiner.specs.declared.Taken.{Taken}
use Rattle.recording.specs.Places.{behind}
use Rattle.recording.specs.Line.{line_limit, line_of}
use Rattle.recording.specs.Datagrams.{next_in}
use Rattle.recording.specs.Play.{State, state_of, stepped_of, has_room, going_on, played_for, played}
use Rattle.recording.proofs.Finding.{Within, nothing-next, found_within}
use Rattle.recording.specs.declared.Run.{Run}
use Rattle.recording.specs.declared.Coming.{Coming}
use Rattle.recording.specs.declared.Coming.TheVariants.{Datagram, Unfinished, Nothing}

pub one_step : {t : Taken} {n m : ℕ} {rooms' output' : List ℕ} (r : Run) (rooms output d : List ℕ) (e : ℕ) →
    t ≡ taken_of r.joiner rooms d →
    rooms' ≡ rooms_after r.joiner rooms d →
    m ≡ behind (length output) r.made (line_of r.number t.outcome) →
    output' ≡ written output r.made (line_of r.number t.outcome) →
    n ≡ (r.number + 1) % 2 ^ 64 →
    state_of (record { joiner = t.joiner; number = n; at = e; made = m }) rooms' output' ≡ stepped_of (state_of r rooms output) d e
unfolding stepped_of
one_step r rooms output d e et er em eo en = rw (em, eo, en, er, et)

pub stepped_at : (st : State) (d : List ℕ) (e : ℕ) → (stepped_of st d e).run.at ≡ e
unfolding stepped_of
stepped_at st d e = refl

-- after the last datagram, and where there is no room, nothing follows
goes_equal : (input : List ℕ) (st : State) (a b : State → State) →
    ((p n : ℕ) → next_in input st.run.at ≡ Datagram p n → a (stepped_of st (part input p n) (p + n)) ≡ b (stepped_of st (part input p n) (p + n))) →
    going_on input st a (next_in input st.run.at) ≡ going_on input st b (next_in input st.run.at)
unfolding going_on
goes_equal input st a b h = go (next_in input st.run.at) refl
  where
    go : (f : Coming) → next_in input st.run.at ≡ f → going_on input st a f ≡ going_on input st b f
    go (Datagram p n) e = ap (λ (x : State). cond (has_room st) x st) (h p n e)
    go Unfinished e = refl
    go Nothing e = refl

-- no more datagrams follow than there are bytes: any count from there on says the same
pub enough : (k j : ℕ) (input : List ℕ) (st : State) → length input - st.run.at ≤ k → length input - st.run.at ≤ j
    → played_for k input st ≡ played_for j input st
unfolding played_for going_on
enough zero zero input st a b = refl
enough zero (suc j) input st a b = ap (going_on input st (λ (t : State). played_for j input t)) (nothing-next input st.run.at (omega arith))
enough (suc k) zero input st a b = sym (ap (going_on input st (λ (t : State). played_for k input t)) (nothing-next input st.run.at (omega arith)))
enough (suc k) (suc j) input st a b =
    goes_equal input st (λ (t : State). played_for k input t) (λ (t : State). played_for j input t) (λ p n e.
    let w : Within input st.run.at p n = found_within input st.run.at p n e in
    let q : p ≡ st.run.at + 2 = w.starts in
    let l : p + n ≤ length input = w.ends in
    let z : (stepped_of st (part input p n) (p + n)).run.at ≡ p + n = stepped_at st (part input p n) (p + n) in
    enough k j input (stepped_of st (part input p n) (p + n)) (omega arith) (omega arith))

-- one turn
pub played_step : (input : List ℕ) (st : State) (p n : ℕ) → next_in input st.run.at ≡ Datagram p n → has_room st ≡ true → played input st
    ≡ played input (stepped_of st (part input p n) (p + n))
unfolding played played_for going_on
played_step input st p n e h =
    let w : Within input st.run.at p n = found_within input st.run.at p n e in
    let q : p ≡ st.run.at + 2 = w.starts in
    let l : p + n ≤ length input = w.ends in
    let u : State = stepped_of st (part input p n) (p + n) in
    let z : u.run.at ≡ p + n = stepped_at st (part input p n) (p + n) in
    let k : ℕ = length input - st.run.at in
    enough k (suc k) input st (omega arith) (omega arith) ∙ turn k ∙ enough k (length input - u.run.at) input u (omega arith) (omega arith)
  where
    turn : (k : ℕ) → played_for (suc k) input st ≡ played_for k input (stepped_of st (part input p n) (p + n))
    turn k = ap (going_on input st (λ (t : State). played_for k input t)) e ∙ yes-if _ _ h

-- and the end
stopped : (input : List ℕ) (st : State) (f : Coming) → next_in input st.run.at ≡ f → ((on : State → State) → going_on input st on f ≡ st)
    → played input st ≡ st
unfolding played played_for
stopped input st f e h = go (length input - st.run.at)
  where
    go : (k : ℕ) → played_for k input st ≡ st
    go zero = refl
    go (suc k) = ap (going_on input st (λ (t : State). played_for k input t)) e ∙ h (λ (t : State). played_for k input t)

-- the loop of `play`
module _ {x : State} {f : Coming} (input rooms output : List ℕ) (r : Run) (e : f ≡ next_in input r.at) where
  pub play-on : {t : Bool} {d rooms' output' : List ℕ} {r' : Run} (p n : ℕ) →
      x ≡ played input (state_of r rooms output) →
      f ≡ Datagram p n →
      t ≡ leb (r.made + line_limit) (length output) →
      t ≡ true →
      d ≡ part input p n →
      state_of r' rooms' output' ≡ stepped_of (state_of r rooms output) d (p + n) →
      x ≡ played input (state_of r' rooms' output')
  play-on p n i g h o a b =
      i
      ∙ played_step input (state_of r rooms output) p n (sym e ∙ g) (sym h ∙ o)
      ∙ ap (played input) (ap (λ (u : List ℕ). stepped_of (state_of r rooms output) u (p + n)) (sym a) ∙ sym b)

  pub play-full : {t : Bool} (p n : ℕ) → x ≡ played input (state_of r rooms output) → f ≡ Datagram p n → t
      ≡ leb (r.made + line_limit) (length output) → t ≡ false → state_of r rooms output ≡ x
  unfolding going_on
  play-full p n i g h o = sym (i ∙ stopped input (state_of r rooms output) (Datagram p n) (sym e ∙ g) (λ on. no-if _ _ (sym h ∙ o)))

  pub play-unfinished : x ≡ played input (state_of r rooms output) → f ≡ Unfinished → state_of r rooms output ≡ x
  unfolding going_on
  play-unfinished i g = sym (i ∙ stopped input (state_of r rooms output) Unfinished (sym e ∙ g) (λ on. refl))

  pub play-over : x ≡ played input (state_of r rooms output) → f ≡ Nothing → state_of r rooms output ≡ x
  unfolding going_on
  play-over i g = sym (i ∙ stopped input (state_of r rooms output) Nothing (sym e ∙ g) (λ on. refl))

pub play_less : {f : Coming} {r' : Run} {rooms' output' : List ℕ} (st : State) (input d : List ℕ) (at p n : ℕ) →
    f ≡ next_in input at → f ≡ Datagram p n → state_of r' rooms' output' ≡ stepped_of st d (p + n) → length input - r'.at < length input - at
play_less {f} {r'} st input d at p n e g b =
    let w : Within input at p n = found_within input at p n (sym e ∙ g) in
    let q : p ≡ at + 2 = w.starts in
    let l : p + n ≤ length input = w.ends in
    let z : r'.at ≡ p + n = ap (λ (t : State). t.run.at) b ∙ stepped_at st d (p + n) in
    omega arith

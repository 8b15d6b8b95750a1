-- A recording that is taken in blocks gives the lines of the whole: it does not matter how much each read brings, nor when
-- lines are written.
-- Assumes nothing.
use Rattle.std.proofs.Common.{◌≡◌, ℕ, zero, suc, ◌+◌, ◌-◌, ◌≤◌, Bool, true, false, List, [], ◌∷◌, ◌++◌, length, take, drop, sym, refl, ap, ◌∙◌, append_assoc, append-nil, arith, length-append, length-drop, length-take-le, drop-drop, leb-true}
use mathlib.Core.Path.{subst⁻¹}
use lib.Seq.{take-append-add, take-append_seam, drop-append-le}
use Rattle.wire.specs.Bytes.{over, part}
use Rattle.wire.proofs.Cond.{yes-if, no-if, yes_le}
use Rattle.wire.proofs.Runs.{written_in, length_over, part_in}
use Rattle.joiner.specs.declared.Joiner.{Joiner}
use Rattle.joiner.specs.Take.{taken_of, rooms_after}
use Rattle.recording.specs.Line.{line_limit, line_of}
use Rattle.recording.proofs.LineLaws.{line-limit}
use Rattle.recording.specs.Datagrams.{next_in}
use Rattle.recording.specs.Play.{State, following, stepped_of, has_room, going_on, played_for, played}
use Rattle.recording.specs.Whole.{behind_it, lines_for, lines_from, told, emptied, at_front, Deed, plays, writes, reads, come, ran, Over}
use Rattle.recording.specs.declared.Coming.{Coming}
use Rattle.recording.specs.declared.Coming.TheVariants.{Datagram, Unfinished, Nothing}
use Rattle.recording.proofs.Finding.{Within, nothing-next, found_within, found_more}
use Rattle.recording.proofs.More.{ahead, part-more, next_moved}

-- the line of a datagram, as the run would tell it
line_for : State → List ℕ → List ℕ
line_for st d = line_of st.run.number (taken_of st.run.joiner st.rooms d).outcome

-- a line for which there was room waits behind the others
module _ (st : State) (d : List ℕ) (e : ℕ) (r : has_room st ≡ true) where
  fits : st.run.made + length (line_for st d) ≤ length st.output
  unfolding line_for
  fits =
      let h : st.run.made + line_limit ≤ length st.output = leb-true (st.run.made + line_limit) (length st.output) r in
      omega (arith, line-limit st.run.number (taken_of st.run.joiner st.rooms d).outcome)

  next-made : (stepped_of st d e).run.made ≡ st.run.made + length (line_for st d)
  unfolding stepped_of line_for
  next-made = yes_le _ _ (st.run.made + length (line_for st d)) (length st.output) fits

  next-output : (stepped_of st d e).output ≡ over st.output st.run.made (line_for st d)
  unfolding stepped_of line_for
  next-output = written_in st.output st.run.made (line_for st d) fits

  next-within : (stepped_of st d e).run.made ≤ length (stepped_of st d e).output
  next-within =
      omega (arith, fits, next-made, ap length next-output, length_over st.output st.run.made (line_for st d) fits)

  told-next : told (stepped_of st d e) ≡ told st ++ line_for st d
  told-next =
      let m : ℕ = st.run.made in
      let o : List ℕ = st.output in
      let line : List ℕ = line_for st d in
      let f : m + length line ≤ length o = fits in
      let l : length (take m o) ≡ m = length-take-le m o (omega arith) in
      ap (λ (n : ℕ). take n (stepped_of st d e).output) next-made
      ∙ ap (take (m + length line)) next-output
      ∙ ap (λ (n : ℕ). take (n + length line) (over o m line)) (sym l)
      ∙ take-append-add (take m o) (line ++ drop (m + length line) o) (length line)
      ∙ ap (λ (u : List ℕ). take m o ++ u) (take-append_seam line (drop (m + length line) o))

-- any count from the number of bytes on says the same
lines_enough : (k i : ℕ) (s : List ℕ) (j : Joiner) (rooms : List ℕ) (number p : ℕ) → length s - p ≤ k → length s - p ≤ i
    → lines_for k s j rooms number p ≡ lines_for i s j rooms number p
unfolding lines_for behind_it
lines_enough zero zero s j rooms number p a b = refl
lines_enough zero (suc i) s j rooms number p a b = ap (behind_it _) (nothing-next s p (omega arith))
lines_enough (suc k) zero s j rooms number p a b = sym (ap (behind_it _) (nothing-next s p (omega arith)))
lines_enough (suc k) (suc i) s j rooms number p a b =
    go (next_in s p) refl (λ (x : Joiner) (y : List ℕ) (m q : ℕ) (f : length s - q ≤ k) (g : length s - q ≤ i). lines_enough k i s x y m q f g)
  where
    on : ℕ → ℕ → ℕ → List ℕ
    on c q n = line_of number (taken_of j rooms (part s q n)).outcome
        ++ lines_for c s (taken_of j rooms (part s q n)).joiner (rooms_after j rooms (part s q n)) (following number) (q + n)

    go : (f : Coming) → next_in s p ≡ f
        → ((x : Joiner) (y : List ℕ) (m q : ℕ) → length s - q ≤ k → length s - q ≤ i → lines_for k s x y m q ≡ lines_for i s x y m q)
        → behind_it (on k) f ≡ behind_it (on i) f
    go (Datagram q n) e r =
        let w : Within s p q n = found_within s p q n e in
        let h : q ≡ p + 2 = w.starts in
        let l : q + n ≤ length s = w.ends in
        ap (λ (u : List ℕ). line_of number (taken_of j rooms (part s q n)).outcome ++ u)
        (r (taken_of j rooms (part s q n)).joiner (rooms_after j rooms (part s q n)) (following number) (q + n) (omega arith) (omega arith))
    go Unfinished e r = refl
    go Nothing e r = refl

-- the next line, and those behind it
lines_next : (s : List ℕ) (st : State) (q n : ℕ) → next_in s st.run.at ≡ Datagram q n → lines_from s st ≡ line_for st (part s q n)
    ++ lines_from s (stepped_of st (part s q n) (q + n))
unfolding lines_from lines_for behind_it line_for stepped_of
lines_next s st q n e =
    let p : ℕ = st.run.at in
    let w : Within s p q n = found_within s p q n e in
    let h : q ≡ p + 2 = w.starts in
    let l : q + n ≤ length s = w.ends in
    let d : List ℕ = part s q n in
    let t : Joiner = (taken_of st.run.joiner st.rooms d).joiner in
    let u : List ℕ = rooms_after st.run.joiner st.rooms d in
    lines_enough (length s - p) (suc (length s - p)) s st.run.joiner st.rooms st.run.number p (omega arith) (omega arith)
    ∙ turn (length s - p)
    ∙ ap (λ (x : List ℕ). line_of st.run.number (taken_of st.run.joiner st.rooms d).outcome ++ x)
    (lines_enough (length s - p) (length s - (q + n)) s t u (following st.run.number) (q + n) (omega arith) (omega arith))
  where
    turn : (k : ℕ) → lines_for (suc k) s st.run.joiner st.rooms st.run.number st.run.at
        ≡ line_of st.run.number (taken_of st.run.joiner st.rooms (part s q n)).outcome
        ++ lines_for k s (taken_of st.run.joiner st.rooms (part s q n)).joiner (rooms_after st.run.joiner st.rooms (part s q n))
        (following st.run.number) (q + n)
    turn k = ap (behind_it _) e

-- and none where nothing whole is left
no_lines : (s : List ℕ) (st : State) → ((q n : ℕ) → next_in s st.run.at ≡ Datagram q n → ⊥) → lines_from s st ≡ []
unfolding lines_from lines_for behind_it
no_lines s st z = go (length s - st.run.at)
  where
    none : (on : ℕ → ℕ → List ℕ) (f : Coming) → next_in s st.run.at ≡ f → behind_it on f ≡ []
    none on (Datagram q n) e = absurd (z q n e)
    none on Unfinished e = refl
    none on Nothing e = refl

    go : (k : ℕ) → lines_for k s st.run.joiner st.rooms st.run.number st.run.at ≡ []
    go zero = refl
    go (suc k) = none _ (next_in s st.run.at) refl

-- wherever in a buffer the bytes lie
part_moved : (s : List ℕ) (a q n : ℕ) → a ≤ length s → q + n ≤ length (drop a s) → part s (a + q) n ≡ part (drop a s) q n
part_moved s a q n h f =
    let l : length (drop a s) ≡ length s - a = length-drop a s in
    part_in s (a + q) n (omega arith) ∙ ap (take n) (sym (drop-drop q a s)) ∙ sym (part_in (drop a s) q n f)

lines_moved : (k : ℕ) (s : List ℕ) (a : ℕ) (j : Joiner) (rooms : List ℕ) (number p : ℕ) → a ≤ length s → lines_for k s j rooms number (a + p)
    ≡ lines_for k (drop a s) j rooms number p
unfolding lines_for behind_it ahead
lines_moved zero s a j rooms number p h = refl
lines_moved (suc k) s a j rooms number p h =
    ap (behind_it (on s)) (next_moved s a p h) ∙ go (next_in (drop a s) p) refl (λ (x : Joiner) (y : List ℕ) (m q : ℕ). lines_moved k s a x y m q h)
  where
    on : List ℕ → ℕ → ℕ → List ℕ
    on u q n = line_of number (taken_of j rooms (part u q n)).outcome
        ++ lines_for k u (taken_of j rooms (part u q n)).joiner (rooms_after j rooms (part u q n)) (following number) (q + n)

    go : (f : Coming) → next_in (drop a s) p ≡ f
        → ((x : Joiner) (y : List ℕ) (m q : ℕ) → lines_for k s x y m (a + q) ≡ lines_for k (drop a s) x y m q) → behind_it (on s) (ahead a f)
        ≡ behind_it (on (drop a s)) f
    go (Datagram q n) e r =
        let w : Within (drop a s) p q n = found_within (drop a s) p q n e in
        let d : part s (a + q) n ≡ part (drop a s) q n = part_moved s a q n h w.ends in
        let b : a + q + n ≡ a + (q + n) = omega arith in
        ap (λ (u : List ℕ). line_of number (taken_of j rooms u).outcome
        ++ lines_for k s (taken_of j rooms u).joiner (rooms_after j rooms u) (following number) (a + q + n)) d
        ∙ ap (λ (m : ℕ). line_of number (taken_of j rooms (part (drop a s) q n)).outcome
        ++ lines_for k s (taken_of j rooms (part (drop a s) q n)).joiner (rooms_after j rooms (part (drop a s) q n)) (following number) m) b
        ∙ ap (λ (u : List ℕ). line_of number (taken_of j rooms (part (drop a s) q n)).outcome ++ u)
        (r (taken_of j rooms (part (drop a s) q n)).joiner (rooms_after j rooms (part (drop a s) q n)) (following number) (q + n))
    go Unfinished e r = refl
    go Nothing e r = refl

front_lines : (s : List ℕ) (st : State) → st.run.at ≤ length s → lines_from s st ≡ lines_from (drop st.run.at s) (at_front st)
unfolding lines_from
front_lines s st h =
    let a : ℕ = st.run.at in
    let l : length (drop a s) - 0 ≡ length s - a = omega (arith, length-drop a s) in
    let z : a + 0 ≡ a = omega arith in
    ap (lines_for (length s - a) s st.run.joiner st.rooms st.run.number) (sym z)
    ∙ lines_moved (length s - a) s a st.run.joiner st.rooms st.run.number 0 h
    ∙ ap (λ (k : ℕ). lines_for k (drop a s) st.run.joiner st.rooms st.run.number 0) (sym l)

-- what a run has to keep: its place lies in the input, and its lines in the output
pub record Sound (s : List ℕ) (st : State) : Type 0 where
  pub place : st.run.at ≤ length s
  pub room : st.run.made ≤ length st.output

-- playing keeps it, and what is told with what is still to come, whatever comes behind s
module _ (s more : List ℕ) where
  pub play-keeps : (k : ℕ) (st : State) → Sound s st → Sound s (played_for k s st)
      × (told (played_for k s st) ++ lines_from (s ++ more) (played_for k s st) ≡ told st ++ lines_from (s ++ more) st)
  unfolding played_for going_on stepped_of
  play-keeps zero st h = (h, refl)
  play-keeps (suc k) st h = go (next_in s st.run.at) refl (λ (t : State) (g : Sound s t). play-keeps k t g)
    where
      Kept : State → Type 0
      Kept t = Sound s t × (told t ++ lines_from (s ++ more) t ≡ told st ++ lines_from (s ++ more) st)

      go : (f : Coming) → next_in s st.run.at ≡ f
          → ((t : State) → Sound s t → Sound s (played_for k s t)
          × (told (played_for k s t) ++ lines_from (s ++ more) (played_for k s t) ≡ told t ++ lines_from (s ++ more) t)) →
          Kept (going_on s st (λ (t : State). played_for k s t) f)
      go Unfinished e r = (h, refl)
      go Nothing e r = (h, refl)
      go (Datagram p n) e r = by (has_room st) refl
        where
          d : List ℕ
          d = part s p n

          next : State
          next = stepped_of st d (p + n)

          ends : p + n ≤ length s
          ends = (found_within s st.run.at p n e).ends

          at : next.run.at ≡ p + n
          at = refl

          same : has_room st ≡ true → told next ++ lines_from (s ++ more) next ≡ told st ++ lines_from (s ++ more) st
          same room =
              ap (λ (u : List ℕ). u ++ lines_from (s ++ more) next) (told-next st d (p + n) room)
              ∙ append_assoc (told st) (line_for st d) (lines_from (s ++ more) next)
              ∙ ap (λ (u : List ℕ). told st ++ (line_for st u ++ lines_from (s ++ more) (stepped_of st u (p + n)))) (sym (part-more s more p n ends))
              ∙ ap (λ (u : List ℕ). told st ++ u) (sym (lines_next (s ++ more) st p n (found_more s more st.run.at p n e)))

          by : (t : Bool) → has_room st ≡ t → Kept (going_on s st (λ (t : State). played_for k s t) (Datagram p n))
          by false room = subst⁻¹ Kept (no-if (played_for k s next) st room) (h, refl)
          by true room =
              let g : Sound s next = record { place = omega (arith, at, ends); room = next-within st d (p + n) room } in
              let i : Sound s (played_for k s next)
              × (told (played_for k s next) ++ lines_from (s ++ more) (played_for k s next) ≡ told next ++ lines_from (s ++ more) next) = r next g in
              subst⁻¹ Kept (yes-if (played_for k s next) st room) (i.0, i.1 ∙ same room)

-- the whole: in whatever blocks the rest comes, and whenever lines are written
pub in_blocks : (ds : List Deed) (s : List ℕ) (st : State) → Sound s st → Over ds s st → ran ds s st ≡ told st ++ lines_from (s ++ come ds) st
unfolding played lines_from
in_blocks [] s st h o =
    sym (append-nil (told st)) ∙ ap (λ (u : List ℕ). told st ++ u) (sym (no_lines s st o)) ∙ ap (λ (u : List ℕ). told st ++ lines_from u st) (sym (append-nil s))
in_blocks (plays ∷ ds) s st h o =
    let k : ℕ = length s - st.run.at in
    let i : Sound s (played_for k s st)
    × (told (played_for k s st) ++ lines_from (s ++ come ds) (played_for k s st) ≡ told st ++ lines_from (s ++ come ds) st) = play-keeps s (come ds) k st h in
    in_blocks ds s (played_for k s st) i.0 o ∙ i.1
in_blocks (writes ∷ ds) s st h o =
    let g : Sound s (emptied st) = record { place = h.place; room = omega arith } in
    ap (λ (u : List ℕ). told st ++ u) (in_blocks ds s (emptied st) g o ∙ written-lines s st)
  where
    written-lines : (u : List ℕ) (t : State) → told (emptied t) ++ lines_from (u ++ come ds) (emptied t) ≡ lines_from (u ++ come ds) t
    written-lines u t = refl
in_blocks (reads more ∷ ds) s st h o =
    let a : ℕ = st.run.at in
    let g : Sound (drop a s ++ more) (at_front st) = record { place = omega arith; room = omega (arith, h.room) } in
    let e : drop a s ++ more ++ come ds ≡ drop a (s ++ (more ++ come ds)) = append_assoc (drop a s) more (come ds)
    ∙ sym (drop-append-le a s (more ++ come ds) h.place) in
    let l : a ≤ length (s ++ (more ++ come ds)) = omega (arith, length-append s (more ++ come ds), h.place) in
    in_blocks ds (drop a s ++ more) (at_front st) g o
    ∙ ap (λ (u : List ℕ). told st ++ lines_from u (at_front st)) e
    ∙ ap (λ (u : List ℕ). told st ++ u) (sym (front_lines (s ++ (more ++ come ds)) st l))

-- What a recording says of its datagrams stays as it is when more bytes come, and wherever in a buffer its bytes lie: only what was
-- unfinished, or nothing, can become something else. So it does not matter in which blocks a recording is read.
-- Assumes nothing.
use Rattle.std.proofs.Common.{◌≡◌, ℕ, zero, suc, ◌+◌, ◌-◌, ◌<◌, ◌≤◌, Bool, true, false, leb, List, ◌++◌, length, take, drop, sym, refl, ap, ◌∙◌, arith, length-append, length-drop, leb-false, leb-true}
use lib.Seq.{take-append-le, drop-append-le}
use Rattle.wire.specs.Bytes.{number, part}
use Rattle.wire.proofs.Cond.{yes-if, no-if}
use Rattle.wire.proofs.Numbers.{number_drop}
use Rattle.wire.proofs.Runs.{part_in}
use Rattle.recording.specs.Datagrams.{next_in}
use Rattle.recording.specs.Play.{State, stepped_of, has_room, going_on, played_for, played}
use Rattle.recording.specs.declared.Coming.{Coming}
use Rattle.recording.specs.declared.Coming.TheVariants.{Datagram, Unfinished, Nothing}
use Rattle.recording.proofs.Finding.{nothing-next, datagram-next, unfinished-next, found_within, found_more}
use Rattle.recording.proofs.Playing.{played_step}

module _ (s more : List ℕ) where
  longer : length (s ++ more) ≡ length s + length more
  longer = length-append s more

  pub next_more : (p : ℕ) → (next_in s p ≡ Unfinished → ⊥) → (next_in s p ≡ Nothing → ⊥) → next_in (s ++ more) p ≡ next_in s p
  next_more p z y = go (next_in s p) refl
    where
      go : (f : Coming) → next_in s p ≡ f → next_in (s ++ more) p ≡ next_in s p
      go (Datagram q n) e = found_more s more p q n e ∙ sym e
      go Unfinished e = absurd (z e)
      go Nothing e = absurd (y e)

  pub part-more : (p n : ℕ) → p + n ≤ length s → part (s ++ more) p n ≡ part s p n
  part-more p n h =
      let d : length (drop p s) ≡ length s - p = length-drop p s in
      part_in (s ++ more) p n (omega (arith, longer))
      ∙ ap (take n) (drop-append-le p s more (omega arith))
      ∙ take-append-le n (drop p s) more (omega arith)
      ∙ sym (part_in s p n h)

  -- playing what has come, and then going on with more, is playing all of it
  played-on : (k : ℕ) (st : State) → played (s ++ more) (played_for k s st) ≡ played (s ++ more) st
  unfolding played_for going_on
  played-on zero st = refl
  played-on (suc k) st = go (next_in s st.run.at) refl (λ (t : State). played-on k t)
    where
      go : (f : Coming) → next_in s st.run.at ≡ f → ((t : State) → played (s ++ more) (played_for k s t) ≡ played (s ++ more) t) →
          played (s ++ more) (going_on s st (λ (t : State). played_for k s t) f) ≡ played (s ++ more) st
      go Unfinished e r = refl
      go Nothing e r = refl
      go (Datagram p n) e r = room (has_room st) refl
        where
          next : State
          next = stepped_of st (part s p n) (p + n)

          room : (t : Bool) → has_room st ≡ t → played (s ++ more) (going_on s st (λ (t : State). played_for k s t) (Datagram p n)) ≡ played (s ++ more) st
          room false h = ap (played (s ++ more)) (no-if (played_for k s next) st h)
          room true h =
              ap (played (s ++ more)) (yes-if (played_for k s next) st h)
              ∙ r next
              ∙ ap (λ (d : List ℕ). played (s ++ more) (stepped_of st d (p + n))) (sym (part-more p n (found_within s st.run.at p n e).ends))
              ∙ sym (played_step (s ++ more) st p n (found_more s more st.run.at p n e) h)

  pub played-more : (st : State) → played (s ++ more) (played s st) ≡ played (s ++ more) st
  unfolding played
  played-more st = played-on (length s - st.run.at) st

-- what stands k bytes further on
unfoldable pub ahead : ℕ → Coming → Coming
ahead k (Datagram p n) = Datagram (k + p) n
ahead k Unfinished = Unfinished
ahead k Nothing = Nothing

-- what is left may be moved to the front of its buffer: the bytes before it are of no account
pub next_moved : (s : List ℕ) (k p : ℕ) → k ≤ length s → next_in s (k + p) ≡ ahead k (next_in (drop k s) p)
unfolding ahead
next_moved s k p h = go (leb (length (drop k s)) p) refl (leb (p + 2 + n) (length (drop k s))) refl
  where
    n : ℕ
    n = number 1 (drop k s) p

    l : length (drop k s) ≡ length s - k
    l = length-drop k s

    same : n ≡ number 1 s (k + p)
    same = number_drop 1 k s p

    go : (t : Bool) → leb (length (drop k s)) p ≡ t → (u : Bool) → leb (p + 2 + n) (length (drop k s)) ≡ u → next_in s (k + p) ≡ ahead k (next_in (drop k s) p)
    go true e u f =
        let a : length (drop k s) ≤ p = leb-true (length (drop k s)) p e in
        sym (nothing-next s (k + p) (omega (arith, l))) ∙ ap (ahead k) (nothing-next (drop k s) p a)
    go false e true f =
        let a : p + 2 + n ≤ length (drop k s) = leb-true (p + 2 + n) (length (drop k s)) f in
        let b : k + p + 2 ≡ k + (p + 2) = omega arith in
        sym (datagram-next s (k + p) n same (omega (arith, l)))
        ∙ ap (λ (q : ℕ). Datagram q n) b
        ∙ ap (ahead k) (datagram-next (drop k s) p n refl a)
    go false e false f =
        let a : p < length (drop k s) = leb-false (length (drop k s)) p e in
        let b : length (drop k s) < p + 2 + n = leb-false (p + 2 + n) (length (drop k s)) f in
        sym (unfinished-next s (k + p) (omega (arith, l)) (omega (arith, l, same)))
        ∙ ap (ahead k) (unfinished-next (drop k s) p a b)

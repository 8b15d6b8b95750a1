-- What stands next in a recording: the cases of `next_in`, and that more bytes behind it change nothing of a datagram that
-- was found.
-- Assumes nothing.
use Rattle.std.proofs.Common.{◌≡◌, ℕ, ◌+◌, ◌^◌, ◌<◌, ◌≤◌, Bool, true, false, leb, List, ◌++◌, length, sym, refl, ap, ◌∙◌, arith, length-append, w64, Fits, leb-false, leb-true}
use Rattle.wire.specs.Bytes.{number, Octets}
use Rattle.wire.proofs.Numbers.{number_lt, number_front}
use Rattle.wire.proofs.Cond.{yes_le, no_le}
use Rattle.wire.proofs.Runs.{held, failed}
use Rattle.recording.specs.Datagrams.{next_in}
use Rattle.recording.specs.declared.Coming.{Coming}
use Rattle.recording.specs.declared.Coming.TheVariants.{Datagram, Unfinished, Nothing}

module _ (s : List ℕ) (p : ℕ) where
  pub nothing-next : length s ≤ p → Nothing ≡ next_in s p
  unfolding next_in
  nothing-next h = sym (yes_le _ _ (length s) p h)

  pub datagram-next : (n : ℕ) → n ≡ number 1 s p → p + 2 + n ≤ length s → Datagram (p + 2) n ≡ next_in s p
  unfolding next_in
  datagram-next n e h =
      ap (Datagram (p + 2)) e
      ∙ sym (yes_le _ _ (p + 2 + number 1 s p) (length s) (rw e at h))
      ∙ sym (no_le _ _ (length s) p (omega arith))

  pub unfinished-next : p < length s → length s < p + 2 + number 1 s p → Unfinished ≡ next_in s p
  unfolding next_in
  unfinished-next l h = sym (no_le _ _ (p + 2 + number 1 s p) (length s) h) ∙ sym (no_le _ _ (length s) p l)

  -- the tests of `next`
  pub found-next : {t : Bool} {n : ℕ} → n ≡ number 1 s p → t ≡ leb (p + 2 + n) (length s) → t ≡ true → Datagram (p + 2) n ≡ next_in s p
  found-next {t} {n} e f g = datagram-next n e (held (p + 2 + n) (length s) f g)

  pub cut-datagram : {t : Bool} {n : ℕ} → p < length s → n ≡ number 1 s p → t ≡ leb (p + 2 + n) (length s) → t ≡ false → Unfinished ≡ next_in s p
  cut-datagram {t} {n} l e f g = unfinished-next l (omega (arith, failed (p + 2 + n) (length s) f g))

  pub cut-length : {t : Bool} → p < length s → t ≡ leb (p + 2) (length s) → t ≡ false → Unfinished ≡ next_in s p
  cut-length l f g = unfinished-next l (omega (arith, failed (p + 2) (length s) f g))

-- what a datagram that was found is: it starts behind its length, and lies within what has come
pub record Within (s : List ℕ) (at p n : ℕ) : Type 0 where
  pub starts : p ≡ at + 2
  pub counted : n ≡ number 1 s at
  pub ends : p + n ≤ length s

pub found_within : (s : List ℕ) (at p n : ℕ) → next_in s at ≡ Datagram p n → Within s at p n
found_within s at p n e = go (leb (length s) at) refl (leb (at + 2 + number 1 s at) (length s)) refl
  where
    go : (t : Bool) → leb (length s) at ≡ t → (u : Bool) → leb (at + 2 + number 1 s at) (length s) ≡ u → Within s at p n
    go true f u g = let z : Nothing ≡ Datagram p n = nothing-next s at (leb-true (length s) at f) ∙ e in let y : ◌≡◌ {A = ℕ} 0 1 = cc in absurd (omega arith)
    go false f true g =
        let h : at + 2 + number 1 s at ≤ length s = leb-true (at + 2 + number 1 s at) (length s) g in
        let z : Datagram (at + 2) (number 1 s at) ≡ Datagram p n = datagram-next s at (number 1 s at) refl h ∙ e in
        let a : at + 2 ≡ p = cc in
        let b : number 1 s at ≡ n = cc in
        record { starts = sym a; counted = sym b; ends = omega arith }
    go false f false g =
        let z : Unfinished ≡ Datagram p n = unfinished-next s at (leb-false (length s) at f) (leb-false (at + 2 + number 1 s at) (length s) g) ∙ e in
        let y : ◌≡◌ {A = ℕ} 0 1 = cc in
        absurd (omega arith)

-- more bytes behind it change nothing
pub found_more : (s more : List ℕ) (at p n : ℕ) → next_in s at ≡ Datagram p n → next_in (s ++ more) at ≡ Datagram p n
found_more s more at p n e =
    let w : Within s at p n = found_within s at p n e in
    let a : p ≡ at + 2 = w.starts in
    let b : p + n ≤ length s = w.ends in
    let l : length (s ++ more) ≡ length s + length more = length-append s more in
    let q : n ≡ number 1 (s ++ more) at = w.counted ∙ sym (number_front 1 s more at (omega arith)) in
    sym (ap (λ (m : ℕ). Datagram m n) a ∙ datagram-next (s ++ more) at n q (omega arith))

-- where it ends
module _ {f : Coming} (s : List ℕ) (at p n : ℕ) (e : f ≡ next_in s at) (g : f ≡ Datagram p n) where
  pub found-end : p + n ≤ length s
  found-end = (found_within s at p n (sym e ∙ g)).ends

  pub found-fits : length s < 2 ^ 64 → Fits w64 (p + n)
  found-fits h = record { fits = omega (arith, found-end) }

-- what is left of a datagram that is not all there is shorter than the longest one with its length
module _ {f : Coming} (s : List ℕ) (at : ℕ) (e : f ≡ next_in s at) (g : f ≡ Unfinished) where
  left-says : (at < length s) × (length s < at + 2 + number 1 s at)
  left-says = go (leb (length s) at) refl (leb (at + 2 + number 1 s at) (length s)) refl
    where
      go : (t : Bool) → leb (length s) at ≡ t → (u : Bool) → leb (at + 2 + number 1 s at) (length s) ≡ u → (at < length s) × (length s < at + 2 + number 1 s at)
      go true h u i = let z : Nothing ≡ Unfinished = nothing-next s at (leb-true (length s) at h) ∙ sym e
          ∙ g in let y : ◌≡◌ {A = ℕ} 0 1 = cc in absurd (omega arith)
      go false h true i =
          let z : Datagram (at + 2) (number 1 s at)
          ≡ Unfinished = datagram-next s at (number 1 s at) refl (leb-true (at + 2 + number 1 s at) (length s) i) ∙ sym e ∙ g in
          let y : ◌≡◌ {A = ℕ} 0 1 = cc in
          absurd (omega arith)
      go false h false i = (leb-false (length s) at h, leb-false (at + 2 + number 1 s at) (length s) i)

  pub left-starts : at < length s
  left-starts = left-says.0

  pub left-short : Octets s → length s < at + 65537
  left-short o = omega (arith, left-says.1, number_lt 1 s at o)

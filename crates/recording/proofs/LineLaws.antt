-- What the functions that make a line ask at their returns: its words are put one behind another, and what they make
-- together is the line.
-- Assumes nothing.
use Rattle.std.proofs.Common.{◌≡◌, ℕ, ◌+◌, ◌≤◌, List, ◌∷◌, ◌++◌, length, refl, ap, ◌∙◌, arith, length-append}
use Rattle.std.specs.Prelude.{Result, Ok, Err}
use Rattle.refusal.specs.declared.Refusal.{Refusal}
use Rattle.refusal.specs.Refusal.{number_of}
use Rattle.wire.specs.Bytes.{written, part}
use Rattle.channel.specs.Outcomes.{name_of, missed_in, bytes_in}
use Rattle.channel.specs.declared.Outcome.{Outcome}
use Rattle.channel.specs.declared.Outcome.TheVariants.{Repeated, Delivered, Held, Stray, TooLong}
use Rattle.recording.specs.Decimal.{digit_limit, decimal}
use Rattle.recording.specs.Places.{behind, spaced, joined, put_all, end_all}
use Rattle.recording.proofs.Decimals.{digits_few}
use Rattle.recording.proofs.Putting.{put_next, end-next, all_part}
use Rattle.recording.specs.Line.{line_limit, line_feed, line_of, setup_refused, refused_line, ending_of}
use Rattle.recording.specs.Words.{refusal_words, count_words, value_words}
use Rattle.recording.specs.declared.lines.Ending.{Ending}

-- any outcome but a refusal
module _ {m b : ℕ} (o : Result Outcome Refusal) (t : (n : Refusal) → o ≡ Err n → ⊥) (e : m ≡ missed_in o) (f : b ≡ bytes_in o) where
  counted : count_words m b ≡ value_words o
  counted = go o t e f
    where
      go : (x : Result Outcome Refusal) → ((n : Refusal) → x ≡ Err n → ⊥) → m ≡ missed_in x → b ≡ bytes_in x → count_words m b ≡ value_words x
      go (Err n) s g h = absurd (s n refl)
      go (Ok Repeated) s g h = rw (g, h)
      go (Ok (Delivered x y)) s g h = rw (g, h)
      go (Ok (Held x y)) s g h = rw (g, h)
      go (Ok (Stray x)) s g h = rw (g, h)
      go (Ok (TooLong x)) s g h = rw (g, h)

  pub counts_end : {r : ℕ} (w : List ℕ) (at : ℕ) → r ≡ end_all (count_words m b) w at → r ≡ end_all (value_words o) w at
  counts_end w at g = g ∙ ap (λ (ws : List (List ℕ)). end_all ws w at) counted

  pub counts-put : {u : List ℕ} (w : List ℕ) (at : ℕ) → u ≡ put_all (count_words m b) w at → u ≡ put_all (value_words o) w at
  counts-put w at g = g ∙ ap (λ (ws : List (List ℕ)). put_all ws w at) counted

-- no line is too long for its array
few : (n : ℕ) → length (decimal n) ≤ digit_limit
few n = digits_few digit_limit n

refusal_short : (k : ℕ) → length (joined (refusal_words k)) ≤ 22
refusal_short k = omega (arith, length-append (spaced (decimal k)) line_feed, few k)

counts_short : (m b : ℕ) → length (joined (count_words m b)) ≤ 43
counts_short m b =
    omega (arith, length-append (spaced (decimal m)) (spaced (decimal b) ++ line_feed), length-append (spaced (decimal b)) line_feed, few m, few b)

values_short : (o : Result Outcome Refusal) → length (spaced (name_of o)) + length (joined (value_words o)) ≤ 53
values_short (Err e) = omega (arith, refusal_short (number_of e))
values_short (Ok Repeated) = omega (arith, counts_short (missed_in (Ok Repeated)) (bytes_in (Ok Repeated)))
values_short (Ok (Delivered m p)) = omega (arith, counts_short (missed_in (Ok (Delivered m p))) (bytes_in (Ok (Delivered m p))))
values_short (Ok (Held m n)) = omega (arith, counts_short (missed_in (Ok (Held m n))) (bytes_in (Ok (Held m n))))
values_short (Ok (Stray m)) = omega (arith, counts_short (missed_in (Ok (Stray m))) (bytes_in (Ok (Stray m))))
values_short (Ok (TooLong m)) = omega (arith, counts_short (missed_in (Ok (TooLong m))) (bytes_in (Ok (TooLong m))))

-- its words are the line
line_words : ℕ → Result Outcome Refusal → List (List ℕ)
line_words n o = decimal n ∷ spaced (name_of o) ∷ value_words o

line-words : (n : ℕ) (o : Result Outcome Refusal) → joined (line_words n o) ≡ line_of n o
unfolding line_of line_words
line-words n (Err k) = refl
line-words n (Ok Repeated) = refl
line-words n (Ok (Delivered m p)) = refl
line-words n (Ok (Held m b)) = refl
line-words n (Ok (Stray m)) = refl
line-words n (Ok (TooLong m)) = refl

line_short : (n : ℕ) (o : Result Outcome Refusal) → length (joined (line_words n o)) ≤ line_limit
unfolding line_words
line_short n o =
    omega (
      arith,
      length-append (decimal n) (spaced (name_of o) ++ joined (value_words o)),
      length-append (spaced (name_of o)) (joined (value_words o)),
      few n,
      values_short o,
    )

pub line-limit : (n : ℕ) (o : Result Outcome Refusal) → length (line_of n o) ≤ line_limit
line-limit n o = rw (← line-words n o) (line_short n o)

module _ (n : ℕ) (o : Result Outcome Refusal) (a b l s : List ℕ) (p q e : ℕ) (z : length s ≡ line_limit)
    (pe : p ≡ behind (length s) 0 (decimal n)) (ae : a ≡ written s 0 (decimal n))
    (qe : q ≡ behind (length a) p (spaced (name_of o))) (be : b ≡ written a p (spaced (name_of o)))
    (ee : e ≡ end_all (value_words o) b q) (le : l ≡ put_all (value_words o) b q) where
  pub line_made : part l 0 e ≡ line_of n o
  unfolding line_words
  line_made =
      let ws : List (List ℕ) = spaced (name_of o) ∷ value_words o in
      let h : length (joined (line_words n o)) ≤ length s = omega (arith, line_short n o) in
      let u : l ≡ put_all (line_words n o) s 0 = put_next (decimal n) s 0 ws ae pe (put_next (spaced (name_of o)) a p (value_words o) be qe le) in
      let v : e ≡ end_all (line_words n o) s 0 = end-next (decimal n) s 0 ws ae pe (end-next (spaced (name_of o)) a p (value_words o) be qe ee) in
      ap (λ (x : List ℕ). part x 0 e) u ∙ ap (part (put_all (line_words n o) s 0) 0) v ∙ all_part (line_words n o) s h ∙ line-words n o

-- a line that was made is written in one
module _ (k at : ℕ) (line made l : List ℕ) (e : ℕ) (f : made ≡ part l 0 e) (g : part l 0 e ≡ line) where
  pub line-end : {r : ℕ} → r ≡ behind k at made → r ≡ behind k at line
  line-end h = h ∙ ap (behind k at) (f ∙ g)

  pub line-put : {u : List ℕ} (w : List ℕ) → u ≡ written w at made → u ≡ written w at line
  line-put w h = h ∙ ap (written w at) (f ∙ g)

-- the line that a run ends with
module _ (k at : ℕ) {x e : Ending} (h : e ≡ x) where
  pub ending-end : {r : ℕ} → r ≡ behind k at (ending_of x) → r ≡ behind k at (ending_of e)
  ending-end f = rw h f

  pub ending-put : {u : List ℕ} (w : List ℕ) → u ≡ written w at (ending_of x) → u ≡ written w at (ending_of e)
  ending-put w f = rw h f

-- a refused set-up's line is its words and its number
module _ (n : ℕ) (a l s : List ℕ) (p e : ℕ) (z : length s ≡ line_limit)
    (pe : p ≡ behind (length s) 0 setup_refused) (ae : a ≡ written s 0 setup_refused)
    (ee : e ≡ end_all (refusal_words n) a p) (le : l ≡ put_all (refusal_words n) a p) where
  pub refused-made : part l 0 e ≡ refused_line n
  refused-made =
      let ws : List (List ℕ) = setup_refused ∷ refusal_words n in
      let h : length (joined ws) ≤ length s = omega (arith, refusal_short n) in
      let u : l ≡ put_all ws s 0 = put_next setup_refused s 0 (refusal_words n) ae pe le in
      let v : e ≡ end_all ws s 0 = end-next setup_refused s 0 (refusal_words n) ae pe ee in
      ap (λ (x : List ℕ). part x 0 e) u ∙ ap (part (put_all ws s 0) 0) v ∙ all_part ws s h

-- Whatever was taken, the words of a joiner read back as the joiner that `take` gives back. So a run over the words is a run
-- over joiners.
-- Assumes nothing.
use Prim.Native.Nat.{ℕ, ◌<◌}
use Rattle.std.specs.Prelude.{Result, Ok, Err}
use Rattle.refusal.specs.declared.Refusal.{Refusal}
use Rattle.channel.specs.declared.Step.{Step}
use mathlib.Core.Path.{◌≡◌, refl, ap, ◌∙◌}
use mathlib.Core.Bool.{true}
use mathlib.Core.List.{List}
use native.Mathlib.Omega.{arith}
use lib.ListN.{length}
use Rattle.channel.specs.Record.{good_channel}
use Rattle.channel.proofs.Cases.{channel_says, step-sender}
use Rattle.joiner.specs.Setup.{channel_at}
use Rattle.joiner.specs.declared.Joiner.{Joiner}
use Rattle.joiner.specs.Take.{judged_of, taken_by, taken_of}
use Rattle.joiner.proofs.Judging.{Moved, good_says}
use Rattle.joiner.specs.JoinerWords.{joiner_words, sender_limit, joiner_in}
use Rattle.joiner.specs.Calls.{place_in, words_by, take_words}
use Rattle.joiner.proofs.ReadBack.{record_back}
use Rattle.joiner.proofs.Moving.{some_joiner, counted, channels_length, moves, steps, words-moved}

pub taken_back : (ws rooms d : List ℕ) → length ws ≡ joiner_words → joiner_in (take_words ws rooms d) ≡ (taken_of (joiner_in ws) rooms d).joiner
unfolding take_words taken_of taken_by
taken_back ws rooms d w = go (judged_of (joiner_in ws) (length rooms) d) refl
  where
    go : (x : Result (ℕ × Step) Refusal) → judged_of (joiner_in ws) (length rooms) d ≡ x
        → joiner_in (words_by ws (place_in (joiner_in ws) d) (taken_by (joiner_in ws) x)) ≡ (taken_by (joiner_in ws) x).joiner
    go (Err n) e = refl
    go (Ok (k, s)) e =
        let j : Joiner = joiner_in ws in
        let m : Moved j (length rooms) d k s = moves ws (length rooms) d k s e in
        let g : good_channel j.room (channel_at j k) ≡ true = (good_says j (length rooms) (channels_length ws) m.well).each k m.known in
        let q : s.channel.sender < sender_limit = omega
        (arith, step-sender _ _ _ _ (steps ws (length rooms) d k s e), (channel_says j.room (channel_at j k) g).sender) in
        ap joiner_in (words-moved ws (length rooms) d k s e)
        ∙ record_back ws k s.channel w (some_joiner ws k m.known) (counted ws k m.known) q

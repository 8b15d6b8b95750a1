-- A joiner in its words: what writing shows, record by record.
-- Assumes nothing.
use Prim.Native.Nat.{ℕ, ◌+◌, ◌*◌, ◌≤◌, ◌<◌}
use mathlib.Core.Path.{◌≡◌, refl, sym, ap, ◌∙◌}
use mathlib.Core.Bool.{Bool, true, false, cond}
use mathlib.Core.List.{List, [], ◌∷◌, ◌++◌, append-nil}
use native.Mathlib.Omega.{arith}
use native.Mathlib.Numerals.{add-one}
use borrow.Author.Tests.{le-leb, lt-leb}
use mir.Val.{bool_byte}
use lib.Dec.{ltb, eqb}
use lib.ListN.{length, get_or, set, take, drop, replicate, length-append}
use lib.Seq.{take-suc, take_all, drop-length, length-take-le}
use Rattle.wire.specs.Bytes.{over, written}
use Rattle.wire.proofs.Runs.{set_over, written_in, written_out, over_none, over_over, length_over}
use Rattle.channel.specs.Record.{channel_limit, new_channel}
use Rattle.channel.specs.declared.Channel.{Channel}
use Rattle.joiner.specs.declared.Joiner.{Joiner}
use Rattle.joiner.specs.JoinerWords.{record_at, joiner_words, seen_limit, record_words, records_words, words_of}

-- seen, as a word
as-word : (b : Bool) → bool_byte b ≡ cond b 1 0
as-word true = refl
as-word false = refl

-- one record, word by word
behind : (ws : List ℕ) (p : ℕ) (r : List ℕ) (x q : ℕ) → q ≡ p + length r → q < length ws → set (over ws p r) q x ≡ over ws p (r ++ (x ∷ []))
behind ws p r x q e h =
    let l : length (over ws p r) ≡ length ws = length_over ws p r (omega arith) in
    let m : length (r ++ (x ∷ [])) ≡ length r + 1 = length-append r (x ∷ []) in
    set_over (over ws p r) q x (omega arith) ∙ ap (λ (k : ℕ). over (over ws p r) k (x ∷ [])) e ∙ over_over ws p r (x ∷ []) (omega arith)

pub put_record : {b : ℕ} (ws : List ℕ) (k : ℕ) (ch : Channel) → length ws ≡ joiner_words → k < channel_limit → b ≡ bool_byte ch.seen →
    set (set (set (set ws (record_at k) ch.sender) (record_at k + 1) b) (record_at k + 2) ch.last) (record_at k + 3) ch.held
    ≡ written ws (record_at k) (record_words ch)
put_record {b} ws k ch w l e =
    let p : ℕ = record_at k in
    let one : set ws p ch.sender ≡ over ws p (ch.sender ∷ []) = set_over ws p ch.sender (omega arith) in
    ap (λ (u : List ℕ). set (set (set u (p + 1) b) (p + 2) ch.last) (p + 3) ch.held) one
    ∙ ap (λ (u : List ℕ). set (set u (p + 2) ch.last) (p + 3) ch.held) (behind ws p (ch.sender ∷ []) b (p + 1) refl (omega arith))
    ∙ ap (λ (u : List ℕ). set u (p + 3) ch.held) (behind ws p (ch.sender ∷ b ∷ []) ch.last (p + 2) refl (omega arith))
    ∙ behind ws p (ch.sender ∷ b ∷ ch.last ∷ []) ch.held (p + 3) refl (omega arith)
    ∙ ap (λ (u : ℕ). over ws p (ch.sender ∷ u ∷ ch.last ∷ ch.held ∷ [])) (e ∙ as-word ch.seen)
    ∙ sym (written_in ws p (record_words ch) (omega arith))

-- the sizes, and no record yet
abbrev pub sized : ℕ → ℕ → List ℕ
sized n R = n ∷ R ∷ replicate (4 * channel_limit) 0

-- the word, read back
pub seen_back : (b : Bool) → eqb (cond b 1 0) 1 ≡ b
seen_back true = refl
seen_back false = refl

pub seen_small : (b : Bool) → ltb (cond b 1 0) seen_limit ≡ true
seen_small true = refl
seen_small false = refl

-- a record behind the last is none
pub no_record : (ws : List ℕ) (k : ℕ) (ch : Channel) → length ws ≡ joiner_words → channel_limit ≤ k → ws ≡ written ws (record_at k) (record_words ch)
no_record ws k ch w h = sym (written_out ws (record_at k) (record_words ch) (omega arith))

-- the words of a joiner, and of one of more channels than there can be
module _ (j : Joiner) where
  pub words-some : j.count ≤ channel_limit → words_of j ≡ j.count ∷ j.room ∷ records_words j.channels
  unfolding words_of
  words-some h = rw (le-leb j.count channel_limit h)

  pub words-none : channel_limit < j.count → replicate joiner_words 0 ≡ words_of j
  unfolding words_of
  words-none h = rw (lt-leb j.count channel_limit h)

-- writing them all
pub words_length : (chs : List Channel) → length (records_words chs) ≡ 4 * length chs
words_length [] = refl
words_length (ch ∷ chs) = omega (arith, words_length chs)

words_append : (xs ys : List Channel) → records_words (xs ++ ys) ≡ records_words xs ++ records_words ys
words_append [] ys = refl
words_append (x ∷ xs) ys = ap (λ (u : List ℕ). record_words x ++ u) (words_append xs ys)

module _ (chs : List Channel) (l : length chs ≡ channel_limit) where
  made-length : (i : ℕ) → i ≤ channel_limit → length (records_words (take i chs)) ≡ 4 * i
  made-length i h = omega (arith, words_length (take i chs), length-take-le i chs (omega arith))

  pub write_none : (s : List ℕ) → s ≡ over s 2 (records_words (take 0 chs))
  write_none s = over_none s 2 []

  pub write-more : {x u : List ℕ} (s : List ℕ) (i : ℕ) → length s ≡ joiner_words → u ≡ over s 2 (records_words (take i chs)) → i < channel_limit →
      x ≡ written u (record_at i) (record_words (get_or chs i (new_channel 0))) → x ≡ over s 2 (records_words (take (i + 1) chs))
  write-more {x} {u} s i w e h f =
      let ch : Channel = get_or chs i (new_channel 0) in
      let old : List ℕ = records_words (take i chs) in
      let m : length old ≡ 4 * i = made-length i (omega arith) in
      let v : length (over s 2 old) ≡ length s = length_over s 2 old (omega arith) in
      let t : records_words (take (i + 1) chs) ≡ old ++ record_words ch =
      ap (λ (q : ℕ). records_words (take q chs)) (add-one i) ∙ ap records_words (take-suc chs i (new_channel 0) (omega arith))
      ∙ words_append (take i chs) (ch ∷ []) in
      let q : length (old ++ record_words ch) ≡ 4 * i + 4 = length-append old (record_words ch) ∙ omega arith in
      let z : record_at i ≡ 2 + length old = omega arith in
      f
      ∙ ap (λ (y : List ℕ). written y (record_at i) (record_words ch)) e
      ∙ written_in (over s 2 old) (record_at i) (record_words ch) (omega arith)
      ∙ ap (λ (p : ℕ). over (over s 2 old) p (record_words ch)) z
      ∙ over_over s 2 old (record_words ch) (omega arith)
      ∙ ap (over s 2) (sym t)

pub write_all : {u : List ℕ} (j : Joiner) (i : ℕ) → length j.channels ≡ channel_limit → j.count ≤ channel_limit →
    u ≡ over (sized j.count j.room) 2 (records_words (take i j.channels)) → channel_limit ≤ i → u ≡ words_of j
write_all j i l few e h =
    let chs : List Channel = j.channels in
    let s : List ℕ = sized j.count j.room in
    let t : take i chs ≡ chs = take_all i chs (omega arith) in
    let m : length (records_words chs) ≡ 4 * length chs = words_length chs in
    let q : 2 + length (records_words chs) ≡ length s = omega arith in
    let r : drop (2 + length (records_words chs)) s ≡ [] = ap (λ (k : ℕ). drop k s) q ∙ drop-length s in
    e ∙ ap (λ (y : List Channel). over s 2 (records_words y)) t ∙ whole r ∙ sym (words-some j few)
  where
    whole : drop (2 + length (records_words j.channels)) (sized j.count j.room) ≡ [] →
        over (sized j.count j.room) 2 (records_words j.channels) ≡ j.count ∷ j.room ∷ records_words j.channels
    whole r = rw (r, append-nil (records_words j.channels))

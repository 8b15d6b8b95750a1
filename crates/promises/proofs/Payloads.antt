-- Payloads, on table bytes that `check` accepts.
-- Assumes nothing.
use Prim.Native.Nat.{ℕ, ◌≤◌}
use mathlib.Core.Path.{◌≡◌, sym, ap, ◌∙◌}
use mathlib.Core.List.{List}
use native.Mathlib.Omega.{arith}
use borrow.Author.Tests.{lt-ltb}
use lib.ListN.{length}
use Rattle.wire.specs.Bytes.{Octets, over}
use Rattle.table.specs.declared.Sections.{Sections}
use Rattle.types.proofs.Accepted.{accepted, is_within}
use Rattle.payload.specs.declared.Answer.TheVariants.{Gave}
use Rattle.values.specs.Values.{Value, Spoken, exact}
use Rattle.unpack.specs.Reading.{reader}
use Rattle.pack.specs.Writing.{writer}
use Rattle.payload.specs.Calls.{unpacked_in, words_in, packed_in, bytes_in, unpacked, words_after, packed, bytes_after}
use Rattle.values.proofs.Exactly.{Callable, Calls, packs_values, values_pack, Unpacks, unpacks_forms, forms_unpack}
use Rattle.values.proofs.Checked.{same_answer, same_left}
use Rattle.promises.specs.Payloads.{Known, our_coding, PackGives, UnpackGives, PacksExactly, UnpacksExactly, RoundTrips, OnSections, Payloads}
use Rattle.promises.proofs.OneCodec.{trips_follow}

module _ (t : List ℕ) (s : Sections) (i : ℕ) (h : Known t s i) where
  callable : Callable t s i
  callable = (is_within t s (accepted t s h.accepted), lt-ltb i s.types.count h.known)

  -- the call on bytes is the call on sections
  pack-same : (ws : List ℕ) (room : ℕ) → packed t i ws room ≡ packed_in t s i ws room
  pack-same ws room = same_answer t s h.accepted (writer ws) (length ws) i room

  bytes_same : (ws out : List ℕ) → bytes_after t i ws out ≡ bytes_in t s i ws out
  bytes_same ws out = same_left t s h.accepted (writer ws) (length ws) i out

  unpack-same : (b : List ℕ) (room : ℕ) → unpacked t i b room ≡ unpacked_in t s i b room
  unpack-same b room = same_answer t s h.accepted (reader b) (length b) i room

  words_same : (b words : List ℕ) → words_after t i b words ≡ words_in t s i b words
  words_same b words = same_left t s h.accepted (reader b) (length b) i words

  -- what a call on sections gives, the call on bytes gives
  pack-gives : (ws out bs : List ℕ) → packed_in t s i ws (length out) ≡ Gave (length bs) → bytes_in t s i ws out ≡ over out 0 bs → PackGives t i ws out bs
  pack-gives ws out bs a b = (pack-same ws (length out) ∙ a, bytes_same ws out ∙ b)

  unpack-gives : (b words ws : List ℕ) → unpacked_in t s i b (length words) ≡ Gave (length ws) → words_in t s i b words ≡ over words 0 ws
      → UnpackGives t i b words ws
  unpack-gives b words ws a c = (unpack-same b (length words) ∙ a, words_same b words ∙ c)

  packs-exactly : PacksExactly t s i
  unfolding Value
  packs-exactly = record { values = values; only = only; fits = fits }
    where
      values : (ws bs out : List ℕ) → Value t s i ws bs → length bs ≤ length out → PackGives t i ws out bs
      values ws bs out v l = let p = values_pack t s i ws bs out callable v l in pack-gives ws out bs p.0 p.1

      only : (ws out : List ℕ) (k : ℕ) → packed t i ws (length out) ≡ Gave k → (bs : List ℕ) × Value t s i ws bs × PackGives t i ws out bs
      only ws out k e =
          let a : packed_in t s i ws (length out) ≡ Gave k = sym (pack-same ws (length out)) ∙ e in
          let c : Calls exact (writer ws) t s i ws out k = packs_values t s i ws out k a in
          (c.ys, c.belong, pack-gives ws out c.ys (a ∙ ap Gave c.as_many) c.given)

      fits : (ws out : List ℕ) (k : ℕ) → packed t i ws (length out) ≡ Gave k → k ≤ length out
      fits ws out k e =
          let c : Calls exact (writer ws) t s i ws out k = packs_values t s i ws out k (sym (pack-same ws (length out)) ∙ e) in
          omega (arith, c.as_many, c.fit)

  unpacks-exactly : UnpacksExactly t s i
  unpacks-exactly = record { forms = forms; only = only; fits = fits }
    where
      forms : (ws b words : List ℕ) → Spoken t s i ws b → length ws ≤ length words → UnpackGives t i b words ws
      forms ws b words v l = let p = forms_unpack t s i ws b words callable v l in unpack-gives b words ws p.0 p.1

      only : (b words : List ℕ) (k : ℕ) → Octets b → unpacked t i b (length words) ≡ Gave k → (ws : List ℕ) × Spoken t s i ws b × UnpackGives t i b words ws
      only b words k o e =
          let a : unpacked_in t s i b (length words) ≡ Gave k = sym (unpack-same b (length words)) ∙ e in
          let c : Unpacks t s i b words k = unpacks_forms t s i b words k o a in
          (c.ws, c.belong, unpack-gives b words c.ws (a ∙ ap Gave c.as_many) c.given)

      fits : (b words : List ℕ) (k : ℕ) → Octets b → unpacked t i b (length words) ≡ Gave k → k ≤ length words
      fits b words k o e =
          let c : Unpacks t s i b words k = unpacks_forms t s i b words k o (sym (unpack-same b (length words)) ∙ e) in
          omega (arith, c.as_many, c.fit)

  round_trips : RoundTrips t s i
  round_trips = trips_follow our_coding t s i packs-exactly unpacks-exactly

  on_sections : OnSections t s i
  on_sections =
      record {
        packing = λ ws out. (sym (pack-same ws (length out)), sym (bytes_same ws out));
        unpacking = λ b words. (sym (unpack-same b (length words)), sym (words_same b words));
      }

pub payloads : Payloads
payloads = record { calls = λ t s i h. (packs-exactly t s i h, unpacks-exactly t s i h, round_trips t s i h); on_sections = λ t s i h. on_sections t s i h }

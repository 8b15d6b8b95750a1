-- What is linked packs and unpacks as demand 2 asks.
-- Assumes nothing.
use Prim.Native.Nat.{ℕ, ◌≤◌, ◌<◌}
use Rattle.std.specs.Prelude.{Result, Ok, Err}
use Rattle.refusal.specs.declared.Refusal.{Refusal}
use mathlib.Core.Path.{◌≡◌, refl, sym, ap, ap₂, subst, ◌∙◌}
use mathlib.Core.Bool.{Bool, true, false, cond, ◌&&◌}
use mathlib.Core.List.{List, [], ◌++◌}
use native.Mathlib.Omega.{arith}
use borrow.Author.Tests.{ltb-true, eqb-true, ne_eqb, le-leb, lt-leb}
use lib.Dec.{eqb, leb}
use lib.ListN.{length, take, get_or}
use Rattle.wire.specs.Bytes.{Octets, over}
use Rattle.table.specs.declared.Sections.{Sections}
use Rattle.table.specs.Layout.{within}
use Rattle.table.specs.Checked.{number_given as check_number}
use Rattle.table.specs.Entries.{is_type}
use Rattle.table.specs.Words.{sections_in, words_of}
use Rattle.table.proofs.Chain.{Chain}
use Rattle.table.proofs.Storing.{Narrow, read_back}
use Rattle.types.specs.Table.{checked}
use Rattle.types.proofs.Accepted.{accepted}
use Rattle.payload.specs.declared.Answer.{Answer}
use Rattle.payload.specs.declared.Answer.TheVariants.{Refused, Stopped, Gave}
use Rattle.walk.specs.Walk.{Codec}
use Rattle.payload.specs.Calls.{number_given}
use Rattle.payload.specs.Calls.{answered_type, answered_in, answered_if, unpacked_in, words_in, packed_in, bytes_in, unpacked, words_after, packed, bytes_after}
use Rattle.unpack.specs.Reading.{reader}
use Rattle.pack.specs.Writing.{writer}
use Rattle.values.proofs.Checked.{same_answer, same_left}
use Rattle.values.specs.Values.{Value, Spoken}
use Rattle.nyrkovash.specs.TableCalls.{sections_left}
use Rattle.nyrkovash.specs.PayloadCalls.{walked_left}
use Rattle.promises.specs.Checks.{Outside, below, above}
use Rattle.promises.specs.Payloads.{Known, PackGives, UnpackGives}
use Rattle.promises.specs.LinkedPayloads.{given, given_back, PacksAs, UnpacksAs, PackedBack, UnpackedBack, LinkedPayloads}
use Rattle.promises.proofs.Payloads.{payloads}
use Rattle.promises.proofs.Demand1.{demand_1}
use Rattle.promises.proofs.Numbered.{Numbered, TableNumbered, table_numbered, in-numbered, bytes-numbered}

-- number and words tell the answer
told : (a : Answer) (was : List ℕ) → Numbered a → given_back (number_given a) (walked_left was a) ≡ a
told (Refused n) was h = go h.1
  where
    go : Outside 40 43 n → given_back n was ≡ Refused n
    go (below l) = rw (ne_eqb n 0 (λ e. omega (arith, h.0, e)), lt-leb 40 n l)
    go (above l) = rw (ne_eqb n 0 (λ e. omega (arith, h.0, e)), le-leb 40 n (omega arith), lt-leb n 43 l)
told (Stopped n o) was h = rw (ne_eqb n 0 (λ e. omega (arith, h.0, e)), le-leb 40 n h.0, le-leb n 43 h.1)
told (Gave n) was h = refl

zero_is_given : (n : ℕ) (walked : List ℕ) (k : ℕ) → given_back n walked ≡ Gave k → (n ≡ 0) × (given walked ≡ k)
zero_is_given n walked k e = go (eqb n 0) refl (leb 40 n && leb n 43) e
  where
    go : (a : Bool) → eqb n 0 ≡ a → (b : Bool)
        → cond a (Gave (given walked)) (cond b (Stopped n (record { at = get_or walked 1 0; leaves = get_or walked 2 0 })) (Refused n)) ≡ Gave k
        → (n ≡ 0) × (given walked ≡ k)
    go true f b g = (eqb-true n 0 f, cc)
    go false f true g = let z : ◌≡◌ {A = ℕ} 0 1 = cc in absurd (omega arith)
    go false f false g = let z : ◌≡◌ {A = ℕ} 0 1 = cc in absurd (omega arith)

pub gave_given : (n : ℕ) (walked : List ℕ) → n ≡ 0 → given_back n walked ≡ Gave (given walked)
gave_given n walked z = ap (λ (x : ℕ). given_back x walked) z

pack_numbered : (t : List ℕ) (i : ℕ) (ws : List ℕ) (room : ℕ) → Numbered (packed t i ws room)
pack_numbered t i ws room = bytes-numbered (writer ws) (length ws) t i room

unpack_numbered : (t : List ℕ) (i : ℕ) (b : List ℕ) (room : ℕ) → Numbered (unpacked t i b room)
unpack_numbered t i b room = bytes-numbered (reader b) (length b) t i room

-- the sections of a table that the check accepts read back from their words
narrow : (t : List ℕ) (s : Sections) → Chain t s → Narrow s.types × Narrow s.members × Narrow s.values × Narrow s.operations
narrow t s c = (
  record { at = omega (arith, c.types.starts); count = omega (arith, c.types.few) },
  record { at = omega (arith, c.types.starts, c.types.few, c.members.starts); count = omega (arith, c.members.few) },
  record {
    at = omega (arith, c.types.starts, c.types.few, c.members.starts, c.members.few, c.values.starts);
    count = omega (arith, c.values.few);
  },
  record {
    at = omega (arith, c.types.starts, c.types.few, c.members.starts, c.members.few, c.values.starts, c.values.few, c.operations.starts);
    count = omega (arith, c.operations.few);
  },
)

pub sections_back : (t : List ℕ) (s : Sections) (ss index : List ℕ) → checked t ≡ Ok s → ss ≡ words_of s ++ index → sections_in ss ≡ s
sections_back t s ss index e f =
    let n = narrow t s (accepted t s e).lie in
    ap sections_in f ∙ read_back s index n.0 n.1 n.2 n.3

-- what a contract says of number and words, told
module _ {n : ℕ} {walked : List ℕ} {b : Answer} (a : Answer) (was : List ℕ) (same : b ≡ a) (sound : Numbered a) (e : n ≡ number_given b)
    (f : walked ≡ walked_left was b) where
  pub as-told : given_back n walked ≡ a
  as-told = ap₂ given_back (e ∙ ap number_given same) (f ∙ ap (walked_left was) same) ∙ told a was sound

check_zero : (was : List ℕ) (x : Result Sections Refusal) → TableNumbered x → check_number x ≡ 0 → (s : Sections) × (x ≡ Ok s)
check_zero was (Err n) h e = absurd (omega arith)
check_zero was (Ok s) h e = (s, refl)

module _ (t : List ℕ) (s : Sections) (ss index : List ℕ) (i : ℕ) (e : checked t ≡ Ok s) (f : ss ≡ words_of s ++ index) where
  pack-same : (ws out : List ℕ) → packed_in t (sections_in ss) i ws (length out) ≡ packed t i ws (length out)
  pack-same ws out =
      ap (λ (x : Sections). packed_in t x i ws (length out)) (sections_back t s ss index e f) ∙ sym (same_answer t s e (writer ws) (length ws) i (length out))

  bytes_same : (ws out : List ℕ) → bytes_in t (sections_in ss) i ws out ≡ bytes_after t i ws out
  bytes_same ws out = ap (λ (x : Sections). bytes_in t x i ws out) (sections_back t s ss index e f) ∙ sym (same_left t s e (writer ws) (length ws) i out)

  unpack-same : (b words : List ℕ) → unpacked_in t (sections_in ss) i b (length words) ≡ unpacked t i b (length words)
  unpack-same b words =
      ap (λ (x : Sections). unpacked_in t x i b (length words)) (sections_back t s ss index e f) ∙ sym (same_answer t s e (reader b) (length b) i (length words))

  words_same : (b words : List ℕ) → words_in t (sections_in ss) i b words ≡ words_after t i b words
  words_same b words = ap (λ (x : Sections). words_in t x i b words) (sections_back t s ss index e f) ∙ sym (same_left t s e (reader b) (length b) i words)

-- what is given is of a type of a table that the check accepts
gave_known : (c : Codec) (n : ℕ) (t : List ℕ) (i room k : ℕ) → answered_if (checked t) c n t i room ≡ Gave k → (s : Sections) × Known t s i
unfolding answered_if answered_in
gave_known c n t i room k e = go (checked t) refl e
  where
    known : (s : Sections) (a b : Bool) → is_type s i ≡ b → cond a (cond b (answered_type c n t s i room) (Refused 44)) (Refused 30) ≡ Gave k
        → i < s.types.count
    known s true true f h = ltb-true i s.types.count f
    known s true false f h = let z : ◌≡◌ {A = ℕ} 0 1 = cc in absurd (omega arith)
    known s false b f h = let z : ◌≡◌ {A = ℕ} 0 1 = cc in absurd (omega arith)

    go : (x : Result Sections Refusal) → checked t ≡ x → answered_if x c n t i room ≡ Gave k → (s : Sections) × Known t s i
    go (Err r) f h = let z : ◌≡◌ {A = ℕ} 0 1 = cc in absurd (omega arith)
    go (Ok s) f h = (s, record { accepted = f; known = known s (within t s) (is_type s i) refl h })

-- a call that packed, and one that unpacked, by number and words
just_packs : (t : List ℕ) (s : Sections) (i : ℕ) (ws bs out : List ℕ) (n : ℕ) (walked left : List ℕ) → PacksAs t i ws out n walked left
    → Known t s i → Value t s i ws bs → length bs ≤ length out → (n ≡ 0) × (given walked ≡ length bs) × (left ≡ over out 0 bs)
just_packs t s i ws bs out n walked left p k v l =
    let g : PackGives t i ws out bs = (payloads.calls t s i k).0.values ws bs out v l in
    let y = zero_is_given n walked (length bs) (p.0 ∙ g.0) in
    (y.0, y.1, p.1 ∙ g.1)

packs_only : (t : List ℕ) (i : ℕ) (ws out : List ℕ) (n : ℕ) (walked left : List ℕ) → PacksAs t i ws out n walked left → n ≡ 0
    → (s : Sections) × (bs : List ℕ) × Known t s i × Value t s i ws bs × (given walked ≡ length bs) × (left ≡ over out 0 bs)
packs_only t i ws out n walked left p z =
    let a : packed t i ws (length out) ≡ Gave (given walked) = sym p.0 ∙ gave_given n walked z in
    let k = gave_known (writer ws) (length ws) t i (length out) (given walked) a in
    let g = (payloads.calls t k.0 i k.1).0.only ws out (given walked) a in
    (k.0, g.0, k.1, g.1, (zero_is_given n walked (length g.0) (p.0 ∙ g.2.0)).1, p.1 ∙ g.2.1)

just_unpacks : (t : List ℕ) (s : Sections) (i : ℕ) (ws b words : List ℕ) (n : ℕ) (walked left : List ℕ) → UnpacksAs t i b words n walked left
    → Known t s i → Spoken t s i ws b → length ws ≤ length words → (n ≡ 0) × (given walked ≡ length ws) × (left ≡ over words 0 ws)
just_unpacks t s i ws b words n walked left p k v l =
    let g : UnpackGives t i b words ws = (payloads.calls t s i k).1.forms ws b words v l in
    let y = zero_is_given n walked (length ws) (p.0 ∙ g.0) in
    (y.0, y.1, p.1 ∙ g.1)

unpacks_only : (t : List ℕ) (i : ℕ) (b words : List ℕ) (n : ℕ) (walked left : List ℕ) → Octets b → UnpacksAs t i b words n walked left
    → n ≡ 0 → (s : Sections) × (ws : List ℕ) × Known t s i × Spoken t s i ws b × (given walked ≡ length ws) × (left ≡ over words 0 ws)
unpacks_only t i b words n walked left o p z =
    let a : unpacked t i b (length words) ≡ Gave (given walked) = sym p.0 ∙ gave_given n walked z in
    let k = gave_known (reader b) (length b) t i (length words) (given walked) a in
    let g = (payloads.calls t k.0 i k.1).1.only b words (given walked) o a in
    (k.0, g.0, k.1, g.1, (zero_is_given n walked (length g.0) (p.0 ∙ g.2.0)).1, p.1 ∙ g.2.1)

-- a call that gave 0 back, and the one behind it
packed_back : PackedBack
packed_back t i ws out n walked left p z words n' walked' left' u room =
    let a : packed t i ws (length out) ≡ Gave (given walked) = sym p.0 ∙ gave_given n walked z in
    let k = gave_known (writer ws) (length ws) t i (length out) (given walked) a in
    let g : UnpackGives t i (take (given walked) (bytes_after t i ws out)) words ws =
    (payloads.calls t k.0 i k.1).2.pack-then-unpack ws out words (given walked) a room in
    let g' : UnpackGives t i (take (given walked) left) words ws =
    subst (λ (b : List ℕ). UnpackGives t i (take (given walked) b) words ws) (sym p.1) g in
    let y = zero_is_given n' walked' (length ws) (u.0 ∙ g'.0) in
    (y.0, y.1, u.1 ∙ g'.1)

unpacked_back : UnpackedBack
unpacked_back t i b words n walked left o u z out n' walked' left' p room =
    let a : unpacked t i b (length words) ≡ Gave (given walked) = sym u.0 ∙ gave_given n walked z in
    let k = gave_known (reader b) (length b) t i (length words) (given walked) a in
    let r = (payloads.calls t k.0 i k.1).2.unpack_then_pack b words out (given walked) o a room in
    let g : PackGives t i (take (given walked) left) out r.0 =
    subst (λ (x : List ℕ). PackGives t i (take (given walked) x) out r.0) (sym u.1) r.3 in
    let y = zero_is_given n' walked' (length r.0) (p.0 ∙ g.0) in
    (k.0, r.0, k.1, r.1, y.0, y.1 ∙ r.2, p.1 ∙ g.1)

pub linked_payloads : LinkedPayloads
linked_payloads =
    record {
      meets = payloads.calls;
      keeps = record { unpack_words = demand_1.changes_nothing.unpack_words; pack_output = demand_1.changes_nothing.pack_output };
      gives_just = record { pack = just_packs; pack_only = packs_only; unpack = just_unpacks; unpack_only = unpacks_only };
      packed_back = packed_back;
      unpacked_back = unpacked_back;
      pack = λ k a n e p.
          let t = a.0.now in
          let ws = a.1.1.0.now in
          let room = length a.1.1.1.0.now in
          (as-told (packed t a.1.0 ws room) a.1.1.1.1.0.now refl (pack_numbered t a.1.0 ws room) p.0 p.1.1, p.1.0);
      unpack = λ k a n e p.
          let t = a.0.now in
          let b = a.1.1.0.now in
          let room = length a.1.1.1.0.now in
          (as-told (unpacked t a.1.0 b room) a.1.1.1.1.0.now refl (unpack_numbered t a.1.0 b room) p.0 p.1.1, p.1.0);
      check = λ s k a n e p h. (p.0 ∙ ap check_number h, p.1 ∙ ap (sections_left a.0.now a.1.0.now) h);
      checks_only = λ k a n e p z. check_zero [] (checked a.0.now) (table_numbered a.0.now) (sym p.0 ∙ z);
      pack-in = λ s index k a n e p h f.
          let t = a.0.now in
          let i = a.1.1.0 in
          let ws = a.1.1.1.0.now in
          let out = a.1.1.1.1.0.now in
          let was = a.1.1.1.1.1.0.now in (
            as-told (packed t i ws (length out)) was (pack-same t s a.1.0.now index i h f ws out) (pack_numbered t i ws (length out)) p.0 p.1.1,
            p.1.0 ∙ bytes_same t s a.1.0.now index i h f ws out,
          );
      unpack-in = λ s index k a n e p h f.
          let t = a.0.now in
          let i = a.1.1.0 in
          let b = a.1.1.1.0.now in
          let words = a.1.1.1.1.0.now in
          let was = a.1.1.1.1.1.0.now in (
            as-told (unpacked t i b (length words)) was (unpack-same t s a.1.0.now index i h f b words) (unpack_numbered t i b (length words))
                p.0 p.1.1,
            p.1.0 ∙ words_same t s a.1.0.now index i h f b words,
          );
      pack_any = λ k a n e p.
          let t = a.0.now in
          let s = sections_in a.1.0.now in
          let i = a.1.1.0 in
          let ws = a.1.1.1.0.now in
          let room = length a.1.1.1.1.0.now in
          let was = a.1.1.1.1.1.0.now in
          (as-told (packed_in t s i ws room) was refl (in-numbered (writer ws) (length ws) t s i room) p.0 p.1.1, p.1.0);
      unpack_any = λ k a n e p.
          let t = a.0.now in
          let s = sections_in a.1.0.now in
          let i = a.1.1.0 in
          let b = a.1.1.1.0.now in
          let room = length a.1.1.1.1.0.now in
          let was = a.1.1.1.1.1.0.now in
          (as-told (unpacked_in t s i b room) was refl (in-numbered (reader b) (length b) t s i room) p.0 p.1.1, p.1.0);
    }

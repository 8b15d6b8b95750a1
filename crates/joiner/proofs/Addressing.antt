-- Whose datagram it is: a good joiner refuses exactly the foreign ones, with 21, 22 or 23, and every other moves the
-- channel that it is addressed to.
-- Assumes nothing.
use Prim.Native.Nat.{ℕ, ◌≤◌, ◌<◌}
use Rattle.std.specs.Prelude.{Result, Ok, Err}
use Rattle.refusal.specs.declared.Refusal.{Refusal}
use Rattle.refusal.specs.Refusal.{number_of}
use Rattle.refusal.specs.declared.Refusal.TheVariants.{DatagramLength, DatagramVersion, NoJoiner, NotSetUp}
use Rattle.binding.specs.declared.BindingHeader.{BindingHeader}
use mathlib.Core.Path.{◌≡◌, refl, sym, ap, ◌∙◌}
use mathlib.Core.Logic.{◌⊎◌, inl, inr, ⊎_elim}
use mathlib.Core.Bool.{Bool, true, false, ◌&&◌, cond}
use mathlib.Core.List.{List}
use native.Mathlib.Omega.{arith}
use borrow.Author.Tests.{leb-true, leb-false, ltb-true, ltb-false, eqb-true, eqb-false, lt-ltb, le-ltb}
use lib.Dec.{leb, ltb, eqb}
use lib.ListN.{length, get_or}
use Rattle.binding.specs.Header.{the_version, smallest_datagram, largest_datagram, version_in, part_carried, sender_in, counter_in, header_in}
use Rattle.binding.specs.Header.{heading_in, piece_in}
use Rattle.binding.proofs.Headers.{Headed, headed_heading, heading_headed}
use Rattle.channel.specs.Channel.{room_of, stepped_of}
use Rattle.joiner.specs.declared.Joiner.{Joiner}
use Rattle.joiner.specs.Setup.{place_of, distinct, senders_of, channel_at}
use Rattle.joiner.specs.Take.{sent_to, heading_by, judged_of, taken_of, Addressed, Foreign}
use Rattle.joiner.proofs.Places.{at_place, place_first, distinct_says}
use Rattle.joiner.proofs.Lookups.{senders-length}
use Rattle.joiner.proofs.Judging.{Good}
use Rattle.joiner.proofs.Standing.{Standing, standing_good, refused-here}

-- every datagram is one or the other
pub whose : (ids d : List ℕ) → Foreign ids d ⊎ ((k : ℕ) × Addressed ids k d)
whose ids d = go (leb smallest_datagram (length d)) refl (leb (length d) largest_datagram) refl (eqb (version_in d) the_version) refl
    (ltb (place_of ids (sender_in d)) (length ids)) refl
  where
    go : (a : Bool) → leb smallest_datagram (length d) ≡ a → (b : Bool) → leb (length d) largest_datagram ≡ b → (v : Bool)
        → eqb (version_in d) the_version ≡ v → (t : Bool) → ltb (place_of ids (sender_in d)) (length ids) ≡ t → Foreign ids d ⊎ ((k : ℕ) × Addressed ids k d)
    go false ea b eb v ev t et = inl (Foreign.short (leb-false smallest_datagram (length d) ea))
    go true ea false eb v ev t et = inl (Foreign.long (leb-false (length d) largest_datagram eb))
    go true ea true eb false ev t et = inl (Foreign.version (eqb-false (version_in d) the_version ev))
    go true ea true eb true ev false et =
        let h : length ids ≤ place_of ids (sender_in d) = ltb-false (place_of ids (sender_in d)) (length ids) et in
        inl (Foreign.unknown (λ k l e. absurd (omega (arith, h, place_first ids (sender_in d) k l e))))
    go true ea true eb true ev true et =
        let h : place_of ids (sender_in d) < length ids = ltb-true (place_of ids (sender_in d)) (length ids) et in
        inr (
          place_of ids (sender_in d),
          record {
            long = leb-true smallest_datagram (length d) ea;
            short = leb-true (length d) largest_datagram eb;
            version = eqb-true (version_in d) the_version ev;
            known = h;
            sender = at_place ids (sender_in d) h;
          },
        )

heading_refused : (d : List ℕ) (n : Refusal) → heading_in d ≡ Err n → (21 ≤ number_of n) × (number_of n ≤ 22)
heading_refused d n e = go (leb smallest_datagram (length d)) (leb (length d) largest_datagram) (eqb (version_in d) the_version) e
  where
    go : (a b v : Bool) → cond (a && b) (cond v (Ok (header_in d)) (Err DatagramVersion)) (Err DatagramLength)
        ≡ Err n → (21 ≤ number_of n) × (number_of n ≤ 22)
    go true true true q = let z : ◌≡◌ {A = ℕ} 0 1 = cc in absurd (omega arith)
    go true true false q = let z : n ≡ DatagramVersion = cc in rw z (omega arith, omega arith)
    go true false v q = let z : n ≡ DatagramLength = cc in rw z (omega arith, omega arith)
    go false b v q = let z : n ≡ DatagramLength = cc in rw z (omega arith, omega arith)

-- where no ID stands twice, the place of a channel's ID is its own
pub place_own : (ids : List ℕ) (k x : ℕ) → distinct ids ≡ true → k < length ids → get_or ids k 0 ≡ x → place_of ids x ≡ k
place_own ids k x u h e =
    let p : place_of ids x ≤ k = place_first ids x k h e in
    let n : place_of ids x < k → ⊥ = λ l. distinct_says ids u (place_of ids x) k l h (at_place ids x (omega arith) ∙ sym e) in
    omega arith

module _ (j : Joiner) (b : ℕ) (d : List ℕ) (s : Standing j b) where
  by-header : judged_of j b d ≡ heading_by j d (heading_in d)
  unfolding judged_of
  by-header = rw s.well

  pub addressed-moves : (k : ℕ) → Addressed (senders_of j) k d → judged_of j b d
      ≡ Ok (k, stepped_of (room_of j.room k) (channel_at j k) (part_carried d) (counter_in d) (length (piece_in d)))
  unfolding heading_by sent_to
  addressed-moves k a =
      let g : Good j b = standing_good s in
      let l : length (senders_of j) ≡ j.count = senders-length j g.sizes.few s.width in
      let p : place_of (senders_of j) (sender_in d) ≡ k = place_own (senders_of j) k (sender_in d) g.once a.known a.sender in
      let h : heading_in d ≡ Ok (header_in d) = headed_heading d (header_in d)
      (record { long = a.long; short = a.short; version = a.version; fields = refl }) in
      let q : k < j.count = omega (arith, l, a.known) in
      by-header ∙ ap (heading_by j d) h ∙ rw (p, lt-ltb k j.count q)

  not_known : Headed d (header_in d) → j.count ≤ place_of (senders_of j) (sender_in d) → judged_of j b d ≡ Err NotSetUp
  unfolding heading_by sent_to
  not_known w h = by-header ∙ ap (heading_by j d) (headed_heading d (header_in d) w) ∙ rw (le-ltb (place_of (senders_of j) (sender_in d)) j.count h)

  -- a foreign datagram, and no other, is refused, with 21, 22 or 23
  pub foreign-refused : Foreign (senders_of j) d → (n : Refusal) × (judged_of j b d ≡ Err n) × (21 ≤ number_of n) × (number_of n ≤ 23)
  unfolding heading_by
  foreign-refused f = go (heading_in d) refl
    where
      nowhere : Headed d (header_in d) → Foreign (senders_of j) d → j.count ≤ place_of (senders_of j) (sender_in d)
      nowhere w (Foreign.short h) = absurd (omega (arith, w.long))
      nowhere w (Foreign.long h) = absurd (omega (arith, w.short))
      nowhere w (Foreign.version h) = absurd (h w.version)
      nowhere w (Foreign.unknown h) =
          let g : Good j b = standing_good s in
          let l : length (senders_of j) ≡ j.count = senders-length j g.sizes.few s.width in
          let n : place_of (senders_of j) (sender_in d) < length (senders_of j)
          → ⊥ = λ q. h (place_of (senders_of j) (sender_in d)) q (at_place (senders_of j) (sender_in d) q) in
          omega arith

      go : (x : Result BindingHeader Refusal) → heading_in d ≡ x → (n : Refusal) × (judged_of j b d ≡ Err n) × (21 ≤ number_of n) × (number_of n ≤ 23)
      go (Err n) e = (n, by-header ∙ ap (heading_by j d) e, (heading_refused d n e).0, omega (arith, (heading_refused d n e).1))
      go (Ok y) e =
          let w : Headed d y = heading_headed d y e in
          let v : Headed d (header_in d) = record { long = w.long; short = w.short; version = w.version; fields = refl } in
          (NotSetUp, not_known v (nowhere v f), omega arith, omega arith)

  pub refused-foreign : (n : Refusal) → judged_of j b d ≡ Err n → Foreign (senders_of j) d
  refused-foreign n e = ⊎_elim (λ f. f) (λ a. absurd (clash a.0 a.1)) (whose (senders_of j) d)
    where
      clash : (k : ℕ) → Addressed (senders_of j) k d → ⊥
      clash k a =
          let m : judged_of j b d ≡ Ok (k, stepped_of (room_of j.room k) (channel_at j k) (part_carried d) (counter_in d) (length (piece_in d))) =
          addressed-moves k a in
          let z : ◌≡◌ {A = ℕ} 0 1 = cc in
          omega arith

-- 20 cannot arise
pub never_20 : (j : Joiner) (rooms d : List ℕ) → Standing j (length rooms) → (taken_of j rooms d).outcome ≡ Err NoJoiner → ⊥
never_20 j rooms d s e =
    let q : judged_of j (length rooms) d ≡ Err NoJoiner = refused-here j rooms d NoJoiner e in
    go q (foreign-refused j (length rooms) d s (refused-foreign j (length rooms) d s NoJoiner q))
  where
    go : judged_of j (length rooms) d ≡ Err NoJoiner → (n : Refusal) × (judged_of j (length rooms) d ≡ Err n) × (21 ≤ number_of n) × (number_of n ≤ 23) → ⊥
    go q r =
        let p : judged_of j (length rooms) d ≡ Err r.0 = r.1 in
        let m : r.0 ≡ NoJoiner = cc in
        omega (arith, rw m at r.2)

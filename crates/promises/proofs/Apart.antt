-- What happens on a channel is a run of its own view over its own datagrams: the other channels' datagrams and the foreign
-- ones make no difference.
-- Assumes nothing.
use Prim.Native.Nat.{ℕ, ◌<◌}
use Rattle.std.specs.Prelude.{Result, Ok, Err}
use Rattle.refusal.specs.declared.Refusal.{Refusal}
use mathlib.Core.Path.{◌≡◌, refl, sym, ap, ap₂, ◌∙◌, subst}
use mathlib.Core.Bool.{Bool, true, false, ◌&&◌, true≢false}
use mathlib.Core.List.{List, [], ◌∷◌, ◌++◌}
use mathlib.Core.Logic.{⊎_elim}
use native.Mathlib.Omega.{arith}
use borrow.Author.Tests.{leb-true, ltb-true, eqb-true, le-leb, lt-ltb, eq-eqb}
use lib.Dec.{leb, ltb, eqb}
use lib.ListN.{length, get_or}
use Rattle.wire.proofs.Cond.{both}
use Rattle.wire.specs.Bytes.{Octets}
use Rattle.binding.specs.Header.{the_version, smallest_datagram, largest_datagram, version_in, sender_in}
use Rattle.channel.specs.declared.Room.{Room}
use Rattle.channel.specs.declared.Outcome.{Outcome}
use Rattle.channel.specs.declared.Outcome.TheVariants.{Repeated, Delivered, Held, Stray, TooLong}
use Rattle.channel.specs.Channel.{room_of}
use Rattle.joiner.specs.declared.Joiner.{Joiner}
use Rattle.joiner.specs.Setup.{senders_of}
use Rattle.joiner.specs.Take.{taken_of, rooms_after, message_of, Addressed, Foreign}
use Rattle.joiner.specs.View.{View, view_of, view_step, view_after, view_given, delivered_of}
use Rattle.joiner.proofs.Standing.{Standing, standing_good, take-standing, take-room, take-senders}
use Rattle.joiner.proofs.Lookups.{senders-length}
use Rattle.joiner.proofs.Addressing.{whose}
use Rattle.joiner.proofs.Views.{own-outcome, own_view, own-given, other-view, foreign-joiner, foreign-rooms}
use Rattle.promises.specs.Traffic.{Datagram, is_of, of_channel, handed_back, delivered_on, outcomes_on, left_on, AreBytes, none, more}

-- the test is the fact
pub is_addressed : (ids : List ℕ) (k : ℕ) (d : Datagram) → is_of ids k d ≡ true → Addressed ids k d
is_addressed ids k d e =
    let a = both (leb smallest_datagram (length d) && leb (length d) largest_datagram) _ e in
    let l = both (leb smallest_datagram (length d)) (leb (length d) largest_datagram) a.0 in
    let v = both (eqb (version_in d) the_version) _ a.1 in
    let s = both (ltb k (length ids)) (eqb (get_or ids k 0) (sender_in d)) v.1 in
    record {
      long = leb-true smallest_datagram (length d) l.0;
      short = leb-true (length d) largest_datagram l.1;
      version = eqb-true (version_in d) the_version v.0;
      known = ltb-true k (length ids) s.0;
      sender = eqb-true (get_or ids k 0) (sender_in d) s.1;
    }

pub addressed_is : (ids : List ℕ) (k : ℕ) (d : Datagram) → Addressed ids k d → is_of ids k d ≡ true
addressed_is ids k d a =
    rw (
      le-leb smallest_datagram (length d) a.long,
      le-leb (length d) largest_datagram a.short,
      eq-eqb (version_in d) the_version a.version,
      lt-ltb k (length ids) a.known,
      eq-eqb (get_or ids k 0) (sender_in d) a.sender,
    )

-- the same by the view alone
abbrev pub given : Result Outcome Refusal → List ℕ → List (List ℕ)
given (Ok (Delivered m p)) g = g ∷ []
given (Err n) g = []
given (Ok Repeated) g = []
given (Ok (Held m n)) g = []
given (Ok (Stray m)) g = []
given (Ok (TooLong m)) g = []

handed_given : (o : Result Outcome Refusal) (d rooms : List ℕ) → handed_back o d rooms ≡ given o (message_of o d rooms)
handed_given (Ok (Delivered m p)) d rooms = refl
handed_given (Err n) d rooms = refl
handed_given (Ok Repeated) d rooms = refl
handed_given (Ok (Held m n)) d rooms = refl
handed_given (Ok (Stray m)) d rooms = refl
handed_given (Ok (TooLong m)) d rooms = refl

abbrev pub view_delivers : Room → View → List Datagram → List (List ℕ)
view_delivers room v [] = []
view_delivers room v (d ∷ ds) = given (Ok (view_step room v d).outcome) (view_given room v d) ++ view_delivers room (view_after room v d) ds

abbrev pub view_outcomes : Room → View → List Datagram → List (Result Outcome Refusal)
view_outcomes room v [] = []
view_outcomes room v (d ∷ ds) = Ok (view_step room v d).outcome ∷ view_outcomes room (view_after room v d) ds

abbrev pub view_left : Room → View → List Datagram → View
view_left room v [] = v
view_left room v (d ∷ ds) = view_left room (view_after room v d) ds

-- a joiner on the way: set up with these IDs and rooms of R bytes
pub record Underway (ids : List ℕ) (R : ℕ) (j : Joiner) (rooms : List ℕ) : Type 0 where
  pub stands : Standing j (length rooms)
  pub senders : senders_of j ≡ ids
  pub size : j.room ≡ R

module _ (ids : List ℕ) (R k : ℕ) (known : k < length ids) where
  abbrev room : Room
  room = room_of R k

  pub next : (j : Joiner) (rooms : List ℕ) (d : Datagram) → Underway ids R j rooms → Octets d
      → Underway ids R (taken_of j rooms d).joiner (rooms_after j rooms d)
  next j rooms d u o =
      record { stands = take-standing j rooms d u.stands o; senders = take-senders j rooms d ∙ u.senders; size = take-room j rooms d ∙ u.size }

  module _ (j : Joiner) (rooms : List ℕ) (d : Datagram) (u : Underway ids R j rooms) where
    here : Addressed ids k d → Addressed (senders_of j) k d
    here a = subst (λ (l : List ℕ). Addressed l k d) (sym u.senders) a

    -- a datagram of channel k
    own : is_of ids k d ≡ true → Addressed (senders_of j) k d
    own e = here (is_addressed ids k d e)

    its-outcome : is_of ids k d ≡ true → (taken_of j rooms d).outcome ≡ Ok (view_step room (view_of j rooms k) d).outcome
    its-outcome e =
        let f : ℕ → Result Outcome Refusal = λ r. Ok (view_step (room_of r k) (view_of j rooms k) d).outcome in
        own-outcome j rooms d u.stands k (own e) ∙ ap f u.size

    its_view : is_of ids k d ≡ true → view_of (taken_of j rooms d).joiner (rooms_after j rooms d) k ≡ view_after room (view_of j rooms k) d
    its_view e = own_view j rooms d u.stands k (own e) ∙ ap (λ (r : ℕ). view_after (room_of r k) (view_of j rooms k) d) u.size

    its-message : is_of ids k d ≡ true → handed_back (taken_of j rooms d).outcome d (rooms_after j rooms d)
        ≡ given (Ok (view_step room (view_of j rooms k) d).outcome) (view_given room (view_of j rooms k) d)
    unfolding delivered_of
    its-message e =
        handed_given (taken_of j rooms d).outcome d (rooms_after j rooms d)
        ∙ ap₂ given (its-outcome e) (own-given j rooms d u.stands k (own e) ∙ ap (λ (r : ℕ). view_given (room_of r k) (view_of j rooms k) d) u.size)

    -- any other
    elsewhere : is_of ids k d ≡ false → view_of (taken_of j rooms d).joiner (rooms_after j rooms d) k ≡ view_of j rooms k
    elsewhere e = ⊎_elim foreign another (whose (senders_of j) d)
      where
        foreign : Foreign (senders_of j) d → view_of (taken_of j rooms d).joiner (rooms_after j rooms d) k ≡ view_of j rooms k
        foreign f = ap₂ (λ (x : Joiner) (y : List ℕ). view_of x y k) (foreign-joiner j rooms d u.stands f) (foreign-rooms j rooms d u.stands f)

        mine : (i : ℕ) → Addressed (senders_of j) i d → k ≡ i → ⊥
        mine i a q = absurd (true≢false
            (sym (addressed_is ids k d (subst (λ (n : ℕ). Addressed ids n d) (sym q) (subst (λ (l : List ℕ). Addressed l i d) u.senders a))) ∙ e))

        another : (i : ℕ) × Addressed (senders_of j) i d → view_of (taken_of j rooms d).joiner (rooms_after j rooms d) k ≡ view_of j rooms k
        another p = other-view j rooms d u.stands p.0 p.1 k (omega (arith, known, count)) (mine p.0 p.1)
          where
            count : j.count ≡ length ids
            count = sym (senders-length j (standing_good u.stands).sizes.few u.stands.width) ∙ ap length u.senders

  -- what is to be shown of a traffic
  pub record Passed (j : Joiner) (rooms : List ℕ) (ds : List Datagram) : Type 0 where
    pub delivered : delivered_on ids k j rooms ds ≡ view_delivers room (view_of j rooms k) (of_channel ids k ds)
    pub outcomes : outcomes_on ids k j rooms ds ≡ view_outcomes room (view_of j rooms k) (of_channel ids k ds)
    pub left : left_on k j rooms ds ≡ view_left room (view_of j rooms k) (of_channel ids k ds)

  pub through : (ds : List Datagram) → AreBytes ds → (j : Joiner) (rooms : List ℕ) → Underway ids R j rooms → Passed j rooms ds
  through [] none j rooms u = record { delivered = refl; outcomes = refl; left = refl }
  through (d ∷ ds) (more o os) j rooms u =
      go (is_of ids k d) refl (through ds os (taken_of j rooms d).joiner (rooms_after j rooms d) (next j rooms d u o))
    where
      go : (t : Bool) → is_of ids k d ≡ t → Passed (taken_of j rooms d).joiner (rooms_after j rooms d) ds → Passed j rooms (d ∷ ds)
      go true e p =
          let v : view_of (taken_of j rooms d).joiner (rooms_after j rooms d) k ≡ view_after room (view_of j rooms k) d = its_view j rooms d u e in
          record {
            delivered = rw e (ap₂ ◌++◌ (its-message j rooms d u e) (p.delivered ∙ ap (λ (x : View). view_delivers room x (of_channel ids k ds)) v));
            outcomes = rw e (ap₂ ◌∷◌ (its-outcome j rooms d u e) (p.outcomes ∙ ap (λ (x : View). view_outcomes room x (of_channel ids k ds)) v));
            left = rw e (p.left ∙ ap (λ (x : View). view_left room x (of_channel ids k ds)) v);
          }
      go false e p =
          let v : view_of (taken_of j rooms d).joiner (rooms_after j rooms d) k ≡ view_of j rooms k = elsewhere j rooms d u e in
          record {
            delivered = rw e (p.delivered ∙ ap (λ (x : View). view_delivers room x (of_channel ids k ds)) v);
            outcomes = rw e (p.outcomes ∙ ap (λ (x : View). view_outcomes room x (of_channel ids k ds)) v);
            left = rw e (p.left ∙ ap (λ (x : View). view_left room x (of_channel ids k ds)) v);
          }

-- Demand 3.
-- Assumes nothing.
use Prim.Native.Nat.{ℕ, ◌<◌}
use Rattle.promises.proofs.SetUps.{its_joiner}
use Rattle.std.specs.Prelude.{Ok, IsOk}
use mathlib.Core.Path.{◌≡◌, refl, sym, ap, ap₂, subst, ◌∙◌}
use Rattle.joiner.proofs.Standing.{Standing}
use mathlib.Core.Logic.{inr}
use mathlib.Core.List.{List, []}
use lib.ListN.{length, get_or}
use Rattle.channel.specs.Channel.{room_of}
use Rattle.channel.specs.Record.{new_channel}
use Rattle.joiner.specs.declared.Joiner.{Joiner}
use Rattle.joiner.specs.Setup.{senders_of, fresh_of, setup_of}
use Rattle.joiner.specs.View.{View, view_of}
use Rattle.joiner.proofs.Accepted.{accepted, accepted-standing, fresh-senders, fresh-view}
use Rattle.promises.specs.Senders.{Sender, Genuine, sent_by, arrives, complete_of}
use Rattle.promises.specs.Traffic.{Datagram, given, of_channel, fresh, delivered_on, AreBytes}
use Rattle.promises.specs.Demand3.{Demand3, MixMakesNoDifference}
use Rattle.promises.proofs.Machine.{deliveries}
use Rattle.promises.proofs.Complete.{messages}
use Rattle.promises.proofs.Apart.{Underway, through, view_delivers, view_outcomes, view_left}
use Rattle.promises.proofs.Agrees.{machine, same_deliveries}
use Rattle.promises.proofs.Arrivals.{events, fit_messages}

-- a fresh joiner, and the view of a channel in it
module _ (ids : List ℕ) (R : ℕ) (rooms : List ℕ) (fine : IsOk (setup_of ids R (length rooms))) where
  ok : setup_of ids R (length rooms) ≡ Ok (fresh_of ids R)
  ok = its_joiner ids R (length rooms) fine

  joiner : fresh ids R rooms ≡ fresh_of ids R
  joiner = ap given ok

  pub underway : Underway ids R (fresh ids R rooms) rooms
  unfolding fresh_of
  underway =
      record {
        stands = subst (λ (j : Joiner). Standing j (length rooms)) (sym joiner) (accepted-standing ids R (length rooms) ok);
        senders = ap senders_of joiner ∙ fresh-senders ids R (accepted ids R (length rooms) ok).few;
        size = ap (λ (j : Joiner). j.room) joiner;
      }

  at_first : (k : ℕ) → k < length ids → view_of (fresh ids R rooms) rooms k ≡ record { channel = new_channel (get_or ids k 0); bytes = [] }
  at_first k h = ap (λ (j : Joiner). view_of j rooms k) joiner ∙ fresh-view ids R (accepted ids R (length rooms) ok).few rooms k h

-- one channel with a genuine sender, whatever the others do
pub on_channel : (ids : List ℕ) (R : ℕ) (rooms : List ℕ) (s : Sender) (traffic : List Datagram) (k : ℕ) → k < length ids
    → IsOk (setup_of ids R (length rooms)) → Genuine R s → of_channel ids k traffic ≡ arrives (get_or ids k 0) s → AreBytes traffic
    → delivered_on ids k (fresh ids R rooms) rooms traffic ≡ complete_of s.messages
on_channel ids R rooms s traffic k h ok w mixed o =
    let v : View = record { channel = new_channel (get_or ids k 0); bytes = [] } in
    (through ids R k h traffic o (fresh ids R rooms) rooms (underway ids R rooms ok)).delivered
    ∙ ap (λ (x : View). view_delivers (room_of R k) x (of_channel ids k traffic)) (at_first ids R rooms ok k h)
    ∙ ap (view_delivers (room_of R k) v) mixed
    ∙ same_deliveries (room_of R k) v (arrives (get_or ids k 0) s) refl
    ∙ ap (deliveries R (machine v))
    (events (get_or ids k 0) ((accepted ids R (length rooms) (its_joiner ids R (length rooms) ok)).range k h) s.first (sent_by s.messages) w.counter
    (fit_messages R s.messages w.messages))
    ∙ messages R s.messages w.messages (machine v) s.first 0 (inr (record { unseen = refl; empty = refl; hold = refl })) w.counter w.losses

pub demand_3 : Demand3
demand_3 ids R rooms sender traffic g k h = on_channel ids R rooms (sender k) traffic k h g.set_up (g.genuine k h) (g.mixed k h) g.bytes

pub mix_makes_no_difference : MixMakesNoDifference
mix_makes_no_difference ids R rooms rooms' k one other a =
    let ok' : IsOk (setup_of ids R (length rooms')) = subst (λ (n : ℕ). IsOk (setup_of ids R n)) (sym a.as_long) a.set_up in
    let p = through ids R k a.known one a.bytes (fresh ids R rooms) rooms (underway ids R rooms a.set_up) in
    let q = through ids R k a.known other a.bytes' (fresh ids R rooms') rooms' (underway ids R rooms' ok') in
    let v : view_of (fresh ids R rooms) rooms k ≡ view_of (fresh ids R rooms') rooms' k = at_first ids R rooms a.set_up k a.known
    ∙ sym (at_first ids R rooms' ok' k a.known) in
    record {
      delivered = p.delivered ∙ ap₂ (view_delivers (room_of R k)) v a.same ∙ sym q.delivered;
      outcomes = p.outcomes ∙ ap₂ (view_outcomes (room_of R k)) v a.same ∙ sym q.outcomes;
      left = p.left ∙ ap₂ (view_left (room_of R k)) v a.same ∙ sym q.left;
    }

-- What a platform owes reaches its receiver: each reply reads back as the message that is meant, bears the number that it
-- must, and stands in the output.
-- Assumes nothing.
use Prim.{Unit}
use Rattle.std.specs.Prelude.{Option, Some, None}
use Prim.Native.Nat.{ℕ, ◌^◌, ◌≤◌, ◌<◌}
use mathlib.Core.Path.{◌≡◌, refl, sym, ap, ◌∙◌}
use mathlib.Core.Bool.{Bool, true, false, cond}
use mathlib.Core.List.{List, [], ◌∷◌}
use native.Mathlib.Omega.{arith}
use borrow.Author.Tests.{lt-ltb}
use lib.Dec.{eqb, ltb}
use lib.ListN.{length}
use Rattle.wire.specs.Bytes.{number, bytes, over, part}
use Rattle.wire.proofs.Numbers.{number_bytes}
use Rattle.wire.proofs.Runs.{part_over}
use Rattle.wire.proofs.Cond.{no_lt}
use Rattle.table.specs.declared.Sections.{Sections}
use Rattle.pending.specs.Free.{drawn}
use Rattle.message.specs.declared.Header.{Header}
use Rattle.message.specs.declared.Status.{Status}
use Rattle.message.specs.declared.Status.TheVariants.{Down, Up}
use Rattle.message.specs.declared.Message.{Message}
use Rattle.message.specs.declared.Message.TheVariants as message
use Rattle.message.specs.declared.Reading.TheVariants.{Read}
use Rattle.message.specs.Header.{header_length, platform_domain}
use Rattle.message.specs.Platform.{message_of}
use Rattle.message.specs.Refusal.{platforms}
use Rattle.message.specs.Reading.{read_of}
use Rattle.message.proofs.RoundTrip.{reads-back}
use Rattle.platform.specs.declared.reactions.Standing.{Standing}
use Rattle.platform.specs.declared.reactions.Heard.TheVariants as heard
use Rattle.platform.specs.declared.reactions.Reply.{Reply}
use Rattle.platform.specs.declared.reactions.Reply.TheVariants.{StatusUp, PullAll, Unknown}
use Rattle.platform.specs.declared.reactions.Owed.{Owed}
use Rattle.platform.specs.declared.reactions.Reaction.{Reaction}
use Rattle.states.specs.States.{stands_up}
use Rattle.platform.specs.Replies.{all_data, reply_id, reply_number, reply_field, reply_bytes, reply_header, meant, Wide}
use Rattle.platform.specs.Replies.{reply_length, replies, Each, owed_bytes, owed_length}
use Rattle.platform.specs.Reaction.{some_data, is_data, silent, noted, coming_up, on_state, on_status, not_versioned, on_pull_all, on_pull_one}
use Rattle.platform.specs.Reaction.{on_pull, on_operation, reaction_to}
use Rattle.platform.specs.Receiving.{laid_out}
use Rattle.platform.proofs.ReactionLaws.{without-state}
use Rattle.platform.proofs.ReplyBytes.{reply_writable, length_owed}

-- at every platform but its sender a reply reads back as what it means
means : (r : Reply) → reply_field r < 2 ^ 32 → message_of platform_domain (reply_id r) (number 2 (bytes 2 (reply_field r)) 0) ≡ meant r
means (StatusUp n) h = refl
means (PullAll n) h = refl
means (Unknown n id) h = ap message.UnknownOperation (number_bytes 2 id [] h)

id_fits : (r : Reply) → reply_id r < 2 ^ 32
id_fits (StatusUp n) = omega arith
id_fits (PullAll n) = omega arith
id_fits (Unknown n id) = omega arith

pub reply_reads_back : (own reader : ℕ) (r : Reply) → own < platforms → (own ≡ reader → ⊥) → Wide r → read_of reader (reply_bytes own r)
    ≡ Read (reply_header own r) (meant r) header_length 4
unfolding reply_bytes
reply_reads_back own reader r o d w =
    reads-back own platform_domain (reply_id r) (reply_number r) (bytes 2 (reply_field r)) reply_length reader (omega arith) d (id_fits r) w.number
    (reply_writable r reply_length (omega arith))
    ∙ ap (λ (m : Message). Read (reply_header own r) m header_length 4) (means r w.field)

-- the replies stand in the output, one behind another
pub replies_in_output : (own : ℕ) (x : Reaction) (out : List ℕ) → owed_length x.owed ≤ length out
    → part (laid_out own x out) 0 (owed_length x.owed) ≡ owed_bytes own x.owed
unfolding laid_out
replies_in_output own x out h =
    let l : length (owed_bytes own x.owed) ≡ owed_length x.owed = length_owed own x.owed in
    ap (λ (u : List ℕ). part u 0 (owed_length x.owed)) (no_lt out (over out 0 (owed_bytes own x.owed)) (length out) (owed_length x.owed) h)
    ∙ ap (part (over out 0 (owed_bytes own x.owed)) 0) (sym l) ∙ part_over out 0 (owed_bytes own x.owed) (omega arith)

-- a reply to a request, a pull or an operation repeats its sequence number
abbrev pub IsStatus : Message → Type 0
IsStatus (message.PlatformStatus x) = Unit {0}
IsStatus message.PlatformStatusRequest = ⊥
IsStatus (message.UnknownOperation id) = ⊥
IsStatus (message.VersionedDataPull id) = ⊥
IsStatus message.Operation = ⊥

abbrev Repeats : ℕ → Owed → Type 0
Repeats n o = Each (λ (r : Reply). reply_number r ≡ n) (replies o)

module _ (t : List ℕ) (s : Sections) (p : Standing) (n : ℕ) where
  pull-all-repeats : Repeats n (on_pull_all t s p n).owed
  unfolding on_pull_all
  pull-all-repeats = go (some_data t s)
    where
      go : (b : Bool) → Repeats n (cond b (silent p heard.PullOfAll) (not_versioned p n all_data)).owed
      go true = tt
      go false = (refl, tt)

  pull-one-repeats : (f : Option (ℕ × ℕ)) (id : ℕ) → Repeats n (on_pull_one t f p n id).owed
  unfolding on_pull_one
  pull-one-repeats (Some (i, q)) id = go (is_data t q)
    where
      go : (b : Bool) → Repeats n (cond b (silent p (heard.PullOfOne id i)) (not_versioned p n id)).owed
      go true = tt
      go false = (refl, tt)
  pull-one-repeats None id = (refl, tt)

  pull-repeats : (f : Option (ℕ × ℕ)) (id : ℕ) → Repeats n (on_pull t s f p n id).owed
  unfolding on_pull
  pull-repeats f id = go (eqb id all_data)
    where
      go : (b : Bool) → Repeats n (cond b (on_pull_all t s p n) (on_pull_one t f p n id)).owed
      go true = pull-all-repeats
      go false = pull-one-repeats f id

pub repeats_its_number : (own : ℕ) (t : List ℕ) (s : Sections) (f : Option (ℕ × ℕ)) (p : Standing) (h : Header) (m : Message) (start len : ℕ)
    → (IsStatus m → ⊥) → Each (λ (r : Reply). reply_number r ≡ h.sequence) (replies (reaction_to own t s f p h m start len).owed)
unfolding reaction_to on_operation
repeats_its_number own t s f p h (message.PlatformStatus x) start len k = absurd (k tt)
repeats_its_number own t s f p h message.PlatformStatusRequest start len k = (refl, tt)
repeats_its_number own t s f p h (message.UnknownOperation id) start len k = tt
repeats_its_number own t s f p h (message.VersionedDataPull id) start len k = pull-repeats t s p h.sequence f id
repeats_its_number own t s (Some (i, q)) p h message.Operation start len k = tt
repeats_its_number own t s None p h message.Operation start len k = (refl, tt)

-- a status: DOWN to UP is answered with the next two own numbers, and nothing else is; nothing above 255
module _ (own : ℕ) (p : Standing) (sender : ℕ) where
  pub up-to-up-is-silent : stands_up own p.states sender ≡ true → on_status own p sender Up ≡ silent p (heard.Status Up)
  unfolding on_status on_state
  up-to-up-is-silent e = rw e (go (ltb sender platforms))
    where
      go : (b : Bool) → cond b (silent p (heard.Status Up)) (silent p (heard.Status Up)) ≡ silent p (heard.Status Up)
      go true = refl
      go false = refl

  pub down-to-up-is-answered : sender < platforms → stands_up own p.states sender ≡ false → replies (on_status own p sender Up).owed
      ≡ StatusUp p.next ∷ PullAll (drawn p.next) ∷ []
  unfolding on_status on_state coming_up
  down-to-up-is-answered l e = rw (lt-ltb sender platforms l, e) refl

  pub down-is-silent : replies (on_status own p sender Down).owed ≡ []
  unfolding on_status on_state
  down-is-silent = go (ltb sender platforms) (stands_up own p.states sender)
    where
      go : (a b : Bool) → replies (cond a (cond b (silent (noted p sender p.next) (heard.Status Down)) (silent p (heard.Status Down)))
          (silent p (heard.Status Down))).owed ≡ []
      go true true = refl
      go true false = refl
      go false b = refl

  pub above-is-silent : (x : Status) → platforms ≤ sender → on_status own p sender x ≡ silent p (heard.Status x)
  above-is-silent x l = sym (without-state own p sender x (silent p (heard.Status x)) l refl)

-- The replies of a platform, cut from its output as messages: how heavy they are at their receiver, whichever issue that has the platform for.
-- Assumes nothing.
use Prim.Native.Nat.{ℕ, zero, suc, ◌+◌, ◌≤◌, ◌<◌}
use mathlib.Core.Path.{◌≡◌, refl, sym, ap, ap₂, subst, ◌∙◌}
use mathlib.Core.Bool.{Bool, true, false, not}
use mathlib.Core.List.{List, [], ◌∷◌}
use native.Mathlib.Omega.{arith}
use lib.ListN.{length, take, drop}
use lib.Seq.{take-length, drop-length, take_at}
use Rattle.wire.specs.Bytes.{span, over}
use Rattle.wire.proofs.Numbers.{number_bytes}
use Rattle.pending.specs.Free.{drawn}
use Rattle.message3.specs.declared.Stamp.{Stamp}
use Rattle.message3.specs.Platform.{services_bytes, services_length, unknown_operation3, versioned_data_pull3, availability_status_request}
use Rattle.message3.proofs.Told.{length_services}
use Rattle.platform.specs.declared.reactions.Reply.{Reply}
use Rattle.platform.specs.declared.reactions.Reply.TheVariants.{StatusUp, PullAll, Unknown}
use Rattle.platform.specs.declared.reactions.Owed.{Owed}
use Rattle.platform.specs.declared.reactions.Owed.TheVariants as owed
use Rattle.platform.specs.Replies.{all_data, reply_bytes, owed_bytes, owed_length}
use Rattle.platform.proofs.ReplyBytes.{length_owed}
use Rattle.mixed.specs.declared.reactions.Deed.{Deed}
use Rattle.mixed.specs.declared.reactions.Deed.TheVariants.{Nothing, One, StartUp, TellAll, TellOne, Note, MarkAll}
use Rattle.partners.specs.Threes.{is_three}
use Rattle.mixed.specs.Reading.{any_of}
use Rattle.mixed.specs.Reaction.{all_services}
use Rattle.mixed.specs.Replies.{field_message, status_message, services_message, reply_bytes3, start_up_bytes, state_told, pairs_of, most_ours, deed_bytes}
use Rattle.mixed.proofs.ToldLaws.{length-ours}
use Rattle.promises.specs.MixedExchange.{said_length, messages_in, Status, status_in}
use Rattle.promises.proofs.MixedMeasure.{total, Every}
use Rattle.promises.proofs.MixedWeights.{weighs_at, BearsAt, Light, light-six, light-three, IsRefused, six-refused, three-refused}

-- what a reply to Issue 6, and what is to be written to Issue 3, can still cause
abbrev reply_weight : Reply → ℕ
reply_weight (StatusUp n) = 1
reply_weight (PullAll n) = 2
reply_weight (Unknown n id) = 1

abbrev pub owed_weight : Owed → ℕ
owed_weight owed.Nothing = 0
owed_weight (owed.One r) = reply_weight r
owed_weight (owed.Two r q) = reply_weight r + reply_weight q

abbrev pub deed_weight : Deed → ℕ
deed_weight Nothing = 0
deed_weight (One r) = 1
deed_weight (StartUp n) = 4
deed_weight (TellAll n) = 1
deed_weight (TellOne n id v) = 1
deed_weight Note = 0
deed_weight MarkAll = 0

-- one message, as long as it says
messages_one : (n : ℕ) (s : List ℕ) → 0 < n → 0 < length s → said_length s ≡ length s → messages_in n s ≡ s ∷ []
messages_one zero s hn hs e = absurd (omega (arith, hn))
messages_one (suc n) [] hn hs e = absurd (omega (arith, hs))
messages_one (suc n) (b ∷ s) hn hs e =
    ap₂ (λ (x : List ℕ) (y : List (List ℕ)). x ∷ y) (ap (λ (k : ℕ). take k (b ∷ s)) e ∙ take-length (b ∷ s))
    (ap (λ (k : ℕ). messages_in n (drop k (b ∷ s))) e ∙ ap (messages_in n) (drop-length (b ∷ s)) ∙ nothing n)
  where
    nothing : (n : ℕ) → messages_in n [] ≡ []
    nothing zero = refl
    nothing (suc n) = refl

-- what is laid at the output's start
cut : (n : ℕ) (B out : List ℕ) → length B ≡ n → take n (over out 0 B) ≡ B
cut n B out e = take_at B (drop (0 + length B) out) n e

pub record LightAll (i : List ℕ) (reader sender w : ℕ) (ms : List (List ℕ)) : Type 0 where
  pub weight : total (weighs_at i reader) ms ≤ w
  pub bear : Every (BearsAt i reader sender) ms

module _ (i : List ℕ) (reader own : ℕ) where
  pub none-light : LightAll i reader own 0 []
  none-light = record { weight = omega arith; bear = tt }

  one-light : (w : ℕ) (m : List ℕ) → Light i reader own w m → LightAll i reader own w (m ∷ [])
  one-light w m l = record { weight = omega (arith, l.weight); bear = (l.bears, tt) }

  then-light : (w v : ℕ) (m : List ℕ) (ms : List (List ℕ)) → Light i reader own w m → LightAll i reader own v ms → LightAll i reader own (w + v) (m ∷ ms)
  then-light w v m ms l k = record { weight = omega (arith, l.weight, k.weight); bear = (l.bears, k.bear) }

  -- Issue 3's messages: byte 2 is 16
  not-two : ◌≡◌ {A = ℕ} 16 2 → ⊥
  not-two e = omega (arith, e)

  module _ (st : Stamp) (n : ℕ) where
    pub status-light : (c : ℕ) → Light i reader own 1 (status_message own st c n)
    unfolding status_message
    status-light c = light-three i reader own 1 (status_message own st c n) (omega arith) (omega arith) refl not-two refl (omega arith)

    asks-light : Light i reader own 2 (field_message own st availability_status_request n all_services)
    unfolding field_message
    asks-light =
        light-three i reader own 2 (field_message own st availability_status_request n all_services) (omega arith) (omega arith) refl not-two refl (omega arith)

    pull-light : Light i reader own 1 (field_message own st versioned_data_pull3 n all_data)
    unfolding field_message
    pull-light =
        light-three i reader own 1 (field_message own st versioned_data_pull3 n all_data) (omega arith) (omega arith) refl not-two refl (omega arith)

    unknown-light : (id : ℕ) → Light i reader own 1 (field_message own st unknown_operation3 n id)
    unfolding field_message
    unknown-light id =
        light-three i reader own 1 (field_message own st unknown_operation3 n id) (omega arith) (omega arith) refl not-two refl (omega arith)

    services-light : (ps : List (ℕ × ℕ)) → Light i reader own 1 (services_message own st n ps)
    unfolding services_message
    services-light ps = light-three i reader own 1 (services_message own st n ps) (omega arith) (omega arith) refl not-two refl (omega arith)

    -- a status of services is as long as its size field says, where that can say it
    services-one : (ps : List (ℕ × ℕ)) → length ps < most_ours
        → messages_in (length (services_message own st n ps)) (services_message own st n ps) ≡ services_message own st n ps ∷ []
    unfolding services_message
    services-one ps h =
        let P : List ℕ = services_bytes ps in
        let l : length P ≡ services_length (length ps) = length_services ps in
        let f : length P < span 2 = omega (arith, h, l) in
        let q : 24 + length P ≡ length (services_message own st n ps) = omega arith in
        messages_one (length (services_message own st n ps)) (services_message own st n ps) (omega arith) (omega arith)
        (ap (λ (k : ℕ). 24 + k) (number_bytes 2 (length P) [] f) ∙ q)

  -- what is written for a deed
  module _ (st : Stamp) (c : ℕ) (ours : List ℕ) where
    abbrev Sent : Deed → List ℕ → Type 0
    Sent d B = LightAll i reader own (deed_weight d) (messages_in (length B) B)

    reply-sent : (r : Reply) → Sent (One r) (reply_bytes3 own st c r)
    unfolding reply_bytes3 status_message field_message
    reply-sent (StatusUp n) = one-light 1 (status_message own st c n) (status-light st n c)
    reply-sent (PullAll n) = one-light 1 (field_message own st versioned_data_pull3 n all_data) (pull-light st n)
    reply-sent (Unknown n id) = one-light 1 (field_message own st unknown_operation3 n id) (unknown-light st n id)

    start-up-sent : (n : ℕ) → Sent (StartUp n) (start_up_bytes own st c n)
    unfolding start_up_bytes status_message field_message
    start-up-sent n =
        let A : List ℕ = field_message own st availability_status_request (drawn n) all_services in
        let P : List ℕ = field_message own st versioned_data_pull3 (drawn (drawn n)) all_data in
        then-light 1 3 (status_message own st c n) (A ∷ P ∷ []) (status-light st n c)
        (then-light 2 1 A (P ∷ []) (asks-light st (drawn n)) (one-light 1 P (pull-light st (drawn (drawn n)))))

    services-sent : (n : ℕ) (ps : List (ℕ × ℕ)) → length ps < most_ours
        → LightAll i reader own 1 (messages_in (length (services_message own st n ps)) (services_message own st n ps))
    services-sent n ps h =
        subst (λ (ms : List (List ℕ)). LightAll i reader own 1 ms) (sym (services-one st n ps h))
        (one-light 1 (services_message own st n ps) (services-light st n ps))

    deed-sent : (d : Deed) → ((n : ℕ) → d ≡ TellAll n → length ours < most_ours) → Sent d (deed_bytes own st c ours d)
    unfolding deed_bytes
    deed-sent Nothing h = none-light
    deed-sent (One r) h = reply-sent r
    deed-sent (StartUp n) h = start-up-sent n
    deed-sent (TellAll n) h =
        let l : length (pairs_of ours) ≡ length ours = length-ours own st n ours in
        services-sent n (pairs_of ours) (omega (arith, l, h n refl))
    deed-sent (TellOne n id v) h = services-sent n ((id, state_told v) ∷ []) (omega arith)
    deed-sent Note h = none-light
    deed-sent MarkAll h = none-light

    pub deed-light : (d : Deed) (out : List ℕ) → ((n : ℕ) → d ≡ TellAll n → length ours < most_ours)
        → LightAll i reader own (deed_weight d)
        (messages_in (length (deed_bytes own st c ours d)) (take (length (deed_bytes own st c ours d)) (over out 0 (deed_bytes own st c ours d))))
    deed-light d out h =
        let B : List ℕ = deed_bytes own st c ours d in
        subst (λ (s : List ℕ). LightAll i reader own (deed_weight d) (messages_in (length B) s)) (sym (cut (length B) B out refl)) (deed-sent d h)

  -- Issue 6's replies
  module _ (small : own < 256) where
    reply-light : (r : Reply) → Light i reader own (reply_weight r) (reply_bytes own r)
    unfolding reply_bytes
    reply-light (StatusUp n) =
        light-six i reader own 1 (reply_bytes own (StatusUp n)) (omega arith) refl (number_bytes 2 own [] (omega arith)) (omega arith)
    reply-light (PullAll n) =
        light-six i reader own 2 (reply_bytes own (PullAll n)) (omega arith) refl (number_bytes 2 own [] (omega arith)) (omega arith)
    reply-light (Unknown n id) =
        light-six i reader own 1 (reply_bytes own (Unknown n id)) (omega arith) refl (number_bytes 2 own [] (omega arith)) (omega arith)

    owed-sent : (o : Owed) → LightAll i reader own (owed_weight o) (messages_in (owed_length o) (owed_bytes own o))
    unfolding owed_bytes reply_bytes
    owed-sent owed.Nothing = none-light
    owed-sent (owed.One r) = one-light (reply_weight r) (reply_bytes own r) (reply-light r)
    owed-sent (owed.Two r q) =
        then-light (reply_weight r) (reply_weight q) (reply_bytes own r) (reply_bytes own q ∷ []) (reply-light r)
        (one-light (reply_weight q) (reply_bytes own q) (reply-light q))

    pub owed-light : (o : Owed) (out : List ℕ)
        → LightAll i reader own (owed_weight o) (messages_in (owed_length o) (take (owed_length o) (over out 0 (owed_bytes own o))))
    owed-light o out =
        subst (λ (s : List ℕ). LightAll i reader own (owed_weight o) (messages_in (owed_length o) s))
        (sym (cut (owed_length o) (owed_bytes own o) out (length_owed own o))) (owed-sent o)

-- a status in either form, and in the one that its receiver does not have its sender for
module _ (i : List ℕ) (reader own : ℕ) (small : own < 256) (u : Status) where
  pub started-light : (three : Bool) → Light i reader own 1 (status_in three own u)
  started-light true = status-light i reader own u.stamp u.number u.composite
  started-light false = reply-light i reader own small (StatusUp u.number)

  pub started-refused : (three : Bool) → is_three i own ≡ not three → IsRefused (any_of i reader (status_in three own u))
  unfolding status_message reply_bytes
  started-refused true e = three-refused i reader (status_in true own u) (omega arith) refl (not-two i reader own) e
  started-refused false e =
      six-refused i reader (status_in false own u) refl (ap (is_three i) (number_bytes 2 own [] (omega (arith, small))) ∙ e)

-- What is linked answers and keeps services as the platform call among partners of both issues does.
-- Assumes nothing.
use Prim.Native.Nat.{ℕ}
use mathlib.Core.Path.{◌≡◌, refl, sym, ap, ap₂, subst, ◌∙◌}
use mathlib.Core.Bool.{Bool, true, false, cond}
use mathlib.Core.Logic.{inl, inr}
use mathlib.Core.List.{List}
use native.Mathlib.Omega.{arith}
use lib.Dec.{eqb}
use lib.ListN.{length, drop}
use Rattle.wire.proofs.Cond.{yes-if, no-if}
use Rattle.message3.specs.Header.{sender_in3}
use Rattle.services.specs.declared.Availability.{Availability}
use Rattle.services.specs.declared.Availability.TheVariants.{Unheard, Unavailable, Available}
use Rattle.services.specs.Block.{availability_in}
use Rattle.services.specs.Known.{known, is_in}
use Rattle.partners.specs.Threes.{is_three}
use Rattle.platform.specs.declared.reactions.Standing.{Standing}
use Rattle.platform_words.specs.Words.{standing_in, pending_in}
use Rattle.mixed.specs.declared.AnyAnswer.{AnyAnswer}
use Rattle.mixed.specs.Keeping.{is_there}
use Rattle.mixed.specs.Receiving.{number_given}
use Rattle.mixed_words.specs.ServiceCalls.{availability_number, service_number}
use Rattle.promises.specs.Checks.{Gives}
use Rattle.promises.specs.Services.{named_by, said_by, KemptBlock}
use Rattle.promises.specs.MixedCalls.{answer_on, services_on}
use Rattle.promises.specs.MixedOrder.{FindsNoPlace}
use Rattle.promises.specs.MixedServices.{our_call, words_of, state_of, ArisesBy, start, call, TellsOf, DownOf}
use Rattle.promises.specs.LinkedReplies3.{ServiceIs}
use Rattle.promises.specs.LinkedMixed.{MixedLent, Receives, checks_of, its_block, LedTo, fresh, later, AllThere, AllKempt, Kept, WhoAsks, Stays}
use Rattle.promises.specs.LinkedMixed.{ServicesAfter, LinkedMixed}
use Rattle.promises.proofs.LinkedAcross.{in_numbers, service_is}
use Rattle.promises.proofs.Services.{services as one-platform}
use Rattle.promises.proofs.MixedOrder.{mixed_order}
use Rattle.promises.proofs.MixedBlocks.{is-there}
use Rattle.promises.proofs.MixedChanges.{Change, noted, went_down, nothing, Good, change}
use Rattle.promises.proofs.MixedServices.{mixed_services}
use Rattle.promises.proofs.SomeMixed.{some_call, some_call_in}

-- what a call that is handed this answers, gives back and leaves
abbrev answer_of : MixedLent → AnyAnswer
answer_of c =
    (answer_on c.table c.own c.partners c.ours (standing_in c.platform) (pending_in c.platform) c.services c.message
    (length c.output)).answer

abbrev words_after : MixedLent → List ℕ
words_after c = services_on c.table c.own c.partners c.ours (standing_in c.platform) c.services c.message (length c.output)

abbrev Does : MixedLent → ℕ → List ℕ → Type 0
Does c n words = (n ≡ number_given (answer_of c)) × (words ≡ words_after c)

does : (c : MixedLent) (n : ℕ) (words : List ℕ) → Receives c n words → Does c n words
does c n words (inl (k, (a, (e, (p, (ec, ew)))))) = subst (λ (x : MixedLent). Does x n words) ec (p.0, sym ew ∙ p.1.1.0)
does c n words (inr (k, (a, (e, (p, (ec, ew)))))) = subst (λ (x : MixedLent). Does x n words) ec (p.0, sym ew ∙ p.1.1.0)

gives : (c : MixedLent) (n : ℕ) (words : List ℕ) → Receives c n words → n ≡ number_given (answer_of c)
gives c n words r = (does c n words r).0

in_order : (c : MixedLent) (n : ℕ) (words : List ℕ) → Receives c n words → Gives (checks_of c (FindsNoPlace (its_block c) (drop 24 c.message))) n
in_order c n words r =
    rw (gives c n words r)
    (mixed_order.any_words c.table c.own c.partners c.ours (standing_in c.platform) (pending_in c.platform) c.services c.message
    (length c.output))

-- words that calls lead to
arises : (i ws : List ℕ) → LedTo i ws → ArisesBy our_call i ws
arises i ws (fresh n) = start n
arises i ws (later {c = c} {n = n} {words = words} e o r l) =
    subst (ArisesBy our_call i) (sym (does c n words r).1)
    (subst (λ (v : List ℕ). ArisesBy our_call v (words_after c)) e
    (call c.table c.own c.ours (standing_in c.platform) c.message (length c.output) o
    (subst (λ (v : List ℕ). ArisesBy our_call v c.services) (sym e) (arises i c.services l))))

are_kempt : (i ws : List ℕ) → LedTo i ws → AllKempt i ws
are_kempt i ws l j t h = mixed_services.kempt i ws j (arises i ws l) t h

-- what is told of a service
asked : (i ws : List ℕ) (j x : ℕ) (So : ℕ → Type 0) → So (service_number i ws j x) → WhoAsks i ws j x So
asked i ws j x So h y a n f p ei ew ej ex =
    subst So (sym (p ∙ ap₂ (λ (v w : List ℕ). service_number v w a.1.1.0 a.1.1.1.0) ei ew ∙ ap₂ (service_number i ws) ej ex)) h

of_three : (i ws : List ℕ) (j x : ℕ) → is_three i j ≡ true → service_number i ws j x ≡ availability_number (state_of i j ws x)
of_three i ws j x t = yes-if (availability_number (state_of i j ws x)) 0 t

stays : (i was ws : List ℕ) (j x : ℕ) → (is_three i j ≡ true → state_of i j ws x ≡ state_of i j was x) → Stays i was ws j x
stays i was ws j x same = asked i was j x (λ (n : ℕ). ServiceIs i ws j x n) (service_is i ws j x (service_number i was j x) (go (is_three i j) refl))
  where
    go : (b : Bool) → is_three i j ≡ b → service_number i ws j x ≡ service_number i was j x
    go true t = of_three i ws j x t ∙ ap availability_number (same t) ∙ sym (of_three i was j x t)
    go false t = no-if (availability_number (state_of i j ws x)) 0 t ∙ sym (no-if (availability_number (state_of i j was x)) 0 t)

-- a call, and what is told after it
module _ (c : MixedLent) (n : ℕ) (words : List ℕ) (r : Receives c n words) where
  abbrev i : List ℕ
  i = c.partners

  abbrev m : List ℕ
  m = c.message

  abbrev p : Standing
  p = standing_in c.platform

  abbrev l : List ℕ
  l = pending_in c.platform

  abbrev was : List ℕ
  was = c.services

  abbrev room : ℕ
  room = length c.output

  abbrev given : ℕ
  given = number_given (answer_of c)

  state-now : (j x : ℕ) → state_of i j words x ≡ state_of i j (words_after c) x
  state-now j x = ap (λ (v : List ℕ). state_of i j v x) (does c n words r).1

  zero-given : n ≡ 0 → given ≡ 0
  zero-given z = sym (gives c n words r) ∙ z

  its-three : (j : ℕ) → TellsOf i m j → is_three i j ≡ true
  its-three j w = subst (λ (k : ℕ). is_three i k ≡ true) w.1.1 w.0.1

  -- a status of services that is not refused has its words there
  its-words : (j : ℕ) → given ≡ 0 → TellsOf i m j → AllThere i was j
  its-words j z w = subst (AllThere i was) w.1.1 (go (change c.table c.own i c.ours p l was m room))
    where
      by : (b : Bool) → is_there i (sender_in3 m) was ≡ b → (fits : ℕ) → given ≡ cond b fits 10 → AllThere i was (sender_in3 m)
      by true e fits q = is-there i (sender_in3 m) was e
      by false e fits q = absurd (omega (arith, z, q))

      go : Change (Good c.table c.own i m) c.own i p was m given (words_after c) → AllThere i was (sender_in3 m)
      go (noted tf ts e q) = by (is_there i (sender_in3 m) was) refl _ q
      go (went_down tf ts e q) = let a = ts.1.0 in let b = w.1.0.1 in absurd (omega arith)
      go (nothing e q) = absurd (q (inr z) (w.0, inl w.1.0))

  its-kempt : Kept c → (j : ℕ) → given ≡ 0 → TellsOf i m j → KemptBlock (words_of i j was)
  its-kempt k j z w = k.1 j (its-three j w) (its-words j z w)

  goes_down : (j x : ℕ) → given ≡ 0 → DownOf c.own i p m j → (y : Availability) → state_of i j was x ≡ y
      → availability_number (state_of i j (words_after c) x) ≡ cond {A = ℕ} (eqb (availability_number y) 0) 0 1
  goes_down j x z d Unheard e =
      ap availability_number (mixed_services.down_unheard c.table c.own i c.ours p l was m room j z d x e)
  goes_down j x z d Unavailable e =
      ap availability_number (mixed_services.down_known c.table c.own i c.ours p l was m room j z d x
      (λ q. let a : ◌≡◌ {A = ℕ} 1 0 = ap availability_number (sym e ∙ q) in omega arith))
  goes_down j x z d Available e =
      ap availability_number (mixed_services.down_known c.table c.own i c.ours p l was m room j z d x
      (λ q. let a : ◌≡◌ {A = ℕ} 2 0 = ap availability_number (sym e ∙ q) in omega arith))

  services-after : ServicesAfter c n words
  services-after =
      record {
        refused = λ f j x.
            stays i was words j x (λ t. state-now j x
            ∙ ap (λ (v : List ℕ). state_of i j v x)
            (mixed_services.refused c.table c.own i c.ours p l was m room (λ q. f (gives c n words r ∙ q))));
        last_pair = λ k z j w a h last.
            service_is i words j (named_by (drop 24 m) a) _
            (of_three i words j (named_by (drop 24 m) a) (its-three j w)
            ∙ ap availability_number (state-now j (named_by (drop 24 m) a)
            ∙ mixed_services.last_pair c.table c.own i c.ours p l was m room j k.0 (zero-given z) w (its-kempt k j (zero-given z) w) a h last)
            ∙ in_numbers (eqb (said_by (drop 24 m) a) 1));
        not_named = λ k z j w x h.
            stays i was words j x (λ t. state-now j x
            ∙ mixed_services.not_named c.table c.own i c.ours p l was m room j k.0 (zero-given z) w (its-kempt k j (zero-given z) w) x h);
        went_down = λ z j d x.
            let t : is_three i j ≡ true = subst (λ (q : ℕ). is_three i q ≡ true) d.1.1 d.0.1 in
            asked i was j x (λ (q : ℕ). ServiceIs i words j x (cond (eqb q 0) 0 1))
            (service_is i words j x _
            (of_three i words j x t ∙ ap availability_number (state-now j x) ∙ goes_down j x (zero-given z) d (state_of i j was x) refl
            ∙ ap (λ (q : ℕ). cond {A = ℕ} (eqb q 0) 0 1) (sym (of_three i was j x t))));
        others = λ j x nt nd.
            stays i was words j x (λ t. state-now j x
            ∙ ap (λ (v : List ℕ). availability_in v x) (mixed_services.others c.table c.own i c.ours p was m room j t nt nd));
      }

-- a service that is known is one of which something was heard
known_told : (b : List ℕ) (x : ℕ) → is_in x (known b) ≡ cond (eqb (availability_number (availability_in b x)) 0) false true
known_told b x = go (is_in x (known b)) refl (availability_in b x) refl
  where
    go : (q : Bool) → is_in x (known b) ≡ q → (y : Availability) → availability_in b x ≡ y → q ≡ cond (eqb (availability_number y) 0) false true
    go true e Unheard f = absurd (one-platform.heard b x e f)
    go true e Unavailable f = refl
    go true e Available f = refl
    go false e Unheard f = refl
    go false e Unavailable f =
        let a : ◌≡◌ {A = ℕ} 1 0 = ap availability_number (sym f ∙ one-platform.unheard b x e) in
        absurd (omega arith)
    go false e Available f =
        let a : ◌≡◌ {A = ℕ} 2 0 = ap availability_number (sym f ∙ one-platform.unheard b x e) in
        absurd (omega arith)

pub linked_mixed : LinkedMixed
linked_mixed =
    record {
      some = some_call;
      some_in = some_call_in;
      order = in_order;
      kempt = are_kempt;
      services = services-after;
      exactly = λ c n words r k g rd j w h.
          gives c n words r
          ∙ mixed_services.exactly c.table c.own c.partners c.ours (standing_in c.platform) (pending_in c.platform) c.services
          c.message (length c.output) j k.0 g rd w (k.1 j (its-three c n words r j w) h);
      order_kept = λ c n words r k.
          rw (gives c n words r)
          (mixed_order.kempt_words c.table c.own c.partners c.ours (standing_in c.platform) (pending_in c.platform) c.services
          c.message (length c.output) k.0 (λ tf there. k.1 (sender_in3 c.message) tf.1 (omega (arith, there))));
      known_are = λ i ws j x t.
          asked i ws j x (λ (n : ℕ). is_in x (known (words_of i j ws)) ≡ cond (eqb n 0) false true)
          (known_told (words_of i j ws) x ∙ ap (λ (n : ℕ). cond (eqb n 0) false true) (sym (of_three i ws j x t)));
    }

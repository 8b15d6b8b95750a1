-- The plain map shows one thing only of each call, and so over any calls.
-- Assumes nothing.
use Prim.Native.Nat.{ℕ, ◌+◌}
use Rattle.std.specs.Prelude.{Ok}
use Rattle.std.specs.Prelude.{Option, Some}
use mathlib.Core.Path.{◌≡◌, refl, sym, ap, ap₂, subst, ◌∙◌}
use mathlib.Core.Bool.{cond}
use mathlib.Core.List.{List, [], ◌∷◌}
use lib.Dec.{eqb}
use Rattle.table.specs.declared.Sections.{Sections}
use Rattle.types.specs.Table.{checked}
use Rattle.message.specs.declared.Header.{Header}
use Rattle.message.specs.declared.Message.TheVariants as message
use Rattle.message.specs.declared.Reading.TheVariants as reading
use Rattle.pending.specs.PlainMap.{Map, is_asked, taken, inserted, deleted}
use Rattle.pending.specs.Turns.{give_up, forgets as Gives-up}
use Rattle.pending.proofs.Drawing.{one_is_next}
use Rattle.pending.proofs.Turning.{next_by}
use Rattle.pending.proofs.OneMap.{SameMap, one_told}
use Rattle.platform.specs.declared.reactions.Standing.{Standing}
use Rattle.platform.specs.declared.Noting.TheVariants as noting
use Rattle.promises.specs.Checks.{Check, Answers, none, this, next}
use Rattle.promises.specs.RequestCalls.{RequestCall, send, receive, cancel, ask, Fair, AllFair, of_receive, whether, what, Shown, shown}
use Rattle.promises.specs.RequestRuns.{OnMap, sent_on, Responds, MapCall, sends, delivers, refuses, passes, forgets, looks}
use Rattle.promises.specs.RequestRuns.{MapCalls, ended, then}
use Rattle.promises.proofs.RequestTables.{one_entry}

-- two lists of checks that apply alike
pub data ApplyAlike : List Check → List Check → Type 1 where
  alike : ApplyAlike [] []
  also : {c d : Check} {cs ds : List Check} → c.refusal ≡ d.refusal → (c.applies → d.applies) → (d.applies → c.applies)
      → ApplyAlike cs ds → ApplyAlike (c ∷ cs) (d ∷ ds)

pub itself : (cs : List Check) → ApplyAlike cs cs
itself [] = alike
itself (c ∷ cs) = also refl (λ h. h) (λ h. h) (itself cs)

module _ {A : Type 0} {f g : ℕ → A} {a b : A} (R : A → A → Type 0) (refused : (k : ℕ) → R (f k) (g k)) (good : R a b) where
  pub one_answer : {cs ds : List Check} {x y : A} → ApplyAlike cs ds → Answers f a cs x → Answers g b ds y → R x y
  one_answer alike none none = good
  one_answer (also {c} {d} e h k r) (this u) (this v) = subst (λ (n : ℕ). R (f c.refusal) (g n)) e (refused c.refusal)
  one_answer (also e h k r) (this u) (next v q) = absurd (v (h u))
  one_answer (also e h k r) (next u p) (this v) = absurd (u (k v))
  one_answer (also e h k r) (next u p) (next v q) = one_answer r p q

abbrev pub SameOn : OnMap → OnMap → Type 0
SameOn x y = (x.seen ≡ y.seen) × SameMap x.after y.after

module _ (own : ℕ) (p : Standing) (m w : Map) (same : SameMap m w) where
  pub same_taken : (k : ℕ) → taken m k ≡ taken w k
  same_taken k = ap is_asked (same.everywhere k)

  pub same-inserted : (n id target : ℕ) → SameMap (inserted m n id target) (inserted w n id target)
  same-inserted n id target =
      record {
        everywhere = λ x. ap (λ (z : Option (ℕ × ℕ)). cond (eqb x n) (Some (id, target)) z) (same.everywhere x);
        counts = ap (λ (c : ℕ). c + 1) same.counts;
      }

  pub same-deleted : (n : ℕ) → SameMap (deleted m n) (deleted w n)
  same-deleted n = (one_told m w (give_up n) _ _ _ _ same Gives-up Gives-up).1

  -- a message under an ID of kind 2 is read in one way, and its ID has one entry
  module _ (t : List ℕ) (s : Sections) (bytes : List ℕ) (e : checked t ≡ Ok s) (h k : Header) (i j len size : ℕ)
      (r : Responds own t s bytes h i len) (q : Responds own t s bytes k j size) where
    both : reading.Read h message.Operation 20 len ≡ reading.Read k message.Operation 20 size
    both = sym r.read ∙ q.read

    same-header : h ≡ k
    same-header = let d = both in cc

    same_size : len ≡ size
    same_size = let d = both in cc

    same-entry : i ≡ j
    same-entry =
        one_entry t s e i j r.request.there q.request.there
        (r.request.named ∙ ap (λ (x : Header). x.id) same-header ∙ sym q.request.named)

    same-response : noting.Response h i 20 len ≡ noting.Response k j 20 size
    same-response =
        ap₂ (λ (x : Header) (y : ℕ). noting.Response x y 20 len) same-header same-entry
        ∙ ap (λ (y : ℕ). noting.Response k j 20 y) same_size

    same-under : m.under h.sequence ≡ Some (h.id, h.platform) → w.under k.sequence ≡ Some (k.id, k.platform)
    same-under u =
        subst (λ (x : Header). w.under x.sequence ≡ Some (x.id, x.platform)) same-header (sym (same.everywhere h.sequence) ∙ u)

    under_same : w.under k.sequence ≡ Some (k.id, k.platform) → m.under h.sequence ≡ Some (h.id, h.platform)
    under_same u =
        subst (λ (x : Header). m.under x.sequence ≡ Some (x.id, x.platform)) (sym same-header) (same.everywhere k.sequence ∙ u)

  pub one_seen : (c : RequestCall) {x y : OnMap} → Fair c → MapCall own p m c x → MapCall own p w c y → SameOn x y
  one_seen (send t s words id target payload out) fair (sends {n = n} a u) (sends {n = k} b v) =
      let q : n ≡ k = one_is_next (taken w) p.next n k (next_by (taken m) (taken w) p.next n same_taken a) b in
      one_answer SameOn (λ r. (refl, same)) (
        ap (λ (z : ℕ). (sent_on own p m id target payload out z).seen) q,
        subst (λ (z : ℕ). SameMap (inserted m n id target) (inserted w z id target)) q (same-inserted n id target),
      )
      (also refl (λ h. h) (λ h. h) (also refl (λ h. sym same.counts ∙ h) (λ h. same.counts ∙ h) (itself _))) u v
  one_seen (receive t s bytes out) fair (delivers {h = h} {i = i} {len = len} r u) (delivers {h = k} {i = j} {len = size} q v) = (
    ap (λ (z : _). shown (of_receive z) out p) (same-response t s bytes fair h k i j len size r q),
    subst (λ (z : Header). SameMap (deleted m h.sequence) (deleted w z.sequence)) (same-header t s bytes fair h k i j len size r q)
        (same-deleted h.sequence),
  )
  one_seen (receive t s bytes out) fair (delivers {h = h} {i = i} {len = len} r u) (refuses {h = k} {i = j} {len = size} q v) =
      absurd (v (same-under t s bytes fair h k i j len size r q u))
  one_seen (receive t s bytes out) fair (delivers {h = h} {i = i} {len = len} r u) (passes v) = absurd (v h i len r)
  one_seen (receive t s bytes out) fair (refuses {h = h} {i = i} {len = len} r u) (delivers {h = k} {i = j} {len = size} q v) =
      absurd (u (under_same t s bytes fair h k i j len size r q v))
  one_seen (receive t s bytes out) fair (refuses r u) (refuses q v) = (refl, same)
  one_seen (receive t s bytes out) fair (refuses {h = h} {i = i} {len = len} r u) (passes v) = absurd (v h i len r)
  one_seen (receive t s bytes out) fair (passes u) (delivers {h = k} {i = j} {len = size} q v) = absurd (u k j size q)
  one_seen (receive t s bytes out) fair (passes u) (refuses {h = k} {i = j} {len = size} q v) = absurd (u k j size q)
  one_seen (receive t s bytes out) fair (passes u) (passes v) = (refl, same)
  one_seen (cancel n) fair forgets forgets = (ap (λ (z : Option (ℕ × ℕ)). shown (whether (is_asked z)) [] p) (same.everywhere n), same-deleted n)
  one_seen (ask n) fair looks looks = (ap (λ (z : Option (ℕ × ℕ)). shown (what z) [] p) (same.everywhere n), same)

-- over any calls
pub one_run : (own : ℕ) (p q : Standing) (m w : Map) (cs : List RequestCall) {xs ys : List Shown} {v z : Map} → p ≡ q → SameMap m w → AllFair cs
    → MapCalls own p m cs xs v → MapCalls own q w cs ys z → (xs ≡ ys) × SameMap v z
one_run own p q m w [] e same fair ended ended = (refl, same)
one_run own p q m w (c ∷ cs) e same fair (then {x = x} a r) (then {x = y} b s) =
    let o : SameOn x y = one_seen own p m w same c fair.0 a (subst (λ (k : Standing). MapCall own k w c y) (sym e) b) in
    let rest = one_run own x.seen.standing y.seen.standing x.after y.after cs (ap (λ (k : Shown). k.standing) o.0) o.1 fair.1 r s in
    (ap₂ ◌∷◌ o.0 rest.0, rest.1)

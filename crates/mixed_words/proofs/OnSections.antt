-- What the call for one message on sections shows at its returns: these lie in the table, or not; and of one told straight from its bytes.
-- Assumes nothing.
use Prim.Native.Nat.{ℕ, ◌-◌}
use Rattle.std.specs.Prelude.{Option, Some}
use mathlib.Core.Path.{◌≡◌, refl, sym, ap, ap₂, ◌∙◌}
use mathlib.Core.Bool.{Bool, true, false}
use mathlib.Core.List.{List}
use lib.ListN.{length, take, drop, take-append-drop}
use Rattle.wire.proofs.Cond.{yes-if, no-if}
use Rattle.table.specs.declared.Sections.{Sections}
use Rattle.table.specs.Layout.{cut_short, within}
use Rattle.table.specs.Words.{bounds_words, sections_in, index_in}
use Rattle.mixed.specs.declared.AnyReceived.{AnyReceived}
use Rattle.mixed.specs.Receiving.{number_given, refused_any, any_list}
use Rattle.mixed.specs.Tables.{sections_answer, sections_out, sections_pending, sections_words}
use Rattle.platform_words.specs.Words.{standing_length, standing_in, pending_in}
use Rattle.platform_words.proofs.Behind.{lent-behind}
use Rattle.mixed_words.specs.HeardWords.{any_platform_after, any_heard_after}
use Rattle.mixed_words.specs.Within.{outcome_within, number_within, words_within, services_within, output_within, heard_within}
use Rattle.mixed_words.specs.Within.{six_operation, six_in, straight_number, straight_platform, straight_heard}
use Rattle.mixed_words.specs.SectionCalls.{outcome_with, mixed_in_number, mixed_in_words, mixed_in_services, mixed_in_output, mixed_in_heard}
use Rattle.mixed_words.proofs.SixOperations.{is_found}
use Rattle.mixed_words.proofs.Straight.{straight-number, straight-words, straight-services, straight-output, straight-heard}

-- `received`
module _ {s : Sections} {b : Bool} (own : ℕ) (i ours ws sv t ss m out : List ℕ) (es : s ≡ sections_in ss) (eb : b ≡ within t s) where
  is_within : within t (sections_in ss) ≡ b
  is_within = ap (within t) (sym es) ∙ sym eb

  -- the index is lent by itself
  module _ (yes : b ≡ true) where
    is_meant : outcome_within own i ours ws sv t s (take (length ss - 8) (drop 8 ss)) m out ≡ outcome_with own i ours ws sv t ss m out
    unfolding sections_answer
    is_meant =
        ap₂ (λ (x : Sections) (y : List ℕ). outcome_within own i ours ws sv t x y m out) es (lent-behind bounds_words ss)
        ∙ sym (yes-if {A = AnyReceived} (outcome_within own i ours ws sv t (sections_in ss) (index_in ss) m out) (refused_any (standing_in ws) cut_short)
        (is_within ∙ yes))

    its-list : any_list own i t s (take (length ss - 8) (drop 8 ss)) (pending_in ws) m ≡ sections_pending own i t (sections_in ss) (index_in ss) (pending_in ws) m
    unfolding sections_pending
    its-list =
        ap₂ (λ (x : Sections) (y : List ℕ). any_list own i t x y (pending_in ws) m) es (lent-behind bounds_words ss)
        ∙ sym (yes-if (any_list own i t (sections_in ss) (index_in ss) (pending_in ws) m) (pending_in ws) (is_within ∙ yes))

    pub inside-number : {n : ℕ} → n ≡ number_within own i ours ws sv t s (take (length ss - 8) (drop 8 ss)) m out
        → n ≡ mixed_in_number own i ours ws sv t ss m out
    inside-number f = f ∙ ap (λ (x : AnyReceived). number_given x.answer) is_meant

    pub inside-words : {x : List ℕ} → x ≡ words_within own i ours ws sv t s (take (length ss - 8) (drop 8 ss)) m out
        → x ≡ mixed_in_words own i ours ws sv t ss m out
    inside-words f = f ∙ ap₂ (λ (y : AnyReceived) (l : List ℕ). any_platform_after y ws l) is_meant its-list

    pub inside-heard : {x : List ℕ} (heard : List ℕ) → x ≡ heard_within own i ours ws sv t s (take (length ss - 8) (drop 8 ss)) m out heard
        → x ≡ mixed_in_heard own i ours ws sv t ss m out heard
    inside-heard heard f = f ∙ ap (λ (y : AnyReceived). any_heard_after y heard) is_meant

    pub inside-services : {x : List ℕ} → x ≡ services_within own i ours ws sv t s (take (length ss - 8) (drop 8 ss)) m out
        → x ≡ mixed_in_services own i ours ws sv t ss m out
    unfolding sections_words
    inside-services f =
        f ∙ ap₂ (λ (x : Sections) (y : List ℕ). services_within own i ours ws sv t x y m out) es (lent-behind bounds_words ss)
        ∙ sym (yes-if (services_within own i ours ws sv t (sections_in ss) (index_in ss) m out) sv (is_within ∙ yes))

    pub inside-output : {x : List ℕ} (numbers : List ℕ) → x ≡ output_within own numbers i ours ws sv t s (take (length ss - 8) (drop 8 ss)) m out
        → x ≡ mixed_in_output own numbers i ours ws sv t ss m out
    unfolding sections_out
    inside-output numbers f =
        f ∙ ap₂ (λ (x : Sections) (y : List ℕ). output_within own numbers i ours ws sv t x y m out) es (lent-behind bounds_words ss)
        ∙ sym (yes-if (output_within own numbers i ours ws sv t (sections_in ss) (index_in ss) m out) out (is_within ∙ yes))

  module _ (no : b ≡ false) where
    is-refused : refused_any (standing_in ws) cut_short ≡ outcome_with own i ours ws sv t ss m out
    unfolding sections_answer
    is-refused =
        sym (no-if {A = AnyReceived} (outcome_within own i ours ws sv t (sections_in ss) (index_in ss) m out) (refused_any (standing_in ws) cut_short)
        (is_within ∙ no))

    pub outside-number : cut_short ≡ mixed_in_number own i ours ws sv t ss m out
    outside-number = ap (λ (x : AnyReceived). number_given x.answer) is-refused

    pub outside-words : ws ≡ mixed_in_words own i ours ws sv t ss m out
    unfolding sections_pending
    outside-words =
        sym (take-append-drop standing_length ws)
        ∙ ap₂ (λ (y : AnyReceived) (l : List ℕ). any_platform_after y ws l) is-refused
        (sym (no-if (any_list own i t (sections_in ss) (index_in ss) (pending_in ws) m) (pending_in ws) (is_within ∙ no)))

    pub outside-services : sv ≡ mixed_in_services own i ours ws sv t ss m out
    unfolding sections_words
    outside-services = sym (no-if (services_within own i ours ws sv t (sections_in ss) (index_in ss) m out) sv (is_within ∙ no))

    pub outside-output : (numbers : List ℕ) → out ≡ mixed_in_output own numbers i ours ws sv t ss m out
    unfolding sections_out
    outside-output numbers = sym (no-if (output_within own numbers i ours ws sv t (sections_in ss) (index_in ss) m out) out (is_within ∙ no))

    pub outside-heard : (heard : List ℕ) → heard ≡ mixed_in_heard own i ours ws sv t ss m out heard
    outside-heard heard = ap (λ (y : AnyReceived). any_heard_after y heard) is-refused

-- `receive_in`
module _ {f : Option (ℕ × ℕ)} (own : ℕ) (i ours ws sv t ss m out : List ℕ) (e q : ℕ) (ef : f ≡ six_in own i t ss m) (at : f ≡ Some (e, q)) where
  abbrev index : List ℕ
  index = take (length ss - 8) (drop 8 ss)

  inside : within t (sections_in ss) ≡ true
  inside = (is_found own i t ss m e q ef at).0

  found : six_operation own i t (sections_in ss) index m ≡ Some (e, q)
  found =
      ap (λ (x : List ℕ). six_operation own i t (sections_in ss) x m) (lent-behind bounds_words ss) ∙ (is_found own i t ss m e q ef at).1

  pub told_number : {n : ℕ} → n ≡ straight_number ws t q m → n ≡ mixed_in_number own i ours ws sv t ss m out
  told_number en =
      inside-number own i ours ws sv t ss m out refl refl inside (straight-number own i ours ws sv t (sections_in ss) index m out e q refl found en)

  pub told_words : {x : List ℕ} → x ≡ straight_platform ws t q m → x ≡ mixed_in_words own i ours ws sv t ss m out
  told_words ex =
      inside-words own i ours ws sv t ss m out refl refl inside (straight-words own i ours ws sv t (sections_in ss) index m out e q refl found ex)

  pub told-services : sv ≡ mixed_in_services own i ours ws sv t ss m out
  told-services =
      inside-services own i ours ws sv t ss m out refl refl inside (straight-services own i ours ws sv t (sections_in ss) index m out e q refl found)

  pub told-output : (numbers : List ℕ) → out ≡ mixed_in_output own numbers i ours ws sv t ss m out
  told-output numbers =
      inside-output own i ours ws sv t ss m out refl refl inside numbers
      (straight-output own i ours ws sv t (sections_in ss) index m out e q refl found numbers)

  pub told-heard : {x : List ℕ} (heard : List ℕ) → x ≡ straight_heard ws t q m e heard → x ≡ mixed_in_heard own i ours ws sv t ss m out heard
  told-heard heard ex =
      inside-heard own i ours ws sv t ss m out refl refl inside heard
      (straight-heard own i ours ws sv t (sections_in ss) index m out e q refl found heard ex)

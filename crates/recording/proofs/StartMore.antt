-- How a recording starts stays as it is when more bytes come: only what was unfinished can become something else.
-- Assumes nothing.
use Rattle.std.proofs.Common.{◌≡◌, ℕ, zero, suc, ◌+◌, ◌≤◌, Bool, true, false, ltb, List, [], ◌∷◌, ◌++◌, length, sym, refl, ap, ◌∙◌, arith, length-append, ltb-false, ltb-true}
use Rattle.std.specs.Prelude.{None, Ok}
use Rattle.wire.specs.Bytes.{number}
use Rattle.wire.proofs.Numbers.{number_front}
use Rattle.recording.specs.Opening.{sizes_length, count_in, room_in, id_place, ids_in, good_start, ready_in, opened_in}
use Rattle.recording.proofs.Starting.{no_sizes, bad-start, no-ids, all_ids}

module _ (s more : List ℕ) where
  longer : length (s ++ more) ≡ length s + length more
  longer = length-append s more

  ids_more : (n : ℕ) → id_place n ≤ length s → ids_in (s ++ more) n ≡ ids_in s n
  ids_more zero h = refl
  ids_more (suc n) h =
      let e : number 1 (s ++ more) (id_place n) ≡ number 1 s (id_place n) = number_front 1 s more (id_place n) (omega arith) in
      ap (λ (u : List ℕ). u ++ (number 1 (s ++ more) (id_place n) ∷ [])) (ids_more n (omega arith))
      ∙ ap (λ (x : ℕ). ids_in s n ++ (x ∷ [])) e

  pub opened-more : (opened_in s ≡ Ok None → ⊥) → opened_in (s ++ more) ≡ opened_in s
  opened-more z = go (ltb (length s) sizes_length) refl (good_start n R) refl (ltb (length s) (id_place n)) refl
    where
      n : ℕ
      n = count_in s

      R : ℕ
      R = room_in s

      go : (t : Bool) → ltb (length s) sizes_length ≡ t → (u : Bool) → good_start n R ≡ u → (v : Bool) → ltb (length s) (id_place n) ≡ v
          → opened_in (s ++ more) ≡ opened_in s
      go true h u i v j = absurd (z (sym (no_sizes s (ltb-true (length s) sizes_length h))))
      go false h u i v j = judged u i v j
        where
          l : sizes_length ≤ length s
          l = ltb-false (length s) sizes_length h

          reaches : sizes_length ≤ length (s ++ more)
          reaches = omega (arith, longer, l)

          same_count : n ≡ count_in (s ++ more)
          same_count = sym (number_front 1 s more 0 (omega (arith, l)))

          same_room : R ≡ room_in (s ++ more)
          same_room = sym (number_front 2 s more 2 (omega (arith, l)))

          judged : (u : Bool) → good_start n R ≡ u → (v : Bool) → ltb (length s) (id_place n) ≡ v → opened_in (s ++ more) ≡ opened_in s
          judged false i v j =
              sym (bad-start (s ++ more) n R reaches same_count same_room (sym i) refl)
              ∙ bad-start s n R l refl refl (sym i) refl
          judged true i true j = absurd (z (sym (no-ids s n R l refl refl (sym i) refl (ltb-true (length s) (id_place n) j))))
          judged true i false j =
              let f : id_place n ≤ length s = ltb-false (length s) (id_place n) j in
              let g : id_place n ≤ length (s ++ more) = omega (arith, longer, f) in
              sym (all_ids (s ++ more) n R reaches same_count same_room (sym i) refl g refl)
              ∙ ready (ids_more n f)
              ∙ all_ids s n R l refl refl (sym i) refl f refl
            where
              ready : ids_in (s ++ more) n ≡ ids_in s n → ready_in (s ++ more) n R ≡ ready_in s n R
              ready e = rw e

-- The starred cases, computed; cutting by its laws.
-- Assumes nothing.
use Prim.Native.Nat.{ℕ, ◌+◌, ◌-◌, ◌*◌, ◌≤◌, ◌<◌, min}
use Rattle.std.specs.Prelude.{Ok}
use mathlib.Core.Path.{◌≡◌, refl, sym, ap, subst, ◌∙◌}
use mathlib.Core.List.{List, [], ◌∷◌}
use native.Mathlib.Omega.{arith}
use lib.ListN.{length, take}
use Rattle.binding.specs.declared.MessagePart.TheVariants.{Begin, End, Whole}
use Rattle.binding.specs.Header.{heading_in, piece_in}
use Rattle.binding.specs.Cutting.{piece_count, piece_at, part_of_piece, counter_of, header_of_piece, datagram_of, made_of, cut_into}
use Rattle.binding.proofs.Cutting.{Cuttable, piece_length, datagram-heading, datagram-piece, makes-made, made-front}
use Rattle.channel.specs.Channel.{missed_of, keeping, noted_of, begun_of, followed_of, placed_of, stepped_of}
use Rattle.joiner.specs.Setup.{good_sizes, good, fresh_of, setup_of}
use Rattle.joiner.specs.Take.{sent_to, heading_by, judged_of, taken_by, taken_of, put_by, rooms_by, rooms_after, message_of}
use Rattle.wire.specs.All.{all_below, above}
use Rattle.table.specs.Layout.{section_at, after, ended, after_values, after_members, after_types, sections_of, lies_in, within}
use Rattle.table.specs.Entries.{type_at, member_at, value_at}
use Rattle.table.specs.Leaf.{base, bytes_of, in_signed, finite, is_value, width, allowed}
use Rattle.table.specs.Fields.{fields_ok}
use Rattle.types.specs.Rules.{member_ok, members_ok, pointed_ok, type_ok}
use Rattle.operations.specs.Entries.{op_place}
use Rattle.operations.specs.Rules.{operations_ok}
use Rattle.types.specs.Sizes.{size_of, sizes, largest, fits_in_size}
use Rattle.types.specs.Table.{entries_ok, sizes_ok, judged, judging, checked}
use Rattle.leaf.specs.Forms.{truth, extended, word_of, form, word_at, form_of}
use Rattle.leaf.specs.Choice.{choice}
use Rattle.walk.specs.Tree.{by_kind, look, elements_of, tree_of, trees, tree}
use Rattle.walk.specs.Walk.{answer, left, next, through, item, counted, walk, type_walk}
use Rattle.unpack.specs.Reading.{reader}
use Rattle.pack.specs.Writing.{writer}
use Rattle.payload.specs.Calls.{stopped_at, went_to, answered, answered_type, answered_in, left_over_by, left_over_in, answered_if, left_if}
use Rattle.promises.specs.Cases.{CutPiece, CutAs, CutsInto}
use Rattle.promises.specs.Starred.{Starred}

-- one piece, by the message's length alone
module _ (msg : List ℕ) (m s sender first i n : ℕ) (e : length msg ≡ m) (w : Cuttable m s) (hs : sender < 4096) (hf : first < 65536)
    (l : i < piece_count m s) (b : min s (m - i * s) ≡ n) where
  abbrev it : CutPiece
  it = record { mark = part_of_piece (piece_count m s) i; counter = counter_of first i; bytes = n }

  size : length (piece_at msg s i) ≡ n
  size = piece_length msg s i ∙ ap (λ (k : ℕ). min s (k - i * s)) e ∙ b

  long : length (datagram_of msg s sender first i) ≡ 4 + n
  long = omega (arith, size)

  cuttable-is : Cuttable (length msg) s
  cuttable-is = subst (λ (k : ℕ). Cuttable k s) (sym e) w

  there-is : i < piece_count (length msg) s
  there-is = subst (λ (k : ℕ). i < piece_count k s) (sym e) l

  cut_as : (out : List ℕ) → 4 + n ≤ length out → CutAs msg s sender first i it out
  cut_as out r =
      let q : made_of msg s sender first i (length out) ≡ Ok (4 + n) = makes-made msg s sender first i (length out) (4 + n)
      (record { cut = cuttable-is; sends = hs; counts = hf; piece = there-is; fits = omega (arith, long, r); size = sym long }) in
      let front : take (4 + n) (cut_into msg s sender first i out) ≡ datagram_of msg s sender first i = made-front msg s sender first i out q in
      record {
        made = q;
        header =
            ap heading_in front ∙ datagram-heading msg s sender first i cuttable-is hs there-is ∙ ap (λ (k : ℕ). Ok (header_of_piece k s sender first i)) e;
        piece = ap piece_in front ∙ datagram-piece msg s sender first i;
      }

-- the two messages
one_piece : CutsInto 65503 65503 7 (record { mark = Whole; counter = 7; bytes = 65503 } ∷ [])
one_piece =
    let w : Cuttable 65503 65503 = record { some = omega arith; most = omega arith; size = omega arith; piece = omega arith } in
    record { counted = refl; cut = λ msg e sender hs. (cut_as msg 65503 65503 sender 7 0 65503 e w hs (omega arith) (omega arith) refl, tt) }

two_pieces : CutsInto 65504 65503 65535
    (record { mark = Begin; counter = 65535; bytes = 65503 } ∷ record { mark = End; counter = 0; bytes = 1 } ∷ [])
two_pieces =
    let w : Cuttable 65504 65503 = record { some = omega arith; most = omega arith; size = omega arith; piece = omega arith } in
    record {
      counted = refl;
      cut = λ msg e sender hs. (
        cut_as msg 65504 65503 sender 65535 0 65503 e w hs (omega arith) (omega arith) refl,
        (cut_as msg 65504 65503 sender 65535 1 1 e w hs (omega arith) (omega arith) refl, tt),
      );
    }

infixr 5 ◌and◌
abbrev ◌and◌ : {A B : Type 0} → A → B → A × B
◌and◌ a b = (a, b)

pub starred : Starred
unfolding missed_of keeping noted_of begun_of followed_of placed_of stepped_of good_sizes good fresh_of setup_of sent_to heading_by judged_of
    taken_by taken_of put_by rooms_by rooms_after message_of all_below above section_at after ended after_values after_members after_types
    sections_of lies_in within type_at member_at value_at op_place base bytes_of in_signed finite is_value width allowed fields_ok
    member_ok members_ok pointed_ok type_ok operations_ok size_of sizes largest fits_in_size entries_ok sizes_ok judged judging checked truth
    extended word_of form word_at form_of choice by_kind look elements_of tree_of trees tree answer left next through item counted walk
    type_walk reader writer stopped_at went_to answered answered_type answered_in left_over_by left_over_in answered_if left_if
starred =
    refl
    and refl
    and refl
    and refl
    and refl
    and refl
    and refl
    and refl
    and refl
    and refl
    and refl
    and refl
    and refl
    and refl
    and refl
    and refl
    and refl
    and refl
    and refl
    and refl
    and one_piece
    and two_pieces
    and refl
    and refl
    and refl
    and tt

-- The text of a table, line by line and group by group.
use mathlib.Core.Path.{◌≡◌, refl, sym, ap, ◌∙◌}
use mathlib.Core.List.{List, [], ◌∷◌, ◌++◌, append_assoc, append-nil}
use Prim.Native.Nat.{ℕ, zero, suc, ◌+◌, ◌≤◌, ◌<◌}
use native.Mathlib.Numerals.{add-one}
use native.Mathlib.Omega.{arith}
use lib.IntN.{ℤ, pos}
use lib.ListN.{length, take, get_or, length-append}
use lib.Seq.{take_all}
use Rattle.records.specs.declared.legs.Leg.{Leg}
use Rattle.spreads.specs.Spreads.{group_of}
use Rattle.spreads.specs.Strikes.{strikes_of, nets_of}
use Rattle.spreads.specs.Boxes.{margin_of}
use Rattle.verdicts.specs.Printed.{decimal_of, amount_of, space, newline}
use Rattle.verdicts.specs.TableText.{Shown, shown_of, shown_in, group_word, group_line, strike_line, strike_lines, group_text, shown_text}

-- ---- the pieces of the two lines

pub group_pieces : (g margin : ℕ)
    → ((group_word ++ (space ∷ [])) ++ (decimal_of g ++ (space ∷ []))) ++ (decimal_of margin ++ (newline ∷ [])) ≡ group_line g margin
group_pieces g margin = simp append_assoc

pub strike_pieces : (strike : ℕ) (net : ℤ)
    → ((decimal_of strike ++ (space ∷ [])) ++ amount_of net) ++ (newline ∷ []) ≡ strike_line strike net
strike_pieces strike net = simp append_assoc

pub length_group_line : (g margin : ℕ) → length (group_line g margin) ≡ 8 + length (decimal_of g) + length (decimal_of margin)
length_group_line g margin = simp length-append (omega arith)

pub length_strike_line : (strike : ℕ) (net : ℤ) → length (strike_line strike net) ≡ 2 + length (decimal_of strike) + length (amount_of net)
length_strike_line strike net = simp length-append (omega arith)

-- ---- the lines of the first i strikes

pub lines_none : (strikes : List ℕ) (nets : List ℤ) → [] ≡ strike_lines (take 0 strikes) (take 0 nets)
unfolding strike_lines
lines_none strikes nets = refl

lines_suc : (strikes : List ℕ) (nets : List ℤ) (i : ℕ) → i < length strikes → i < length nets
    → strike_lines (take i strikes) (take i nets) ++ strike_line (get_or strikes i 0) (get_or nets i (pos 0))
    ≡ strike_lines (take (suc i) strikes) (take (suc i) nets)
unfolding strike_lines
lines_suc [] nets i h k = absurd (omega arith)
lines_suc (s ∷ ss) [] i h k = absurd (omega arith)
lines_suc (s ∷ ss) (n ∷ ns) zero h k = sym (append-nil (strike_line s n))
lines_suc (s ∷ ss) (n ∷ ns) (suc i) h k =
    append_assoc (strike_line s n) (strike_lines (take i ss) (take i ns)) (strike_line (get_or ss i 0) (get_or ns i (pos 0)))
    ∙ ap (λ (l : List ℕ). strike_line s n ++ l) (lines_suc ss ns i (omega arith) (omega arith))

pub lines_more : (strikes : List ℕ) (nets : List ℤ) (i : ℕ) → i < length strikes → i < length nets
    → strike_lines (take i strikes) (take i nets) ++ strike_line (get_or strikes i 0) (get_or nets i (pos 0))
    ≡ strike_lines (take (i + 1) strikes) (take (i + 1) nets)
lines_more strikes nets i h k = rw add-one (lines_suc strikes nets i h k)

pub lines_all : (strikes : List ℕ) (nets : List ℤ) (i : ℕ) → length strikes ≤ i → length nets ≤ i
    → strike_lines (take i strikes) (take i nets) ≡ strike_lines strikes nets
lines_all strikes nets i h k = rw (take_all i strikes h, take_all i nets k)

-- they are no longer than all lines
pub lines_front : (strikes : List ℕ) (nets : List ℤ) (i : ℕ) → length (strike_lines (take i strikes) (take i nets)) ≤ length (strike_lines strikes nets)
unfolding strike_lines
lines_front strikes nets zero = omega arith
lines_front [] nets (suc i) = omega arith
lines_front (s ∷ ss) [] (suc i) = omega arith
lines_front (s ∷ ss) (n ∷ ns) (suc i) =
    omega (
      arith,
      length-append (strike_line s n) (strike_lines (take i ss) (take i ns)),
      length-append (strike_line s n) (strike_lines ss ns),
      lines_front ss ns i,
    )

-- so there is room for the next line where there is room for all
pub lines_room : (strikes : List ℕ) (nets : List ℤ) (i : ℕ) → i < length strikes → i < length nets
    → length (strike_lines (take i strikes) (take i nets)) + length (strike_line (get_or strikes i 0) (get_or nets i (pos 0)))
    ≤ length (strike_lines strikes nets)
lines_room strikes nets i h k =
    omega (
      arith,
      lines_front strikes nets (i + 1),
      ap length (lines_more strikes nets i h k),
      length-append (strike_lines (take i strikes) (take i nets)) (strike_line (get_or strikes i 0) (get_or nets i (pos 0))),
    )

-- ---- the text of a group, and of groups 1 to n

-- where a number is its margin
pub group_text_lem : (g margin : ℕ) (legs : List Leg) → margin ≡ margin_of legs
    → group_line g margin ++ strike_lines (strikes_of legs) (nets_of legs) ≡ group_text (shown_of g legs)
unfolding group_text
group_text_lem g margin legs e = rw e

shown_append : (a b : List Shown) → shown_text (a ++ b) ≡ shown_text a ++ shown_text b
unfolding shown_text
shown_append [] b = refl
shown_append (s ∷ a) b = rw (shown_append a b) (sym (append_assoc (group_text s) (shown_text a) (shown_text b)))

module _ (placement : List Leg) where
  pub shown_none : [] ≡ shown_text (shown_in 0 placement)
  unfolding shown_in shown_text
  shown_none = refl

  pub shown_suc : (n : ℕ) → shown_text (shown_in n placement) ++ group_text (shown_of (suc n) (group_of (suc n) placement)) ≡ shown_text (shown_in (suc n) placement)
  unfolding shown_in shown_text
  shown_suc n =
      sym (shown_append (shown_in n placement) (shown_of (suc n) (group_of (suc n) placement) ∷ [])
      ∙ ap (λ (l : List ℕ). shown_text (shown_in n placement) ++ l) (append-nil (group_text (shown_of (suc n) (group_of (suc n) placement)))))

  pub shown_more : (k : ℕ) → shown_text (shown_in k placement) ++ group_text (shown_of (k + 1) (group_of (k + 1) placement)) ≡ shown_text (shown_in (k + 1) placement)
  shown_more k = rw add-one (shown_suc k)

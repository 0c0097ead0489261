-- Every table fits: 32 lines of groups of at most 29 bytes each, and 256 lines of strikes of at most 30, are 8,608 bytes.
use Rattle.std.specs.Prelude.{Ok}
use mathlib.Core.Path.{◌≡◌, ap}
use mathlib.Core.List.{List, [], ◌∷◌}
use Prim.Native.Nat.{ℕ, zero, suc, ◌+◌, ◌*◌, ◌≤◌, ◌<◌}
use native.Mathlib.Omega.{arith}
use lib.IntN.{ℤ, pos, negsuc, nat_abs}
use lib.ListN.{length, length-append}
use Rattle.records.specs.Claims.{most_mills}
use Rattle.records.specs.Lists.{All}
use Rattle.records.specs.Order.{first_of}
use Rattle.records.specs.Tables.{table_checks, legs_of}
use Rattle.records.specs.declared.tables.Kind.TheVariants.{Placement}
use Rattle.records.proofs.ListLaws.{map_all}
use Rattle.spreads.specs.Prices.{net}
use Rattle.spreads.specs.Spreads.{group_in}
use Rattle.spreads.specs.Strikes.{strikes_of, nets_of}
use Rattle.spreads.specs.Boxes.{margin_of}
use Rattle.spreads.specs.Work.{total}
use Rattle.spreads.proofs.Laws.{sides_small, table_few, group_ranges, group_few, margin_small, legs_in_groups, abs_minus, strikes_small, strikes_count}
use Rattle.verdicts.specs.Printed.{amount_of}
use Rattle.verdicts.specs.TableText.{shown_of, shown_in, group_line, strike_line, strike_lines, group_text, shown_text}
use Rattle.verdicts.proofs.DecimalLaws.{decimal_short}
use Rattle.verdicts.proofs.ShownLaws.{length_group_line, length_strike_line, shown_suc}

-- a strike has at most eight digits: it is below this
abbrev nine_digits : ℕ
nine_digits = 100000000

-- ---- one line

group_line_short : (g margin : ℕ) → g ≤ 32 → margin ≤ most_mills → length (group_line g margin) ≤ 29
group_line_short g margin h m =
    omega (arith, length_group_line g margin, decimal_short 1 g (omega arith), decimal_short 18 margin (omega arith))

amount_within : (net : ℤ) → nat_abs net ≤ most_mills → length (amount_of net) ≤ 20
amount_within (pos n) h = omega (arith, decimal_short 18 n (omega arith))
amount_within (negsuc n) h = omega (arith, decimal_short 18 (suc n) (omega arith))

strike_line_short : (strike : ℕ) (net : ℤ) → strike < nine_digits → nat_abs net ≤ most_mills → length (strike_line strike net) ≤ 30
strike_line_short strike net h m =
    omega (arith, length_strike_line strike net, decimal_short 7 strike (omega arith), amount_within net m)

-- ---- the lines of one group

strike_lines_short : (strikes : List ℕ) (nets : List ℤ) → All (λ k. k < nine_digits) strikes → All (λ z. nat_abs z ≤ most_mills) nets
    → length (strike_lines strikes nets) ≤ 30 * length strikes
unfolding strike_lines
strike_lines_short [] nets a b = omega arith
strike_lines_short (s ∷ ss) [] a b = omega arith
strike_lines_short (s ∷ ss) (n ∷ ns) a b =
    omega (
      arith,
      length-append (strike_line s n) (strike_lines ss ns),
      strike_line_short s n a.0 b.0,
      strike_lines_short ss ns a.1 b.1,
    )

-- ---- the groups of a placement

module _ (xs : List ℕ) (p : first_of (table_checks Placement xs) ≡ Ok tt) where
  net_within : (g k : ℕ) → k < nine_digits → nat_abs (net (group_in xs g) k) ≤ most_mills
  unfolding net
  net_within g k h =
      let parts = sides_small k (group_in xs g) (group_ranges xs p g) h (group_few xs p g) in
      abs_minus _ _ most_mills parts.0 parts.1

  group_short : (g : ℕ) → g ≤ 32 → length (group_text (shown_of g (group_in xs g))) ≤ 29 + 30 * length (group_in xs g)
  unfolding group_text nets_of
  group_short g h =
      let legs = group_in xs g in
      let small = strikes_small legs (group_ranges xs p g) in
      omega (
        arith,
        length-append (group_line g (margin_of legs)) (strike_lines (strikes_of legs) (nets_of legs)),
        group_line_short g (margin_of legs) h (margin_small xs p g),
        strike_lines_short (strikes_of legs) (nets_of legs) small
            (map_all (net legs) (λ z. nat_abs z ≤ most_mills) (λ k. k < nine_digits) (strikes_of legs) (net_within g) small),
        strikes_count legs,
      )

  groups_short : (n : ℕ) → n ≤ 32 → length (shown_text (shown_in n (legs_of xs))) ≤ 29 * n + 30 * total n (λ g. length (group_in xs g))
  unfolding shown_in shown_text total
  groups_short zero h = omega arith
  groups_short (suc n) h =
      omega (
        arith,
        ap length (shown_suc (legs_of xs) n),
        length-append (shown_text (shown_in n (legs_of xs))) (group_text (shown_of (suc n) (group_in xs (suc n)))),
        group_short (suc n) h,
        groups_short n (omega arith),
      )

  -- no text is longer
  pub shown_fits : (n : ℕ) → n ≤ 32 → length (shown_text (shown_in n (legs_of xs))) ≤ 8608
  shown_fits n h = omega (arith, groups_short n h, legs_in_groups (legs_of xs) n, table_few xs p)

-- Series and lines as values: lists of what they are made of. Legs are of one where the lists are the same.
use Rattle.std.specs.Prelude.{Bool, List, [], ◌∷◌, ℕ}
use Rattle.records.specs.Lists.{only, same, sum_of}
use Rattle.records.specs.declared.legs.Leg.{Leg}

-- 'A series is type, strike and expiry', and from request [3] on unit size too
abbrev pub series_of : Leg → List ℕ
series_of l = l.right ∷ l.strike ∷ l.expiry ∷ l.size ∷ []

-- 'A line is all of type, style, market, unit size, underlying, strike, expiry', and from request [7] on settlement
abbrev pub leg_line : Leg → List ℕ
leg_line l = l.right ∷ l.style ∷ l.market ∷ l.size ∷ l.underlying ∷ l.strike ∷ l.expiry ∷ l.settlement ∷ []

-- 'each line and side'
abbrev pub leg_line_side : Leg → List ℕ
leg_line_side l = l.side ∷ leg_line l

unfoldable pub same_line : Leg → Leg → Bool
same_line a b = same (leg_line a) (leg_line b)

unfoldable pub same_line_side : Leg → Leg → Bool
same_line_side a b = same (leg_line_side a) (leg_line_side b)

-- the contracts of x's line and side, summed over a table
unfoldable pub contracts_of : Leg → List Leg → ℕ
contracts_of x legs = sum_of (λ y. only (same_line_side x y) y.contracts.0) legs

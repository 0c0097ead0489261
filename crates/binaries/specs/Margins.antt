-- 'Margin per contract is a percentage of the 1,000 dollar settlement', in mills.
use Rattle.std.specs.Prelude.{ℕ, ◌+◌, ◌-◌, ◌*◌, ◌/◌}
use Rattle.binaries.specs.Percentages.{tenths_at, row_of}
use Rattle.binaries.specs.Times.{column_of}
use Rattle.binaries.specs.Positions.{matched_in}
use Rattle.binaries.specs.declared.percentages.Side.{Side}
use Rattle.binaries.specs.declared.percentages.Side.TheVariants.{Long, Short}
use Rattle.binaries.specs.declared.positions.Position.{Position}
use Rattle.binaries.specs.declared.positions.LongPosition.{LongPosition}

-- '$1,000 in cash'; 'A mill is 1/1000 dollar'
abbrev pub settlement : ℕ
settlement = 1000 * 1000

-- so many tenths of a percent of an amount
abbrev pub tenths_of_percent : ℕ → ℕ → ℕ
tenths_of_percent tenths amount = amount * tenths / 1000

unfoldable pub per_contract : Side → ℕ → ℕ → ℕ → ℕ
per_contract side spread valuation expiry = tenths_of_percent (tenths_at side (row_of spread) (column_of valuation expiry)) settlement

unfoldable pub binary_margin : Side → ℕ → ℕ → ℕ → ℕ → ℕ
binary_margin side spread valuation expiry contracts = contracts * per_contract side spread valuation expiry

-- of so many contracts of a position
abbrev pub margin_for : Side → ℕ → Position → ℕ → ℕ
margin_for side valuation p contracts = binary_margin side p.spread valuation p.expiry contracts

-- 'the smaller count is matched and needs no margin; the rest keeps its percentage. A pair answers the sum'
unfoldable pub pair_margin : ℕ → LongPosition → Position → ℕ
pair_margin valuation long short =
    margin_for Long valuation long.position (long.position.contracts - matched_in long short)
    + margin_for Short valuation short (short.contracts - matched_in long short)

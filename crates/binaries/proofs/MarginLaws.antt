-- Margins of positions and pairs.
use Prim.Native.Nat.{ℕ, ◌*◌, ◌≤◌, min}
use mathlib.Core.Path.{◌≡◌, refl, sym, ap}
use native.Mathlib.Omega.{arith}
use native.Mathlib.Nat.{mul-le-mul}
use Rattle.records.proofs.Measures.{only_le}
use Rattle.binaries.specs.Percentages.{cell_in, tenths_at, row_of}
use Rattle.binaries.specs.Times.{column_of}
use Rattle.binaries.specs.Positions.{offsets, matched_in}
use Rattle.binaries.specs.Margins.{per_contract, binary_margin}
use Rattle.binaries.specs.Demands.{ShortCostsTwice, MarginGrows, NothingRounded}
use Rattle.binaries.specs.declared.positions.Position.{Position}
use Rattle.binaries.specs.declared.positions.LongPosition.{LongPosition}
use Rattle.binaries.specs.declared.percentages.Side.{Side}
use Rattle.binaries.specs.declared.percentages.Side.TheVariants.{Long, Short}
use Rattle.binaries.proofs.PercentageLaws.{short_twice, tenths_grow, row_few, row_grows, most_tenths}
use Rattle.binaries.proofs.TimeLaws.{column_few, column_grows}

-- a tenth of a percent of the settlement is 1,000 mills, with nothing lost
pub per_contract_lem : (side : Side) (spread valuation expiry : ℕ)
    → per_contract side spread valuation expiry ≡ 1000 * tenths_at side (row_of spread) (column_of valuation expiry)
unfolding per_contract
per_contract_lem side spread valuation expiry = omega arith

tenths_most : (side : Side) (spread valuation expiry : ℕ) → tenths_at side (row_of spread) (column_of valuation expiry) ≤ most_tenths side
tenths_most side spread valuation expiry =
    tenths_grow side _ _ _ _ (row_few spread) (omega arith) (column_few valuation expiry) (omega arith)

pub nothing_rounded : NothingRounded
nothing_rounded side spread valuation expiry = omega (arith, per_contract_lem side spread valuation expiry)

-- ---- sides, and what makes a margin grow

pub short_costs_twice : ShortCostsTwice
unfolding binary_margin
short_costs_twice spread valuation expiry contracts =
    rw (per_contract_lem Short spread valuation expiry, per_contract_lem Long spread valuation expiry, short_twice (row_of spread) (column_of valuation expiry))
    (omega arith)

pub margin_grows : MarginGrows
unfolding binary_margin
margin_grows side valuation s t d e m n h i j =
    let r = row_few t in
    let c = column_few valuation e in
    let k = tenths_grow side _ _ _ _ (row_grows s t h) (omega arith) (column_grows valuation d e i) (omega arith) in
    rw (per_contract_lem side s valuation d, per_contract_lem side t valuation e) (mul-le-mul j (omega arith))

-- ---- limits

module _ (side : Side) (spread valuation expiry contracts : ℕ) where
  -- what the code computes
  pub mills_is : contracts * (1000 * tenths_at side (row_of spread) (column_of valuation expiry)) ≡ binary_margin side spread valuation expiry contracts
  unfolding binary_margin
  mills_is = ap (λ (n : ℕ). contracts * n) (sym (per_contract_lem side spread valuation expiry))

  pub margin_most : contracts ≤ 100000 → binary_margin side spread valuation expiry contracts ≤ 100000 * (1000 * most_tenths side)
  unfolding binary_margin
  margin_most h =
      let t = tenths_most side spread valuation expiry in
      rw (per_contract_lem side spread valuation expiry) (mul-le-mul h (omega arith))

pub long_most : 100000 * (1000 * most_tenths Long) ≡ 15000000000
unfolding cell_in
long_most = refl

pub short_most : 100000 * (1000 * most_tenths Short) ≡ 30000000000
unfolding cell_in
short_most = refl

pub side_most : (side : Side) → 100000 * (1000 * most_tenths side) ≤ 30000000000
side_most Long = omega (arith, long_most)
side_most Short = omega (arith, short_most)

-- ---- what is matched

pub matched_long : (long : LongPosition) (short : Position) → matched_in long short ≤ long.position.contracts
unfolding matched_in
matched_long long short = omega (arith, only_le (offsets long short) (min long.position.contracts short.contracts))

pub matched_short : (long : LongPosition) (short : Position) → matched_in long short ≤ short.contracts
unfolding matched_in
matched_short long short = omega (arith, only_le (offsets long short) (min long.position.contracts short.contracts))

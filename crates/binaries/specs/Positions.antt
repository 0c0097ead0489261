-- A position in one binary option, and when a long one stands against a short one.
use Rattle.std.specs.Prelude.{ℕ, min, Bool, ◌&&◌, eqb, leb}
use Rattle.records.specs.Dates.{real_date}
use Rattle.records.specs.Limits.{most_contracts}
use Rattle.records.specs.Lists.{only}
use Rattle.records.specs.Within.{within}
use Rattle.binaries.specs.declared.positions.Position.{Position}
use Rattle.binaries.specs.declared.positions.LongPosition.{LongPosition}

-- in basis points
abbrev pub most_spread : ℕ
most_spread = 100000

-- 'Spread is 0 to 100,000, contracts 1 to 100,000', and the expiry a real date
unfoldable pub good_fields : ℕ → ℕ → ℕ → Bool
good_fields spread expiry contracts = leb spread most_spread && real_date expiry && within 1 most_contracts contracts

abbrev pub good_position : Position → Bool
good_position p = good_fields p.spread p.expiry p.contracts

-- 'on the same reference obligation, the long paid in full and not expiring first'
unfoldable pub offsets : LongPosition → Position → Bool
offsets long short =
    eqb long.position.reference short.reference
    && long.paid
    && leb short.expiry long.position.expiry

-- 'the smaller count is matched'
unfoldable pub matched_in : LongPosition → Position → ℕ
matched_in long short = only (offsets long short) (min long.position.contracts short.contracts)

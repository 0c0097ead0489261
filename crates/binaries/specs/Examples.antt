-- Calls that show each edge, as one table.
use Rattle.std.specs.Prelude.{ℕ, ◌≡◌, Bool, true, false, List, [], ◌∷◌, pos, Result, Ok, Err, ℤ}
use Rattle.records.specs.Order.{refuse}
use Rattle.binaries.specs.Calls.{single_call, pair_call}
use Rattle.binaries.specs.declared.percentages.Side.TheVariants.{Long, Short}
use Rattle.binaries.specs.declared.positions.Position.{Position}
use Rattle.binaries.specs.declared.positions.LongPosition.{LongPosition}
use Rattle.records.specs.declared.refusals.Refusal.{Refusal}

-- reference obligation, spread, expiry, contracts
abbrev pub position : ℕ → ℕ → ℕ → ℕ → Position
position reference spread expiry contracts =
    record { reference = reference; spread = spread; expiry = expiry; contracts = contracts }

abbrev pub long_position : Bool → Position → LongPosition
long_position paid p = record { position = p; paid = paid }

abbrev pub mills : ℕ → Result ℤ Refusal
mills n = Ok (pos n)

abbrev pub refused : ℕ → ℕ → Result ℤ Refusal
refused number place = Err (refuse number 0 place)

-- an answer of a call, and what it should be
pub record Example : Type 0 where
  pub call : Result ℤ Refusal
  pub answer : Result ℤ Refusal

abbrev pub example : Result ℤ Refusal → Result ℤ Refusal → Example
example call answer = record { call = call; answer = answer }

abbrev pub Shows : Example → Type 0
Shows r = r.call ≡ r.answer

-- valued on 2 March 2011, the circular's date, unless said
abbrev pub day : ℕ
day = 20110302

-- of obligation 7, a spread of 250 and two years to live: 25 and 50 tenths
abbrev pub plain : ℕ → Position
plain contracts = position 7 250 20130302 contracts

unfoldable pub singles : List Example
singles =
    -- a year to the day, below the first edge: 0.5%
    example (single_call Long 99 day 20120302 1) (mills 5_000)
    -- a value on an edge takes the higher row
    ∷ example (single_call Long 100 day 20120302 1) (mills 10_000)
    -- a day more than a year
    ∷ example (single_call Long 99 day 20120303 1) (mills 10_000)
    -- the last cell of the short table, and the one before it in its row
    ∷ example (single_call Short 700 day 20180303 1) (mills 300_000)
    ∷ example (single_call Short 100_000 day 20180302 100_000) (mills 25_000_000_000)
    -- from 29 February: the year ends on the 28th
    ∷ example (single_call Long 0 20120229 20130228 1) (mills 5_000)
    ∷ example (single_call Long 0 20120229 20130301 1) (mills 10_000)
    -- from 28 February to the 29th of a leap year is more than a year
    ∷ example (single_call Long 0 20110228 20120229 1) (mills 10_000)
    -- an option that expires on the valuation date
    ∷ example (single_call Short 0 day day 1) (mills 10_000)
    ∷ example (single_call Short 0 day 20110301 1) (refused 25 0)
    -- a field before the expiry
    ∷ example (single_call Short 100_001 day 20110301 1) (refused 4 0)
    ∷ example (single_call Short 0 20110229 20110301 1) (refused 4 0)
    ∷ example (single_call Short 0 day 20120302 100_001) (refused 4 0)
    ∷ []

unfoldable pub pairs : List Example
pairs =
    -- as many long as short
    example (pair_call day (long_position true (plain 3)) (plain 3)) (mills 0)
    -- two of the long left, two of the short left
    ∷ example (pair_call day (long_position true (plain 5)) (plain 3)) (mills 50_000)
    ∷ example (pair_call day (long_position true (plain 3)) (plain 5)) (mills 100_000)
    -- not paid in full; another obligation; expiring first
    ∷ example (pair_call day (long_position false (plain 3)) (plain 3)) (mills 225_000)
    ∷ example (pair_call day (long_position true (position 8 250 20130302 3)) (plain 3)) (mills 225_000)
    ∷ example (pair_call day (long_position true (position 7 250 20130301 3)) (plain 3)) (mills 225_000)
    -- a field of the short before an expiry of the long
    ∷ example (pair_call day (long_position true (position 7 250 20110301 3)) (plain 0)) (refused 4 1)
    ∷ example (pair_call 20110229 (long_position true (plain 3)) (plain 0)) (refused 4 0)
    -- both expired, then only the short
    ∷ example (pair_call day (long_position true (position 7 250 20110301 3)) (position 7 250 20110301 3)) (refused 25 0)
    ∷ example (pair_call day (long_position true (plain 3)) (position 7 250 20110301 3)) (refused 25 1)
    ∷ []

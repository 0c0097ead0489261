-- What the two calls answer. 'Refusals, table 0, place 0, for the short of a pair 1: 4 for a field or date, long first; then so 25,
-- expiry before the valuation date.'
use Rattle.std.specs.Prelude.{ℕ, ◌&&◌, List, [], ◌∷◌, leb, pos, Result, Ok, Err, ℤ}
use Rattle.records.specs.Dates.{real_date}
use Rattle.records.specs.Order.{Check, ask, first_of}
use Rattle.binaries.specs.Positions.{good_fields, good_position}
use Rattle.binaries.specs.Margins.{binary_margin, pair_margin}
use Rattle.binaries.specs.declared.percentages.Side.{Side}
use Rattle.binaries.specs.declared.positions.Position.{Position}
use Rattle.binaries.specs.declared.positions.LongPosition.{LongPosition}
use Rattle.records.specs.declared.refusals.Refusal.{Refusal}

abbrev pub binary_answer : Result Unit Refusal → ℕ → Result ℤ Refusal
binary_answer (Ok _) mills = Ok (pos mills)
binary_answer (Err r) mills = Err r

-- ---- a position by itself

unfoldable pub single_checks : ℕ → ℕ → ℕ → ℕ → List Check
single_checks spread valuation expiry contracts =
    ask (real_date valuation && good_fields spread expiry contracts) 4 0 0 ∷ ask (leb valuation expiry) 25 0 0 ∷ []

unfoldable pub single_call : Side → ℕ → ℕ → ℕ → ℕ → Result ℤ Refusal
single_call side spread valuation expiry contracts =
    binary_answer (first_of (single_checks spread valuation expiry contracts)) (binary_margin side spread valuation expiry contracts)

-- ---- a pair

-- '25, expiry before the valuation date', long first
abbrev pub expiry_checks : ℕ → Position → Position → List Check
expiry_checks valuation long short = ask (leb valuation long.expiry) 25 0 0 ∷ ask (leb valuation short.expiry) 25 0 1 ∷ []

-- '4 for a field or date, long first': the valuation date goes with the long
unfoldable pub pair_checks : ℕ → Position → Position → List Check
pair_checks valuation long short =
    ask (real_date valuation && good_position long) 4 0 0 ∷ ask (good_position short) 4 0 1 ∷ expiry_checks valuation long short

unfoldable pub pair_call : ℕ → LongPosition → Position → Result ℤ Refusal
pair_call valuation long short =
    binary_answer (first_of (pair_checks valuation long.position short)) (pair_margin valuation long short)

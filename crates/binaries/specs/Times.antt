-- 'and by time (1 year or less, then to 3, to 7, beyond)'. 'Years end on the same month and day; a missing 29 February is the 28th.'
use Rattle.std.specs.Prelude.{ℕ, ◌+◌, ◌*◌, ◌/◌, ◌%◌, Bool, not, ◌&&◌, cond, eqb, leb}
use Rattle.records.specs.Dates.{leap_year}

-- of a date YYYYMMDD as a number
abbrev pub year_of : ℕ → ℕ
year_of date = date / 10000

-- MMDD
abbrev pub month_and_day : ℕ → ℕ
month_and_day date = date % 10000

-- the same month and day so many years on
abbrev pub same_day : ℕ → ℕ → ℕ
same_day years date = date + 10000 * years

-- a 29 February of a year that has none
abbrev pub is_missing : ℕ → Bool
is_missing date = eqb (month_and_day date) 229 && not (leap_year (year_of date))

-- the 28 February of a year
abbrev pub twenty_eighth : ℕ → ℕ
twenty_eighth year = 10000 * year + 228

-- the last day of so many years from the date on
unfoldable pub year_end : ℕ → ℕ → ℕ
year_end years date = cond (is_missing (same_day years date)) (twenty_eighth (year_of (same_day years date))) (same_day years date)

unfoldable pub column_of : ℕ → ℕ → ℕ
column_of valuation expiry =
    cond (leb expiry (year_end 1 valuation)) 0
    (cond (leb expiry (year_end 3 valuation)) 1
    (cond (leb expiry (year_end 7 valuation)) 2 3))

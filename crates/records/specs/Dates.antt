-- Dates: 'YYYYMMDD as a number, a real date, 20000101 to 20991231'.
use Rattle.std.specs.Prelude.{ℕ, ◌+◌, ◌/◌, ◌%◌, Bool, ◌&&◌, ◌||◌, not, cond, eqb}
use Rattle.records.specs.Within.{within}

abbrev pub leap_year : ℕ → Bool
leap_year year = eqb (year % 4) 0 && (not (eqb (year % 100) 0) || eqb (year % 400) 0)

-- 'February by leap year'
unfoldable pub february : ℕ → ℕ
february year = cond (leap_year year) 29 28

-- 'Except for February .. 30 plus the remainder by 2 of (month plus month divided by 8, whole part).' What is
-- not 1 to 12 has no days.
unfoldable pub days_in : ℕ → ℕ → ℕ
days_in year month = cond (within 1 12 month) (cond (eqb month 2) (february year) (30 + (month + month / 8) % 2)) 0

unfoldable pub real_date : ℕ → Bool
real_date n = within 20000101 20991231 n && within 1 (days_in (n / 10000) (n / 100 % 100)) (n % 100)

-- The lengths of the months: what they are, and that none has fewer than 28 days.
use Prim.Native.Nat.{ℕ, ◌+◌, ◌/◌, ◌%◌, ◌≤◌}
use mathlib.Core.Path.{◌≡◌, refl}
use mathlib.Core.Bool.{Bool, true, false, cond, ◌&&◌, and-true, and-false}
use mathlib.Core.List.{[], ◌∷◌, map}
use native.Mathlib.Omega.{arith}
use lib.Dec.{eqb, leb}
use borrow.Author.Tests.{le-leb, lt-leb, leb-true}
use Rattle.records.specs.Dates.{leap_year, february, days_in, real_date}
use Rattle.records.specs.Within.{within}

-- the lengths are those of the table of twelve that stood here before, February by leap year
pub twelve_lengths : (year : ℕ) → map (days_in year) (1 ∷ 2 ∷ 3 ∷ 4 ∷ 5 ∷ 6 ∷ 7 ∷ 8 ∷ 9 ∷ 10 ∷ 11 ∷ 12 ∷ [])
    ≡ 31 ∷ february year ∷ 31 ∷ 30 ∷ 31 ∷ 30 ∷ 31 ∷ 31 ∷ 30 ∷ 31 ∷ 30 ∷ 31 ∷ []
unfolding days_in
twelve_lengths year = refl

days_least : (year month : ℕ) → within 1 12 month ≡ true → 28 ≤ days_in year month
unfolding days_in february
days_least year month e = rw e (go (eqb month 2) (leap_year year))
  where
    go : (t l : Bool) → 28 ≤ cond t (cond l 29 28) (30 + (month + month / 8) % 2)
    go true true = omega arith
    go true false = omega arith
    go false l = omega arith

no_days : (year month : ℕ) → within 1 12 month ≡ false → days_in year month ≡ 0
unfolding days_in
no_days year month e = rw e

-- up to the 28th a day is in its month just where there is such a month
pub short_day : (year month day : ℕ) → day ≤ 28 → within 1 12 month && leb 1 day ≡ within 1 (days_in year month) day
short_day year month day h = go (within 1 12 month) refl
  where
    none : (b : Bool) → leb 1 day ≡ b → leb 1 day && leb day 0 ≡ false
    none true e = rw (lt-leb day 0 (leb-true 1 day e), and-false)
    none false e = rw e

    go : (t : Bool) → within 1 12 month ≡ t → t && leb 1 day ≡ leb 1 day && leb day (days_in year month)
    go true e =
        let d = days_least year month e in
        let f : day ≤ days_in year month = omega arith in
        rw (le-leb day (days_in year month) f, and-true)
    go false e = rw (no_days year month e, none (leb 1 day) refl)

-- the first date of all is one
pub first_real : real_date 20000101 ≡ true
unfolding real_date days_in
first_real = refl

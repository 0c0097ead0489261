-- The ends of years: when a day is missing, and that a later expiry stands in no earlier column.
use Prim.Native.Nat.{ℕ, ◌+◌, ◌/◌, ◌%◌, ◌≤◌, ◌<◌}
use mathlib.Core.Path.{◌≡◌, refl}
use mathlib.Core.Bool.{Bool, true, false, not, cond, ◌||◌, and-false, and-eq-true_iff}
use native.Mathlib.Decide.{ℕ_discrete}
use native.Mathlib.Omega.{arith}
use lib.Dec.{eqb, leb}
use borrow.Author.Tests.{eqb-true, eq-eqb, ne_eqb, le-leb, lt-leb, leb-true, not-true}
use Rattle.records.specs.Dates.{leap_year, february, days_in, real_date}
use Rattle.records.specs.Within.{within}
use Rattle.records.proofs.SameLaws.{bool_eq}
use Rattle.records.proofs.TableLaws.{within_true}
use Rattle.binaries.specs.Times.{year_of, same_day, is_missing, twenty_eighth, year_end, column_of}
use Rattle.binaries.specs.Demands.{SameMonthAndDay, LeapDayEnds, MissingDayUnseen}
use Rattle.binaries.proofs.CondLaws.{cond_most, cond_least, step_grows}

-- no date after the last is real
pub late_date : (date : ℕ) → 20991231 < date → real_date date ≡ false
unfolding real_date
late_date date h = rw (lt-leb date 20991231 h, and-false)

missing_is : (date : ℕ) → is_missing date ≡ true → (date % 10000 ≡ 229) × (leap_year (date / 10000) ≡ false)
missing_is date e =
    let p = (and-eq-true_iff (eqb (date % 10000) 229) (not (leap_year (date / 10000)))).0 e in
    (eqb-true (date % 10000) 229 p.0, not-true _ p.1)

-- ---- the ends of years

pub same_month_and_day : SameMonthAndDay
unfolding year_end
same_month_and_day years date h =
    let q : same_day years date % 10000 ≡ date % 10000 = omega arith in
    let n = ne_eqb (same_day years date % 10000) 229 (λ e. h (omega arith)) in
    rw n

real_day : (date : ℕ) → real_date date ≡ true → date % 100 ≤ days_in (date / 10000) (date / 100 % 100)
unfolding real_date
real_day date e =
    let days = days_in (date / 10000) (date / 100 % 100) in
    (within_true 1 days (date % 100) ((and-eq-true_iff (within 20000101 20991231 date) (within 1 days (date % 100))).0 e).1).1

short_february : (year : ℕ) → leap_year year ≡ false → days_in year 2 ≡ 28
unfolding days_in february
short_february year e = rw e

-- no real date is a missing day
real_stands : (date : ℕ) → real_date date ≡ true → is_missing date ≡ true → ⊥
real_stands date r e =
    let m = missing_is date e in
    let month : date / 100 % 100 ≡ 2 = omega (arith, m.0) in
    let d : date % 100 ≤ days_in (date / 10000) 2 = rw month at (real_day date r) in
    omega (arith, m.0, short_february (date / 10000) m.1, d)

-- a real 29 February is one of a leap year
leap_day : (date : ℕ) → real_date date ≡ true → date % 10000 ≡ 229 → leap_year (date / 10000) ≡ true
leap_day date r h = go (leap_year (date / 10000)) refl
  where
    go : (b : Bool) → leap_year (date / 10000) ≡ b → b ≡ true
    go true e = refl
    go false e = absurd (real_stands date r (rw (eq-eqb (date % 10000) 229 h, e)))

leap_fourth : (year : ℕ) → leap_year year ≡ true → year % 4 ≡ 0
leap_fourth year e = eqb-true (year % 4) 0 ((and-eq-true_iff (eqb (year % 4) 0) (not (eqb (year % 100) 0) || eqb (year % 400) 0)).0 e).0

not_leap : (year : ℕ) → (year % 4 ≡ 0 → ⊥) → leap_year year ≡ false
not_leap year h = rw (ne_eqb (year % 4) 0 h)

fourths : (a b : ℕ) → a % 4 ≡ 0 → (a + b) % 4 ≡ 0 → b % 4 ≡ 0
fourths a b h k = omega arith

leap_day_end : (years date : ℕ) → (years % 4 ≡ 0 → ⊥) → real_date date ≡ true → date % 10000 ≡ 229 → year_end years date ≡ twenty_eighth (year_of date + years)
unfolding year_end
leap_day_end years date n r h =
    let f = leap_fourth (date / 10000) (leap_day date r h) in
    let day : same_day years date % 10000 ≡ 229 = omega arith in
    let year : same_day years date / 10000 ≡ date / 10000 + years = omega arith in
    rw (day, year, not_leap (date / 10000 + years) (λ q. n (fourths (date / 10000) years f q)))

pub leap_day_ends : LeapDayEnds
leap_day_ends date r h = (
  leap_day_end 1 date (λ q. omega arith) r h,
  leap_day_end 3 date (λ q. omega arith) r h,
  leap_day_end 7 date (λ q. omega arith) r h,
)

pub missing_day_unseen : MissingDayUnseen
unfolding year_end
missing_day_unseen years date expiry r = go (is_missing (same_day years date)) refl
  where
    end : ℕ
    end = same_day years date

    before : is_missing end ≡ true → expiry ≤ end → expiry ≤ twenty_eighth (year_of end)
    before e h = let m = missing_is end e in elim (ℕ_discrete expiry end) [ yes q ↦ absurd (real_stands expiry r (rw q e)) | no q ↦ omega arith ]

    go : (b : Bool) → is_missing end ≡ b → leb expiry (cond b (twenty_eighth (year_of end)) end) ≡ leb expiry end
    go false e = refl
    go true e =
        bool_eq (leb expiry (twenty_eighth (year_of end))) (leb expiry end)
        (λ q. let m = missing_is end e in let k = leb-true expiry (twenty_eighth (year_of end)) q in le-leb expiry end (omega arith))
        (λ q. le-leb expiry (twenty_eighth (year_of end)) (before e (leb-true expiry end q)))

-- ---- columns

-- for a real expiry years may be counted to the same month and day
pub column_plain : (valuation expiry : ℕ) → real_date expiry ≡ true → column_of valuation expiry ≡
    cond (leb expiry (same_day 1 valuation)) 0
    (cond (leb expiry (same_day 3 valuation)) 1
    (cond (leb expiry (same_day 7 valuation)) 2 3))
unfolding column_of
column_plain valuation expiry r =
    rw (missing_day_unseen 1 valuation expiry r, missing_day_unseen 3 valuation expiry r, missing_day_unseen 7 valuation expiry r)

pub column_few : (valuation expiry : ℕ) → column_of valuation expiry ≤ 3
unfolding column_of
column_few valuation expiry =
    let more = cond_most (leb expiry (year_end 7 valuation)) 3 2 3 (omega arith) (omega arith) in
    cond_most (leb expiry (year_end 1 valuation)) 3 0 _ (omega arith) (cond_most (leb expiry (year_end 3 valuation)) 3 1 _ (omega arith) more)

sooner : (a b end : ℕ) → a ≤ b → leb b end ≡ true → leb a end ≡ true
sooner a b end h e = let k = leb-true b end e in le-leb a end (omega arith)

pub column_grows : (valuation a b : ℕ) → a ≤ b → column_of valuation a ≤ column_of valuation b
unfolding column_of
column_grows valuation a b h =
    let one = year_end 1 valuation in
    let three = year_end 3 valuation in
    let seven = year_end 7 valuation in
    let third = step_grows (leb a seven) (leb b seven) 2 3 3 (sooner a b seven h) (omega arith) (omega arith) in
    let later = cond_least (leb b seven) 1 2 3 (omega arith) (omega arith) in
    let second = step_grows (leb a three) (leb b three) 1 _ _ (sooner a b three h) later third in
    step_grows (leb a one) (leb b one) 0 _ _ (sooner a b one h) (omega arith) second

-- Document 02, request 14, as the code goes about it: first the number of a group's refusal, then the leg that it points at.
use Rattle.std.specs.Prelude.{ℕ, ◌+◌, ◌≡◌, Bool, true, false, not, ◌||◌, cond, List, leb, ltb, eqb, length, take, Option, Some, None}
use Rattle.records.specs.Within.{within}
use Rattle.records.specs.declared.legs.Leg.{Leg}
use Rattle.spreads.specs.Spreads.{one_of, none_doubled, none_outlives, first_broken}
use Rattle.records.specs.Search.{lowest_from}
use Rattle.spreads.specs.Steps.Gathered.{gathered}
use Rattle.spreads.specs.declared.facts.Facts.{Facts}

-- ---- by a refusal's number

abbrev pub points_at_leg : ℕ → Bool
points_at_leg number = within 7 10 number || eqb number 13

-- what a refusal that points at a leg asks of the legs
unfoldable pub condition_of : ℕ → List Leg → Bool
condition_of number =
    cond (eqb number 7) (one_of (λ l. l.underlying))
    (cond (eqb number 8) (one_of (λ l. l.style)) (cond (eqb number 9) (one_of (λ l. l.market)) (cond (eqb number 10) none_doubled none_outlives)))

unfoldable pub place_of : ℕ → ℕ → List Leg → ℕ
place_of number g placement = cond (points_at_leg number) (first_broken (condition_of number) g placement) g

-- where it points at a leg, the legs break what it asks
abbrev pub Breaks : ℕ → List Leg → Type 0
Breaks number legs = points_at_leg number ≡ true → condition_of number legs ≡ false

-- ---- by a leg's index in its group

-- the first leg with which the legs break a condition; how many they are where none does
unfoldable pub broken_at : (List Leg → Bool) → List Leg → ℕ
broken_at kept legs = lowest_from (λ k. not (kept (take (k + 1) legs))) 0 (length legs)

-- an index below n, where there is one
abbrev pub index_in : ℕ → ℕ → Option ℕ
index_in n k = cond (ltb k n) (Some k) None

-- ---- by the facts so far

-- whether they break what 7, 8, 9 or 13 asks
unfoldable pub broken_by : ℕ → Facts → Bool
broken_by number f =
    cond (eqb number 7) f.firsts.underlyings_differ
    (cond (eqb number 8) f.firsts.styles_differ
    (cond (eqb number 9) f.firsts.markets_differ (not (leb f.lives.latest_short f.lives.earliest_long))))

unfoldable pub facts_broken : ℕ → List Leg → ℕ
facts_broken number legs = lowest_from (λ k. broken_by number (gathered (take (k + 1) legs))) 0 (length legs)

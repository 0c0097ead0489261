-- The contracts that accepted fills open and close in a line and side.
use Rattle.std.specs.Prelude.{ℕ, cond, ◌&&◌, List, [], ◌∷◌, ◌++◌, eqb}
use Rattle.records.specs.Lines.{same_line_side}
use Rattle.records.specs.Lists.{only, sum_of}
use Rattle.records.specs.declared.legs.Leg.{Leg}
use Rattle.fills.specs.Fills.{is_open, is_close, fill_leg}
use Rattle.fills.specs.Played.{number_over, rows_after}

-- the fills that are not refused, in their order
unfoldable pub accepted_over : List Leg → List (List ℕ) → List (List ℕ)
accepted_over rows [] = []
accepted_over rows (f ∷ fs) = cond (eqb (number_over rows f) 0) (f ∷ []) [] ++ accepted_over (rows_after rows f) fs

unfoldable pub opened_in : Leg → List (List ℕ) → ℕ
opened_in x fills = sum_of (λ f. only (is_open f && same_line_side x (fill_leg f)) (fill_leg f).contracts.0) fills

unfoldable pub closed_in : Leg → List (List ℕ) → ℕ
closed_in x fills = sum_of (λ f. only (is_close f && same_line_side x (fill_leg f)) (fill_leg f).contracts.0) fills

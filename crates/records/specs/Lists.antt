-- Sums, greatest and least values and choices over a list, and what holds of every element.
use Rattle.std.specs.Prelude.{Bool, true, false, cond, ◌&&◌, List, [], ◌∷◌, ℕ, ◌+◌, ◌<◌, min, max, eqb}

-- whether two lists are one
unfoldable pub same : List ℕ → List ℕ → Bool
same [] [] = true
same [] (y ∷ ys) = false
same (x ∷ xs) [] = false
same (x ∷ xs) (y ∷ ys) = eqb x y && same xs ys

-- x where the test passes, and otherwise nothing
abbrev pub only : Bool → ℕ → ℕ
only true x = x
only false x = 0

module _ {A : Type 0} where
  -- f added up over the list
  unfoldable pub sum_of : (A → ℕ) → List A → ℕ
  sum_of f [] = 0
  sum_of f (x ∷ xs) = f x + sum_of f xs

  -- the greatest of 0 and f at each element
  unfoldable pub most : (A → ℕ) → List A → ℕ
  most f [] = 0
  most f (x ∷ xs) = max (f x) (most f xs)

  -- the least of `top` and f at each element
  unfoldable pub least : ℕ → (A → ℕ) → List A → ℕ
  least top f [] = top
  least top f (x ∷ xs) = min (f x) (least top f xs)

  -- the elements that pass the test, in order
  unfoldable pub keep : (A → Bool) → List A → List A
  keep t [] = []
  keep t (x ∷ xs) = cond (t x) (x ∷ keep t xs) (keep t xs)

  -- each element passes the test
  unfoldable pub all_of : (A → Bool) → List A → Bool
  all_of t [] = true
  all_of t (x ∷ xs) = t x && all_of t xs

  -- P holds of each element
  abbrev pub All : (A → Type 0) → List A → Type 0
  All P [] = Unit {0}
  All P (x ∷ xs) = P x × All P xs

-- each number is below those after it
abbrev pub Ascending : List ℕ → Type 0
Ascending [] = Unit {0}
Ascending (x ∷ xs) = All (λ y. x < y) xs × Ascending xs

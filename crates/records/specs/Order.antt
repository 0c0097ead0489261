-- 'Refusals in their order': an order of refusals is a list of checks, and the answer is the first that fails.
use Rattle.std.specs.Prelude.{Bool, cond, List, [], ◌∷◌, ◌++◌, ℕ, zero, suc, ◌+◌, Result, Ok, Err}
use Rattle.records.specs.declared.refusals.Refusal.{Refusal}

-- what is asked, and the refusal where it does not hold
pub record Check : Type 0 where
  pub holds : Bool
  pub refusal : Refusal

-- number, table, place
abbrev pub refuse : ℕ → ℕ → ℕ → Refusal
refuse number table place = record { number = number; table = table; place = place }

abbrev pub ask : Bool → ℕ → ℕ → ℕ → Check
ask holds number table place = record { holds = holds; refusal = refuse number table place }

-- the refusal of the first check that does not hold
unfoldable pub first_of : List Check → Result Unit Refusal
first_of [] = Ok tt
first_of (c ∷ cs) = cond c.holds (first_of cs) (Err c.refusal)

-- one check of each element, whose place is its index, counted from i
module _ {A : Type 0} where
  unfoldable pub ask_each : (A → Bool) → ℕ → ℕ → ℕ → List A → List Check
  ask_each good number table i [] = []
  ask_each good number table i (x ∷ xs) = ask (good x) number table i ∷ ask_each good number table (i + 1) xs

-- the checks of groups 1 to n, ascending
unfoldable pub groups : ℕ → (ℕ → List Check) → List Check
groups zero F = []
groups (suc n) F = groups n F ++ F (suc n)

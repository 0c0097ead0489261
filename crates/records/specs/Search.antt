-- The lowest number that passes a test.
use Rattle.std.specs.Prelude.{ℕ, zero, suc, ◌+◌, Bool, cond}

-- of n numbers from i on the lowest that passes the test; the one past them where none does
unfoldable pub lowest_from : (ℕ → Bool) → ℕ → ℕ → ℕ
lowest_from test i zero = i
lowest_from test i (suc n) = cond (test i) i (lowest_from test (i + 1) n)

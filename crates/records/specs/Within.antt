-- A number in its range.
use Rattle.std.specs.Prelude.{ℕ, Bool, ◌&&◌, leb}

-- low to high, both included
abbrev pub within : ℕ → ℕ → ℕ → Bool
within low high x = leb low x && leb x high

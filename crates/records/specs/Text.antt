-- Characters as bytes: digits, and the lines that newlines end.
use Rattle.std.specs.Prelude.{ℕ, ◌+◌, ◌-◌, ◌*◌, List, [], ◌∷◌}

abbrev pub newline : ℕ
newline = 10

-- the character of a digit 0 to 9
abbrev pub digit : ℕ → ℕ
digit d = 48 + d

-- digits read from the left, after digits that said `before`
unfoldable pub value_from : ℕ → List ℕ → ℕ
value_from before [] = before
value_from before (d ∷ ds) = value_from (10 * before + (d - 48)) ds

-- the number that digits say
abbrev pub value_of : List ℕ → ℕ
value_of ds = value_from 0 ds

-- a byte put before the first of some runs of bytes; where there is none, it is a run of its own
abbrev pub onto : ℕ → List (List ℕ) → List (List ℕ)
onto c [] = (c ∷ []) ∷ []
onto c (run ∷ runs) = (c ∷ run) ∷ runs

-- The circular's two percentage tables: 'The percentage scales up as the credit default swap spread for the underlying Reference
-- Entity and/or the time until expiration increase.'
use Rattle.std.specs.Prelude.{ℕ, cond, List, [], ◌∷◌, ltb, get_or}
use Rattle.binaries.specs.declared.percentages.Side.{Side}
use Rattle.binaries.specs.declared.percentages.Side.TheVariants.{Long, Short}

-- four percentages, in tenths: '1 year or less, then to 3, to 7, beyond'
abbrev pub cells : ℕ → ℕ → ℕ → ℕ → List ℕ
cells a b c d = a ∷ b ∷ c ∷ d ∷ []

-- 'Long, in tenths of a percent, row by row'
abbrev pub long_tenths : List (List ℕ)
long_tenths =
    cells 5 10 20 35
    ∷ cells 10 25 35 50
    ∷ cells 25 50 75 100
    ∷ cells 50 75 100 125
    ∷ cells 75 100 125 150
    ∷ []

-- the circular's table of short positions
abbrev pub short_tenths : List (List ℕ)
short_tenths =
    cells 10 20 40 70
    ∷ cells 20 50 70 100
    ∷ cells 50 100 150 200
    ∷ cells 100 150 200 250
    ∷ cells 150 200 250 300
    ∷ []

abbrev pub tenths_of : Side → List (List ℕ)
tenths_of Long = long_tenths
tenths_of Short = short_tenths

unfoldable pub cell_in : List (List ℕ) → ℕ → ℕ → ℕ
cell_in table row column = get_or (get_or table row []) column 0

abbrev pub tenths_at : Side → ℕ → ℕ → ℕ
tenths_at side row column = cell_in (tenths_of side) row column

-- 'by swap spread in basis points (0-100, 100-300, 300-500, 500-700, 700 up; a value on an edge takes the higher row)'
unfoldable pub row_of : ℕ → ℕ
row_of spread = cond (ltb spread 100) 0 (cond (ltb spread 300) 1 (cond (ltb spread 500) 2 (cond (ltb spread 700) 3 4)))

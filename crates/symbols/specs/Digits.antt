-- Characters of a list, and decimal digits: said once for dates, strikes and contracts.
use Rattle.std.specs.Prelude.{ℕ, zero, suc, ◌/◌, ◌%◌, Bool, cond, List, [], ◌∷◌, ◌++◌, eqb, ltb}
use Rattle.records.specs.Text.{digit}
use Rattle.records.specs.Within.{within}

abbrev pub blank : ℕ
blank = 32

abbrev pub is_blank : ℕ → Bool
is_blank c = eqb c blank

-- 'A-Z'
abbrev pub is_letter : ℕ → Bool
is_letter c = within 65 90 c

-- '0-9'
abbrev pub is_digit : ℕ → Bool
is_digit c = within 48 57 c

-- the last `width` decimal digits of n, most significant first
unfoldable pub last_digits : ℕ → ℕ → List ℕ
last_digits zero n = []
last_digits (suc width) n = last_digits width (n / 10) ++ digit (n % 10) ∷ []

-- in how few digits a number of at most six is written, 'the first not 0'
unfoldable pub places_of : ℕ → ℕ
places_of n =
    cond (ltb n 10) 1 (cond (ltb n 100) 2 (cond (ltb n 1000) 3 (cond (ltb n 10000) 4 (cond (ltb n 100000) 5 6))))

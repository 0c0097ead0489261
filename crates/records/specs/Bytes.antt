-- Bytes of a record or a block: the numbers they say, 'little-endian', and the places that are zero.
use Rattle.std.specs.Prelude.{ℕ, zero, suc, ◌+◌, ◌-◌, ◌*◌, ◌/◌, ◌%◌, ◌<◌, Bool, List, [], ◌∷◌, eqb, get_or, take, drop}
use Rattle.records.specs.Lists.{All, all_of}

-- the number whose bytes, lowest first, are the `width` entries of xs from `at` on; past the end of xs they are zero
unfoldable pub le_at : List ℕ → ℕ → ℕ → ℕ
le_at xs at zero = 0
le_at xs at (suc width) = get_or xs at 0 + 256 * le_at xs (at + 1) width

-- a number as `width` bytes, lowest first; the highest takes what is left
unfoldable pub le_bytes : ℕ → ℕ → List ℕ
le_bytes n zero = []
le_bytes n (suc zero) = n ∷ []
le_bytes n (suc (suc width)) = n % 256 ∷ le_bytes (n / 256) (suc width)

-- each entry is a byte, as in every slice of bytes
abbrev pub AllBytes : List ℕ → Type 0
AllBytes xs = All (λ x. x < 256) xs

abbrev pub is_zero : ℕ → Bool
is_zero x = eqb x 0

-- the bytes `first` to `last` are zero
unfoldable pub zero_in : List ℕ → ℕ → ℕ → Bool
zero_in xs first last = all_of is_zero (take (last + 1 - first) (drop first xs))

-- A list of bytes as parts of one size, one after the other.
use Rattle.std.specs.Prelude.{ℕ, zero, suc, ◌*◌, ◌/◌, List, [], ◌∷◌, length, take, drop}
use Rattle.records.specs.Limits.{record_bytes}

-- the first n parts of xs
unfoldable pub chunks : ℕ → ℕ → List ℕ → List (List ℕ)
chunks size zero xs = []
chunks size (suc n) xs = take size xs ∷ chunks size n (drop size xs)

-- the part with index i, counted from 0
abbrev pub chunk_at : ℕ → List ℕ → ℕ → List ℕ
chunk_at size xs i = take size (drop (size * i) xs)

-- 'Each record is looked at where it stands in the table, as a 32-byte part': the records of a table
abbrev pub records_of : List ℕ → List (List ℕ)
records_of xs = chunks record_bytes (length xs / record_bytes) xs

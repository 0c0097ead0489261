-- What a loop over the parts of a list has not come to yet.
use Rattle.std.specs.Prelude.{ℕ, ◌-◌, ◌*◌, List, drop}
use Rattle.records.specs.Chunks.{chunks}

-- of n parts those from i on
unfoldable pub chunks_from : ℕ → ℕ → ℕ → List ℕ → List (List ℕ)
chunks_from size n i xs = chunks size (n - i) (drop (size * i) xs)

use Rattle.std.proofs.Common.{◌≡◌, ℕ, zero, suc, List, ◌∷◌, refl, ap, take, drop, ◌/◌, length, ◌∙◌}
use Rattle.std.specs.Simd.{first_chunks}
use Rattle.records.specs.Chunks.{chunks}
use Rattle.blocks.proofs.shape.blocks_of.Goals as goal

chunks_are : (n k : ℕ) (xs : List ℕ) → first_chunks n k xs ≡ chunks n k xs
unfolding chunks
chunks_are n zero xs = refl
chunks_are n (suc k) xs = ap (λ (l : List (List ℕ)). take n xs ∷ l) (chunks_are n k (drop n xs))

pub returns-clause-value : goal.returns-clause-value
returns-clause-value c = c.as_chunks.ensures.front ∙ chunks_are 512 (length c.args.file.now / 512) c.args.file.now

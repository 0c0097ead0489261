-- What the sorting of pieces asks of each, and what it leaves.
use Rattle.std.specs.Prelude.{◌≡◌, List, ℕ, cond, Option, Some, None}
use Rattle.records.specs.Lists.{All}
use Rattle.blocks.specs.declared.forms.Origin.{Origin}
use Rattle.salvage.specs.Kept.{drop_number, is_kept}

-- blocks that are all kept
abbrev pub AllKept : Origin → List (List ℕ) → Type 0
AllKept lead bs = All (λ b. drop_number lead b ≡ 0) bs

-- the number that a block is dropped with, if it is
unfoldable pub dropped_with : Origin → List ℕ → Option ℕ
dropped_with lead b = cond (is_kept lead b) None (Some (drop_number lead b))

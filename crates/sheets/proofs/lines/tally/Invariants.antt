use Rattle.std.proofs.Common.{ℕ, ◌*◌, ◌≤◌}
use Rattle.sheets.specs.Steps.Pooled.{sum_at}
use Rattle.sheets.proofs.ContractLaws.{TalliedFrom}
use Rattle.sheets.proofs.lines.tally.Given as goal

-- the sums are those of the records before i, and too small to overflow
abbrev pub invariant-loop-i : goal.invariant-loop-i
invariant-loop-i l = ((d : ℕ) → sum_at l.sums d ≤ 4294967295 * l.i) × TalliedFrom l.numbers l.first l.table l.i l.sums

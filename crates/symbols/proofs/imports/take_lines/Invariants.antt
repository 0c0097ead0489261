use Rattle.symbols.proofs.ImportLaws.{TakingLines}
use Rattle.symbols.proofs.imports.take_lines.Given as goal

-- the first n lines are good, and the records of the first 256 stand in the rows
abbrev pub invariant-loop-line : goal.invariant-loop-line
invariant-loop-line l = TakingLines l.roots l.list l.fn.rows l.rows l.line-iterator.rest.now l.n

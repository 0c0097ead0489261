use Rattle.spreads.specs.Steps.Group.{legs_in}
use Rattle.spreads.specs.Steps.Search.{marks_at}
use Rattle.spreads.proofs.Written.{WrittenSoFar}
use Rattle.spreads.proofs.pairs.copy_marks.Given as goal

-- the marks of the first i legs stand in the list
abbrev pub invariant-loop-i : goal.invariant-loop-i
invariant-loop-i l = WrittenSoFar (marks_at (legs_in l.group)) l.fn.marks l.i l.marks

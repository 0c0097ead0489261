use Rattle.sheets.proofs.MarkLaws.{Marking}
use Rattle.sheets.proofs.marks.mark_records.Given as goal

-- the records before i have passed, the rest is as it was, and the marks set and to be set are all of them
abbrev pub invariant-loop-i : goal.invariant-loop-i
invariant-loop-i l = Marking l.fn.placement l.placement l.marks l.i

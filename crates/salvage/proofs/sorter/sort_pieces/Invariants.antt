use Rattle.salvage.proofs.SortLaws.{Sorting}
use Rattle.salvage.proofs.sorter.sort_pieces.Given as goal

-- of the pieces before piece i the kept ones stand one after the other, and the dropped ones are listed
abbrev pub invariant-loop-i : goal.invariant-loop-i
invariant-loop-i l = Sorting l.pieces.bytes.now l.lead l.fn.kept l.fn.indices l.fn.numbers l.kept l.indices l.numbers l.held l.listed l.i

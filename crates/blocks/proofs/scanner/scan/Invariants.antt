use Rattle.blocks.proofs.ScanLaws.{Scanned}
use Rattle.blocks.proofs.scanner.scan.Given as goal

-- the blocks before block i have no fault, and what is kept of them is what they have
abbrev pub invariant-loop-i : goal.invariant-loop-i
invariant-loop-i l = Scanned l.file l.i l.seen

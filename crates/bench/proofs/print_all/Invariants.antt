use Rattle.std.proofs.Common.{length}
use Rattle.bench.proofs.print_all.Given as goal

-- less is left
abbrev pub decreases-loop-rest : goal.decreases-loop-rest
decreases-loop-rest l = length l.rest

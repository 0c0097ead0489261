use Rattle.std.proofs.Common.{arith}
use Rattle.spreads.proofs.SearchLaws.{unfound_more}
use Rattle.spreads.proofs.pairs.has_mark.Goals as goal

pub loop-mark-preserved : goal.loop-mark-preserved
loop-mark-preserved c = unfound_more c.args.marks.now _ _ _ c.loop-mark.invariant

pub returns : goal.returns
returns c = λ e p h. c.loop-mark.invariant e p (omega arith)

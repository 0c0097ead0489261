use Rattle.std.proofs.Common.{arith}
use Rattle.spreads.specs.Steps.Gathered.{gathered}
use Rattle.spreads.proofs.Folds.{fold_none, fold_more, fold_done}
use Rattle.spreads.proofs.facts.gather.Goals as goal

pub loop-i-init : goal.loop-i-init
loop-i-init c = fold_none c.none-facts.ensures

pub loop-i-preserved : goal.loop-i-preserved
loop-i-preserved c = fold_more c.loop-i.invariant (omega arith) c.leg.ensures c.with_leg-facts.ensures

pub returns : goal.returns
unfolding gathered
returns c = fold_done c.loop-i.invariant (omega arith)

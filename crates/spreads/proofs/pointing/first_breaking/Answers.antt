use Rattle.std.proofs.Common.{sym, ◌∙◌, arith}
use Rattle.spreads.proofs.Breaking.{break_none, break_more, break_here, break_done}
use Rattle.spreads.proofs.pointing.first_breaking.Goals as goal

pub loop-i-init : goal.loop-i-init
loop-i-init c = break_none c.none-facts.ensures

pub returns-then-is_broken : goal.returns-then-is_broken
returns-then-is_broken c =
    break_here c.loop-i.invariant (omega arith) c.leg.ensures c.with_leg-facts.ensures (sym c.is_broken.ensures ∙ c.if-is_broken.true)

pub loop-i-preserved : goal.loop-i-preserved
loop-i-preserved c =
    break_more c.loop-i.invariant (omega arith) c.leg.ensures c.with_leg-facts.ensures (sym c.is_broken.ensures ∙ c.if-is_broken.false)

pub returns : goal.returns
returns c = break_done c.loop-i.invariant (omega arith)

use Rattle.spreads.specs.Steps.Gathered.{no_facts, with_leg}
use Rattle.spreads.proofs.Folds.{Folding}
use Rattle.spreads.proofs.facts.gather.Given as goal

-- the facts of all legs are those so far, with the legs that are left
abbrev pub invariant-loop-i : goal.invariant-loop-i
invariant-loop-i l = Folding with_leg no_facts l.group.placement.now l.group.members.now l.i l.facts

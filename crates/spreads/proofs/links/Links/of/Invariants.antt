use Rattle.spreads.specs.Steps.Links.{Linked}
use Rattle.spreads.proofs.links.Links.of.Given as goal

-- the records from i on are linked
abbrev pub invariant-loop-i : goal.invariant-loop-i
invariant-loop-i l = Linked l.placement.bytes.now l.next l.i

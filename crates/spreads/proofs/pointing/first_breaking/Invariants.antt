use Rattle.spreads.proofs.Breaking.{Breaking}
use Rattle.spreads.proofs.pointing.first_breaking.Given as goal

-- the first i legs do not break the condition, and the facts are theirs
abbrev pub invariant-loop-i : goal.invariant-loop-i
invariant-loop-i l = Breaking l.number l.group.placement.now l.group.members.now l.i l.facts

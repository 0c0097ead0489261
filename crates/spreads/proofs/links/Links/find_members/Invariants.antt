use Rattle.std.proofs.Common.{◌-◌}
use Rattle.spreads.proofs.LinkLaws.{Finding}
use Rattle.spreads.proofs.links.Links.find_members.Given as goal

-- the places found so far, and those from `at` on, are those of the group
abbrev pub invariant-loop-at : goal.invariant-loop-at
invariant-loop-at l = Finding l.g l.self.placement.bytes.now l.self.next l.fn.members l.members l.n l.count l.at

abbrev pub decreases-loop-at : goal.decreases-loop-at
decreases-loop-at l = l.n - l.at

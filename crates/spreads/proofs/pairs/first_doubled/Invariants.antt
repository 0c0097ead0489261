use Rattle.std.proofs.Common.{◌≡◌, ◌+◌, ◌-◌, ◌≤◌, take, drop, length}
use Rattle.spreads.specs.Steps.Group.{legs_in}
use Rattle.spreads.specs.Steps.Search.{pair_with}
use Rattle.spreads.proofs.SearchLaws.{search_from}
use Rattle.spreads.proofs.pairs.first_doubled.Given as goal

-- the pair that the whole search finds is the one that is left to find: with the later leg, of the earlier ones from i on, or with a leg after it
abbrev pub invariant-loop-i : goal.invariant-loop-i
invariant-loop-i l =
    search_from l.group.placement.now l.group.members.now 0
    ≡ pair_with l.later l.j l.i (drop l.i (take l.j (legs_in l.group))) (search_from l.group.placement.now l.group.members.now (l.j + 1))

-- the same, with the later legs from j on
abbrev pub invariant-pairs : goal.invariant-pairs
invariant-pairs l = (l.j ≤ length l.group.members.now) × (search_from l.group.placement.now l.group.members.now 0 ≡ search_from l.group.placement.now l.group.members.now l.j)

abbrev pub decreases-pairs : goal.decreases-pairs
decreases-pairs l = length l.group.members.now - l.j

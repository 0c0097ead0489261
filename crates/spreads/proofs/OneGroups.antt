-- A group is one group of a checked placement.
use Rattle.spreads.specs.Steps.Members.{OneGroup}
use Rattle.spreads.specs.declared.members.Group.{Group}

pub one_group : (group : Group) → OneGroup group.placement.now group.members.now
one_group group = record { checked = group.checked; number = group.number; members = group.members_of }

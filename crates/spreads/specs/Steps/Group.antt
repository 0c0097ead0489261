-- The legs of a group that is told by the places of its members.
use Rattle.std.specs.Prelude.{List}
use Rattle.records.specs.declared.legs.Leg.{Leg}
use Rattle.spreads.specs.Steps.Members.{legs_at}
use Rattle.spreads.specs.declared.members.Group.{Group}

abbrev pub legs_in : Group → List Leg
legs_in group = legs_at group.placement.now group.members.now

use Rattle.std.proofs.Common.{refl}
use Rattle.records.specs.Legs.{with_paid}
use Rattle.records.proofs.legs.Leg.with_paid.Goals as goal

pub returns : goal.returns
unfolding with_paid
returns c = refl

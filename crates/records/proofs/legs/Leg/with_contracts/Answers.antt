use Rattle.std.proofs.Common.{refl}
use Rattle.records.specs.Legs.{with_contracts}
use Rattle.records.proofs.legs.Leg.with_contracts.Goals as goal

pub returns : goal.returns
unfolding with_contracts
returns c = refl

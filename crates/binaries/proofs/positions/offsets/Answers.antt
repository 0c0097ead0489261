use Rattle.std.proofs.Common.{refl}
use Rattle.binaries.specs.Positions.{offsets}
use Rattle.binaries.proofs.positions.offsets.Goals as goal

pub returns : goal.returns
unfolding offsets
returns c = refl

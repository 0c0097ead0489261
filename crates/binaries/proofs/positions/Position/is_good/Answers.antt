use Rattle.binaries.specs.Positions.{good_fields}
use Rattle.binaries.proofs.positions.Position.is_good.Goals as goal

pub returns : goal.returns
unfolding good_fields
returns c = rw c.is_date.ensures

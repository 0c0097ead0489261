use Rattle.records.proofs.DateLaws.{first_real}
use Rattle.records.proofs.legs.good_leg.Goals as goal

pub good_leg_beside-requires : goal.good_leg_beside-requires
good_leg_beside-requires c = first_real

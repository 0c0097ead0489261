use Rattle.fills.proofs.FillLaws.{action_is}
use Rattle.fills.proofs.fill.action_of.Goals as goal

pub returns : goal.returns
returns c = action_is c.args.fills.now c.args.i

use Rattle.std.proofs.Common.{refl, arith}
use Rattle.sheets.specs.Steps.Links.{link_below}
use Rattle.sheets.proofs.links.link_below.Goals as goal

pub returns : goal.returns
unfolding link_below
returns c = (refl, omega arith, omega arith)

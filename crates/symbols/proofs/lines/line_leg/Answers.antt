use Rattle.symbols.specs.Lines.{line_leg}
use Rattle.symbols.proofs.lines.line_leg.Goals as goal

pub returns : goal.returns
unfolding line_leg
returns c = rw c.of.ensures

use Rattle.symbols.specs.Lines.{line_in_range}
use Rattle.symbols.proofs.lines.line_in_range.Goals as goal

pub returns : goal.returns
unfolding line_in_range
returns c = rw c.real_date.ensures

use Rattle.records.specs.Lines.{same_line, same_line_side}
use Rattle.records.specs.Lists.{same}
use Rattle.records.proofs.lines.same_line_side.Goals as goal

pub returns : goal.returns
unfolding same_line same_line_side same
returns c = rw c.same_line.ensures

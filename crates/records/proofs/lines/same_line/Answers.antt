use mathlib.Core.Bool.{and-false}
use borrow.Author.Tests.{ne_eqb}
use Rattle.records.specs.Lines.{same_line}
use Rattle.records.specs.Lists.{same}
use Rattle.records.proofs.LineLaws.{line_rest}
use Rattle.records.proofs.lines.same_line.Goals as goal

pub returns-then-a-b : goal.returns-then-a-b
unfolding same_line same
returns-then-a-b c = simp (ne_eqb _ _ c.if-a-b.true, and-false)

pub returns-then-a-b-2 : goal.returns-then-a-b-2
unfolding same_line same
returns-then-a-b-2 c = simp (ne_eqb _ _ c.if-a-b-2.true, and-false)

pub returns : goal.returns
returns c = line_rest c.args.a c.args.b c.if-a-b.false c.if-a-b-2.false

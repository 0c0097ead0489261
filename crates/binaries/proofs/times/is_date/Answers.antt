use Rattle.std.proofs.Common.{sym, ◌∙◌}
use borrow.Author.Tests.{lt-leb}
use Rattle.binaries.proofs.TimeLaws.{late_date}
use Rattle.binaries.proofs.times.is_date.Goals as goal

pub returns-else-n-le-LAST_DATE : goal.returns-else-n-le-LAST_DATE
returns-else-n-le-LAST_DATE c =
    let late = c.if-n-le-LAST_DATE.false in
    lt-leb c.args.n 20991231 late ∙ sym (late_date c.args.n late)

use Rattle.std.proofs.Common.{sym, length}
use borrow.Author.Tests.{ne_eqb}
use Rattle.blocks.proofs.AloneLaws.{alone_torn}
use Rattle.blocks.proofs.alone.judge_block.Goals as goal

pub returns-in-None : goal.returns-in-None
returns-in-None c =
    let b = c.args.block.now in
    rw c.refused.ensures (sym (alone_torn b (ne_eqb (length b) 512 (λ e. c.in-None.ensures.cases e))))

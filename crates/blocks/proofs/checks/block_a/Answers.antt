use Rattle.blocks.proofs.SumLaws.{halves_a}
use Rattle.blocks.proofs.checks.block_a.Goals as goal

pub returns : goal.returns
returns c =
    rw (c.requires, c.check_a-back.ensures, c.check_a-last.ensures) (halves_a c.args.block.now c.told-block)

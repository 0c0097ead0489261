use Rattle.blocks.proofs.SumLaws.{halves_b}
use Rattle.blocks.proofs.checks.block_b.Goals as goal

pub returns : goal.returns
returns c =
    rw (c.requires.front_half, c.requires.all, c.check_b.ensures, c.check_b-2.ensures, c.check_b-last.ensures)
    (halves_b c.args.block.now c.told-block)

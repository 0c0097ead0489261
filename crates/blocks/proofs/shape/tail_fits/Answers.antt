use Rattle.blocks.proofs.TailLaws.{tail_says}
use Rattle.blocks.proofs.shape.tail_fits.Goals as goal

pub returns : goal.returns
returns c =
    rw (c.all_zero.ensures, c.kept_in.ensures, c.account_of-account.ensures) (tail_says c.args.block.now c.told-block c.args.form)

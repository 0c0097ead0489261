use Rattle.blocks.specs.Block.{account_fits}
use Rattle.blocks.proofs.shape.account_fits.Goals as goal

pub returns : goal.returns
unfolding account_fits
returns c = rw (c.is_named.ensures, c.account_of-account.ensures)

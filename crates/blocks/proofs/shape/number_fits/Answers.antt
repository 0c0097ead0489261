use Rattle.blocks.specs.Block.{number_fits}
use Rattle.blocks.proofs.shape.number_fits.Goals as goal

pub returns : goal.returns
unfolding number_fits
returns c = rw (c.u16_at.ensures, c.u16_at-2.ensures)

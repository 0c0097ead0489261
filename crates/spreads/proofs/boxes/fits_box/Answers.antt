use Rattle.spreads.specs.Steps.Boxed.{fits_box}
use Rattle.spreads.proofs.boxes.fits_box.Goals as goal

pub returns : goal.returns
unfolding fits_box
returns c = rw c.is_box_leg.ensures

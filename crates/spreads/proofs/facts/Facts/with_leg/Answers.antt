use Rattle.spreads.specs.Steps.Gathered.{with_leg}
use Rattle.spreads.proofs.facts.Facts.with_leg.Goals as goal

pub returns : goal.returns
unfolding with_leg
returns c = simp (c.with_expiry-self.ensures, c.with_units-self-2.ensures, c.with_units-self.ensures, c.with_leg-self.ensures, c.units-units.ensures)

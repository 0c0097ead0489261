use Rattle.binaries.specs.Percentages.{cell_in}
use Rattle.binaries.proofs.percentages.tenths_at.Goals as goal

pub returns-in-Long : goal.returns-in-Long
unfolding cell_in
returns-in-Long c = rw c.in-Long.is

pub returns-in-Short : goal.returns-in-Short
unfolding cell_in
returns-in-Short c = rw c.in-Short.is

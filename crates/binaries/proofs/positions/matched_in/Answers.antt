use Rattle.std.proofs.Common.{sym, ◌∙◌}
use Rattle.binaries.specs.Positions.{matched_in}
use Rattle.binaries.proofs.positions.matched_in.Goals as goal

pub returns-then-offsets : goal.returns-then-offsets
unfolding matched_in
returns-then-offsets c = rw (sym c.offsets.ensures ∙ c.if-offsets.true) c.min.ensures

pub returns : goal.returns
unfolding matched_in
returns c = rw (sym c.offsets.ensures ∙ c.if-offsets.false)

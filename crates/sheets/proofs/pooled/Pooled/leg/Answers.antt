use borrow.Author.Tests.{lt-ltb, le-ltb}
use Rattle.sheets.specs.Steps.Pooled.{pooled_leg}
use Rattle.sheets.proofs.pooled.Pooled.leg.Goals as goal

pub returns-then-k-held : goal.returns-then-k-held
unfolding pooled_leg
returns-then-k-held c = rw (← c.held-held.ensures, lt-ltb _ _ c.if-k-held.true) c.leg_at.ensures

pub returns : goal.returns
unfolding pooled_leg
returns c = rw (← c.held-held.ensures, le-ltb _ _ c.if-k-held.false) c.leg_at-2.ensures

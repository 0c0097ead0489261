use Rattle.std.proofs.Common.{sym, ◌∙◌}
use Rattle.usm_c.specs.Outcomes.{single_as}
use Rattle.usm_c.proofs.NumberLaws.{asked, unasked}
use Rattle.usm_c.proofs.positions.single_as.Goals as goal

pub returns-in_default : goal.returns-in_default
unfolding single_as
returns-in_default c = unasked _ _ _ _ c.refusal_of.ensures (sym c.side_of.ensures ∙ c.in_default.is)

pub returns : goal.returns
unfolding single_as
returns c = c.binary_margin.ensures ∙ asked _ _ _ _ (sym c.side_of.ensures ∙ c.in-Some.is)

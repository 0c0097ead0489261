use Rattle.std.proofs.Common.{sym, ◌∙◌}
use Rattle.usm_c.specs.Outcomes.{pair_as}
use Rattle.usm_c.proofs.NumberLaws.{asked, unasked}
use Rattle.usm_c.proofs.positions.pair_as.Goals as goal

pub returns-in_default : goal.returns-in_default
unfolding pair_as
returns-in_default c = unasked _ _ _ _ c.refusal_of.ensures (sym c.paid_of.ensures ∙ c.in_default.is)

pub returns : goal.returns
unfolding pair_as
returns c = c.pair_margin.ensures ∙ asked _ _ _ _ (sym c.paid_of.ensures ∙ c.in-Some.is)

use Rattle.std.proofs.Common.{sym, ◌∙◌}
use Rattle.usm_c.specs.Answers.{table_as}
use Rattle.usm_c.proofs.NumberLaws.{asked, unasked}
use Rattle.usm_c.proofs.kinds.check_as.Goals as goal

pub returns-in_default : goal.returns-in_default
unfolding table_as
returns-in_default c = unasked _ _ _ _ c.refusal_of.ensures (sym c.kind_of.ensures ∙ c.in_default.is)

pub returns : goal.returns
unfolding table_as
returns c = c.check_table.ensures ∙ asked _ _ _ _ (sym c.kind_of.ensures ∙ c.in-Some.is)

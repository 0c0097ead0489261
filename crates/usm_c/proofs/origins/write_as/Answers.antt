use Rattle.std.proofs.Common.{sym, ◌∙◌}
use Rattle.usm_c.specs.Outcomes.{write_as}
use Rattle.usm_c.proofs.NumberLaws.{asked, unasked}
use Rattle.usm_c.proofs.origins.write_as.Goals as goal

pub returns-in_default-clause-value : goal.returns-in_default-clause-value
unfolding write_as
returns-in_default-clause-value c = unasked _ _ _ _ c.refusal_of.ensures (sym c.form_of.ensures ∙ c.in_default.is)

pub returns-clause-value : goal.returns-clause-value
unfolding write_as
returns-clause-value c = c.write_file.ensures.0 ∙ asked _ _ _ _ (sym c.form_of.ensures ∙ c.in-Some.is)

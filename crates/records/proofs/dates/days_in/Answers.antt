use Rattle.std.proofs.Common.{sym, ◌∙◌}
use borrow.Author.Tests.{eq-eqb, ne_eqb}
use Rattle.records.specs.Dates.{days_in}
use Rattle.records.proofs.dates.days_in.Goals as goal

pub returns-then-not-is_within : goal.returns-then-not-is_within
unfolding days_in
returns-then-not-is_within c = rw (sym c.is_within.ensures ∙ c.if-not-is_within.true)

pub returns-then-month-eq2 : goal.returns-then-month-eq2
unfolding days_in
returns-then-month-eq2 c = rw (sym c.is_within.ensures ∙ c.if-not-is_within.false, eq-eqb _ _ c.if-month-eq2.true) c.february.ensures

pub returns : goal.returns
unfolding days_in
returns c = rw (sym c.is_within.ensures ∙ c.if-not-is_within.false, ne_eqb _ _ c.if-month-eq2.false)

use Rattle.std.proofs.Common.{sym, ◌∙◌}
use Rattle.records.specs.Dates.{february}
use Rattle.records.proofs.dates.february.Goals as goal

pub returns-then-leap_year : goal.returns-then-leap_year
unfolding february
returns-then-leap_year c = rw (sym c.leap_year.ensures ∙ c.if-leap_year.true)

pub returns : goal.returns
unfolding february
returns c = rw (sym c.leap_year.ensures ∙ c.if-leap_year.false)

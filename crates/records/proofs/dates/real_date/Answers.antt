use Rattle.records.specs.Dates.{real_date}
use Rattle.records.proofs.dates.real_date.Goals as goal

pub returns : goal.returns
unfolding real_date
returns c = rw (c.good_day.ensures, c.is_within.ensures)

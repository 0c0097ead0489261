use Rattle.records.proofs.DateLaws.{short_day}
use Rattle.records.proofs.dates.good_day.Goals as goal

pub returns : goal.returns
returns c = rw c.is_within-2.ensures (short_day c.args.year c.args.month c.args.day c.if-day-gt28.false)

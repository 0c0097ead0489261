use Rattle.records.specs.Tables.{good_unpaid}
use Rattle.records.proofs.ChunkLaws.{first_record}
use Rattle.std.proofs.Common.{arith}
use Rattle.fills.proofs.fill.good_plain.Goals as goal

pub returns : goal.returns
unfolding good_unpaid
returns c = rw (c.good_record.ensures, c.leg_at.ensures, first_record c.args.plain.now (omega arith))

use Rattle.std.proofs.Common.{◌+◌, sym, arith}
use Rattle.records.specs.Bytes.{le_at}
use Rattle.records.proofs.ByteLaws.{le_at_past}
use Rattle.records.proofs.fields.u16_at.Goals as goal

pub returns-then-part-at : goal.returns-then-part-at
returns-then-part-at c = sym (le_at_past c.args.part.now 2 c.args.at (omega arith))

pub returns-then-part-at-lt2 : goal.returns-then-part-at-lt2
unfolding le_at
returns-then-part-at-lt2 c = omega (arith, le_at_past c.args.part.now 1 (c.args.at + 1) (omega arith))

pub returns : goal.returns
unfolding le_at
returns c = omega (arith, c.from_le_bytes.ensures)

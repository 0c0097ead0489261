use Rattle.std.proofs.Common.{arith}
use Rattle.records.specs.Bytes.{le_at}
use Rattle.symbols.proofs.names.name_number.Goals as goal

pub returns : goal.returns
unfolding le_at
returns c = omega (arith, c.from_le_bytes-low.ensures, c.from_le_bytes-high.ensures)

use Rattle.std.proofs.Common.{arith}
use Rattle.symbols.specs.Roots.{terms_of}
use Rattle.records.specs.Bytes.{le_at}
use Rattle.symbols.proofs.roots.underlying_of.Goals as goal

pub returns : goal.returns
unfolding terms_of le_at
returns c = omega (arith, c.from_le_bytes.ensures)

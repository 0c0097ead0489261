use Rattle.std.proofs.Common.{arith}
use Rattle.records.specs.Chunks.{chunk_at}
use Rattle.records.proofs.ChunkLaws.{part_is, record_size}
use Rattle.fills.proofs.FillLaws.{plain_is}
use Rattle.fills.proofs.fill.plain_fill.Goals as goal

pub returns : goal.returns
returns c =
    let a = c.args in
    plain_is (chunk_at 32 a.fills.now a.i) c.copy_from_slice.new.self (omega (arith, record_size a.fills.now a.i c.requires)) (rw (part_is 32 a.i a.fills.now) at c.copy_from_slice.ensures.after)

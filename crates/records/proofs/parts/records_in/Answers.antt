use Rattle.std.proofs.Common.{◌/◌, length, ◌∙◌}
use Rattle.records.proofs.ChunkLaws.{chunks_are}
use Rattle.records.proofs.parts.records_in.Goals as goal

pub returns : goal.returns
returns c = c.as_chunks.ensures.front ∙ chunks_are 32 (length c.args.table.now / 32) c.args.table.now

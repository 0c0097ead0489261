use Rattle.std.proofs.Common.{◌∙◌}
use Rattle.records.proofs.WordLaws.{four_at}
use Rattle.records.proofs.fields.u32_in.Goals as goal

pub returns : goal.returns
returns c = c.from_le_bytes.ensures ∙ rw c.bytes_in.ensures (four_at c.args.part.now c.args.at)

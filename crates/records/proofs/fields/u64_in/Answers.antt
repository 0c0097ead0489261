use Rattle.std.proofs.Common.{◌∙◌}
use Rattle.records.proofs.WordLaws.{eight_at}
use Rattle.records.proofs.fields.u64_in.Goals as goal

pub returns : goal.returns
returns c = c.from_le_bytes.ensures ∙ rw c.bytes_in.ensures (eight_at c.args.part.now c.args.at)

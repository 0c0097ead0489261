use Rattle.std.proofs.Common.{◌∙◌, arith}
use Rattle.records.proofs.PutLaws.{put_room}
use Rattle.verdicts.proofs.pieces.put_text.Goals as goal

pub returns : goal.returns
returns c = record { ends = omega arith; puts = c.copy_to.ensures ∙ put_room c.args.out.now c.args.at c.args.text.now c.requires }

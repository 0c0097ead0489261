use Rattle.verdicts.proofs.PieceLaws.{piece_byte}
use Rattle.verdicts.proofs.pieces.put_byte.Goals as goal

pub returns : goal.returns
returns c = piece_byte _ _ _ c.requires

use Rattle.salvage.proofs.PieceLaws.{piece_is}
use Rattle.salvage.proofs.pieces.Pieces.judge.Goals as goal

pub returns : goal.returns
returns c = rw (piece_is c.args.self.now.bytes.now c.args.i c.min-end.result c.min-end.ensures) at c.judge_block.ensures

use Rattle.std.proofs.Common.{arith}
use Rattle.verdicts.proofs.PieceLaws.{piece_then}
use Rattle.verdicts.proofs.pieces.put_count.Goals as goal

pub returns : goal.returns
returns c = piece_then (omega arith) c.put_decimal-next.ensures c.put_byte.ensures

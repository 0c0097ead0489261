use Rattle.std.proofs.Common.{◌∷◌, [], arith, length-append}
use Rattle.verdicts.specs.Printed.{decimal_of, space}
use Rattle.verdicts.proofs.PieceLaws.{piece_then, piece_is}
use Rattle.verdicts.proofs.ShownLaws.{group_pieces, length_group_line}
use Rattle.verdicts.proofs.table.put_group_line.Goals as goal

pub put_count-last-requires : goal.put_count-last-requires
put_count-last-requires c = omega (arith, length_group_line c.args.g c.args.margin)

pub put_count-requires : goal.put_count-requires
put_count-requires c = omega (arith, length_group_line c.args.g c.args.margin, length-append (decimal_of c.args.g) (space ∷ []))

pub returns : goal.returns
returns c =
    piece_is (group_pieces c.args.g c.args.margin)
    (piece_then (omega arith) (piece_then (omega arith) c.put_text-first.ensures c.put_count-last.ensures) c.put_count.ensures)

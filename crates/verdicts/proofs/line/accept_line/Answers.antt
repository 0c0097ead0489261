use Rattle.std.proofs.Common.{◌∷◌, [], arith, length-append}
use mir.Facts.{to_z-of_z}
use Rattle.verdicts.specs.Printed.{decimal_of, space}
use Rattle.verdicts.proofs.AmountLaws.{amount_short}
use Rattle.verdicts.proofs.DecimalLaws.{decimal_short}
use Rattle.verdicts.proofs.PieceLaws.{piece_then, piece_is, accept_pieces}
use Rattle.verdicts.proofs.line.accept_line.Goals as goal

pub put_count-second-requires : goal.put_count-second-requires
put_count-second-requires c = omega (arith, decimal_short 19 c.args.groups (omega arith))

pub put_amount-last-requires : goal.put_amount-last-requires
put_amount-last-requires c =
    let d = decimal_short 19 c.args.groups (omega arith) in
    rw (to_z-of_z c.ranges.total)
    (omega (arith, amount_short c.args.total c.ranges.total, length-append (decimal_of c.args.groups) (space ∷ [])))

pub put_byte-requires : goal.put_byte-requires
put_byte-requires c =
    let d = decimal_short 19 c.args.groups (omega arith) in
    let amount = rw (to_z-of_z c.ranges.total) at c.put_amount-last.ensures in
    omega (arith, amount_short c.args.total c.ranges.total, length-append (decimal_of c.args.groups) (space ∷ []))

pub returns : goal.returns
returns c =
    let amount = rw (to_z-of_z c.ranges.total) at c.put_amount-last.ensures in
    let counted = piece_then (omega arith) c.put_text-first.ensures c.put_count-second.ensures in
    piece_is (accept_pieces c.args.groups c.args.total)
    (piece_then (omega arith) (piece_then (omega arith) counted amount) c.put_byte.ensures)

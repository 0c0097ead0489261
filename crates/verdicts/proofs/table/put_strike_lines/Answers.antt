use Rattle.std.proofs.Common.{arith, get_or, pos, w64}
use borrow.Author.Rules.{rules}
use mir.Val.{SFits}
use mir.Facts.{to_z-of_z}
use Rattle.verdicts.proofs.PieceLaws.{piece_none, piece_then, piece_is}
use Rattle.verdicts.proofs.ShownLaws.{lines_none, lines_more, lines_all, lines_room}
use Rattle.verdicts.proofs.table.put_strike_lines.Goals as goal

pub loop-i-init : goal.loop-i-init
loop-i-init c = piece_is (lines_none c.args.strikes.now c.args.nets.now) (piece_none _ _)

pub put_strike_line-next-requires : goal.put_strike_line-next-requires
put_strike_line-next-requires c =
    let fits : SFits w64 (get_or c.args.nets.now c.loop-i.i (pos 0)) = search rules in
    rw (to_z-of_z fits) (omega (arith, lines_room c.args.strikes.now c.args.nets.now c.loop-i.i (omega arith) (omega arith)))

pub loop-i-preserved : goal.loop-i-preserved
loop-i-preserved c =
    let fits : SFits w64 (get_or c.args.nets.now c.loop-i.i (pos 0)) = search rules in
    piece_is (lines_more c.args.strikes.now c.args.nets.now c.loop-i.i (omega arith) (omega arith))
    (piece_then (omega arith) c.loop-i.invariant (rw (to_z-of_z fits) at c.put_strike_line-next.ensures))

pub returns : goal.returns
returns c = piece_is (lines_all c.args.strikes.now c.args.nets.now c.loop-i.i (omega arith) (omega arith)) c.loop-i.invariant

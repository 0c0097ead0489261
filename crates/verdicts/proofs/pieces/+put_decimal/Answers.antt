use Rattle.std.proofs.Common.{◌≤◌, length, ap, arith, length-append}
use Rattle.verdicts.proofs.DecimalLaws.{decimal_small, decimal_more}
use Rattle.verdicts.proofs.PieceLaws.{piece_then}
use Rattle.verdicts.proofs.pieces.+put_decimal.Goals as goal

pub put_byte-requires : goal.put_byte-requires
put_byte-requires t c = omega (arith, ap length (decimal_small c.args.n c.if-n-lt10.true))

pub returns-then-n-lt10 : goal.returns-then-n-lt10
returns-then-n-lt10 t c = rw (decimal_small c.args.n c.if-n-lt10.true) c.put_byte.ensures

pub put_decimal-last-requires : goal.put_decimal-last-requires
put_decimal-last-requires t c =
    let h : 10 ≤ c.args.n = c.if-n-lt10.false in
    let l = simp length-append at (ap length (decimal_more c.args.n h)) in
    omega arith

pub put_byte-requires-2 : goal.put_byte-requires-2
put_byte-requires-2 t c =
    let h : 10 ≤ c.args.n = c.if-n-lt10.false in
    let l = simp length-append at (ap length (decimal_more c.args.n h)) in
    omega arith

pub returns : goal.returns
returns t c =
    let h : 10 ≤ c.args.n = c.if-n-lt10.false in
    rw (decimal_more c.args.n h) (piece_then (omega arith) c.put_decimal-last.ensures c.put_byte-2.ensures)

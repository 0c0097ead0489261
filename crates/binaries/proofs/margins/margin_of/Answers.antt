use Rattle.std.proofs.Common.{arith}
use Rattle.binaries.proofs.MarginLaws.{mills_is, margin_most, side_most}
use Rattle.binaries.proofs.margins.margin_of.Goals as goal

pub returns : goal.returns
returns c =
    let p = c.args.position in
    let m = margin_most c.args.side p.spread c.args.valuation.day p.expiry p.contracts c.requires.1 in
    let i = mills_is c.args.side p.spread c.args.valuation.day p.expiry p.contracts in
    rw (c.tenths_at-tenths.ensures, c.column_of.ensures.0, c.row_of.ensures.0)
    (omega arith, omega (arith, side_most c.args.side))

use Rattle.std.proofs.Common.{◌≡◌, ◌-◌, length, arith}
use Rattle.symbols.specs.Lines.{line_says}
use Rattle.symbols.proofs.lines.line_says.Goals as goal

pub returns : goal.returns
unfolding line_says
returns c =
    let xs = c.args.line.now in
    let q : length xs - 1 - 24 ≡ length xs - 25 = omega arith in
    rw (c.number_of-3.ensures.0, c.number-2.ensures, c.number_of-2.ensures.0, c.number_of.ensures.0, c.number.ensures, q)

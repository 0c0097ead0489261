use Rattle.std.proofs.Common.{◌≡◌, ◌-◌, length, arith}
use Rattle.symbols.specs.Lines.{well_formed}
use Rattle.symbols.proofs.lines.well_formed.Goals as goal

pub returns-then-not-line : goal.returns-then-not-line
unfolding well_formed
returns-then-not-line c = rw c.if-not-line.true

pub returns : goal.returns
unfolding well_formed
returns c =
    let xs = c.args.line.now in
    let q : length xs - 1 - 24 ≡ length xs - 25 = omega arith in
    rw (
      c.if-not-line.false,
      c.all_digits-3.ensures,
      c.has-2.ensures,
      c.all_digits-2.ensures,
      c.has.ensures,
      c.all_digits.ensures,
      c.good_name.ensures,
      q,
    )

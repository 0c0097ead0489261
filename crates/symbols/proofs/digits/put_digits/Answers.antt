use Rattle.std.proofs.Common.{sym, ◌∙◌, arith}
use Rattle.symbols.proofs.DigitLaws.{digits_over, digits_turn}
use Rattle.symbols.proofs.digits.put_digits.Goals as goal

pub loop-i-preserved : goal.loop-i-preserved
loop-i-preserved c =
    sym (digits_turn c.loop-i.out c.args.at c.loop-i.rest c.loop-i.i c.loop-i-test.true (omega arith)) ∙ c.loop-i.invariant

pub returns : goal.returns
returns c = sym (digits_over c.loop-i.out c.args.at c.loop-i.rest c.loop-i.i c.loop-i-test.false) ∙ c.loop-i.invariant

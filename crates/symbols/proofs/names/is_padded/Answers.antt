use Rattle.std.proofs.Common.{◌+◌, sym, ◌∙◌, arith}
use Rattle.symbols.proofs.RunLaws.{from_there, padded_next, padded_stop, padded_blank, padded_over}
use Rattle.symbols.proofs.names.is_padded.Goals as goal

pub returns-then-c-eq32 : goal.returns-then-c-eq32
returns-then-c-eq32 c =
    rw (from_there (c.loop-i.i + 1) c.args.name.now) at c.all_blank.ensures
    ∙ sym (c.loop-i.invariant ∙ padded_blank c.args.name.now c.loop-i.i (omega arith) c.if-c-eq32.true)

pub returns-then-not-is_letter-is_digit : goal.returns-then-not-is_letter-is_digit
returns-then-not-is_letter-is_digit c =
    sym (c.loop-i.invariant ∙ padded_stop c.args.name.now c.loop-i.i (omega arith) c.if-c-eq32.false (rw (c.is_digit.ensures, c.is_letter.ensures) at c.if-not-is_letter-is_digit.true))

pub loop-i-preserved : goal.loop-i-preserved
loop-i-preserved c =
    c.loop-i.invariant ∙ padded_next c.args.name.now c.loop-i.i (omega arith) c.if-c-eq32.false (rw (c.is_digit.ensures, c.is_letter.ensures) at c.if-not-is_letter-is_digit.false)

pub returns : goal.returns
returns c = sym (c.loop-i.invariant ∙ padded_over c.args.name.now c.loop-i.i (omega arith))

use Rattle.std.proofs.Common.{◌*◌, ◌∙◌, arith}
use Rattle.std.proofs.Math.Seq.{length-take-le}
use borrow.Author.Tests.{lt-leb}
use Rattle.records.proofs.ErrorLaws.{handed_on}
use Rattle.records.specs.Order.{first_of}
use Rattle.symbols.specs.Calls.{record_room}
use Rattle.symbols.proofs.AnswerLaws.{room_asked}
use Rattle.symbols.proofs.imports.put_rows.Goals as goal

pub returns-then-n-gt-MOST_LEGS-clause-value : goal.returns-then-n-gt-MOST_LEGS-clause-value
unfolding record_room first_of
returns-then-n-gt-MOST_LEGS-clause-value c = rw (c.refused.ensures, lt-leb _ _ c.if-n-gt-MOST_LEGS.true)

pub returns-in_err-hand_over-clause-value : goal.returns-in_err-hand_over-clause-value
returns-in_err-hand_over-clause-value c =
    let e = rw (c.table_number.ensures, length-take-le (32 * c.args.n) c.args.rows.now (omega arith)) at c.hand_over.ensures.value in
    handed_on _ c.in_err-hand_over.field-0.0 c.from_residual.ensures.1 ∙ rw (room_asked c.args.n _ _ (omega arith) e ∙ c.in_err-hand_over.was)

pub returns-clause-value : goal.returns-clause-value
returns-clause-value c =
    let e = rw (c.table_number.ensures, length-take-le (32 * c.args.n) c.args.rows.now (omega arith)) at c.hand_over.ensures.value in
    rw (room_asked c.args.n _ _ (omega arith) e ∙ c.in_ok-hand_over.was)

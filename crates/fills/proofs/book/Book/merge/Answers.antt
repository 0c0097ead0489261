use Rattle.std.proofs.Common.{arith, sym, ◌∙◌}
use Rattle.records.proofs.ErrorLaws.{handed_on}
use Rattle.fills.proofs.BookLaws.{started_none, start_room, start_in_range, started_more, started_stop, started_over, started_stands}
use Rattle.fills.proofs.PlayLaws.{is_refused, not_refused, asked_not, asked_so}
use Rattle.fills.proofs.book.Book.merge.Goals as goal

pub loop-i-init : goal.loop-i-init
loop-i-init c = started_none _ c.requires

pub open-requires : goal.open-requires
open-requires c = (start_room c.loop-i.invariant c.loop-i-test.true, start_in_range c.loop-i.invariant c.loop-i-test.true)

pub returns-in_err-ask-clause-value : goal.returns-in_err-ask-clause-value
returns-in_err-ask-clause-value c =
    let n = asked_not _ 19 _ c.loop-i.i (sym c.ask.ensures ∙ c.in_err-ask.was) in
    handed_on _ c.in_err-ask.field-0.0 c.from_residual.ensures.1
    ∙ rw (n.1, c.table_number.ensures)
    (started_stop c.loop-i.invariant c.loop-i-test.true (is_refused _ c.open.ensures.answer c.is_none-fits.ensures n.0))

pub loop-i-preserved : goal.loop-i-preserved
loop-i-preserved c =
    started_more c.loop-i.invariant c.loop-i-test.true
    (not_refused _ c.open.ensures.answer c.is_none-fits.ensures (asked_so _ _ _ _ (sym c.ask.ensures ∙ c.in_ok-ask.was))) c.open.ensures.gone_over

pub returns-clause-value : goal.returns-clause-value
returns-clause-value c = started_over c.loop-i.invariant (omega arith)

pub returns-clause-start_stands : goal.returns-clause-start_stands
returns-clause-start_stands c e = started_stands c.loop-i.invariant (omega arith)

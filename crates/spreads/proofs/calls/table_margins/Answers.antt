use Rattle.std.proofs.Common.{arith, ◌∙◌}
use borrow.Author.Tests.{le-leb, lt-leb}
use lib.Seq.{length-take-le}
use Rattle.records.proofs.ErrorLaws.{handed_on}
use Rattle.spreads.specs.Calls.{groups_checks, margins_call}
use Rattle.spreads.proofs.AnswerLaws.{is_checked, not_checked, list_in, list_out, list_stop, listed_stop, listed_then}
use Rattle.spreads.proofs.PricingLaws.{priced_refused, priced_entries}
use Rattle.spreads.proofs.Written.{written_front}
use Rattle.spreads.proofs.calls.table_margins.Goals as goal

pub returns-in_err-checked-clause-listed : goal.returns-in_err-checked-clause-listed
unfolding margins_call groups_checks
returns-in_err-checked-clause-listed c =
    rw (handed_on _ c.in_err-checked.field-0.0 c.from_residual.ensures.1)
    (listed_stop _ _ _ _ (not_checked _ c.check.ensures c.in_err-checked.was))

pub returns-in_err-values-clause-listed : goal.returns-in_err-values-clause-listed
unfolding margins_call groups_checks
returns-in_err-values-clause-listed c =
    let e = is_checked _ c.check.ensures c.in_ok-checked.was in
    listed_then _ _ _ _ (rw e at c.in_ok-checked.checked.checked)
    (rw (handed_on _ c.in_err-values.field-0.0 c.from_residual-in_err-values.ensures.1)
    (list_stop _ _ _ _ (priced_refused (rw (c.of-links.ensures ∙ e) at c.price_each.ensures) (rw c.in_err-values.was))))

pub returns-then-out-n-clause-listed : goal.returns-then-out-n-clause-listed
unfolding margins_call groups_checks
returns-then-out-n-clause-listed c =
    let e = is_checked _ c.check.ensures c.in_ok-checked.was in
    listed_then _ _ _ _ (rw e at c.in_ok-checked.checked.checked)
    (rw c.no_room.ensures
    (list_out _ _ _ (priced_entries (rw (c.of-links.ensures ∙ e) at c.price_each.ensures) {m = c.args.n} (rw c.in_ok-values.was)).0 (lt-leb _ _ c.if-out-n.true)))

pub returns-clause-listed : goal.returns-clause-listed
unfolding margins_call groups_checks
returns-clause-listed c =
    let e = is_checked _ c.check.ensures c.in_ok-checked.was in
    listed_then _ _ _ _ (rw e at c.in_ok-checked.checked.checked)
    (list_in _ _ _ (priced_entries (rw (c.of-links.ensures ∙ e) at c.price_each.ensures) {m = c.args.n} (rw c.in_ok-values.was)).0 (le-leb _ _ c.if-out-n.false))

pub returns-clause-out_after : goal.returns-clause-out_after
returns-clause-out_after c =
    let e = is_checked _ c.check.ensures c.in_ok-checked.was in
    let p = priced_entries (rw (c.of-links.ensures ∙ e) at c.price_each.ensures) {m = c.args.n} (rw c.in_ok-values.was) in
    rw (c.copy_from_slice.ensures.after, ← p.3)
    (written_front _ _ (length-take-le _ _ (omega (arith, p.2, c.price_each.array_long))))

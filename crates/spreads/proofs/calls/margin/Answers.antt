use Rattle.std.specs.Prelude.{Ok, pos}
use Rattle.std.proofs.Common.{ap, ◌∙◌, arith, w64}
use mir.Facts.{to_z_pos}
use Rattle.records.proofs.ErrorLaws.{handed_on}
use Rattle.spreads.specs.Calls.{group_checks, margin_call}
use Rattle.spreads.proofs.AnswerLaws.{is_checked, not_checked, due_stop, due_then}
use Rattle.spreads.proofs.BoxBounds.{margin_small}
use Rattle.spreads.proofs.PricingLaws.{asked_for, asked_refused}
use Rattle.spreads.proofs.calls.margin.Goals as goal

pub returns-in_err-checked : goal.returns-in_err-checked
unfolding margin_call group_checks
returns-in_err-checked c =
    handed_on _ c.in_err-checked.field-0.0 c.from_residual.ensures.1 ∙ due_stop _ _ _ (not_checked _ c.check.ensures c.in_err-checked.was)

pub returns-in_err-worked : goal.returns-in_err-worked
unfolding margin_call group_checks
returns-in_err-worked c =
    let e = is_checked _ c.check.ensures c.in_ok-checked.was in
    let r = asked_refused _ _ (rw (c.of-links.ensures ∙ e) at c.price_group.ensures) c.in_err-worked.was in
    due_then _ _ _ (rw e at c.in_ok-checked.checked.checked) (rw r (handed_on _ c.in_err-worked.field-0.0 c.from_residual-in_err-worked.ensures.1))

pub overflow_cast-result : goal.overflow_cast-result
overflow_cast-result c =
    let e = rw c.of-links.ensures at c.price_group.ensures in
    omega (arith, (asked_for _ _ e c.in_ok-worked.was).1, margin_small _ c.in_ok-checked.checked.checked c.args.g)

pub returns : goal.returns
unfolding margin_call group_checks
returns c =
    let e = is_checked _ c.check.ensures c.in_ok-checked.was in
    let m = asked_for _ _ (rw (c.of-links.ensures ∙ e) at c.price_group.ensures) c.in_ok-worked.was in
    let ok = rw e at c.in_ok-checked.checked.checked in
    due_then _ _ _ ok (rw m.0 (ap Ok (to_z_pos w64 (omega (arith, m.1, margin_small _ ok c.args.g)) ∙ ap pos m.1)))

use Rattle.std.proofs.Common.{refl, ◌∙◌}
use Rattle.records.proofs.ErrorLaws.{handed_on}
use Rattle.spreads.specs.Cash.{cash_call}
use Rattle.spreads.proofs.AnswerLaws.{is_checked, not_checked, due_stop, due_then}
use Rattle.spreads.proofs.CashLaws.{cash_stop, cash_then}
use Rattle.spreads.proofs.FoundLaws.{is_found, is_refused}
use Rattle.spreads.proofs.cash_accounts.cash.Goals as goal

pub returns-in_err-checked : goal.returns-in_err-checked
unfolding cash_call
returns-in_err-checked c = handed_on _ c.in_err-checked.field-0.0 c.from_residual.ensures.1 ∙ due_stop _ _ _ (not_checked _ c.check.ensures c.in_err-checked.was)

pub returns-in_err-found : goal.returns-in_err-found
unfolding cash_call
returns-in_err-found c =
    let e = is_checked _ c.check.ensures c.in_ok-checked.was in
    due_then _ _ _ (rw e at c.in_ok-checked.checked.checked)
    (rw (← e)
    (handed_on _ c.in_err-found.field-0.0 c.from_residual-in_err-found.ensures.1
    ∙ cash_stop _ _ refl _ (is_refused _ _ _ _ c.find_alone.ensures c.in_err-found.was)))

pub of-requires : goal.of-requires
of-requires c = is_found _ _ _ _ c.find_alone.ensures c.in_ok-found.was

pub returns : goal.returns
unfolding cash_call
returns c =
    let e = is_checked _ c.check.ensures c.in_ok-checked.was in
    let f = is_found _ _ _ _ c.find_alone.ensures c.in_ok-found.was in
    due_then _ _ _ (rw e at c.in_ok-checked.checked.checked) (rw (← e) (cash_then _ _ refl _ f.passed (c.members_cash.ensures ∙ cc)))

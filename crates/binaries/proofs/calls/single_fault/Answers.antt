use Rattle.std.proofs.Common.{[], ◌∷◌, sym, ◌∙◌}
use Rattle.records.proofs.ErrorLaws.{handed_on}
use Rattle.records.proofs.OrderLaws.{first_stop, first_then}
use Rattle.binaries.specs.Calls.{single_checks}
use Rattle.binaries.proofs.calls.single_fault.Goals as goal

pub returns-in_err-ask : goal.returns-in_err-ask
unfolding single_checks
returns-in_err-ask c =
    handed_on _ c.in_err-ask.field-0.0 c.from_residual.ensures.1
    ∙ sym (first_stop (_ ∷ []) _ _ (rw (c.is_date.ensures, c.is_good.ensures) at (sym c.ask.ensures ∙ c.in_err-ask.was)))

pub returns : goal.returns
unfolding single_checks
returns c =
    c.ask-2.ensures ∙ sym (first_then (_ ∷ []) _ (rw (c.is_date.ensures, c.is_good.ensures) at (sym c.ask.ensures ∙ c.in_ok-ask.was)))

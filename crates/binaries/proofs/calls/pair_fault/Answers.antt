use Rattle.std.proofs.Common.{[], ◌∷◌, sym, ◌∙◌}
use Rattle.records.proofs.ErrorLaws.{handed_on}
use Rattle.records.proofs.OrderLaws.{first_stop, first_then}
use Rattle.binaries.specs.Calls.{pair_checks}
use Rattle.binaries.proofs.calls.pair_fault.Goals as goal

pub returns-in_err-ask : goal.returns-in_err-ask
unfolding pair_checks
returns-in_err-ask c =
    handed_on _ c.in_err-ask.field-0.0 c.from_residual.ensures.1
    ∙ sym (first_stop (_ ∷ []) _ _ (rw (c.is_date.ensures, c.is_good.ensures) at (sym c.ask.ensures ∙ c.in_err-ask.was)))

pub returns-in_err-ask-2 : goal.returns-in_err-ask-2
unfolding pair_checks
returns-in_err-ask-2 c =
    handed_on _ c.in_err-ask-2.field-0.0 c.from_residual-in_err-ask-2.ensures.1
    ∙ sym
    (first_then (_ ∷ []) _ (rw (c.is_date.ensures, c.is_good.ensures) at (sym c.ask.ensures ∙ c.in_ok-ask.was))
    ∙ first_stop (_ ∷ []) _ _ (rw c.is_good-2.ensures at (sym c.ask-2.ensures ∙ c.in_err-ask-2.was)))

pub returns-in_err-ask-3 : goal.returns-in_err-ask-3
unfolding pair_checks
returns-in_err-ask-3 c =
    handed_on _ c.in_err-ask-3.field-0.0 c.from_residual-in_err-ask-3.ensures.1
    ∙ sym
    (first_then (_ ∷ []) _ (rw (c.is_date.ensures, c.is_good.ensures) at (sym c.ask.ensures ∙ c.in_ok-ask.was))
    ∙ first_then (_ ∷ []) _ (rw c.is_good-2.ensures at (sym c.ask-2.ensures ∙ c.in_ok-ask-2.was))
    ∙ first_stop (_ ∷ []) _ _ (sym c.ask-3.ensures ∙ c.in_err-ask-3.was))

pub returns : goal.returns
unfolding pair_checks
returns c =
    c.ask-4.ensures
    ∙ sym
    (first_then (_ ∷ []) _ (rw (c.is_date.ensures, c.is_good.ensures) at (sym c.ask.ensures ∙ c.in_ok-ask.was))
    ∙ first_then (_ ∷ []) _ (rw c.is_good-2.ensures at (sym c.ask-2.ensures ∙ c.in_ok-ask-2.was))
    ∙ first_then (_ ∷ []) _ (sym c.ask-3.ensures ∙ c.in_ok-ask-3.was))

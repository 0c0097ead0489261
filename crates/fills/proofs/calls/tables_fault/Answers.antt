use Rattle.std.proofs.Common.{[], ◌∷◌, sym, ◌∙◌}
use Rattle.records.proofs.ErrorLaws.{handed_on}
use Rattle.records.proofs.OrderLaws.{first_stop, first_then}
use Rattle.fills.specs.Calls.{play_start}
use Rattle.fills.proofs.calls.tables_fault.Goals as goal

pub returns-in_err-ask : goal.returns-in_err-ask
unfolding play_start
returns-in_err-ask c =
    handed_on _ c.in_err-ask.field-0.0 c.from_residual.ensures.1
    ∙ sym (first_stop (_ ∷ []) _ _ (rw (c.whole_table.ensures, c.whole_fills.ensures) at (sym c.ask.ensures ∙ c.in_err-ask.was)))

pub returns : goal.returns
unfolding play_start
returns c =
    c.field_fault.ensures
    ∙ sym (first_then (_ ∷ []) _ (rw (c.whole_table.ensures, c.whole_fills.ensures) at (sym c.ask.ensures ∙ c.in_ok-ask.was)))

use Rattle.std.proofs.Common.{sym, ◌∙◌}
use Rattle.records.proofs.ErrorLaws.{handed_on}
use Rattle.sheets.proofs.StageLaws.{judged_stop, opening_stop}
use Rattle.sheets.proofs.sheet.judge_sheet.Goals as goal

pub returns-in_err-opening_fault : goal.returns-in_err-opening_fault
returns-in_err-opening_fault c =
    handed_on _ c.in_err-opening_fault.field-0.0 c.from_residual.ensures.1
    ∙ judged_stop _ _ _ _ (opening_stop _ _ _ _ (sym c.opening_fault.ensures ∙ c.in_err-opening_fault.was))

pub judge_placed-requires : goal.judge_placed-requires
judge_placed-requires c = sym c.opening_fault.ensures ∙ c.in_ok-opening_fault.was

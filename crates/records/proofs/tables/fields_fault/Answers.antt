use Rattle.std.proofs.Common.{sym, ◌∙◌}
use Rattle.records.specs.Tables.{fields_checks}
use Rattle.records.proofs.ErrorLaws.{handed_on}
use Rattle.records.proofs.OrderLaws.{first_then, first_stop}
use Rattle.records.proofs.tables.fields_fault.Goals as goal

pub returns-in_err-field_fault : goal.returns-in_err-field_fault
unfolding fields_checks
returns-in_err-field_fault c =
    handed_on _ c.in_err-field_fault.field-0.0 c.from_residual.ensures.1 ∙ sym (first_stop _ _ _ (sym c.field_fault.ensures ∙ c.in_err-field_fault.was))

pub returns-in_err-field_fault-2 : goal.returns-in_err-field_fault-2
unfolding fields_checks
returns-in_err-field_fault-2 c =
    handed_on _ c.in_err-field_fault-2.field-0.0 c.from_residual-in_err-field_fault-2.ensures.1
    ∙ sym (first_then _ _ (sym c.field_fault.ensures ∙ c.in_ok-field_fault.was) ∙ first_stop _ _ _ (sym c.field_fault-2.ensures ∙ c.in_err-field_fault-2.was))

pub returns : goal.returns
unfolding fields_checks
returns c =
    c.field_fault-3.ensures
    ∙ sym (first_then _ _ (sym c.field_fault.ensures ∙ c.in_ok-field_fault.was) ∙ first_then _ _ (sym c.field_fault-2.ensures ∙ c.in_ok-field_fault-2.was))

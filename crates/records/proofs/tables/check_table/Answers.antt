use Rattle.std.proofs.Common.{sym, ◌∙◌}
use Rattle.records.specs.Order.{first_of}
use Rattle.records.specs.Tables.{table_checks, check_call}
use Rattle.records.proofs.ErrorLaws.{handed_on}
use Rattle.records.proofs.tables.check_table.Goals as goal

pub returns-then-not-whole_table : goal.returns-then-not-whole_table
unfolding check_call table_checks first_of
returns-then-not-whole_table c = rw (sym c.whole_table.ensures ∙ c.if-not-whole_table.true)

pub returns-in_err-field_fault : goal.returns-in_err-field_fault
unfolding check_call table_checks first_of
returns-in_err-field_fault c =
    handed_on _ c.in_err-field_fault.field-0.0 c.from_residual.ensures.1
    ∙ rw (sym c.whole_table.ensures ∙ c.if-not-whole_table.false, sym c.field_fault.ensures ∙ c.in_err-field_fault.was)

pub returns : goal.returns
unfolding check_call table_checks first_of
returns c = rw (sym c.whole_table.ensures ∙ c.if-not-whole_table.false, sym c.field_fault.ensures ∙ c.in_ok-field_fault.was)

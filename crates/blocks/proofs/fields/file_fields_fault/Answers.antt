use Rattle.std.proofs.Common.{sym, ◌∙◌}
use Rattle.records.specs.Tables.{fields_checks}
use Rattle.records.proofs.ErrorLaws.{handed_on}
use Rattle.records.proofs.OrderLaws.{first_append}
use Rattle.blocks.specs.File.{tables_of, tables_in}
use Rattle.blocks.proofs.fields.file_fields_fault.Goals as goal

pub returns-in_err-kind_fault : goal.returns-in_err-kind_fault
unfolding fields_checks tables_in tables_of
returns-in_err-kind_fault c =
    handed_on _ c.in_err-kind_fault.field-0.0 c.from_residual.ensures.1 ∙ rw (first_append, sym c.kind_fault.ensures ∙ c.in_err-kind_fault.was)

pub returns-in_err-kind_fault-2 : goal.returns-in_err-kind_fault-2
unfolding fields_checks tables_in tables_of
returns-in_err-kind_fault-2 c =
    let h = sym c.kind_fault.ensures ∙ c.in_ok-kind_fault.was in
    handed_on _ c.in_err-kind_fault-2.field-0.0 c.from_residual-in_err-kind_fault-2.ensures.1
    ∙ rw (first_append, h, first_append, sym c.kind_fault-2.ensures ∙ c.in_err-kind_fault-2.was)

pub returns : goal.returns
unfolding fields_checks tables_in tables_of
returns c =
    let h = sym c.kind_fault.ensures ∙ c.in_ok-kind_fault.was in
    rw (first_append, h, first_append, sym c.kind_fault-2.ensures ∙ c.in_ok-kind_fault-2.was) c.kind_fault-3.ensures

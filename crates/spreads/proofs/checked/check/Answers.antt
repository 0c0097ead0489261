use Rattle.records.proofs.ErrorLaws.{handed_on}
use Rattle.spreads.proofs.AnswerLaws.{table_checked, table_refused}
use Rattle.spreads.proofs.checked.check.Goals as goal

pub returns-in_err-check_table : goal.returns-in_err-check_table
returns-in_err-check_table c =
    rw (handed_on _ c.in_err-check_table.field-0.0 c.from_residual.ensures.1) (table_refused _ c.check_table.ensures c.in_err-check_table.was)

pub invariant_of-result : goal.invariant_of-result
invariant_of-result c = record { checked = table_checked _ c.check_table.ensures c.in_ok-check_table.was }

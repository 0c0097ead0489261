use Rattle.std.proofs.Common.{sym, ◌∙◌}
use Rattle.records.proofs.ErrorLaws.{handed_on}
use Rattle.records.proofs.OrderLaws.{first_stop, first_then}
use Rattle.fills.specs.Calls.{play_call, play_checks}
use Rattle.fills.proofs.calls.play.Goals as goal

pub returns-in_err-tables_fault-clause-value : goal.returns-in_err-tables_fault-clause-value
unfolding play_call play_checks
returns-in_err-tables_fault-clause-value c =
    handed_on _ c.in_err-tables_fault.field-0.0 c.from_residual.ensures.1 ∙ rw (first_stop _ _ _ (sym c.tables_fault.ensures ∙ c.in_err-tables_fault.was))

pub play_tables-requires : goal.play_tables-requires
play_tables-requires c = sym c.tables_fault.ensures ∙ c.in_ok-tables_fault.was

pub returns-clause-value : goal.returns-clause-value
unfolding play_call play_checks
returns-clause-value c = rw (first_then _ _ (sym c.tables_fault.ensures ∙ c.in_ok-tables_fault.was)) c.play_tables.ensures.value

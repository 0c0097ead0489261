use Rattle.std.proofs.Common.{sym, ◌∙◌}
use Rattle.records.proofs.ErrorLaws.{handed_on}
use Rattle.records.proofs.OrderLaws.{first_stop, first_then}
use Rattle.records.proofs.TableLaws.{length_claims}
use Rattle.sheets.specs.Steps.Stages.{listed_checks}
use Rattle.sheets.proofs.sheet.last_fault.Goals as goal

pub returns-in_err-lines_fault : goal.returns-in_err-lines_fault
unfolding listed_checks
returns-in_err-lines_fault c =
    handed_on _ c.in_err-lines_fault.field-0.0 c.from_residual.ensures.1 ∙ sym (first_stop _ _ _ (sym c.lines_fault.ensures ∙ c.in_err-lines_fault.was))

pub returns-in_err-placed_fault : goal.returns-in_err-placed_fault
unfolding listed_checks
returns-in_err-placed_fault c =
    handed_on _ c.in_err-placed_fault.field-0.0 c.from_residual-in_err-placed_fault.ensures.1
    ∙ sym (first_then _ _ (sym c.lines_fault.ensures ∙ c.in_ok-lines_fault.was) ∙ first_stop _ _ _ (sym c.placed_fault.ensures ∙ c.in_err-placed_fault.was))

pub returns : goal.returns
unfolding listed_checks
returns c =
    rw (length_claims c.args.claims.now)
    (c.claims_fault.ensures
    ∙ sym (first_then _ _ (sym c.lines_fault.ensures ∙ c.in_ok-lines_fault.was) ∙ first_then _ _ (sym c.placed_fault.ensures ∙ c.in_ok-placed_fault.was)))

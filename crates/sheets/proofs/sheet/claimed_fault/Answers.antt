use Rattle.std.proofs.Common.{sym, ◌∙◌}
use Rattle.records.proofs.ErrorLaws.{handed_on}
use Rattle.records.proofs.OrderLaws.{first_stop, first_then}
use Rattle.records.proofs.TableLaws.{length_claims}
use Rattle.sheets.specs.Steps.Stages.{claimed_checks}
use Rattle.sheets.proofs.sheet.claimed_fault.Goals as goal

pub returns-in_err-field_fault : goal.returns-in_err-field_fault
unfolding claimed_checks
returns-in_err-field_fault c =
    handed_on _ c.in_err-field_fault.field-0.0 c.from_residual.ensures.1 ∙ sym (first_stop _ _ _ (sym c.field_fault.ensures ∙ c.in_err-field_fault.was))

pub returns-in_err-numbered_fault : goal.returns-in_err-numbered_fault
unfolding claimed_checks
returns-in_err-numbered_fault c =
    handed_on _ c.in_err-numbered_fault.field-0.0 c.from_residual-in_err-numbered_fault.ensures.1
    ∙ sym (first_then _ _ (sym c.field_fault.ensures ∙ c.in_ok-field_fault.was) ∙ first_stop _ _ _ (sym c.numbered_fault.ensures ∙ c.in_err-numbered_fault.was))

pub returns : goal.returns
unfolding claimed_checks
returns c =
    rw (length_claims c.args.claims.now)
    (c.named_fault.ensures
    ∙ sym (first_then _ _ (sym c.field_fault.ensures ∙ c.in_ok-field_fault.was) ∙ first_then _ _ (sym c.numbered_fault.ensures ∙ c.in_ok-numbered_fault.was)))

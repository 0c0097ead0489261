use Rattle.std.proofs.Common.{◌∙◌}
use Rattle.records.proofs.ErrorLaws.{handed_on}
use Rattle.records.proofs.OrderLaws.{first_then}
use Rattle.spreads.specs.Calls.{group_checks, strikes_listed}
use Rattle.spreads.proofs.AnswerLaws.{is_checked, not_checked, list_stop, listed_stop, listed_then}
use Rattle.spreads.proofs.FoundLaws.{is_found, is_refused}
use Rattle.spreads.proofs.worksheets.worksheet.Goals as goal

pub returns-in_err-checked-clause-value : goal.returns-in_err-checked-clause-value
unfolding strikes_listed group_checks
returns-in_err-checked-clause-value c =
    handed_on _ c.in_err-checked.field-0.0 c.from_residual.ensures.1 ∙ listed_stop _ _ _ _ (not_checked _ c.check.ensures c.in_err-checked.was)

pub returns-in_err-found-clause-value : goal.returns-in_err-found-clause-value
unfolding strikes_listed group_checks
returns-in_err-found-clause-value c =
    let e = is_checked _ c.check.ensures c.in_ok-checked.was in
    listed_then _ _ _ _ (rw e at c.in_ok-checked.checked.checked)
    (rw (← e)
    (handed_on _ c.in_err-found.field-0.0 c.from_residual-in_err-found.ensures.1
    ∙ list_stop _ _ _ _ (is_refused _ _ _ _ c.find_alone.ensures c.in_err-found.was)))

pub of-spread-requires : goal.of-spread-requires
of-spread-requires c = is_found _ _ _ _ c.find_alone.ensures c.in_ok-found.was

pub returns : goal.returns
unfolding strikes_listed group_checks
returns c =
    let e = is_checked _ c.check.ensures c.in_ok-checked.was in
    let f = is_found _ _ _ _ c.find_alone.ensures c.in_ok-found.was in
    let r = rw e at (rw c.of-spread.ensures.legs at c.list_nets.ensures) in
    record {
      value = listed_then _ _ _ _ (rw e at c.in_ok-checked.checked.checked) (rw (first_then _ _ (rw e at f.passed)) r.value);
      strikes_out_after = r.strikes_out_after;
      nets_out_after = r.nets_out_after;
    }

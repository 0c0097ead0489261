use Rattle.std.specs.Prelude.{Ok}
use Rattle.std.proofs.Common.{sym, ap, ◌∙◌}
use Rattle.records.proofs.ErrorLaws.{handed_on}
use Rattle.sheets.specs.Marks.{pass_call}
use Rattle.sheets.proofs.MarkLaws.{counted_clear, counted_refused, table_few}
use Rattle.sheets.proofs.MarkedLegs.{put_marked}
use Rattle.sheets.proofs.marks.mark_paid.Goals as goal

pub returns-in_err-check_table : goal.returns-in_err-check_table
unfolding pass_call
returns-in_err-check_table c =
    let e = handed_on c.from_residual.result c.in_err-check_table.field-0.0 c.from_residual.ensures.1 in
    record {
      value = e ∙ rw (counted_refused c.args.placement.now _ (sym c.check_table.ensures ∙ c.in_err-check_table.was));
      placement_after = rw e;
    }

pub mark_records-requires : goal.mark_records-requires
mark_records-requires c = table_few _ (counted_clear c.args.placement.now _ (sym c.check_table.ensures ∙ c.in_ok-check_table.was))

pub returns : goal.returns
unfolding pass_call
returns c =
    let p = c.args.placement.now in
    record {
      value = rw (counted_clear p _ (sym c.check_table.ensures ∙ c.in_ok-check_table.was)) (ap Ok c.mark_records.ensures.value);
      placement_after = c.mark_records.ensures.placement_after ∙ sym (put_marked p);
    }

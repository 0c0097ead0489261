use Rattle.std.proofs.Common.{sym, ◌∙◌}
use Rattle.records.proofs.ErrorLaws.{handed_on}
use Rattle.blocks.proofs.ReadLaws.{judge_scan, scan_good, judge_field, judge_good}
use Rattle.blocks.proofs.reader.judge_file.Goals as goal

pub returns-in_err-reading : goal.returns-in_err-reading
returns-in_err-reading c =
    handed_on _ c.in_err-reading.field-0.0 c.from_residual.ensures.1 ∙ sym (judge_scan c.args.file.now _ (sym c.scan_file.ensures ∙ c.in_err-reading.was))

pub file_fields_fault-requires : goal.file_fields_fault-requires
file_fields_fault-requires c = (scan_good c.args.file.now _ _ (sym c.scan_file.ensures ∙ c.in_ok-reading.was)).sized

pub returns-in_err-file_fields_fault : goal.returns-in_err-file_fields_fault
returns-in_err-file_fields_fault c =
    handed_on _ c.in_err-file_fields_fault.field-0.0 c.from_residual-in_err-file_fields_fault.ensures.1
    ∙ sym (judge_field c.args.file.now _ _ (sym c.scan_file.ensures ∙ c.in_ok-reading.was) _ (sym c.file_fields_fault.ensures ∙ c.in_err-file_fields_fault.was))

pub returns : goal.returns
returns c =
    sym (judge_good c.args.file.now _ _ (sym c.scan_file.ensures ∙ c.in_ok-reading.was) (sym c.file_fields_fault.ensures ∙ c.in_ok-file_fields_fault.was))

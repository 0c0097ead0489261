use Rattle.std.proofs.Common.{sym, ◌∙◌, length}
use Rattle.records.proofs.ErrorLaws.{handed_on}
use Rattle.blocks.specs.File.{tables}
use Rattle.blocks.proofs.WriteLaws.{write_refused}
use Rattle.blocks.proofs.writer.write_file.Goals as goal

pub returns-in_err-write_fault : goal.returns-in_err-write_fault
returns-in_err-write_fault c =
    let a = c.args in
    let t = tables a.holdings.now a.placement.now a.claims.now in
    let e = handed_on c.from_residual.result c.in_err-write_fault.field-0.0 c.from_residual.ensures.1 in
    (e ∙ sym (write_refused a.origin t (length a.out.now) _ (sym c.write_fault.ensures ∙ c.in_err-write_fault.was)), rw e)

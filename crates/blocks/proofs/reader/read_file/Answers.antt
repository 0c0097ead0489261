use Rattle.std.proofs.Common.{sym, ◌∙◌, length}
use Rattle.records.proofs.ErrorLaws.{handed_on}
use Rattle.blocks.proofs.ReadLaws.{judged_good, read_refused}
use Rattle.blocks.proofs.reader.read_file.Goals as goal

pub returns-in_err-found : goal.returns-in_err-found
returns-in_err-found c =
    let a = c.args in
    let r = c.in_err-found.field-0.0 in
    let e = handed_on c.from_residual.result r c.from_residual.ensures.1 in
    record {
      value = e ∙ sym (read_refused a.file.now (length a.holdings.now) (length a.placement.now) (length a.claims.now) _ (sym c.judge_file.ensures ∙ c.in_err-found.was));
      holdings_after = rw e;
      placement_after = rw e;
      claims_after = rw e;
    }

pub put_tables-requires : goal.put_tables-requires
put_tables-requires c =
    let g = judged_good c.args.file.now _ _ (sym c.judge_file.ensures ∙ c.in_ok-found.was) in
    record { file_value = g.0; found_value = rw (g.1, g.2) }

use Rattle.std.proofs.Common.{sym, ◌∙◌, arith}
use Rattle.verdicts.proofs.FileVerdicts.{file_refused, has_records}
use Rattle.verdicts.proofs.PieceLaws.{piece_is}
use Rattle.verdicts.proofs.TableFile.{refused_text}
use Rattle.verdicts.proofs.table.table_text.Goals as goal

pub invariant_of-scanned : goal.invariant_of-scanned
invariant_of-scanned c = record { has_records = has_records _ _ _ (sym c.scan_file.ensures ∙ c.in-Ok.is) }

pub returns-in-Err : goal.returns-in-Err
returns-in-Err c =
    let file = c.args.file.now in
    let w = piece_is (refused_text file _ (sym (file_refused file _ (sym c.scan_file.ensures ∙ c.in-Err.is)))) c.refuse_line.ensures in
    record { value = omega (arith, w.ends); out_after = w.puts }

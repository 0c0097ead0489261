use Rattle.std.proofs.Common.{◌≡◌, ◌≤◌, ◌*◌, Ok, length, take, sym, ap, ◌∙◌, arith}
use Rattle.records.proofs.ErrorLaws.{handed_on}
use Rattle.records.proofs.OrderLaws.{first_then}
use Rattle.symbols.specs.Calls.{records_for}
use Rattle.symbols.specs.Lines.{lines_of}
use Rattle.symbols.proofs.AnswerLaws.{imported_stop, imported_records, records_length, leaves_same}
use Rattle.symbols.proofs.WriteLaws.{front_is}
use Rattle.symbols.proofs.imports.import_lines.Goals as goal

pub returns-in_err-n-clause-value : goal.returns-in_err-n-clause-value
returns-in_err-n-clause-value c =
    handed_on _ c.in_err-n.field-0.0 c.from_residual.ensures.1 ∙ imported_stop _ _ _ _ _ (sym c.take_lines.ensures.value ∙ c.in_err-n.was)

pub returns-clause-value : goal.returns-clause-value
returns-clause-value c =
    let counted = imported_records _ _ c.in_ok-n.n (sym c.in_ok-n.was ∙ c.take_lines.ensures.value) in
    rw (first_then _ _ counted.0) (rw counted.1 at c.put_rows.ensures.value)

pub returns-clause-holdings_after : goal.returns-clause-holdings_after
returns-clause-holdings_after c =
    let n = c.in_ok-n.n in
    let counted = imported_records _ _ n (sym c.in_ok-n.was ∙ c.take_lines.ensures.value) in
    let made = records_for c.args.roots.now (lines_of c.args.list.now) in
    let long : 32 * n ≡ length made = omega (arith, counted.1, records_length c.args.roots.now (lines_of c.args.list.now)) in
    let stand : n ≤ 256 → take (32 * n) c.take_lines.new.rows ≡ made =
    λ h. front_is (32 * n) c.take_lines.new.rows _ made long (c.take_lines.ensures.lines_taken (c.in_ok-n.was ∙ ap Ok counted.1) (omega arith)) in
    c.put_rows.ensures.holdings_after ∙ rw c.put_rows.ensures.value (leaves_same n _ _ _ c.args.holdings.now stand)

use Rattle.std.proofs.Common.{◌∙◌}
use Rattle.records.proofs.ErrorLaws.{handed_on}
use Rattle.records.proofs.OrderLaws.{first_then, first_stop}
use Rattle.symbols.specs.Calls.{import_checks, import_call, holdings_of}
use Rattle.symbols.proofs.imports.import.Goals as goal

pub returns-in_err-roots-clause-value : goal.returns-in_err-roots-clause-value
unfolding import_call import_checks
returns-in_err-roots-clause-value c =
    handed_on _ c.in_err-roots.field-0.0 c.from_residual.ensures.1 ∙ rw (first_stop _ _ _ (rw c.in_err-roots.was at c.good_roots.ensures))

pub returns-clause-value : goal.returns-clause-value
unfolding import_call import_checks
returns-clause-value c =
    let judged = rw c.in_ok-roots.was at c.good_roots.ensures in
    rw (first_then _ _ judged.1) (rw judged.0 at c.import_lines.ensures.value)

pub returns-clause-holdings_after : goal.returns-clause-holdings_after
unfolding holdings_of
returns-clause-holdings_after c =
    let judged = rw c.in_ok-roots.was at c.good_roots.ensures in
    rw judged.0 at c.import_lines.ensures.holdings_after

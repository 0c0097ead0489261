use Rattle.std.proofs.Common.{sym, ◌∙◌}
use Rattle.records.proofs.ErrorLaws.{handed_on}
use Rattle.records.specs.Order.{first_of}
use Rattle.symbols.specs.Roots.{root_checks}
use Rattle.symbols.proofs.RootLaws.{roots_cut}
use Rattle.symbols.proofs.roots.good_roots.Goals as goal

pub returns-then-not-rest-roots : goal.returns-then-not-rest-roots
unfolding root_checks first_of
returns-then-not-rest-roots c = rw (c.refused.ensures, rw (c.as_chunks.ensures.back_len, c.as_chunks.ensures.front_len) at c.if-not-rest-roots.true)

pub returns-in_err-entry_fault : goal.returns-in_err-entry_fault
unfolding root_checks first_of
returns-in_err-entry_fault c =
    let whole = rw (c.as_chunks.ensures.back_len, c.as_chunks.ensures.front_len) at c.if-not-rest-roots.false in
    let fault = rw (c.as_chunks.ensures.front, roots_cut c.args.table.now) at c.entry_fault.ensures in
    rw (handed_on _ c.in_err-entry_fault.field-0.0 c.from_residual.ensures.1, whole) (sym fault ∙ c.in_err-entry_fault.was)

pub returns : goal.returns
unfolding root_checks first_of
returns c =
    let whole = rw (c.as_chunks.ensures.back_len, c.as_chunks.ensures.front_len) at c.if-not-rest-roots.false in
    let fault = rw (c.as_chunks.ensures.front, roots_cut c.args.table.now) at c.entry_fault.ensures in
    (c.as_chunks.ensures.front ∙ roots_cut c.args.table.now, rw whole (sym fault ∙ c.in_ok-entry_fault.was))

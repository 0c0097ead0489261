use Rattle.std.proofs.Common.{◌≡◌, ◌/◌, length, sym, ◌∙◌}
use Rattle.records.specs.Chunks.{records_of}
use Rattle.records.specs.Order.{first_of}
use Rattle.records.proofs.ErrorLaws.{handed_on}
use Rattle.records.proofs.OrderLaws.{first_then, first_stop}
use Rattle.symbols.specs.Calls.{export_checks, export_call, list_of}
use Rattle.symbols.proofs.RunLaws.{parts_cut}
use Rattle.symbols.proofs.exports.export.Goals as goal

pub returns-in_err-roots-clause-value : goal.returns-in_err-roots-clause-value
unfolding export_call export_checks
returns-in_err-roots-clause-value c =
    handed_on _ c.in_err-roots.field-0.0 c.from_residual.ensures.1 ∙ rw (first_stop _ _ _ (rw c.in_err-roots.was at c.good_roots.ensures))

pub returns-then-not-whole_table-clause-value : goal.returns-then-not-whole_table-clause-value
unfolding export_call export_checks first_of
returns-then-not-whole_table-clause-value c =
    let judged = rw c.in_ok-roots.was at c.good_roots.ensures in
    rw (c.refused.ensures, first_then _ _ judged.1, sym c.whole_table.ensures ∙ c.if-not-whole_table.true)

pub returns-clause-value : goal.returns-clause-value
unfolding export_call export_checks first_of list_of
returns-clause-value c =
    let h = c.args.holdings.now in
    let judged = rw c.in_ok-roots.was at c.good_roots.ensures in
    let records : c.as_chunks.result.0.now ≡ records_of h = c.as_chunks.ensures.front ∙ parts_cut 32 (length h / 32) h in
    rw (first_then _ _ judged.1, sym c.whole_table.ensures ∙ c.if-not-whole_table.false) (rw (judged.0, records) at c.export_records.ensures.value)

pub returns-clause-list_after : goal.returns-clause-list_after
unfolding list_of
returns-clause-list_after c =
    let h = c.args.holdings.now in
    let judged = rw c.in_ok-roots.was at c.good_roots.ensures in
    let records : c.as_chunks.result.0.now ≡ records_of h = c.as_chunks.ensures.front ∙ parts_cut 32 (length h / 32) h in
    rw (judged.0, records) at c.export_records.ensures.list_after

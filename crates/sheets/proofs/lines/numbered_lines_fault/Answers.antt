use Rattle.std.proofs.Common.{sym, ◌∙◌}
use Rattle.records.specs.Tables.{legs_of}
use Rattle.records.proofs.ErrorLaws.{handed_on}
use Rattle.records.proofs.OrderLaws.{first_stop, first_then}
use Rattle.sheets.specs.Sheets.{even_at, ask_lines}
use Rattle.sheets.proofs.NumberLaws.{holdings_answered, placement_answered}
use Rattle.sheets.proofs.lines.numbered_lines_fault.Goals as goal

pub returns-in_err-first_uneven : goal.returns-in_err-first_uneven
unfolding ask_lines
returns-in_err-first_uneven g c =
    let h = c.args.tables.now.holdings.now in
    let p = c.args.tables.now.placement.now in
    let placed = rw c.held-first.ensures at c.tally-2.ensures in
    let first = c.first_uneven.ensures (even_at (legs_of h) (legs_of p)) (holdings_answered h p _ _ _ c.number_lines.ensures c.tally.ensures placed) in
    handed_on _ c.in_err-first_uneven.field-0.0 c.from_residual.ensures.1 ∙ sym (first_stop _ _ _ (sym first ∙ c.in_err-first_uneven.was))

pub returns : goal.returns
unfolding ask_lines
returns g c =
    let h = c.args.tables.now.holdings.now in
    let p = c.args.tables.now.placement.now in
    let placed = rw c.held-first.ensures at c.tally-2.ensures in
    let first = c.first_uneven.ensures (even_at (legs_of h) (legs_of p)) (holdings_answered h p _ _ _ c.number_lines.ensures c.tally.ensures placed) in
    let second = rw c.held-first.ensures at c.first_uneven-2.ensures in
    second (even_at (legs_of h) (legs_of p)) (placement_answered h p _ _ _ c.number_lines.ensures c.tally.ensures placed)
    ∙ sym (first_then _ _ (sym first ∙ c.in_ok-first_uneven.was))

use Rattle.std.proofs.Common.{sym, ◌∙◌}
use Rattle.sheets.specs.Marks.{marked_record}
use Rattle.sheets.proofs.MarkLaws.{record_asked}
use Rattle.sheets.proofs.marks.mark_record.Goals as goal

pub returns-then-unpaid : goal.returns-then-unpaid
unfolding marked_record
returns-then-unpaid c =
    let e = c.unpaid_long-unpaid.ensures ∙ record_asked c.args.part.now _ c.requires c.leg_at.ensures in
    record { value = e; part_after = rw (sym e ∙ c.if-unpaid.true) }

pub returns-else-unpaid : goal.returns-else-unpaid
unfolding marked_record
returns-else-unpaid c =
    let e = c.unpaid_long-unpaid.ensures ∙ record_asked c.args.part.now _ c.requires c.leg_at.ensures in
    record { value = e; part_after = rw (sym e ∙ c.if-unpaid.false) }

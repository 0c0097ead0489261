use Rattle.std.proofs.Common.{◌≡◌, ℕ, List, sym, ◌∙◌}
use lib.Seq.{length-take-le}
use Rattle.records.specs.declared.tables.Kind.TheVariants.{Holdings, Placement, Claims}
use Rattle.blocks.specs.Reader.{copied}
use Rattle.verdicts.specs.declared.file.Scanned.{Scanned}
use Rattle.verdicts.specs.Steps.Files.{HasRoom}
use Rattle.verdicts.proofs.FileVerdicts.{SheetRead, file_copied}
use Rattle.verdicts.proofs.file.Scanned.check_copied.Goals as goal

read : (s : Scanned) (d₁ d₂ d₃ h p c : List ℕ) → HasRoom s.counts d₁ d₂ d₃
    → h ≡ copied Holdings s.file.now d₁ → p ≡ copied Placement s.file.now d₂ → c ≡ copied Claims s.file.now d₃ → SheetRead s.file.now s.counts h p c
read s d₁ d₂ d₃ h p c r e₁ e₂ e₃ = file_copied s.file.now s.counts s.has_records d₁ d₂ d₃ h p c r.0 r.1 r.2 e₁ e₂ e₃

pub slice_bounds-check_sheet-end : goal.slice_bounds-check_sheet-end
slice_bounds-check_sheet-end c =
    (read c.args.self.now _ _ _ _ _ _ c.requires c.copy_table.ensures.table_after c.copy_table-2.ensures.table_after c.copy_table-3.ensures.table_after).holdings

pub slice_bounds-check_sheet-end-2 : goal.slice_bounds-check_sheet-end-2
slice_bounds-check_sheet-end-2 c =
    sym (length-take-le _ _ (read c.args.self.now _ _ _ _ _ _ c.requires c.copy_table.ensures.table_after c.copy_table-2.ensures.table_after c.copy_table-3.ensures.table_after).holdings)

pub slice_bounds-check_sheet-end-3 : goal.slice_bounds-check_sheet-end-3
slice_bounds-check_sheet-end-3 c =
    (read c.args.self.now _ _ _ _ _ _ c.requires c.copy_table.ensures.table_after c.copy_table-2.ensures.table_after c.copy_table-3.ensures.table_after).placement

pub slice_bounds-check_sheet-end-4 : goal.slice_bounds-check_sheet-end-4
slice_bounds-check_sheet-end-4 c =
    sym (length-take-le _ _ (read c.args.self.now _ _ _ _ _ _ c.requires c.copy_table.ensures.table_after c.copy_table-2.ensures.table_after c.copy_table-3.ensures.table_after).placement)

pub slice_bounds-check_sheet-end-5 : goal.slice_bounds-check_sheet-end-5
slice_bounds-check_sheet-end-5 c =
    (read c.args.self.now _ _ _ _ _ _ c.requires c.copy_table.ensures.table_after c.copy_table-2.ensures.table_after c.copy_table-3.ensures.table_after).claims

pub slice_bounds-check_sheet-end-6 : goal.slice_bounds-check_sheet-end-6
slice_bounds-check_sheet-end-6 c =
    sym (length-take-le _ _ (read c.args.self.now _ _ _ _ _ _ c.requires c.copy_table.ensures.table_after c.copy_table-2.ensures.table_after c.copy_table-3.ensures.table_after).claims)

pub returns-clause-value : goal.returns-clause-value
returns-clause-value c =
    c.check_sheet.ensures
    ∙ (read c.args.self.now _ _ _ _ _ _ c.requires c.copy_table.ensures.table_after c.copy_table-2.ensures.table_after c.copy_table-3.ensures.table_after).verdict

-- What is demanded of the table: document 02, [1], and of a moved file's, [6]. The proofs stand in proofs/TableDemands.antt.
use Rattle.std.specs.Prelude.{◌≡◌, List, ℕ, ℤ, pos, length, take, Ok, Err}
use Rattle.records.specs.Bytes.{AllBytes}
use Rattle.records.specs.Lists.{sum_of, most, All}
use Rattle.records.specs.Tables.{legs_of}
use Rattle.records.specs.Written.{left_after}
use Rattle.blocks.specs.Writer.{has_written}
use Rattle.records.specs.declared.refusals.Refusal.{Refusal}
use Rattle.blocks.specs.File.{tables_in, file_of}
use Rattle.blocks.specs.Moves.{move_call}
use Rattle.blocks.specs.declared.forms.Form.{Form}
use Rattle.blocks.specs.declared.forms.Origin.{Origin}
use Rattle.spreads.specs.Spreads.{group_in}
use Rattle.spreads.specs.Strikes.{loss_of}
use Rattle.spreads.specs.Boxes.{LongBox, half_of}
use Rattle.verdicts.specs.FileVerdicts.{file_verdict}
use Rattle.verdicts.specs.Printed.{refuse_line}
use Rattle.verdicts.specs.ReadBack.{table_in}
use Rattle.verdicts.specs.TableText.{shown_in, table_text}
use Rattle.sheets.specs.Verdicts.{accepted}

-- numbers printed read back: from the text of an accepted sheet each group, margin, strike and net is read, in order
abbrev pub TableReadsBack : Type 0
TableReadsBack = (file : List ℕ) (n : ℕ) (total : ℤ) (work : ℕ) → file_verdict file ≡ Ok (accepted n total work)
    → table_in (table_text file) ≡ shown_in n (legs_of (tables_in file).placement)

-- 'a line `GROUP g margin`': the margins in the text of an accepted sheet add up to the verdict's total
abbrev pub TableTotal : Type 0
TableTotal = (file : List ℕ) (n total work : ℕ) → file_verdict file ≡ Ok (accepted n (pos total) work) → sum_of (λ s. s.margin) (table_in (table_text file)) ≡ total

-- 'then a line `strike net` for each distinct strike': the margin of a group that is no long box is the greatest of 0 and the
-- losses of the lines under it
abbrev pub TableMargins : Type 0
TableMargins = (file : List ℕ) (n total work : ℕ) → file_verdict file ≡ Ok (accepted n (pos total) work)
    → All (λ s. ¬ LongBox (group_in (tables_in file).placement s.group) → s.margin ≡ most loss_of s.nets) (table_in (table_text file))

-- document 02, [2]: that of a long box is 'half of units times the difference, a half mill rounded up'
abbrev pub TableBoxes : Type 0
TableBoxes = (file : List ℕ) (n total work : ℕ) → file_verdict file ≡ Ok (accepted n (pos total) work)
    → All (λ s. (b : LongBox (group_in (tables_in file).placement s.group)) → s.margin ≡ half_of b.units b.low b.high) (table_in (table_text file))

-- request [6]: a file that was moved prints what it printed
abbrev pub MovedTable : Type 0
MovedTable = (from : Form) (to : Origin) (file out : List ℕ) (n : ℕ) → AllBytes file → move_call from to file (length out) ≡ Ok n
    → table_text (take n (left_after (has_written (Ok n)) (file_of to (tables_in file)) out)) ≡ table_text file

-- 'A refused sheet prints only its REFUSE line'
abbrev pub RefusedPrints : Type 0
RefusedPrints = (file : List ℕ) (r : Refusal) → file_verdict file ≡ Err r → table_text file ≡ refuse_line r

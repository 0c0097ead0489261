use Rattle.std.proofs.Common.{sym, ap, ◌∙◌, length, arith}
use Rattle.records.specs.Written.{put_at}
use Rattle.blocks.proofs.ReadLaws.{table_is, copied_room, copied_short}
use Rattle.blocks.proofs.copier.copy_table.Goals as goal

pub returns-then-bytes-table : goal.returns-then-bytes-table
returns-then-bytes-table c =
    let a = c.args in
    let t = table_is a.kind a.file.now in
    let n = c.kind_bytes-bytes.ensures ∙ ap length (sym t) in
    record {
      value = n;
      table_after = c.copy_kind.ensures ∙ ap (put_at a.table.now 0) (sym t) ∙ sym (copied_room a.kind a.file.now a.table.now (omega (arith, n)));
    }

pub returns-else-bytes-table : goal.returns-else-bytes-table
returns-else-bytes-table c =
    let a = c.args in
    let n = c.kind_bytes-bytes.ensures ∙ ap length (sym (table_is a.kind a.file.now)) in
    record { value = n; table_after = sym (copied_short a.kind a.file.now a.table.now (omega (arith, n))) }

use Rattle.std.proofs.Common.{refl, ◌∙◌, arith}
use borrow.Author.Tests.{eq-eqb, ne_eqb}
use Rattle.records.specs.Tables.{table_number}
use Rattle.blocks.proofs.shape.counted_as.Goals as goal

pub returns-then-kind-table_number : goal.returns-then-kind-table_number
returns-then-kind-table_number c =
    rw (eq-eqb c.args.kind (table_number c.args.table) (c.if-kind-table_number.true ∙ c.table_number.ensures)) (refl, omega arith)

pub returns-else-kind-table_number : goal.returns-else-kind-table_number
returns-else-kind-table_number c =
    rw (ne_eqb c.args.kind (table_number c.args.table) (rw c.table_number.ensures at c.if-kind-table_number.false)) (refl, omega arith)

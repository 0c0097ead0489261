use Rattle.std.proofs.Common.{sym, ◌∙◌, arith}
use Rattle.blocks.specs.Writer.{file_bytes}
use Rattle.blocks.proofs.WriteLaws.{taken_is}
use Rattle.blocks.proofs.writer.file_bytes.Goals as goal

pub overflow_mul-result : goal.overflow_mul-result
overflow_mul-result c =
    let a = c.args in
    let v = taken_is a.holdings a.placement a.claims (sym c.tables_taken.ensures ∙ c.if-tables_taken.true) in
    omega (arith, v.holdings.1, v.placement.1, v.claims.1)

pub returns-then-tables_taken : goal.returns-then-tables_taken
unfolding file_bytes
returns-then-tables_taken c = rw (sym c.tables_taken.ensures ∙ c.if-tables_taken.true) (omega arith)

pub returns : goal.returns
unfolding file_bytes
returns c = rw (sym c.tables_taken.ensures ∙ c.if-tables_taken.false)

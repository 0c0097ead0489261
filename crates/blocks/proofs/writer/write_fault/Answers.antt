use Rattle.records.specs.Order.{first_of}
use Rattle.blocks.specs.Writer.{write_checks}
use Rattle.blocks.proofs.writer.write_fault.Goals as goal

pub returns-then-not-tables_taken : goal.returns-then-not-tables_taken
unfolding write_checks first_of
returns-then-not-tables_taken c = rw (c.refused.ensures, ← c.tables_taken.ensures, c.if-not-tables_taken.true)

pub returns-then-not-is_named : goal.returns-then-not-is_named
unfolding write_checks first_of
returns-then-not-is_named c =
    rw (
      c.refused-then-not-is_named.ensures,
      ← c.tables_taken.ensures,
      c.if-not-tables_taken.false,
      ← c.is_named.ensures,
      c.if-not-is_named.true,
    )

pub returns : goal.returns
unfolding write_checks first_of
returns c =
    rw (← c.tables_taken.ensures, c.if-not-tables_taken.false, ← c.is_named.ensures, c.if-not-is_named.false)
    c.fields_fault.ensures

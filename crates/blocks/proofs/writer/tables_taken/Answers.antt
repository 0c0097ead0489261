use Rattle.blocks.specs.Writer.{taken_tables}
use Rattle.blocks.proofs.writer.tables_taken.Goals as goal

pub returns : goal.returns
unfolding taken_tables
returns c = rw c.whole_tables.ensures

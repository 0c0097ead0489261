use borrow.Author.Tests.{le-leb, lt-leb}
use Rattle.records.specs.Order.{first_of}
use Rattle.blocks.proofs.reader.room_for.Goals as goal

pub returns-then-bytes-needed : goal.returns-then-bytes-needed
unfolding first_of
returns-then-bytes-needed c = rw (c.table_number.ensures, lt-leb c.args.needed c.args.bytes c.if-bytes-needed.true)

pub returns : goal.returns
unfolding first_of
returns c = rw (le-leb c.args.needed c.args.bytes c.if-bytes-needed.false)

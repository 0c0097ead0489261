use Rattle.std.proofs.Common.{◌∙◌, arith}
use borrow.Author.Tests.{le-leb, lt-leb}
use Rattle.records.specs.Order.{first_of}
use Rattle.records.proofs.PutLaws.{put_room}
use Rattle.symbols.proofs.lent.hand_over.Goals as goal

pub returns-then-lent-made-clause-value : goal.returns-then-lent-made-clause-value
unfolding first_of
returns-then-lent-made-clause-value c = rw (c.refused.ensures, lt-leb _ _ c.if-lent-made.true)

pub returns-clause-value : goal.returns-clause-value
unfolding first_of
returns-clause-value c = rw (le-leb _ _ c.if-lent-made.false)

pub returns-clause-lent_after : goal.returns-clause-lent_after
returns-clause-lent_after c = c.copy_to.ensures ∙ put_room _ 0 _ (omega arith)

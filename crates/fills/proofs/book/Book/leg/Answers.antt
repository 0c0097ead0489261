use borrow.Author.Tests.{lt-ltb, le-ltb}
use Rattle.fills.specs.Rows.{unmarked}
use Rattle.fills.specs.Steps.Links.{leg_in_play}
use Rattle.fills.proofs.book.Book.leg.Goals as goal

pub returns-then-k-before : goal.returns-then-k-before
unfolding leg_in_play unmarked
returns-then-k-before c = rw (lt-ltb _ _ c.if-k-before.true) (cc)

pub returns : goal.returns
unfolding leg_in_play
returns c = rw (le-ltb _ _ c.if-k-before.false) (cc)

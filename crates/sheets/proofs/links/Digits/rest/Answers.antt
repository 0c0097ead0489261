use borrow.Author.Tests.{lt-ltb, le-ltb}
use Rattle.sheets.specs.Steps.Links.{rest_of}
use Rattle.sheets.proofs.links.Digits.rest.Goals as goal

pub returns-then-self-lt8 : goal.returns-then-self-lt8
unfolding rest_of
returns-then-self-lt8 c = rw (lt-ltb _ _ c.if-self-lt8.true)

pub returns : goal.returns
unfolding rest_of
returns c = rw (le-ltb _ _ c.if-self-lt8.false)

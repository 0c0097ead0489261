use Rattle.records.specs.Order.{first_of}
use Rattle.binaries.proofs.calls.ask.Goals as goal

pub returns-then-holds : goal.returns-then-holds
unfolding first_of
returns-then-holds c = rw c.if-holds.true

pub returns : goal.returns
unfolding first_of
returns c = rw c.if-holds.false

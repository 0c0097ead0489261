use Rattle.std.proofs.Common.{◌≡◌, true, ◌&&◌}
use lib.Dec.{leb}
use borrow.Author.Tests.{le-leb, lt-leb}
use Rattle.records.specs.Order.{first_of}
use Rattle.salvage.specs.Calls.{salvage_room}
use Rattle.salvage.proofs.calls.room_fault.Goals as goal

pub returns-then-out-bytes : goal.returns-then-out-bytes
unfolding salvage_room first_of
returns-then-out-bytes c = rw (c.refused.ensures, lt-leb c.args.bytes c.args.out c.if-out-bytes.true)

pub returns-then-entries-indices : goal.returns-then-entries-indices
unfolding salvage_room first_of
returns-then-entries-indices c =
    let a = c.args in
    let both : (leb a.entries a.indices && leb a.entries a.numbers) ≡ true = c.if-entries-indices.true in
    rw (le-leb a.bytes a.out c.if-out-bytes.false, both)

pub returns : goal.returns
unfolding salvage_room first_of
returns c = rw (c.refused-2.ensures, le-leb c.args.bytes c.args.out c.if-out-bytes.false, c.if-entries-indices.false)

use Rattle.std.proofs.Common.{length, arith}
use borrow.Author.Tests.{le-leb}
use Rattle.records.specs.Legs.{leg_fields, leg_of}
use Rattle.records.proofs.legs.expiry_in.Goals as goal

pub returns : goal.returns
unfolding leg_of leg_fields
returns c = rw (le-leb 32 (length c.args.part.now) (omega arith)) c.u32_in.ensures

use Rattle.std.proofs.Common.{◌∙◌}
use borrow.Author.Tests.{le-leb, lt-leb}
use Rattle.records.specs.Bytes.{le_at}
use Rattle.records.specs.Legs.{leg_fields, leg_of}
use Rattle.records.proofs.LegLaws.{leg_blank}
use Rattle.records.proofs.ChunkLaws.{get_record, get_no_record}
use Rattle.records.proofs.legs.leg_at.Goals as goal

pub returns-in-Some : goal.returns-in-Some
unfolding leg_of
returns-in-Some c =
    let e = c.in-Some.ensures.lookup in
    let r = get_record c.args.table.now c.records_in.result.now c.records_in.ensures c.args.i e.0 c.in-Some.part.now e.1 in
    rw (le-leb 32 _ r.1) (c.leg_fields.ensures ∙ rw r.0)

pub returns-in-None : goal.returns-in-None
unfolding leg_of leg_fields le_at
returns-in-None c =
    let few = get_no_record c.args.table.now c.records_in.result.now c.records_in.ensures c.args.i c.in-None.ensures.lookup.0 in
    rw (lt-leb 32 _ few) (leg_blank c.default.result c.default.ensures)

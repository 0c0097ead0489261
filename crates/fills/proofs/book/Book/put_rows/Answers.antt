use Rattle.std.proofs.Common.{arith}
use Rattle.fills.proofs.WriteLaws.{writing_none, writing_room, writing_more, writing_over}
use Rattle.fills.proofs.book.Book.put_rows.Goals as goal

pub loop-k-init : goal.loop-k-init
loop-k-init c = writing_none _ _ _ _

pub put_record-out-requires-clause-in_bounds : goal.put_record-out-requires-clause-in_bounds
put_record-out-requires-clause-in_bounds c =
    let s = c.args.self.now.stand in
    omega (arith, writing_room c.loop-k.invariant c.loop-k-test.true, s.count, s.few)

pub put_record-out-requires-clause-room : goal.put_record-out-requires-clause-room
put_record-out-requires-clause-room c =
    let s = c.args.self.now.stand in
    omega (arith, writing_room c.loop-k.invariant c.loop-k-test.true, s.count, s.few)

pub loop-k-preserved : goal.loop-k-preserved
loop-k-preserved c = writing_more c.loop-k.invariant c.loop-k-test.true _ _ c.put_record-out.ensures.value c.put_record-out.ensures.res_after

pub returns : goal.returns
returns c = writing_over c.loop-k.invariant (omega arith)

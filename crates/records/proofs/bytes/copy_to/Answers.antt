use Rattle.std.proofs.Common.{◌+◌, ◌<◌, length, sym, ◌∙◌, arith}
use Rattle.records.proofs.PutLaws.{put_none, put_more, put_all, put_room, put_no_room}
use Rattle.records.proofs.bytes.copy_to.Goals.{else-at-to-via-then-at-to+else-from-to, else-at-to-via-else-at-to}
use Rattle.records.proofs.bytes.copy_to.Goals as goal

pub loop-i-init : goal.loop-i-init
loop-i-init c = put_none c.args.to.now c.args.at c.args.from.now

pub loop-i-preserved : goal.loop-i-preserved
loop-i-preserved c =
    rw c.loop-i.invariant (put_more 0 c.args.to.now c.args.at c.args.from.now c.loop-i.i (omega arith) (omega arith))

pub returns-after-loop-i : goal.returns-after-loop-i
returns-after-loop-i c =
    c.loop-i.invariant ∙ put_all c.args.to.now c.args.at c.args.from.now c.loop-i.i (omega arith) ∙ sym (put_room c.args.to.now c.args.at c.args.from.now (omega arith))

pub returns-else-at-to : goal.returns-else-at-to
returns-else-at-to c =
    let none : (length c.args.to.now < c.args.at + length c.args.from.now) = elim c.else-at-to.branch [ else-at-to-via-then-at-to+else-from-to w ↦ omega arith | else-at-to-via-else-at-to w ↦ omega arith ] in
    sym (put_no_room c.args.to.now c.args.at c.args.from.now none)

use Rattle.std.proofs.Common.{◌∙◌, arith}
use native.Mathlib.Nat.{zero-add}
use Rattle.records.proofs.PutLaws.{put_none, put_more, put_all}
use Rattle.salvage.proofs.indices.copy_indices.Goals as goal

pub loop-i-init : goal.loop-i-init
loop-i-init c = put_none c.args.to.now 0 c.args.from.now

pub loop-i-preserved : goal.loop-i-preserved
loop-i-preserved c =
    rw c.loop-i.invariant (rw (zero-add c.loop-i.i) at (put_more 0 c.args.to.now 0 c.args.from.now c.loop-i.i (omega arith) (omega arith)))

pub returns : goal.returns
returns c = c.loop-i.invariant ∙ put_all c.args.to.now 0 c.args.from.now c.loop-i.i (omega arith)

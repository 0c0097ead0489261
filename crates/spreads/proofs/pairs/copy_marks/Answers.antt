use Rattle.std.proofs.Common.{sym, ◌∙◌, arith}
use Rattle.spreads.proofs.SearchLaws.{length_marks, mark_at}
use Rattle.spreads.proofs.Written.{write_none, write_more, write_all}
use Rattle.spreads.proofs.pairs.copy_marks.Goals as goal

pub loop-i-init : goal.loop-i-init
loop-i-init c = write_none _ _ (rw length_marks c.requires)

pub loop-i-preserved : goal.loop-i-preserved
loop-i-preserved c =
    let g = c.args.group.now in
    let n = length_marks g.placement.now g.members.now in
    write_more c.loop-i.invariant (omega arith) _ (c.mark_of.ensures ∙ sym (mark_at _ _ _ c.leg-leg.ensures))

pub returns : goal.returns
returns c =
    let g = c.args.group.now in
    let n = length_marks g.placement.now g.members.now in
    write_all c.loop-i.invariant (omega arith)

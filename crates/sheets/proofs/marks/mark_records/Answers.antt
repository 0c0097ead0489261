use Rattle.std.proofs.Common.{ap, ◌∙◌, Bool, arith}
use Rattle.records.specs.Lists.{only}
use Rattle.sheets.proofs.MarkLaws.{marking_none, marking_more, marking_over, marking_count, mark_small, counted}
use Rattle.sheets.proofs.marks.mark_records.Goals as goal

pub loop-i-init : goal.loop-i-init
loop-i-init c = marking_none c.args.placement.now

pub overflow_add-marks : goal.overflow_add-marks
overflow_add-marks c = omega (arith, c.loop-i.invariant.few, mark_small c.mark_record-marked.result _ (counted c.mark_record-marked.result))

pub loop-i-preserved : goal.loop-i-preserved
loop-i-preserved c =
    let m = c.mark_record-marked in
    marking_more c.loop-i.invariant (omega arith) m.new.part _ m.ensures.part_after (counted m.result ∙ ap (λ (b : Bool). only b 1) m.ensures.value)

pub returns : goal.returns
returns c =
    let m = c.loop-i.invariant in
    record { value = marking_count m (omega arith); placement_after = marking_over m (omega arith) }

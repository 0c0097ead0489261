use Rattle.std.proofs.Common.{◌≡◌, ℕ, ◌<◌, length, get_or, take, false, true, refl, sym, ap, ◌∙◌, arith}
use Rattle.spreads.specs.Steps.Search.{clash}
use Rattle.spreads.specs.Steps.Members.{leg_at_place}
use Rattle.spreads.proofs.SearchLaws.{with_next, with_end, pair_end, pair_in, pair_skip, length_marks, mark_is}
use Rattle.spreads.proofs.PairLaws.{marks_differ}
use Rattle.spreads.proofs.pairs.first_doubled.Goals as goal
use Rattle.spreads.proofs.pairs.first_doubled.Goals.{then-has_mark+else-loop-i-test, else-has_mark}
use lib.Seq.{get_or-take, length-take-le}

pub pairs-init : goal.pairs-init
pairs-init c = (omega arith, refl)

pub slice_bounds-has_mark-end : goal.slice_bounds-has_mark-end
slice_bounds-has_mark-end c =
    let g = c.args.group.now in
    sym (length-take-le _ _ (omega (arith, ap length c.requires, length_marks g.placement.now g.members.now)))

pub loop-i-init : goal.loop-i-init
loop-i-init c = c.pairs.invariant.1 ∙ pair_in _ _ _ _ (omega arith) c.leg-later.ensures

pub loop-i-preserved : goal.loop-i-preserved
loop-i-preserved c =
    c.loop-i.invariant ∙ with_next _ _ _ _ _ (omega arith) _ _ false c.loop-i-test.true c.leg.ensures (sym c.if-is_clash.false ∙ c.is_clash.ensures)

pub pairs-smaller : goal.pairs-smaller
pairs-smaller c = omega arith

-- with a mark the earlier legs were gone over; with none no mark of an earlier leg is the one that is sought, and none of them clashes
pub pairs-preserved : goal.pairs-preserved
pairs-preserved c =
    let g = c.args.group.now in
    elim c.if-has_mark.branch [
      | then-has_mark+else-loop-i-test w ↦ (omega arith, w.loop-i.invariant ∙ with_end _ _ _ _ _ (omega arith) _ (omega arith))
      | else-has_mark w ↦
          let n : length (take c.pairs.j c.args.marks.now) ≡ c.pairs.j = length-take-le _ _ (omega (arith, ap length c.requires, length_marks g.placement.now g.members.now)) in
          let clear : (p : ℕ) → p < c.pairs.j → clash c.leg-later.result (leg_at_place g.placement.now (get_or g.members.now p 0)) ≡ false =
          λ p q. marks_differ _ _
          (λ d. c.has_mark.ensures w.if-has_mark.false p (omega arith)
          (get_or-take _ _ p 0 q ∙ mark_is _ _ p (omega arith) c.requires ∙ d ∙ sym c.sought_by.ensures)) in
          (omega arith, c.pairs.invariant.1 ∙ pair_in _ _ _ _ (omega arith) c.leg-later.ensures ∙ pair_skip _ _ _ _ (omega arith) _ clear)
    ]

pub returns-then-len-j : goal.returns-then-len-j
returns-then-len-j c = sym (c.pairs.invariant.1 ∙ pair_end _ _ _ (omega arith))

pub returns-then-is_clash : goal.returns-then-is_clash
returns-then-is_clash c =
    sym (c.loop-i.invariant ∙ with_next _ _ _ _ _ (omega arith) _ _ true c.loop-i-test.true c.leg.ensures (sym c.if-is_clash.true ∙ c.is_clash.ensures))

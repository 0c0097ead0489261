use Rattle.std.proofs.Common.{sym, ◌∙◌, arith}
use Rattle.spreads.proofs.BoxBounds.{other_strikes, two_legs, two_strikes, two_box}
use Rattle.spreads.proofs.OneGroups.{one_group}
use Rattle.spreads.proofs.required.margin_at.Goals as goal

-- ---- other than two strikes

pub returns-then-prices-ne2 : goal.returns-then-prices-ne2
returns-then-prices-ne2 c =
    let w = c.worst_at-walked.ensures in
    (w.0 ∙ other_strikes (one_group c.args.spread.now.group) c.args.spread.now.listed c.if-prices-ne2.true, w.1, w.2)

-- ---- a long box

pub box_at-requires : goal.box_at-requires
box_at-requires c = two_legs (one_group c.args.spread.now.group) c.args.spread.now.listed c.if-prices-ne2.false

pub overflow_sub-result : goal.overflow_sub-result
overflow_sub-result c = omega (arith, (two_box (one_group c.args.spread.now.group) c.args.spread.now.listed c.if-prices-ne2.false _ (sym c.box_at.ensures ∙ c.in-Some.is)).apart)

pub overflow_mul-result : goal.overflow_mul-result
overflow_mul-result c = omega (arith, (two_box (one_group c.args.spread.now.group) c.args.spread.now.listed c.if-prices-ne2.false _ (sym c.box_at.ensures ∙ c.in-Some.is)).small)

pub overflow_add-result : goal.overflow_add-result
overflow_add-result c = omega (arith, (two_box (one_group c.args.spread.now.group) c.args.spread.now.listed c.if-prices-ne2.false _ (sym c.box_at.ensures ∙ c.in-Some.is)).small)

pub returns-in-Some : goal.returns-in-Some
returns-in-Some c =
    let half = two_box (one_group c.args.spread.now.group) c.args.spread.now.listed c.if-prices-ne2.false _ (sym c.box_at.ensures ∙ c.in-Some.is) in
    (half.is, omega (arith, half.small), c.worst_at-walked.ensures.2)

-- ---- two strikes, and no long box

pub returns-in-None : goal.returns-in-None
returns-in-None c =
    let w = c.worst_at-walked.ensures in
    (w.0 ∙ two_strikes (one_group c.args.spread.now.group) c.args.spread.now.listed c.if-prices-ne2.false (sym c.box_at.ensures ∙ c.in-None.is), w.1, w.2)

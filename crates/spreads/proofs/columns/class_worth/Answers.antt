use Rattle.std.proofs.Common.{◌≡◌, ◌+◌, ◌*◌, drop, get_or, ap, arith}
use Rattle.spreads.specs.Steps.Columns.{class_worth}
use Rattle.spreads.proofs.ColumnLaws.{class_end, class_next}
use Rattle.spreads.proofs.columns.class_worth.Goals as goal

-- one entry more
more : (c : goal.After-intrinsic_of)
    → (let s = c.args in
    c.loop-i.mills + get_or s.units.now c.loop-i.i 0 * c.intrinsic_of.result + class_worth s.right s.price (drop (c.loop-i.i + 1) s.strikes.now) (drop (c.loop-i.i + 1) s.units.now)
    ≡ class_worth s.right s.price s.strikes.now s.units.now)
more c =
    let s = c.args in
    let i = c.loop-i.i in
    omega (
      arith,
      c.loop-i.invariant.added,
      class_next s.right s.price s.strikes.now s.units.now i (omega arith) c.requires.even,
      ap (λ x. get_or s.units.now i 0 * x) c.intrinsic_of.ensures,
    )

pub overflow_add-mills : goal.overflow_add-mills
overflow_add-mills c = omega (arith, more c, c.requires.small)

pub loop-i-preserved : goal.loop-i-preserved
loop-i-preserved c = record { counted = omega arith; added = more c }

pub returns-clause-mills_value : goal.returns-clause-mills_value
returns-clause-mills_value c =
    omega (arith, c.loop-i.invariant.added, class_end c.args.right c.args.price c.args.strikes.now c.args.units.now c.loop-i.i (omega arith))

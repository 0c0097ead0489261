use Rattle.std.proofs.Common.{[], refl, sym, ◌∙◌}
use Rattle.records.proofs.DateLaws.{first_real}
use Rattle.records.proofs.LegLaws.{good_date}
use Rattle.records.proofs.OrderLaws.{asked_good, asked_bad, asked_all}
use Rattle.records.proofs.tables.legs_fault.Goals as goal

pub loop-place-init : goal.loop-place-init
loop-place-init c = record { real = first_real; so_far = refl }

pub good_leg_beside-requires : goal.good_leg_beside-requires
good_leg_beside-requires c = c.loop-place.invariant.real

pub returns-then-not-good_leg_beside : goal.returns-then-not-good_leg_beside
returns-then-not-good_leg_beside c =
    rw (c.out_of_range.ensures, ← c.records_in-record-items.ensures)
    (asked_bad _ _ _ _ _ _ c.loop-place.invariant.so_far c.loop-place-test.true (sym c.good_leg_beside.ensures ∙ c.if-not-good_leg_beside.true))

pub loop-place-preserved : goal.loop-place-preserved
loop-place-preserved c =
    let good = sym c.good_leg_beside.ensures ∙ c.if-not-good_leg_beside.false in
    record {
      real = rw c.expiry_in-known.ensures (good_date c.args.top _ good);
      so_far = asked_good _ _ _ _ _ _ c.loop-place.invariant.so_far c.loop-place-test.true good;
    }

pub returns : goal.returns
returns c = rw (← c.records_in-record-items.ensures) (asked_all _ _ _ _ _ [] c.loop-place.invariant.so_far c.loop-place-test.false)

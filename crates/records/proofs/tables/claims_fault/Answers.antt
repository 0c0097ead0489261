use Rattle.std.proofs.Common.{[], refl, sym, ◌∙◌}
use Rattle.records.proofs.OrderLaws.{asked_good, asked_bad, asked_all}
use Rattle.records.proofs.tables.claims_fault.Goals as goal

pub loop-place-init : goal.loop-place-init
loop-place-init c = refl

pub returns-then-not-good_claim : goal.returns-then-not-good_claim
returns-then-not-good_claim c =
    rw (c.out_of_range.ensures, ← c.records_in-record-items.ensures)
    (asked_bad _ _ _ _ _ _ c.loop-place.invariant c.loop-place-test.true (sym c.good_claim.ensures ∙ c.if-not-good_claim.true))

pub loop-place-preserved : goal.loop-place-preserved
loop-place-preserved c =
    asked_good _ _ _ _ _ _ c.loop-place.invariant c.loop-place-test.true (sym c.good_claim.ensures ∙ c.if-not-good_claim.false)

pub returns : goal.returns
returns c = rw (← c.records_in-record-items.ensures) (asked_all _ _ _ _ _ [] c.loop-place.invariant c.loop-place-test.false)

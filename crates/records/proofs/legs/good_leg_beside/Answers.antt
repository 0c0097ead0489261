use Rattle.std.proofs.Common.{◌≡◌, sym, ap, ◌∙◌, arith}
use borrow.Author.Tests.{eq-eqb}
use Rattle.records.specs.Dates.{real_date}
use Rattle.records.specs.Legs.{leg_fields}
use Rattle.records.specs.declared.legs.Leg.{Leg}
use Rattle.records.proofs.LegLaws.{good_dated}
use Rattle.records.proofs.legs.good_leg_beside.Goals as goal

pub returns-then-leg-known : goal.returns-then-leg-known
returns-then-leg-known c =
    let q = rw (c.terms_in_range.ensures, c.rest_in_range.ensures, c.zero_filler.ensures, c.leg_fields-leg.ensures) at c.if-terms_in_range-rest_in_range.true in
    let d : (leg_fields c.args.part.now).expiry ≡ c.args.known = ap (λ (l : Leg). l.expiry) (sym c.leg_fields-leg.ensures) ∙ c.if-leg-known.true in
    rw (good_dated c.args.top c.args.part.now (omega arith), q) (eq-eqb _ _ c.if-leg-known.true ∙ sym (ap real_date d ∙ c.requires))

pub returns-else-leg-known : goal.returns-else-leg-known
returns-else-leg-known c =
    let q = rw (c.terms_in_range.ensures, c.rest_in_range.ensures, c.zero_filler.ensures, c.leg_fields-leg.ensures) at c.if-terms_in_range-rest_in_range.true in
    rw (good_dated c.args.top c.args.part.now (omega arith), q) (rw c.leg_fields-leg.ensures at c.real_date.ensures)

pub returns : goal.returns
returns c =
    let q = rw (c.terms_in_range.ensures, c.rest_in_range.ensures, c.zero_filler.ensures, c.leg_fields-leg.ensures) at c.if-terms_in_range-rest_in_range.false in
    rw (good_dated c.args.top c.args.part.now (omega arith), q)

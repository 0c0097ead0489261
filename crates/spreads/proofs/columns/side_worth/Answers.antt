use Rattle.std.proofs.Common.{ℕ, ◌≡◌, ◌+◌, ◌-◌, ◌≤◌, ◌∙◌, List, length, take, drop, refl, arith}
use Rattle.records.specs.Claims.{most_mills}
use Rattle.spreads.specs.Steps.Columns.{class_worth, side_worth}
use Rattle.spreads.proofs.ColumnLaws.{cut_tail}
use Rattle.spreads.proofs.columns.side_worth.Goals as goal

pub class_worth-of_calls-requires-clause-small : goal.class_worth-of_calls-requires-clause-small
unfolding side_worth
class_worth-of_calls-requires-clause-small c = omega (arith, c.requires.small)

pub class_worth-of_puts-requires-clause-small : goal.class_worth-of_puts-requires-clause-small
unfolding side_worth
class_worth-of_puts-requires-clause-small c =
    cut_tail c.args.calls c.args.strikes.now c.args.units.now (λ a b. class_worth 2 c.args.price a b ≤ most_mills) (omega (arith, c.requires.small))

-- both sums together
sum_is : (price calls : ℕ) (ss us : List ℕ) {a b : ℕ} → a ≡ class_worth 1 price (take calls ss) (take calls us)
    → b ≡ class_worth 2 price (take (length ss - calls) (drop calls ss)) (take (length us - calls) (drop calls us)) → a + b ≡ side_worth price calls ss us
unfolding side_worth
sum_is price calls ss us p q =
    let e = q ∙ cut_tail calls ss us (λ x y. class_worth 2 price x y ≡ class_worth 2 price (drop calls ss) (drop calls us)) refl in
    omega (arith, p, e)

pub overflow_add-result : goal.overflow_add-result
overflow_add-result c =
    omega (
      arith,
      sum_is c.args.price c.args.calls c.args.strikes.now c.args.units.now c.class_worth-of_calls.ensures.mills_value c.class_worth-of_puts.ensures.mills_value,
      c.requires.small,
    )

pub returns-clause-mills_value : goal.returns-clause-mills_value
returns-clause-mills_value c =
    sum_is c.args.price c.args.calls c.args.strikes.now c.args.units.now c.class_worth-of_calls.ensures.mills_value c.class_worth-of_puts.ensures.mills_value

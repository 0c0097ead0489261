use Rattle.std.proofs.Common.{◌≡◌, ◌≤◌, ◌∙◌, drop, refl}
use Rattle.records.specs.Claims.{most_mills}
use Rattle.spreads.specs.Steps.Columns.{side_worth, columns_worth}
use Rattle.spreads.proofs.ColumnLaws.{cut_tail}
use Rattle.spreads.proofs.columns.Columns.worth_at.Goals as goal

pub side_worth-long-requires-clause-small : goal.side_worth-long-requires-clause-small
unfolding columns_worth
side_worth-long-requires-clause-small c = (c.args.self.now.fits.small _ c.requires).0

pub side_worth-short-requires-clause-small : goal.side_worth-short-requires-clause-small
unfolding columns_worth
side_worth-short-requires-clause-small c =
    let s = c.args.self.now in
    cut_tail s.ends.longs s.strikes.now s.units.now (λ x y. side_worth c.args.price s.ends.short_calls x y ≤ most_mills) (s.fits.small _ c.requires).1

pub returns-clause-worth_value : goal.returns-clause-worth_value
unfolding columns_worth
returns-clause-worth_value c =
    let s = c.args.self.now in
    let e = c.side_worth-short.ensures.mills_value
    ∙ cut_tail s.ends.longs s.strikes.now s.units.now
    (λ x y. side_worth c.args.price s.ends.short_calls x y ≡ side_worth c.args.price s.ends.short_calls (drop s.ends.longs s.strikes.now) (drop s.ends.longs s.units.now)) refl in
    rw (c.side_worth-long.ensures.mills_value, e)

use Rattle.records.specs.Legs.{terms_in_range}
use Rattle.records.proofs.legs.terms_in_range.Goals as goal

pub returns : goal.returns
unfolding terms_in_range
returns c =
    rw (
      c.is_within.ensures,
      c.is_within-2.ensures,
      c.is_within-3.ensures,
      c.is_within-4.ensures,
      c.is_within-5.ensures,
      c.is_within-6.ensures,
      c.is_within-7.ensures,
      c.is_within-8.ensures,
    )

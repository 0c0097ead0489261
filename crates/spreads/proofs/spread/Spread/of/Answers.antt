use Rattle.spreads.proofs.FoundLaws.{found_legs, found_prices}
use Rattle.spreads.proofs.spread.Spread.of.Goals as goal

pub invariant_of-result : goal.invariant_of-result
invariant_of-result c = record { listed = found_prices _ _ _ _ c.requires.members _ _ c.requires.prices }

pub returns-clause-legs : goal.returns-clause-legs
returns-clause-legs c = found_legs _ _ _ _ c.requires.members

use mathlib.Core.Bool.{and-true, and_assoc}
use Rattle.records.specs.Lists.{same}
use Rattle.spreads.specs.Spreads.{same_series, doubled}
use Rattle.spreads.proofs.pairs.is_doubled.Goals as goal

pub returns : goal.returns
unfolding doubled same_series same
returns c = simp (and-true, and_assoc)

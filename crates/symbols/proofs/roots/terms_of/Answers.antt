use Rattle.std.proofs.Common.{refl}
use Rattle.symbols.specs.Roots.{leg_terms}
use Rattle.symbols.proofs.roots.terms_of.Goals as goal

pub returns : goal.returns
unfolding leg_terms
returns c = refl

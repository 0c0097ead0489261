use Rattle.std.proofs.Common.{refl}
use Rattle.sheets.specs.Steps.Links.{digits_of}
use Rattle.sheets.proofs.links.Digits.of.Goals as goal

pub returns : goal.returns
unfolding digits_of
returns c = rw c.sorts_of-sorts.ensures.0 refl

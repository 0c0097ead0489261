use Rattle.std.proofs.Common.{refl, arith}
use Rattle.sheets.specs.Steps.Links.{bucket_of}
use Rattle.sheets.proofs.links.bucket_of.Goals as goal

pub returns : goal.returns
unfolding bucket_of
returns c = (refl, omega arith)

use Rattle.std.proofs.Common.{refl, arith}
use Rattle.fills.specs.Steps.Links.{bucket_of}
use Rattle.fills.proofs.links.bucket_of.Goals as goal

pub returns : goal.returns
unfolding bucket_of
returns c = (refl, omega arith)

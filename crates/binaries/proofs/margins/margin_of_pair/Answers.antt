use Rattle.std.proofs.Common.{arith}
use Rattle.binaries.specs.Margins.{pair_margin}
use Rattle.binaries.proofs.MarginLaws.{matched_long, matched_short}
use Rattle.binaries.proofs.margins.margin_of_pair.Goals as goal

pub less-requires : goal.less-requires
less-requires c = rw c.matched_in-matched.ensures (matched_long _ _)

pub less-requires-2 : goal.less-requires-2
less-requires-2 c = rw c.matched_in-matched.ensures (matched_short _ _)

pub returns : goal.returns
unfolding pair_margin
returns c = (
  rw (c.margin_of-2.ensures.0, c.margin_of.ensures.0, c.less-2.ensures, c.less.ensures, c.matched_in-matched.ensures),
  omega (arith, c.margin_of-2.ensures.1, c.margin_of.ensures.1),
)

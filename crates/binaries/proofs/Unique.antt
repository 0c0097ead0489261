-- No two different outcomes satisfy a promise of this crate: a law for each public function, named after it, with a part for
-- the result and one for each lent slice. A law cites the contract itself: one that settles less is refused here.
use Rattle.records.specs.OneOutcome.{OneOutcome}
use Rattle.records.proofs.OutcomeLaws.{by_parts}
use Rattle.binaries.specs.contracts
use Rattle.binaries.proofs as binaries

binary_margin_unique : OneOutcome contracts.binary_margin.ended binaries.binary_margin.Reads.Learnt
binary_margin_unique = by_parts λ κs a o p x y. cc

pair_margin_unique : OneOutcome contracts.pair_margin.ended binaries.pair_margin.Reads.Learnt
pair_margin_unique = by_parts λ κs a o p x y. cc

-- No two different outcomes satisfy a promise of this crate: a law for each public function, named after it, with a part for
-- the result and one for each lent slice. A law cites the contract itself: one that settles less is refused here.
use Rattle.records.specs.OneOutcome.{OneOutcome}
use Rattle.records.proofs.OutcomeLaws.{by_parts}
use Rattle.salvage.specs.contracts
use Rattle.salvage.proofs as salvage

salvage_unique : OneOutcome contracts.salvage.ended salvage.salvage.Reads.Learnt
salvage_unique = by_parts λ κs a o p x y. (cc, (cc, (cc, cc)))

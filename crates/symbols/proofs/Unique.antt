-- No two different outcomes satisfy a promise of this crate: a law for each public function, named after it, with a part for
-- the result and one for each lent slice. A law cites the contract itself: one that settles less is refused here.
use Rattle.records.specs.OneOutcome.{OneOutcome}
use Rattle.records.proofs.OutcomeLaws.{by_parts}
use Rattle.symbols.specs.contracts
use Rattle.symbols.proofs as symbols

import_unique : OneOutcome contracts.import.ended symbols.import.Reads.Learnt
import_unique = by_parts λ κs a o p x y. (cc, cc)

export_unique : OneOutcome contracts.export.ended symbols.export.Reads.Learnt
export_unique = by_parts λ κs a o p x y. (cc, cc)

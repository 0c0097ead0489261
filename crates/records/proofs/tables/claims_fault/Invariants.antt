use Rattle.std.proofs.Common.{◌≡◌, drop}
use Rattle.records.specs.Claims.{good_claim}
use Rattle.records.specs.Order.{first_of, ask_each}
use Rattle.records.proofs.tables.claims_fault.Given as goal

abbrev pub invariant-loop-place : goal.invariant-loop-place
invariant-loop-place l =
    first_of (ask_each good_claim 4 3 0 l.record-items) ≡ first_of (ask_each good_claim 4 3 l.place (drop l.place l.record-items))

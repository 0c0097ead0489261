-- What it says of the fields that no fault was found.
use Rattle.std.specs.Prelude.{Ok}
use Prim.Native.Nat.{ℕ, ◌≤◌}
use mathlib.Core.Path.{◌≡◌}
use mathlib.Core.Bool.{true, ◌&&◌, and-eq-true_iff}
use lib.Dec.{leb}
use Rattle.records.specs.Dates.{real_date}
use Rattle.records.specs.Limits.{most_contracts}
use Rattle.records.specs.Order.{first_of}
use Rattle.records.specs.Within.{within}
use Rattle.records.proofs.PassLaws.{clear}
use Rattle.records.proofs.TableLaws.{within_true}
use Rattle.binaries.specs.Positions.{most_spread, good_fields}
use Rattle.binaries.specs.Calls.{single_checks, pair_checks}
use Rattle.binaries.specs.declared.positions.Position.{Position}

-- what a position's margin is worked out by
good_live : (spread expiry contracts : ℕ) → good_fields spread expiry contracts ≡ true → (real_date expiry ≡ true) × (contracts ≤ 100000)
unfolding good_fields
good_live spread expiry contracts e =
    let p = (and-eq-true_iff (leb spread most_spread && real_date expiry) (within 1 most_contracts contracts)).0 e in
    (((and-eq-true_iff (leb spread most_spread) (real_date expiry)).0 p.0).1, (within_true 1 most_contracts contracts p.1).1)

dated : (valuation spread expiry contracts : ℕ) → real_date valuation && good_fields spread expiry contracts ≡ true
    → (real_date valuation ≡ true) × (real_date expiry ≡ true) × (contracts ≤ 100000)
dated valuation spread expiry contracts e =
    let p = (and-eq-true_iff (real_date valuation) (good_fields spread expiry contracts)).0 e in
    let q = good_live spread expiry contracts p.1 in
    (p.0, q.0, q.1)

pub single_clear : (spread valuation expiry contracts : ℕ) → first_of (single_checks spread valuation expiry contracts) ≡ Ok tt
    → (real_date valuation ≡ true) × (real_date expiry ≡ true) × (contracts ≤ 100000)
unfolding single_checks
single_clear spread valuation expiry contracts e = dated valuation spread expiry contracts (clear _ e).0

pub pair_clear : (valuation : ℕ) (long short : Position) → first_of (pair_checks valuation long short) ≡ Ok tt
    → (real_date valuation ≡ true) × (((real_date long.expiry ≡ true) × (long.contracts ≤ 100000)) × ((real_date short.expiry ≡ true) × (short.contracts ≤ 100000)))
unfolding pair_checks
pair_clear valuation long short e =
    let p = clear _ e in
    let q = dated valuation long.spread long.expiry long.contracts p.0 in
    (q.0, ((q.1, q.2), good_live short.spread short.expiry short.contracts p.1.0))

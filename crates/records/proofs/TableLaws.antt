-- A table that passed its check: how long it is, and the bounds of each field of each leg and claim.
use Rattle.std.specs.Prelude.{Ok}
use Prim.Native.Nat.{ℕ, ◌/◌, ◌%◌, ◌≤◌, ◌<◌}
use mathlib.Core.Path.{◌≡◌}
use mathlib.Core.Bool.{true, and-eq-true_iff}
use mathlib.Core.List.{List}
use lib.Dec.{eqb, leb}
use lib.ListN.{length}
use borrow.Author.Tests.{eqb-true, leb-true}
use native.Mathlib.Nat.{mul-le-mul}
use native.Mathlib.Omega.{arith}
use Rattle.records.specs.Lists.{All}
use Rattle.records.specs.Chunks.{chunk_at, records_of}
use Rattle.records.specs.Within.{within}
use Rattle.records.specs.Dates.{real_date}
use Rattle.records.specs.Limits.{most_contracts, most_mills}
use Rattle.records.specs.Legs.{leg_of, terms_in_range, in_range, good_leg, units}
use Rattle.records.specs.Claims.{claim_of, good_claim}
use Rattle.records.specs.Order.{first_of}
use Rattle.records.specs.Tables.{good_record, limit_of, table_number, whole_table, field_checks, legs_of, claims_of}
use Rattle.records.specs.declared.legs.Leg.{Leg}
use Rattle.records.specs.declared.claims.Claim.{Claim}
use Rattle.records.specs.declared.tables.Kind.{Kind}
use Rattle.records.specs.declared.tables.Kind.TheVariants.{Placement}
use Rattle.records.proofs.ListLaws.{map_all}
use Rattle.records.proofs.ChunkLaws.{all_chunk, rows_from, rows_all, length_rows}
use Rattle.records.proofs.PassLaws.{clear, pass_each}

-- ---- one record

-- the ranges of a leg's fields, as numbers
pub record Ranges (top : ℕ) (l : Leg) : Type 0 where
  pub group : l.group ≤ top
  pub side : (1 ≤ l.side) × (l.side ≤ 2)
  pub right : (1 ≤ l.right) × (l.right ≤ 2)
  pub style : (1 ≤ l.style) × (l.style ≤ 2)
  pub market : (1 ≤ l.market) × (l.market ≤ 2)
  pub size : (1 ≤ l.size) × (l.size ≤ 1000)
  pub underlying : (1 ≤ l.underlying) × (l.underlying ≤ 4294967295)
  pub strike : (1 ≤ l.strike) × (l.strike ≤ 99999999)
  pub expiry : (20000101 ≤ l.expiry) × (l.expiry ≤ 20991231)
  pub contracts : (1 ≤ l.contracts.0) × (l.contracts.0 ≤ most_contracts)
  pub settlement : l.settlement ≤ 2
  pub paid : l.paid ≤ 1

pub within_true : (low high x : ℕ) → within low high x ≡ true → (low ≤ x) × (x ≤ high)
within_true low high x e =
    let p = (and-eq-true_iff (leb low x) (leb x high)).0 e in
    (leb-true low x p.0, leb-true x high p.1)

pub date_true : (n : ℕ) → real_date n ≡ true → (20000101 ≤ n) × (n ≤ 20991231)
unfolding real_date
date_true n e = within_true 20000101 20991231 n ((and-eq-true_iff _ _).0 e).0

pub ranges : (top : ℕ) (l : Leg) → in_range top l ≡ true → Ranges top l
unfolding in_range terms_in_range
ranges top l e =
    let p11 = (and-eq-true_iff _ _).0 e in
    let p10 = (and-eq-true_iff _ _).0 p11.0 in
    let p9 = (and-eq-true_iff _ _).0 p10.0 in
    let p8 = (and-eq-true_iff _ _).0 p9.0 in
    let p7 = (and-eq-true_iff _ _).0 p8.0 in
    let p6 = (and-eq-true_iff _ _).0 p7.0 in
    let p5 = (and-eq-true_iff _ _).0 p6.0 in
    let p4 = (and-eq-true_iff _ _).0 p5.0 in
    let p3 = (and-eq-true_iff _ _).0 p4.0 in
    let p2 = (and-eq-true_iff _ _).0 p3.0 in
    let p1 = (and-eq-true_iff _ _).0 p2.0 in
    record {
      group = (within_true 0 top l.group p1.0).1;
      side = within_true 1 2 l.side p1.1;
      right = within_true 1 2 l.right p2.1;
      style = within_true 1 2 l.style p3.1;
      market = within_true 1 2 l.market p4.1;
      size = within_true 1 1000 l.size p5.1;
      underlying = within_true 1 4294967295 l.underlying p6.1;
      strike = within_true 1 99999999 l.strike p7.1;
      expiry = date_true l.expiry p8.1;
      contracts = within_true 1 most_contracts l.contracts.0 p9.1;
      settlement = (within_true 0 2 l.settlement p10.1).1;
      paid = (within_true 0 1 l.paid p11.1).1;
    }

pub good_ranges : (top : ℕ) (xs : List ℕ) → good_leg top xs ≡ true → Ranges top (leg_of xs)
unfolding good_leg
good_ranges top xs e =
    let p = (and-eq-true_iff (eqb (length xs) 32) _).0 e in
    ranges top (leg_of xs) ((and-eq-true_iff (in_range top (leg_of xs)) _).0 p.1).0

-- a leg's units are at most 100,000,000, and at least one
pub units_small : (top : ℕ) (l : Leg) → Ranges top l → (1 ≤ units l) × (units l ≤ 100000000)
units_small top l r =
    (omega (arith, mul-le-mul r.contracts.0 r.size.0), omega (arith, mul-le-mul r.contracts.1 r.size.1))

pub record ClaimRanges (c : Claim) : Type 0 where
  pub group : (1 ≤ c.group) × (c.group ≤ 32)
  pub margin : c.margin ≤ most_mills

pub claim_ranges : (xs : List ℕ) → good_claim xs ≡ true → ClaimRanges (claim_of xs)
unfolding good_claim
claim_ranges xs e =
    let p = (and-eq-true_iff (eqb (length xs) 32) _).0 e in
    let p3 = (and-eq-true_iff _ _).0 p.1 in
    let p2 = (and-eq-true_iff _ _).0 p3.0 in
    let p1 = (and-eq-true_iff _ _).0 p2.0 in
    record {
      group = within_true 1 32 (claim_of xs).group p1.0;
      margin = leb-true (claim_of xs).margin most_mills p2.1;
    }

-- ---- a whole table

pub legs_all : (xs : List ℕ) → rows_from leg_of xs 0 ≡ legs_of xs
unfolding legs_of
legs_all xs = rows_all leg_of xs

pub claims_all : (xs : List ℕ) → rows_from claim_of xs 0 ≡ claims_of xs
unfolding claims_of
claims_all xs = rows_all claim_of xs

pub length_legs : (xs : List ℕ) → length (legs_of xs) ≡ length xs / 32
unfolding legs_of
length_legs xs = length_rows leg_of xs

pub length_claims : (xs : List ℕ) → length (claims_of xs) ≡ length xs / 32
unfolding claims_of
length_claims xs = length_rows claim_of xs

pub whole : (kind : Kind) (bytes : ℕ) → whole_table kind bytes ≡ true → (bytes % 32 ≡ 0) × (bytes / 32 ≤ limit_of kind)
whole kind bytes e =
    let p = (and-eq-true_iff (eqb (bytes % 32) 0) (leb (bytes / 32) (limit_of kind))).0 e in
    (eqb-true (bytes % 32) 0 p.0, leb-true (bytes / 32) (limit_of kind) p.1)

pub fields_good : (kind : Kind) (xs : List ℕ) → first_of (field_checks kind xs) ≡ Ok tt → All (λ r. good_record kind r ≡ true) (records_of xs)
unfolding field_checks
fields_good kind xs e = pass_each (good_record kind) 4 (table_number kind) 0 (records_of xs) (clear _ e)

-- record i of such a table
pub record_good : (kind : Kind) (xs : List ℕ) (i : ℕ) → first_of (field_checks kind xs) ≡ Ok tt → i < length xs / 32 → good_record kind (chunk_at 32 xs i) ≡ true
record_good kind xs i e h =
    all_chunk (λ r. good_record kind r ≡ true) 32 (length xs / 32) i xs h (fields_good kind xs e)

-- the bounds of every leg of a placement whose fields are in range
pub placement_ranges : (xs : List ℕ) → first_of (field_checks Placement xs) ≡ Ok tt → All (Ranges 32) (legs_of xs)
unfolding legs_of
placement_ranges xs e = map_all leg_of (Ranges 32) (λ r. good_leg 32 r ≡ true) (records_of xs) (good_ranges 32) (fields_good Placement xs e)

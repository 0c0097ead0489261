-- A leg's fields said in bytes, and read again; and its ranges, in another group, with another count of contracts or another paid mark.
use Prim.Native.Nat.{ℕ, ◌+◌, ◌*◌, ◌/◌, ◌%◌, ◌≤◌}
use mathlib.Core.Path.{◌≡◌, refl}
use mathlib.Core.Bool.{Bool, true, false, cond, ◌&&◌, and-eq-true_iff}
use mathlib.Core.List.{List, []}
use native.Mathlib.Omega.{arith}
use lib.Dec.{eqb}
use lib.ListN.{length}
use borrow.Author.Tests.{le-leb}
use Rattle.records.specs.Bytes.{le_at, le_bytes, zero_in}
use Rattle.records.specs.Lists.{all_of}
use Rattle.records.specs.Within.{within}
use Rattle.records.specs.Dates.{real_date}
use Rattle.records.specs.Limits.{most_contracts}
use Rattle.records.specs.Legs.{contracts_from, with_group, with_contracts, with_paid, leg_fields, leg_of, leg_bytes, terms_in_range, in_range, good_leg}
use Rattle.records.specs.declared.legs.Leg.{Leg}

pub two : (n : ℕ) → n % 256 + 256 * (n / 256 + 256 * 0) ≡ n
two n = omega arith

pub four : (n : ℕ) → n % 256 + 256 * (n / 256 % 256 + 256 * (n / 256 / 256 % 256 + 256 * (n / 256 / 256 / 256 + 256 * 0))) ≡ n
four n = omega arith

one : (n : ℕ) → n + 256 * 0 ≡ n
one n = omega arith

-- a leg all of whose fields are zero, as the one that its type has by default
pub leg_blank : (l : Leg) → (l.group ≡ 0) × ((l.side ≡ 0) × ((l.right ≡ 0) × ((l.style ≡ 0) × ((l.market ≡ 0) × ((l.size ≡ 0) × ((l.underlying ≡ 0) × ((l.strike ≡ 0) × ((l.expiry ≡ 0) × ((l.contracts.0 ≡ 0) × ((l.settlement ≡ 0) × (l.paid ≡ 0)))))))))))
    → l ≡ leg_fields []
unfolding leg_fields le_at
leg_blank l e =
    λ i. record {
      group = e.0 i;
      side = e.1.0 i;
      right = e.1.1.0 i;
      style = e.1.1.1.0 i;
      market = e.1.1.1.1.0 i;
      size = e.1.1.1.1.1.0 i;
      underlying = e.1.1.1.1.1.1.0 i;
      strike = e.1.1.1.1.1.1.1.0 i;
      expiry = e.1.1.1.1.1.1.1.1.0 i;
      contracts = record { 0 = e.1.1.1.1.1.1.1.1.1.0 i };
      settlement = e.1.1.1.1.1.1.1.1.1.1.0 i;
      paid = e.1.1.1.1.1.1.1.1.1.1.1 i;
    }

pub length_leg_bytes : (l : Leg) → length (leg_bytes l) ≡ 32
unfolding leg_bytes le_bytes
length_leg_bytes l = refl

fields_back : (l : Leg) → leg_fields (leg_bytes l) ≡ l
unfolding leg_fields leg_bytes le_bytes le_at
fields_back l =
    rw (
      two l.group,
      one l.side,
      one l.right,
      one l.style,
      one l.market,
      two l.size,
      four l.underlying,
      four l.strike,
      four l.expiry,
      four l.contracts.0,
      one l.settlement,
      one l.paid,
    )

-- a leg is read as it was said
pub leg_back : (l : Leg) → leg_of (leg_bytes l) ≡ l
unfolding leg_of
leg_back l = rw (length_leg_bytes l) (fields_back l)

filler_zero : (l : Leg) → zero_in (leg_bytes l) 26 31 ≡ true
unfolding zero_in all_of leg_bytes le_bytes
filler_zero l = refl

-- the bytes of a leg in its ranges are a good record
pub leg_good : (top : ℕ) (l : Leg) → in_range top l ≡ true → good_leg top (leg_bytes l) ≡ true
unfolding good_leg
leg_good top l e = rw (length_leg_bytes l, leg_back l, e, filler_zero l)

-- ---- a leg in its ranges stays in them

parts : (top : ℕ) (l : Leg) → in_range top l ≡ true
    → (terms_in_range top l ≡ true) × (real_date l.expiry ≡ true) × (within 1 most_contracts l.contracts.0 ≡ true) × (within 0 2 l.settlement ≡ true) × (within 0 1 l.paid ≡ true)
unfolding in_range
parts top l e =
    let p = (and-eq-true_iff _ _).0 e in
    let s = (and-eq-true_iff _ _).0 p.0 in
    let k = (and-eq-true_iff _ _).0 s.0 in
    let d = (and-eq-true_iff _ _).0 k.0 in
    (d.0, d.1, k.1, s.1, p.1)

terms : (top : ℕ) (l : Leg) → terms_in_range top l ≡ true
    → (within 1 2 l.side ≡ true) × (within 1 2 l.right ≡ true) × (within 1 2 l.style ≡ true) × (within 1 2 l.market ≡ true)
    × (within 1 1000 l.size ≡ true) × (within 1 4294967295 l.underlying ≡ true) × (within 1 99999999 l.strike ≡ true)
unfolding terms_in_range
terms top l e =
    let p7 = (and-eq-true_iff _ _).0 e in
    let p6 = (and-eq-true_iff _ _).0 p7.0 in
    let p5 = (and-eq-true_iff _ _).0 p6.0 in
    let p4 = (and-eq-true_iff _ _).0 p5.0 in
    let p3 = (and-eq-true_iff _ _).0 p4.0 in
    let p2 = (and-eq-true_iff _ _).0 p3.0 in
    let p1 = (and-eq-true_iff (within 0 top l.group) _).0 p2.0 in
    (p1.1, p2.1, p3.1, p4.1, p5.1, p6.1, p7.1)

-- in another group in its range
pub group_range : (top g : ℕ) (l : Leg) → in_range top l ≡ true → g ≤ top → in_range top (with_group l g) ≡ true
unfolding in_range terms_in_range with_group
group_range top g l e a =
    let p = parts top l e in
    let t = terms top l p.0 in
    rw (le-leb 0 g (omega arith), le-leb g top a, t.0, t.1, t.2, t.3, t.4, t.5, t.6, p.1, p.2, p.3, p.4)

-- with another count of contracts in its range
pub contracts_range : (top n : ℕ) (l : Leg) → in_range top l ≡ true → 1 ≤ n → n ≤ most_contracts → in_range top (with_contracts l (contracts_from n)) ≡ true
unfolding in_range terms_in_range with_contracts
contracts_range top n l e a b =
    let p = parts top l e in
    rw (p.0, p.1, le-leb 1 n a, le-leb n most_contracts b, p.3, p.4)

-- with another paid mark in its range
pub paid_range : (top mark : ℕ) (l : Leg) → in_range top l ≡ true → mark ≤ 1 → in_range top (with_paid l mark) ≡ true
unfolding in_range terms_in_range with_paid
paid_range top mark l e a =
    let p = parts top l e in
    rw (p.0, p.1, p.2, p.3, le-leb 0 mark (omega arith), le-leb mark 1 a)

-- ---- a record's date, looked at last

-- all of a record but its date
abbrev but_date : ℕ → List ℕ → Bool
but_date top xs =
    terms_in_range top (leg_fields xs)
    && (within 1 most_contracts (leg_fields xs).contracts.0 && within 0 2 (leg_fields xs).settlement && within 0 1 (leg_fields xs).paid)
    && zero_in xs 26 31

date_last : (t d c s p z : Bool) → t && d && c && s && p && z ≡ cond (t && (c && s && p) && z) d false
date_last false d c s p z = refl
date_last true true true true true true = refl
date_last true true true true true false = refl
date_last true true true true false z = refl
date_last true true true false p z = refl
date_last true true false s p z = refl
date_last true false c s p z = go (c && s && p && z)
  where
    go : (b : Bool) → false ≡ cond b false false
    go true = refl
    go false = refl

pub good_dated : (top : ℕ) (xs : List ℕ) → length xs ≡ 32 → good_leg top xs ≡ cond (but_date top xs) (real_date (leg_fields xs).expiry) false
unfolding good_leg in_range leg_of
good_dated top xs e =
    let l = leg_fields xs in
    rw e
    (date_last (terms_in_range top l) (real_date l.expiry) (within 1 most_contracts l.contracts.0) (within 0 2 l.settlement) (within 0 1 l.paid)
    (zero_in xs 26 31))

pub good_date : (top : ℕ) (xs : List ℕ) → good_leg top xs ≡ true → real_date (leg_of xs).expiry ≡ true
unfolding good_leg
good_date top xs e = (parts top (leg_of xs) ((and-eq-true_iff _ _).0 ((and-eq-true_iff (eqb (length xs) 32) _).0 e).1).0).1

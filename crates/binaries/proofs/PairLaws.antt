-- A long and a short together, and how much a call can answer.
use Rattle.std.specs.Prelude.{Result, Ok, Err}
use Prim.Native.Nat.{ℕ, ◌-◌, ◌≤◌}
use mathlib.Core.Path.{◌≡◌, refl}
use mathlib.Core.Bool.{true, false}
use native.Mathlib.Omega.{arith}
use lib.IntN.{pos}
use Rattle.records.specs.Order.{first_of}
use Rattle.binaries.specs.Positions.{offsets, matched_in}
use Rattle.binaries.specs.Margins.{binary_margin, margin_for, pair_margin}
use Rattle.binaries.specs.Calls.{binary_answer, single_checks, single_call, pair_checks, pair_call}
use Rattle.binaries.specs.Demands.{PairCostsNoMore, LongerLong, LongerShort, EqualPairFree, ApartKeepsBoth, SingleMost, PairMost}
use Rattle.binaries.specs.declared.percentages.Side.{Side}
use Rattle.binaries.specs.declared.percentages.Side.TheVariants.{Long, Short}
use Rattle.binaries.specs.declared.positions.Position.{Position}
use Rattle.binaries.specs.declared.positions.LongPosition.{LongPosition}
use Rattle.binaries.proofs.MarginLaws.{margin_grows, margin_most, long_most, short_most, side_most}
use Rattle.binaries.proofs.AnswerLaws.{single_clear, pair_clear}
use Rattle.records.specs.declared.refusals.Refusal.{Refusal}

-- ---- what a pair needs

none_free : (side : Side) (valuation : ℕ) (p : Position) → margin_for side valuation p 0 ≡ 0
unfolding binary_margin
none_free side valuation p = omega arith

fewer : (side : Side) (valuation : ℕ) (p : Position) (m n : ℕ) → m ≤ n → margin_for side valuation p m ≤ margin_for side valuation p n
fewer side valuation p m n h =
    margin_grows side valuation p.spread p.spread p.expiry p.expiry m n (omega arith) (omega arith) h

module _ (long : LongPosition) (short : Position) where
  apart_matched : offsets long short ≡ false → matched_in long short ≡ 0
  unfolding matched_in
  apart_matched o = rw o

  short_matched : offsets long short ≡ true → short.contracts ≤ long.position.contracts → matched_in long short ≡ short.contracts
  unfolding matched_in
  short_matched o h = rw o (omega arith)

  long_matched : offsets long short ≡ true → long.position.contracts ≤ short.contracts → matched_in long short ≡ long.position.contracts
  unfolding matched_in
  long_matched o h = rw o (omega arith)

pub pair_costs_no_more : PairCostsNoMore
unfolding pair_margin
pair_costs_no_more valuation long short =
    let k = matched_in long short in
    let a = fewer Long valuation long.position (long.position.contracts - k) long.position.contracts (omega arith) in
    let b = fewer Short valuation short (short.contracts - k) short.contracts (omega arith) in
    omega arith

pub longer_long : LongerLong
unfolding pair_margin
longer_long valuation long short o h =
    let z : short.contracts - short.contracts ≡ 0 = omega arith in
    rw (short_matched long short o h, z, none_free Short valuation short) (omega arith)

pub longer_short : LongerShort
unfolding pair_margin
longer_short valuation long short o h =
    let z : long.position.contracts - long.position.contracts ≡ 0 = omega arith in
    rw (long_matched long short o h, z, none_free Long valuation long.position) (omega arith)

pub equal_pair_free : EqualPairFree
equal_pair_free valuation long short o h =
    let z : long.position.contracts - short.contracts ≡ 0 = omega arith in
    rw (longer_long valuation long short o (omega arith), z) (none_free Long valuation long.position)

pub apart_keeps_both : ApartKeepsBoth
unfolding pair_margin
apart_keeps_both valuation long short o =
    let y : long.position.contracts - 0 ≡ long.position.contracts = omega arith in
    let z : short.contracts - 0 ≡ short.contracts = omega arith in
    rw (apart_matched long short o, y, z)

-- ---- limits

required_mills : (f : Result Unit Refusal) (m n : ℕ) → binary_answer f m ≡ Ok (pos n) → (f ≡ Ok tt) × (m ≡ n)
required_mills (Ok _) m n e = (refl, cc)
required_mills (Err r) m n e = let z : ◌≡◌ {A = ℕ} 0 1 = cc in absurd (omega arith)

pub single_most : SingleMost
unfolding single_call
single_most side spread valuation expiry contracts n e =
    let r = required_mills (first_of (single_checks spread valuation expiry contracts)) (binary_margin side spread valuation expiry contracts) n e in
    let few = single_clear spread valuation expiry contracts r.0 in
    omega (arith, margin_most side spread valuation expiry contracts few.2, side_most side, r.1)

pub pair_most : PairMost
unfolding pair_call
pair_most valuation long short n e =
    let p = long.position in
    let r = required_mills (first_of (pair_checks valuation p short)) (pair_margin valuation long short) n e in
    let few = pair_clear valuation p short r.0 in
    omega (
      arith,
      r.1,
      pair_costs_no_more valuation long short,
      margin_most Long p.spread valuation p.expiry p.contracts few.1.0.1,
      long_most,
      margin_most Short short.spread valuation short.expiry short.contracts few.1.1.1,
      short_most,
    )

-- The test for a long box says just that its facts hold; a long box nets units times the difference at every price.
use Prim.Native.Nat.{ℕ, ◌+◌, ◌*◌, ◌-◌, ◌≤◌, ◌<◌}
use mathlib.Core.Path.{◌≡◌, refl, sym, ap, ◌∙◌}
use mathlib.Core.Bool.{Bool, true, false, and-eq-true_iff, false≢true}
use mathlib.Core.List.{List, [], ◌∷◌, Memᴰ}
use native.Mathlib.Nat.{mul-le-mul_left, mul-sub}
use native.Mathlib.Decide.{dec_lt}
use native.Mathlib.Omega.{arith}
use lib.Dec.{eqb, ltb}
use borrow.Author.Tests.{eqb-true, eq-eqb, ltb-true, lt-ltb}
use Rattle.records.specs.Lists.{all_of}
use Rattle.records.specs.Legs.{is_long, is_short, is_call, is_put, is_european}
use Rattle.records.specs.declared.legs.Leg.{Leg}
use Rattle.records.proofs.ListLaws.{all_map, all_of_all, all_all_of}
use Rattle.spreads.specs.Prices.{long_at, short_at, at}
use Rattle.spreads.specs.Spreads.{one_of, units_in, Spread}
use Rattle.spreads.specs.Strikes.{strikes_of, worst_loss}
use Rattle.spreads.specs.Boxes.{units_at, is_box_leg, LongBox, even_kinds, box_at, box_on, is_long_box, half_of, half_box, margin_of}
use Rattle.spreads.proofs.RuleLaws.{one_of_to_all, all_to_one_of}
use Rattle.spreads.proofs.Cover.{cover, nothing_less}
use Rattle.spreads.proofs.Merge.{Together, merge}
use Rattle.spreads.proofs.BoxKinds.{long_kinds, short_kinds}

-- ---- the test and the facts

-- the parts of the test at two strikes
pub record BoxParts (low high : ℕ) (legs : List Leg) : Type 0 where
  pub european : all_of is_european legs ≡ true
  pub expiry : one_of (λ l. l.expiry) legs ≡ true
  pub others : all_of (is_box_leg low high) legs ≡ true
  pub apart : ltb low high ≡ true
  pub even : even_kinds low high legs ≡ true

pub box_parts : (low high : ℕ) (legs : List Leg) → box_at low high legs ≡ true → BoxParts low high legs
unfolding box_at
box_parts low high legs e =
    let p = (and-eq-true_iff _ (even_kinds low high legs)).0 e in
    let q = (and-eq-true_iff _ (ltb low high)).0 p.0 in
    let r = (and-eq-true_iff _ (all_of (is_box_leg low high) legs)).0 q.0 in
    let s = (and-eq-true_iff (all_of is_european legs) (one_of (λ l. l.expiry) legs)).0 r.0 in
    record { european = s.0; expiry = s.1; others = r.1; apart = q.1; even = p.1 }

parts_facts : (low high : ℕ) (legs : List Leg) → strikes_of legs ≡ low ∷ high ∷ [] → BoxParts low high legs → LongBox legs
unfolding even_kinds
parts_facts low high legs two p =
    let e = (and-eq-true_iff _ (eqb (units_at is_long is_put high legs) (units_at is_long is_call low legs))).0 p.even in
    let f = (and-eq-true_iff (eqb (units_at is_long is_call low legs) (units_at is_short is_call high legs)) (eqb (units_at is_long is_put high legs) (units_at is_short is_put low legs))).0 e.0 in
    let calls = eqb-true _ _ f.0 in
    let puts = eqb-true _ _ f.1 in
    let both = eqb-true _ _ e.1 in
    record {
      european = all_map legs (λ l h. eqb-true l.style 2 h) (all_of_all is_european legs p.european);
      low = low;
      high = high;
      strikes = two;
      apart = ltb-true low high p.apart;
      expiry = one_of_to_all (λ l. l.expiry) legs p.expiry;
      units = units_at is_long is_call low legs;
      low_calls = refl;
      high_calls = sym calls;
      high_puts = both;
      low_puts = sym puts ∙ both;
      others = all_of_all (is_box_leg low high) legs p.others;
    }

on_facts : (legs : List Leg) (ks : List ℕ) → strikes_of legs ≡ ks → box_on ks legs ≡ true → LongBox legs
on_facts legs [] e h = absurd (false≢true h)
on_facts legs (low ∷ []) e h = absurd (false≢true h)
on_facts legs (low ∷ high ∷ []) e h = parts_facts low high legs e (box_parts low high legs h)
on_facts legs (low ∷ high ∷ k ∷ ks) e h = absurd (false≢true h)

pub test_to_box : (legs : List Leg) → is_long_box legs ≡ true → LongBox legs
unfolding is_long_box
test_to_box legs e = on_facts legs (strikes_of legs) refl e

pub box_to_test : (legs : List Leg) → LongBox legs → is_long_box legs ≡ true
unfolding is_long_box box_at even_kinds
box_to_test legs b =
    rw b.strikes
    (simp (
      all_all_of is_european legs (all_map legs (λ l h. eq-eqb l.style 2 h) b.european),
      all_to_one_of (λ l. l.expiry) legs _ b.expiry.1,
      all_all_of (is_box_leg b.low b.high) legs b.others,
      lt-ltb b.low b.high b.apart,
      b.low_calls,
      b.high_calls,
      b.high_puts,
      b.low_puts,
      eq-eqb b.units b.units refl,
    ))

pub no_box_test : (legs : List Leg) → ¬ LongBox legs → is_long_box legs ≡ false
no_box_test legs other = go (is_long_box legs) refl
  where
    go : (t : Bool) → is_long_box legs ≡ t → is_long_box legs ≡ false
    go true e = absurd (other (test_to_box legs e))
    go false e = e

-- ---- its margin

pub box_margin : (legs : List Leg) (b : LongBox legs) → margin_of legs ≡ half_of b.units b.low b.high
unfolding margin_of half_box
box_margin legs b = rw (box_to_test legs b, b.strikes, b.low_calls)

pub other_margin : (legs : List Leg) → is_long_box legs ≡ false → margin_of legs ≡ worst_loss legs
unfolding margin_of
other_margin legs e = rw e

-- ---- what it nets

steps : (low high d n u : ℕ) → low ≤ high → (n - d * low) * u + (d * high - n) * u ≡ ((n - d * high) * u + (d * low - n) * u) + d * (u * (high - low))
steps low high d n u h =
    let i : high ≡ low + (high - low) = omega arith in
    let j : (n - d * low) + (d * high - n) ≡ ((n - d * high) + (d * low - n)) + d * (high - low) =
    omega (arith, mul-le-mul_left d h, mul-sub d high low) in
    omega (arith, ap (λ (t : ℕ). t * u) j)

-- at every price n/d, both sides taken d times
pub box_nets : (legs : List Leg) (b : LongBox legs) (d n : ℕ) → long_at d (at n) legs ≡ short_at d (at n) legs + d * (b.units * (b.high - b.low))
box_nets legs b d n =
    rw (long_kinds b.low b.high legs b.others d n, short_kinds b.low b.high legs b.others d n, b.low_calls, b.high_calls, b.high_puts, b.low_puts)
    (steps b.low b.high d n b.units (omega (arith, b.apart)))

-- ---- the margin covers every price, and of a group that is no long box nothing smaller does

pub margin_covers : (legs : List Leg) → units_in is_long is_call legs ≡ units_in is_short is_call legs → units_in is_long is_put legs ≡ units_in is_short is_put legs
    → (d n : ℕ) → short_at d (at n) legs ≤ long_at d (at n) legs + d * margin_of legs
margin_covers legs calls puts d n = go (is_long_box legs) refl
  where
    go : (t : Bool) → is_long_box legs ≡ t → short_at d (at n) legs ≤ long_at d (at n) legs + d * margin_of legs
    go true e = omega (arith, box_nets legs (test_to_box legs e) d n)
    go false e = rw (other_margin legs e) (cover legs calls puts d n)

pub margin_least : (legs : List Leg) → is_long_box legs ≡ false → (m : ℕ) → m < margin_of legs
    → (x : Leg) × Memᴰ x legs × (long_at 1 (at x.strike) legs + m < short_at 1 (at x.strike) legs)
margin_least legs e m h = nothing_less legs m (rw (other_margin legs e) at h)

-- ---- worst loss and margin

-- a long box loses nothing
pub box_worst : (legs : List Leg) → LongBox legs → worst_loss legs ≡ 0
box_worst legs b =
    elim (dec_lt 0 (worst_loss legs)) [
      | yes h ↦ let x = nothing_less legs 0 h in absurd (omega (arith, x.2, box_nets legs b 1 x.0.strike))
      | no h ↦ omega arith
    ]

pub worst_margin : (legs : List Leg) → worst_loss legs ≤ margin_of legs
worst_margin legs = go (is_long_box legs) refl
  where
    go : (t : Bool) → is_long_box legs ≡ t → worst_loss legs ≤ margin_of legs
    go true e = omega (arith, box_worst legs (test_to_box legs e))
    go false e = omega (arith, other_margin legs e)

-- the legs of two spreads, taken together, cost no more than the two where they are no long box
pub join_margins : (g k : ℕ) (a b j : List Leg) → Spread g a → Spread k b → Together a b j → is_long_box j ≡ false → margin_of j ≤ margin_of a + margin_of b
join_margins g k a b j sa sb t e = omega (arith, other_margin j e, merge g k a b j sa sb t, worst_margin a, worst_margin b)

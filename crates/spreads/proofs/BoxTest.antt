-- The test for a long box as the code makes it: one walk that asks each leg by itself and adds its units, then the units.
use Rattle.std.specs.Prelude.{Some, None}
use Prim.Native.Nat.{ℕ, ◌+◌, ◌≤◌, ◌<◌}
use mathlib.Core.Path.{◌≡◌, refl, sym, ◌∙◌}
use mathlib.Core.Bool.{Bool, true, false, ◌&&◌, and-eq-true_iff}
use mathlib.Core.List.{List, [], ◌∷◌, foldl}
use native.Mathlib.Omega.{arith}
use lib.Dec.{eqb, ltb}
use lib.ListN.{length, drop, get_or}
use borrow.Author.Tests.{eq-eqb}
use Rattle.records.specs.Lists.{all_of, All}
use Rattle.records.specs.Legs.{is_long, is_short, is_call, is_put, is_european}
use Rattle.records.specs.declared.legs.Leg.{Leg}
use Rattle.records.proofs.ListLaws.{all_of_and, all_of_all}
use Rattle.records.proofs.TableLaws.{Ranges}
use Rattle.spreads.specs.Spreads.{one_of, units_in}
use Rattle.spreads.specs.Boxes.{units_at, is_box_leg, even_kinds, box_at}
use Rattle.spreads.specs.Steps.Boxed.{fits_box, no_kinds, with_kind, are_even, boxed_at}
use Rattle.spreads.specs.Steps.Gathered.{with_right}
use Rattle.spreads.specs.Steps.Members.{leg_at_place, legs_at, OneGroup}
use Rattle.spreads.specs.declared.boxes.Kinds.{Kinds}
use Rattle.spreads.proofs.MemberLaws.{legs_next, legs_end, members_ranges, members_few}
use Rattle.spreads.proofs.GatheredLaws.{units_are}
use Rattle.spreads.proofs.BoxKinds.{long_calls_lem, short_calls_lem, long_puts, short_puts}

-- ---- a loop that asks a test of each leg in turn

pub record Passed (t : Leg → Bool) (xs ms : List ℕ) (i : ℕ) : Type 0 where
  pub many : i ≤ length ms
  pub is : all_of t (legs_at xs ms) ≡ all_of t (drop i (legs_at xs ms))

pub passed_none : {t : Leg → Bool} {xs ms : List ℕ} → Passed t xs ms 0
passed_none = record { many = omega arith; is = refl }

module _ {t : Leg → Bool} {xs ms : List ℕ} {i : ℕ} (p : Passed t xs ms i) where
  pub passed_done : length ms ≤ i → true ≡ all_of t (legs_at xs ms)
  unfolding all_of
  passed_done h = rw (p.is, legs_end xs ms i h)

  module _ (h : i < length ms) {l : Leg} (e : l ≡ leg_at_place xs (get_or ms i 0)) where
    pub passed_more : t l ≡ true → Passed t xs ms (i + 1)
    unfolding all_of
    passed_more q = record { many = omega arith; is = p.is ∙ rw (legs_next xs ms i l h e, q) }

    pub passed_stop : t l ≡ false → false ≡ all_of t (legs_at xs ms)
    unfolding all_of
    passed_stop q = rw (p.is, legs_next xs ms i l h e, q)

-- ---- each leg by itself

pub one_first : (legs ls : List Leg) (l : Leg) → legs ≡ l ∷ ls → all_of (λ k. eqb k.expiry l.expiry) legs ≡ one_of (λ k. k.expiry) legs
unfolding all_of one_of
one_first legs ls l e = rw (e, eq-eqb l.expiry l.expiry refl)

box_fits : (low high : ℕ) (legs ls : List Leg) (l : Leg) → legs ≡ l ∷ ls
    → box_at low high legs ≡ (all_of (fits_box low high l.expiry) legs && ltb low high && even_kinds low high legs)
unfolding box_at fits_box
box_fits low high legs ls l e =
    rw (
      all_of_and (λ k. is_european k && eqb k.expiry l.expiry) (is_box_leg low high) legs,
      all_of_and is_european (λ k. eqb k.expiry l.expiry) legs,
      one_first legs ls l e,
    )

fits_kinds : (low high e : ℕ) (legs : List Leg) → all_of (fits_box low high e) legs ≡ true → All (λ l. is_box_leg low high l ≡ true) legs
unfolding fits_box
fits_kinds low high e legs h =
    let p = all_of_and (λ k. is_european k && eqb k.expiry e) (is_box_leg low high) legs in
    all_of_all (is_box_leg low high) legs ((and-eq-true_iff (all_of (λ k. is_european k && eqb k.expiry e) legs) (all_of (is_box_leg low high) legs)).0 (sym p ∙ h)).1

-- ---- the units that the walk adds

each_right : (k : Kinds) (legs : List Leg)
    → foldl with_kind k legs ≡ record { calls = foldl (with_right is_call) k.calls legs; puts = foldl (with_right is_put) k.puts legs }
unfolding with_kind
each_right k [] = refl
each_right k (l ∷ legs) = each_right (with_kind k l) legs

walked_units : (legs : List Leg) → All (Ranges 32) legs → length legs ≤ 256 → (k : Kinds) → k ≡ foldl with_kind no_kinds legs
    → (k.calls.long.0 ≡ units_in is_long is_call legs)
    × (k.calls.short.0 ≡ units_in is_short is_call legs)
    × (k.puts.long.0 ≡ units_in is_long is_put legs)
    × (k.puts.short.0 ≡ units_in is_short is_put legs)
walked_units legs r few k e =
    let c = units_are is_call legs r few in
    let p = units_are is_put legs r few in
    rw (e, each_right no_kinds legs) (c.0, c.1, p.0, p.1)

-- ---- the answer

module _ {xs ms : List ℕ} (o : OneGroup xs ms) (h : 1 ≤ length ms) (low high : ℕ) {l : Leg} (e : l ≡ leg_at_place xs (get_or ms 0 0)) where
  fits : box_at low high (legs_at xs ms) ≡ (all_of (fits_box low high l.expiry) (legs_at xs ms) && ltb low high && even_kinds low high (legs_at xs ms))
  fits = box_fits low high (legs_at xs ms) (drop 1 (legs_at xs ms)) l (legs_next xs ms 0 l h e)

  pub not_fit : false ≡ all_of (fits_box low high l.expiry) (legs_at xs ms) → None ≡ boxed_at low high (legs_at xs ms)
  unfolding boxed_at
  not_fit a = rw (fits, ← a)

  module _ (a : true ≡ all_of (fits_box low high l.expiry) (legs_at xs ms)) {k : Kinds} (g : k ≡ foldl with_kind no_kinds (legs_at xs ms)) where
    kinds : All (λ l. is_box_leg low high l ≡ true) (legs_at xs ms)
    kinds = fits_kinds low high l.expiry (legs_at xs ms) (sym a)

    box_units : k.calls.long.0 ≡ units_at is_long is_call low (legs_at xs ms)
    box_units = (walked_units (legs_at xs ms) (members_ranges o) (members_few o) k g).0 ∙ long_calls_lem low high (legs_at xs ms) kinds

    box_even : box_at low high (legs_at xs ms) ≡ (ltb low high && are_even k)
    unfolding even_kinds
    box_even =
        let u = walked_units (legs_at xs ms) (members_ranges o) (members_few o) k g in
        fits
        ∙ rw (
          ← a,
          u.0,
          u.1,
          u.2,
          u.3,
          long_calls_lem low high (legs_at xs ms) kinds,
          short_calls_lem low high (legs_at xs ms) kinds,
          long_puts low high (legs_at xs ms) kinds,
          short_puts low high (legs_at xs ms) kinds,
        )

    -- what the code finds of the kinds
    module _ {even : Bool} (v : even ≡ are_even k) where
      tested : box_at low high (legs_at xs ms) ≡ (ltb low high && even)
      tested = rw v box_even

      pub is_box : {n : ℕ} → n ≡ k.calls.long.0 → (ltb low high && even) ≡ true → Some n ≡ boxed_at low high (legs_at xs ms)
      unfolding boxed_at
      is_box u t = rw (tested, t, u, box_units)

      pub no_box : (ltb low high && even) ≡ false → None ≡ boxed_at low high (legs_at xs ms)
      unfolding boxed_at
      no_box t = rw (tested, t)

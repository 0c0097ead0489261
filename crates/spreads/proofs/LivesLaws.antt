-- 13: the latest short expiry and the earliest long one, as they are gathered, and that no short is later than a long.
use Prim.Native.Nat.{ℕ, ◌≤◌, min, max}
use mathlib.Core.Path.{◌≡◌, refl, ◌∙◌}
use mathlib.Core.Bool.{Bool, true, false, cond}
use mathlib.Core.List.{List, [], ◌∷◌, foldl}
use native.Mathlib.Omega.{arith}
use lib.Dec.{leb}
use borrow.Author.Tests.{leb-true, le-leb}
use Rattle.records.specs.Lists.{only, most, least, All}
use Rattle.records.specs.Legs.{is_long, is_short}
use Rattle.records.specs.declared.legs.Leg.{Leg}
use Rattle.records.proofs.ListLaws.{all_map, all_zip}
use Rattle.records.proofs.Measures.{most_all, most_bound}
use Rattle.records.proofs.SameLaws.{bool_eq}
use Rattle.records.proofs.TableLaws.{Ranges}
use Rattle.spreads.specs.Spreads.{none_outlives}
use Rattle.spreads.specs.Steps.Gathered.{with_expiry, with_life, never, no_facts}
use Rattle.spreads.specs.declared.fact_parts.Lives.{Lives}
use Rattle.spreads.proofs.RuleLaws.{NoneOutlives, none_outlives_to_all, all_to_none_outlives}

-- 0, before every date, where there is no short
unfoldable latest_short : List Leg → ℕ
latest_short legs = most (λ l. only (is_short l) l.expiry) legs

-- `never` where there is no long
unfoldable earliest_long : List Leg → ℕ
earliest_long legs = least never (λ l. cond (is_long l) l.expiry never) legs

-- ---- what is gathered

late_one : (t : Bool) (v e r : ℕ) → max (cond t (max v e) v) r ≡ max v (max (only t e) r)
late_one true v e r = omega arith
late_one false v e r = omega arith

early_one : (t : Bool) (v e r : ℕ) → v ≤ never
    → (cond t (min v e) v ≤ never) × (min (cond t (min v e) v) r ≡ min v (min (cond t e never) r))
early_one true v e r h = (omega arith, omega arith)
early_one false v e r h = (omega arith, omega arith)

lives_after : (v : Lives) (legs : List Leg) → v.earliest_long ≤ never
    → ((foldl with_life v legs).latest_short ≡ max v.latest_short (latest_short legs))
    × ((foldl with_life v legs).earliest_long ≡ min v.earliest_long (earliest_long legs))
    × (earliest_long legs ≤ never)
unfolding with_expiry latest_short earliest_long most least
lives_after v [] h = (omega arith, omega arith, omega arith)
lives_after v (l ∷ legs) h =
    let q = early_one (is_long l) v.earliest_long l.expiry (earliest_long legs) h in
    let r = lives_after (with_life v l) legs q.0 in
    (r.0 ∙ late_one (is_short l) v.latest_short l.expiry (latest_short legs), r.1 ∙ q.1, omega (arith, r.2))

-- ---- the same in the words of the rule

module _ {A : Type 0} (top : ℕ) (f : A → ℕ) where
  least_all : (l : List A) → All (λ x. least top f l ≤ f x) l
  unfolding least
  least_all [] = tt
  least_all (x ∷ xs) = (omega arith, all_map xs (λ y h. omega arith) (least_all xs))

  least_bound : (b : ℕ) (l : List A) → b ≤ top → All (λ x. b ≤ f x) l → b ≤ least top f l
  unfolding least
  least_bound b [] h a = h
  least_bound b (x ∷ xs) h a = omega (arith, a.0, least_bound b xs h a.1)

-- what is asked, of a test that passed
taken : (t : Bool) (x y : ℕ) → t ≡ true → only t x ≤ y → x ≤ y
taken t x y e h = rw e at h

left : (t : Bool) (x y : ℕ) → t ≡ true → y ≤ cond t x never → y ≤ x
left t x y e h = rw e at h

early_to_none : (legs : List Leg) → latest_short legs ≤ earliest_long legs → NoneOutlives legs
unfolding latest_short earliest_long
early_to_none legs h =
    all_map legs
    (λ s q. all_map legs
    (λ l r a b. omega (arith, h, taken (is_short s) s.expiry _ a q, left (is_long l) l.expiry _ b r))
    (least_all never (λ l. cond (is_long l) l.expiry never) legs))
    (most_all (λ l. only (is_short l) l.expiry) legs)

-- a short in its range is no later than the earliest long
long_after : (t : Bool) (s l : Leg) → s.expiry ≤ never → (t ≡ true → s.expiry ≤ l.expiry) → s.expiry ≤ cond t l.expiry never
long_after true s l h f = f refl
long_after false s l h f = h

short_before : (t : Bool) (s : Leg) (legs : List Leg) → s.expiry ≤ never
    → (t ≡ true → All (λ l. is_long l ≡ true → s.expiry ≤ l.expiry) legs) → only t s.expiry ≤ earliest_long legs
unfolding earliest_long
short_before true s legs h f =
    least_bound never (λ l. cond (is_long l) l.expiry never) s.expiry legs h
    (all_map legs (λ l g. long_after (is_long l) s l h g) (f refl))
short_before false s legs h f = omega arith

none_to_early : (legs : List Leg) → All (Ranges 32) legs → NoneOutlives legs → latest_short legs ≤ earliest_long legs
unfolding latest_short
none_to_early legs r n =
    most_bound (λ l. only (is_short l) l.expiry) (earliest_long legs) legs
    (all_zip legs (λ s q f. short_before (is_short s) s legs (omega (arith, q.expiry)) (λ e. all_map legs (λ l g. g e) f)) r n)

-- of legs in their ranges
pub lives_are : (legs : List Leg) → All (Ranges 32) legs
    → leb (foldl with_life no_facts.lives legs).latest_short (foldl with_life no_facts.lives legs).earliest_long ≡ none_outlives legs
lives_are legs r =
    let v = lives_after no_facts.lives legs (omega arith) in
    let late : (foldl with_life no_facts.lives legs).latest_short ≡ latest_short legs = omega (arith, v.0) in
    let early : (foldl with_life no_facts.lives legs).earliest_long ≡ earliest_long legs = omega (arith, v.1, v.2) in
    rw (late, early)
    (bool_eq (leb (latest_short legs) (earliest_long legs)) (none_outlives legs)
    (λ e. all_to_none_outlives legs (early_to_none legs (leb-true _ _ e)))
    (λ e. le-leb _ _ (none_to_early legs r (none_outlives_to_all legs e))))

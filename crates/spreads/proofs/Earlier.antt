-- The leg that a refusal names, beside an earlier one of its group.
use Prim.Native.Nat.{ℕ, zero, suc, ◌+◌}
use mathlib.Core.Path.{◌≡◌, refl, sym, ap, ◌∙◌}
use mathlib.Core.Bool.{Bool, true, false, not, ◌&&◌, ◌||◌, and-eq-true_iff, not-not}
use mathlib.Core.List.{List, [], ◌∷◌, ◌++◌, Memᴰ}
use native.Mathlib.Numerals.{add-one}
use native.Mathlib.Omega.{arith}
use lib.Dec.{eqb, ltb}
use lib.ListN.{take, drop}
use borrow.Author.Tests.{eq-eqb, eqb-true}
use Rattle.records.specs.Lists.{keep, all_of}
use Rattle.records.specs.declared.legs.Leg.{Leg}
use Rattle.records.proofs.ListLaws.{all_of_append}
use Rattle.spreads.specs.Spreads.{group_of, one_of, doubled, none_doubled, outlives, none_outlives, legs_up_to}
use Rattle.spreads.specs.Demands.{Points, Beside, LegsBeside}
use Rattle.records.proofs.Cuts.{cut, cut_none, cut_map}
use Rattle.spreads.proofs.PairLaws.{pairs_more, none_more}
use Rattle.spreads.proofs.PointLaws.{group_in_lem}

-- ---- an element that fails

module _ {A : Type 0} where
  some_fails : (t : A → Bool) (l : List A) → all_of t l ≡ false → (x : A) × Memᴰ x l × (t x ≡ false)
  unfolding all_of
  some_fails t [] e = let z : ◌≡◌ {A = ℕ} 0 1 = cc in absurd (omega arith)
  some_fails t (x ∷ l) e = go (t x) refl e (some_fails t l)
    where
      go : (b : Bool) → t x ≡ b → (b && all_of t l) ≡ false → (all_of t l ≡ false → (y : A) × Memᴰ y l × (t y ≡ false))
          → (y : A) × Memᴰ y (x ∷ l) × (t y ≡ false)
      go true q h f = let r = f h in (r.0, Memᴰ.tail r.1, r.2)
      go false q h f = (x, Memᴰ.head refl, q)

-- ---- of a condition that a leg more can break only beside one of the others

module _ (kept : List Leg → Bool) (r : Leg → Leg → Bool) (none : kept [] ≡ true)
    (more : (legs : List Leg) (x : Leg) → kept legs ≡ true → all_of (λ y. not (r y x)) legs ≡ true → kept (legs ++ x ∷ []) ≡ true)
    (g : ℕ) (placement : List Leg) where
  -- up to a record, not with it
  kept_before : (place : ℕ) → Points kept g placement place → kept (group_of g (take place placement)) ≡ true
  unfolding group_of keep legs_up_to
  kept_before zero p = none
  kept_before (suc i) p = rw add-one at (p.before i (omega arith))

  other_fails : (legs : List Leg) (x : Leg) → kept legs ≡ true → kept (legs ++ x ∷ []) ≡ false → all_of (λ y. not (r y x)) legs ≡ false
  other_fails legs x a b = go (all_of (λ y. not (r y x)) legs) refl
    where
      go : (t : Bool) → all_of (λ y. not (r y x)) legs ≡ t → t ≡ false
      go true q =
          let z : ◌≡◌ {A = Bool} true false = sym (more legs x a q) ∙ b in
          let w : ◌≡◌ {A = ℕ} 0 1 = cc in
          absurd (omega arith)
      go false q = refl

  at_leg : (place : ℕ) (rest : List Leg) → drop place placement ≡ rest → Points kept g placement place → Beside r g placement place
  unfolding legs_up_to
  at_leg place [] e p = let n = cut_none place placement e in absurd (omega (arith, p.there))
  at_leg place (l ∷ ls) e p =
      let named : l.group ≡ g = sym (cut_map (λ k. k.group) place placement l ls 0 e) ∙ p.member in
      let with : group_of g (take (place + 1) placement) ≡ group_of g (take place placement) ++ l ∷ [] =
      rw (add-one, (cut place placement l ls e).0) (group_in_lem g (take place placement) l (eq-eqb l.group g named)) in
      let x = some_fails (λ y. not (r y l)) (group_of g (take place placement)) (other_fails (group_of g (take place placement)) l (kept_before place p) (sym (ap kept with) ∙ p.breaks)) in
      record { leg = l; other = x.0; there = rw e; earlier = x.1; so = sym (not-not (r x.0 l)) ∙ ap not x.2 }

  beside : (place : ℕ) → Points kept g placement place → Beside r g placement place
  beside place p = at_leg place (drop place placement) refl p

-- ---- the conditions

one_more : (f : Leg → ℕ) (legs : List Leg) (x : Leg) → one_of f legs ≡ true → all_of (λ y. not (not (eqb (f y) (f x)))) legs ≡ true → one_of f (legs ++ x ∷ []) ≡ true
unfolding one_of all_of
one_more f [] x a b = refl
one_more f (l ∷ ls) x a b =
    let h : eqb (f x) (f l) ≡ true =
    eq-eqb (f x) (f l) (sym (eqb-true (f l) (f x) (sym (not-not (eqb (f l) (f x))) ∙ ((and-eq-true_iff (not (not (eqb (f l) (f x)))) _).0 b).0))) in
    rw (all_of_append (λ k. eqb (f k) (f l)) ls (x ∷ []), a, h)

doubled_more : (legs : List Leg) (x : Leg) → none_doubled legs ≡ true → all_of (λ y. not (doubled y x || doubled x y)) legs ≡ true
    → none_doubled (legs ++ x ∷ []) ≡ true
doubled_more legs x a b = rw (none_more legs x, a, b)

-- a leg does not outlive itself
not_itself : (x : Leg) → not (outlives x x) ≡ true
unfolding outlives
not_itself x = go (eqb x.side 2) (eqb x.side 1) refl refl
  where
    go : (a b : Bool) → eqb x.side 2 ≡ a → eqb x.side 1 ≡ b → not (a && b && ltb x.expiry x.expiry) ≡ true
    go true true p q = absurd (omega (arith, eqb-true x.side 2 p, eqb-true x.side 1 q))
    go true false p q = refl
    go false b p q = refl

outlives_more : (legs : List Leg) (x : Leg) → none_outlives legs ≡ true → all_of (λ y. not (outlives y x || outlives x y)) legs ≡ true
    → none_outlives (legs ++ x ∷ []) ≡ true
unfolding none_outlives
outlives_more legs x a b = pairs_more outlives legs x (not_itself x) ∙ rw (a, b)

pub legs_beside : LegsBeside
unfolding one_of none_doubled none_outlives all_of
legs_beside g placement place =
    record {
      field = λ f. beside (one_of f) (λ k l. not (eqb (f k) (f l))) refl (one_more f) g placement place;
      series = beside none_doubled (λ k l. doubled k l || doubled l k) refl doubled_more g placement place;
      lives = beside none_outlives (λ k l. outlives k l || outlives l k) refl outlives_more g placement place;
    }

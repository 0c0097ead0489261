-- Sums over groups 1 to n: a sum by groups, unplaced and then each, and how many legs the groups have.
use mathlib.Core.Path.{◌≡◌, refl, ◌∙◌}
use mathlib.Core.List.{List, [], ◌∷◌}
use Prim.Native.Nat.{ℕ, zero, suc, ◌+◌, ◌*◌, ◌≤◌, ◌<◌}
use native.Mathlib.Decide.{dec_le, ℕ_discrete}
use native.Mathlib.Omega.{arith}
use lib.Dec.{leb, eqb}
use lib.ListN.{length}
use borrow.Author.Tests.{eq-eqb, ne_eqb, le-leb, lt-leb}
use Rattle.records.specs.Lists.{only, sum_of, keep, All}
use Rattle.records.specs.declared.legs.Leg.{Leg}
use Rattle.records.proofs.ListLaws.{all_map, every}
use Rattle.records.proofs.Measures.{only_le, sum_bound, sum_lin, sum_ext, sum_keep}
use Rattle.spreads.specs.Spreads.{group_of}
use Rattle.spreads.specs.Work.{total}

-- ---- a sum by groups

rank_zero : (m x : ℕ) → only (leb m 0) x ≡ only (eqb m 0) x
rank_zero m x =
    elim (ℕ_discrete m 0) [
      | yes e ↦ rw (le-leb m 0 (omega arith), eq-eqb m 0 e) refl
      | no k ↦ rw (lt-leb m 0 (omega arith), ne_eqb m 0 k) refl
    ]

rank : (m n x : ℕ) → only (leb m (suc n)) x ≡ only (leb m n) x + only (eqb m (suc n)) x
rank m n x =
    elim (dec_le m n) [
      | yes h ↦ rw (le-leb m (suc n) (omega arith), le-leb m n h, ne_eqb m (suc n) (omega arith)) (omega arith)
      | no h ↦ elim (ℕ_discrete m (suc n)) [
        | yes e ↦ rw (le-leb m (suc n) (omega arith), lt-leb m n (omega arith), eq-eqb m (suc n) e) (omega arith)
        | no k ↦ rw (lt-leb m (suc n) (omega arith), lt-leb m n (omega arith), ne_eqb m (suc n) k) (omega arith)
      ]
    ]

module _ {A : Type 0} (f : A → ℕ) (group : A → ℕ) (l : List A) where
  pub by_group_upto : (n : ℕ) → sum_of (λ x. only (leb (group x) n) (f x)) l
      ≡ sum_of f (keep (λ x. eqb (group x) 0) l) + total n (λ g. sum_of f (keep (λ x. eqb (group x) g) l))
  unfolding total
  by_group_upto zero =
      omega (
        arith,
        sum_keep f (λ x. eqb (group x) 0) l,
        sum_ext (λ x. only (leb (group x) 0) (f x)) (λ x. only (eqb (group x) 0) (f x)) l (every l (λ x. rank_zero (group x) (f x))),
      )
  by_group_upto (suc n) =
      omega (
        arith,
        by_group_upto n,
        sum_keep f (λ x. eqb (group x) (suc n)) l,
        sum_lin 1 1 1 (λ x. only (leb (group x) (suc n)) (f x)) (λ x. only (leb (group x) n) (f x)) (λ x. only (eqb (group x) (suc n)) (f x)) l
            (every l (λ x. omega (arith, rank (group x) n (f x)))),
      )

  pub by_group : (n : ℕ) → All (λ x. group x ≤ n) l
      → sum_of f l ≡ sum_of f (keep (λ x. eqb (group x) 0) l) + total n (λ g. sum_of f (keep (λ x. eqb (group x) g) l))
  by_group n a = sum_ext f (λ x. only (leb (group x) n) (f x)) l (all_map l (λ x h. rw (le-leb (group x) n h) refl) a) ∙ by_group_upto n

-- ---- totals

-- group by group within d times the claims, so together
pub total_le : (n d : ℕ) (F G M : ℕ → ℕ) → ((g : ℕ) → 1 ≤ g → g ≤ n → F g ≤ G g + d * M g) → total n F ≤ total n G + d * total n M
unfolding total
total_le zero d F G M h = omega arith
total_le (suc n) d F G M h = omega (arith, h (suc n) (omega arith) (omega arith), total_le n d F G M (λ g a b. h g a (omega arith)))

pub total_ext : (n : ℕ) (F G : ℕ → ℕ) → ((g : ℕ) → 1 ≤ g → g ≤ n → F g ≡ G g) → total n F ≡ total n G
unfolding total
total_ext zero F G h = refl
total_ext (suc n) F G h = omega (arith, h (suc n) (omega arith) (omega arith), total_ext n F G (λ g a b. h g a (omega arith)))

-- what is nothing above n adds nothing
pub total_rest : (n m : ℕ) (F : ℕ → ℕ) → ((g : ℕ) → n < g → F g ≡ 0) → n ≤ m → total m F ≡ total n F
unfolding total
total_rest n zero F h b = let e : n ≡ 0 = omega arith in rw e refl
total_rest n (suc m) F h b =
    elim (dec_le n m) [
      | yes a ↦ omega (arith, total_rest n m F h a, h (suc m) (omega arith))
      | no a ↦ let e : n ≡ suc m = omega arith in rw e refl
    ]

-- ---- the groups of a placement

-- no leg names a group above n, so that such a group has none
pub group_above : (g n : ℕ) (legs : List Leg) → All (λ l. l.group ≤ n) legs → n < g → group_of g legs ≡ []
unfolding group_of keep
group_above g n [] a h = refl
group_above g n (l ∷ ls) a h = rw (ne_eqb l.group g (omega (arith, a.0))) (group_above g n ls a.1 h)

sum_ones : (legs : List Leg) → length legs ≡ sum_of (λ l. 1) legs
unfolding sum_of
sum_ones [] = refl
sum_ones (l ∷ ls) = omega (arith, sum_ones ls)

-- no more legs in groups 1 to n than there are
pub legs_in_groups : (legs : List Leg) (n : ℕ) → total n (λ g. length (group_of g legs)) ≤ length legs
unfolding group_of
legs_in_groups legs n =
    omega (
      arith,
      total_ext n (λ g. length (group_of g legs)) (λ g. sum_of (λ l. 1) (group_of g legs)) (λ g a b. sum_ones (group_of g legs)),
      by_group_upto (λ l. 1) (λ l. l.group) legs n,
      sum_bound (λ l. only (leb l.group n) 1) 1 legs (every legs (λ l. only_le (leb l.group n) 1)),
    )

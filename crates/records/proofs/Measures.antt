-- Sums and greatest values over any list.
use mathlib.Core.Path.{◌≡◌, refl}
use mathlib.Core.Bool.{Bool, true, false, cond, not}
use mathlib.Core.List.{List, [], ◌∷◌, ◌++◌, map, Memᴰ}
use Prim.Native.Nat.{ℕ, suc, ◌+◌, ◌*◌, ◌≤◌, ◌<◌}
use native.Mathlib.Nat.{le_trans, le-max_left, le-max_right}
use native.Mathlib.Decide.{dec_le}
use native.Mathlib.Omega.{arith}
use lib.ListN.{length}
use Rattle.records.specs.Lists.{only, sum_of, most, keep, All}
use Rattle.records.proofs.ListLaws.{all_map, every}

pub only_split : (b : Bool) (n : ℕ) → n ≡ only b n + only (not b) n
only_split true n = omega arith
only_split false n = omega arith

pub only_le : (b : Bool) (n : ℕ) → only b n ≤ n
only_le true n = omega arith
only_le false n = omega arith

pub most_map : {A B : Type 0} (f : A → B) (g : B → ℕ) (h : A → ℕ) → ((x : A) → g (f x) ≡ h x) → (l : List A) → most h l ≡ most g (map f l)
unfolding most
most_map f g h e [] = refl
most_map f g h e (x ∷ l) = omega (arith, e x, most_map f g h e l)

pub sum_map : {A B : Type 0} (f : A → B) (g : B → ℕ) (l : List A) → sum_of g (map f l) ≡ sum_of (λ x. g (f x)) l
unfolding sum_of
sum_map f g [] = refl
sum_map f g (x ∷ l) = rw (sum_map f g l)

module _ {A : Type 0} where
  -- c times a sum is a times another and b times a third, where that holds at each element
  pub sum_lin : (c a b : ℕ) (f g h : A → ℕ) (l : List A) → All (λ x. c * f x ≡ a * g x + b * h x) l → c * sum_of f l ≡ a * sum_of g l + b * sum_of h l
  unfolding sum_of
  sum_lin c a b f g h [] e = omega arith
  sum_lin c a b f g h (x ∷ xs) e = omega (arith, e.0, sum_lin c a b f g h xs e.1)

  pub sum_none : (f : A → ℕ) (n : ℕ) → sum_of f [] ≤ n
  unfolding sum_of
  sum_none f n = omega arith

  pub most_all : (f : A → ℕ) (l : List A) → All (λ x. f x ≤ most f l) l
  unfolding most
  most_all f [] = tt
  most_all f (x ∷ xs) = (le-max_left _ _, all_map xs (λ y h. le_trans h (le-max_right _ _)) (most_all f xs))

  pub most_hit : (f : A → ℕ) (l : List A) (m : ℕ) → m < most f l → (x : A) × Memᴰ x l × (m < f x)
  unfolding most
  most_hit f [] m h = absurd (omega arith)
  most_hit f (x ∷ xs) m h =
      elim (dec_le (suc m) (f x)) [
        | yes k ↦ (x, Memᴰ.head refl, k)
        | no k ↦ let r = most_hit f xs m (omega arith) in (r.0, Memᴰ.tail r.1, r.2)
      ]

  pub most_bound : (f : A → ℕ) (b : ℕ) (l : List A) → All (λ x. f x ≤ b) l → most f l ≤ b
  unfolding most
  most_bound f b [] a = omega arith
  most_bound f b (x ∷ xs) a = omega (arith, a.0, most_bound f b xs a.1)

  pub sum_ext : (f g : A → ℕ) (l : List A) → All (λ x. f x ≡ g x) l → sum_of f l ≡ sum_of g l
  unfolding sum_of
  sum_ext f g [] e = refl
  sum_ext f g (x ∷ xs) e = omega (arith, e.0, sum_ext f g xs e.1)

  pub sum_keep : (f : A → ℕ) (t : A → Bool) (l : List A) → sum_of f (keep t l) ≡ sum_of (λ x. only (t x) (f x)) l
  unfolding sum_of keep
  sum_keep f t [] = refl
  sum_keep f t (x ∷ xs) = go (t x) (sum_keep f t xs)
    where
      go : (b : Bool) → sum_of f (keep t xs) ≡ sum_of (λ x. only (t x) (f x)) xs → sum_of f (cond b (x ∷ keep t xs) (keep t xs)) ≡ only b (f x) + sum_of (λ x. only (t x) (f x)) xs
      go true e = omega arith
      go false e = omega arith

  -- those that pass a test, and the rest
  pub sum_split : (f : A → ℕ) (t : A → Bool) (l : List A) → sum_of f l ≡ sum_of (λ x. only (t x) (f x)) l + sum_of f (keep (λ x. not (t x)) l)
  sum_split f t l =
      omega (
        arith,
        sum_keep f (λ x. not (t x)) l,
        sum_lin 1 1 1 f (λ x. only (t x) (f x)) (λ x. only (not (t x)) (f x)) l
            (every l (λ x. omega (arith, only_split (t x) (f x)))),
      )

  pub sum_step : (f : A → ℕ) (x : A) (l ls : List A) → l ≡ x ∷ ls → sum_of f l ≡ f x + sum_of f ls
  unfolding sum_of
  sum_step f x l ls e = rw e

  pub sum_over : (f : A → ℕ) (l : List A) → l ≡ [] → sum_of f l ≡ 0
  unfolding sum_of
  sum_over f l e = rw e

  pub sum_append : (f : A → ℕ) (a b : List A) → sum_of f (a ++ b) ≡ sum_of f a + sum_of f b
  unfolding sum_of
  sum_append f [] b = omega arith
  sum_append f (x ∷ a) b = omega (arith, sum_append f a b)

  pub sum_bound : (f : A → ℕ) (b : ℕ) (l : List A) → All (λ x. f x ≤ b) l → sum_of f l ≤ b * length l
  unfolding sum_of
  sum_bound f b [] a = omega arith
  sum_bound f b (x ∷ xs) a = omega (arith, a.0, sum_bound f b xs a.1)

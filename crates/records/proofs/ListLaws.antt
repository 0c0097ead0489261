-- Claims about all, choices, tests and parts, of any list.
use mathlib.Core.Path.{◌≡◌, refl, sym, ap, ◌∙◌}
use mathlib.Core.Bool.{Bool, true, false, cond, not, ◌&&◌, and_assoc, and-eq-true_iff}
use mathlib.Core.List.{List, [], ◌∷◌, ◌++◌, map}
use Prim.Native.Nat.{ℕ, zero, suc, ◌+◌, ◌-◌, ◌≤◌, ◌<◌, min}
use native.Mathlib.Nat.{not-suc-le-zero, le_of_suc-le-suc}
use native.Mathlib.Decide.{dec_le}
use native.Mathlib.Omega.{arith}
use lib.ListN.{length, get_or, take, drop}
use lib.Seq.{take_all, take-add, take-take, drop_at, length-take-le}
use Rattle.records.specs.Lists.{keep, all_of, All}

pub map_all : {A B : Type 0} (f : A → B) (P : B → Type 0) (Q : A → Type 0) (l : List A) → ((x : A) → Q x → P (f x)) → All Q l → All P (map f l)
map_all f P Q [] h a = tt
map_all f P Q (x ∷ l) h a = (h x a.0, map_all f P Q l h a.1)

swap : (a b c d : Bool) → (a && b && (c && d)) ≡ (a && c && (b && d))
swap false b c d = refl
swap true true c d = refl
swap true false true d = refl
swap true false false d = refl

module _ {A : Type 0} where
  pub all_map : {P Q : A → Type 0} (l : List A) → ((x : A) → P x → Q x) → All P l → All Q l
  all_map [] f a = tt
  all_map (x ∷ xs) f a = (f x a.0, all_map xs f a.1)

  pub all_zip : {P Q R : A → Type 0} (l : List A) → ((x : A) → P x → Q x → R x) → All P l → All Q l → All R l
  all_zip [] f a b = tt
  all_zip (x ∷ xs) f a b = (f x a.0 b.0, all_zip xs f a.1 b.1)

  pub all_append : (P : A → Type 0) (a b : List A) → All P a → All P b → All P (a ++ b)
  all_append P [] b p q = q
  all_append P (x ∷ a) b p q = (p.0, all_append P a b p.1 q)

  pub all_at : (P : A → Type 0) (l : List A) (i : ℕ) (z : A) → All P l → i < length l → P (get_or l i z)
  all_at P [] i z a h = absurd (not-suc-le-zero h)
  all_at P (x ∷ l) zero z a h = a.0
  all_at P (x ∷ l) (suc i) z a h = all_at P l i z a.1 (le_of_suc-le-suc h)

  pub every : {P : A → Type 0} (l : List A) → ((x : A) → P x) → All P l
  every [] f = tt
  every (x ∷ xs) f = (f x, every xs f)

  pub all_keep : (P : A → Type 0) (t : A → Bool) (l : List A) → All P l → All P (keep t l)
  unfolding keep
  all_keep P t [] a = tt
  all_keep P t (x ∷ xs) a = go (t x) (all_keep P t xs a.1)
    where
      go : (b : Bool) → All P (keep t xs) → All P (cond b (x ∷ keep t xs) (keep t xs))
      go true r = (a.0, r)
      go false r = r

  pub length_keep : (t : A → Bool) (l : List A) → length (keep t l) ≤ length l
  unfolding keep
  length_keep t [] = omega arith
  length_keep t (x ∷ xs) = go (t x) (length_keep t xs)
    where
      go : (b : Bool) → length (keep t xs) ≤ length xs → length (cond b (x ∷ keep t xs) (keep t xs)) ≤ suc (length xs)
      go true e = omega arith
      go false e = omega arith

  -- the values of those whose value passes are the values that pass
  pub keep_map : {B : Type 0} (f : A → B) (t : B → Bool) (l : List A) → map f (keep (λ x. t (f x)) l) ≡ keep t (map f l)
  unfolding keep
  keep_map f t [] = refl
  keep_map f t (x ∷ l) = rw (sym (keep_map f t l)) (go (t (f x)))
    where
      go : (b : Bool) → map f (cond b (x ∷ keep (λ y. t (f y)) l) (keep (λ y. t (f y)) l)) ≡ cond b (f x ∷ map f (keep (λ y. t (f y)) l)) (map f (keep (λ y. t (f y)) l))
      go true = refl
      go false = refl

  pub keep_keep : (t : A → Bool) (l : List A) → keep t (keep t l) ≡ keep t l
  unfolding keep
  keep_keep t [] = refl
  keep_keep t (x ∷ l) = go (t x) refl (keep_keep t l)
    where
      go : (b : Bool) → t x ≡ b → keep t (keep t l) ≡ keep t l → keep t (cond b (x ∷ keep t l) (keep t l)) ≡ cond b (x ∷ keep t l) (keep t l)
      go true e k = rw (e, k)
      go false e k = k

  -- ---- one element more

  pub keep_in : (t : A → Bool) (x : A) (l ls : List A) → l ≡ x ∷ ls → t x ≡ true → keep t l ≡ x ∷ keep t ls
  unfolding keep
  keep_in t x l ls e h = rw (e, h)

  pub keep_out : (t : A → Bool) (x : A) (l ls : List A) → l ≡ x ∷ ls → t x ≡ false → keep t l ≡ keep t ls
  unfolding keep
  keep_out t x l ls e h = rw (e, h)

  pub keep_none : (t : A → Bool) (l : List A) → l ≡ [] → keep t l ≡ []
  unfolding keep
  keep_none t l e = rw e

  pub keep_append : (t : A → Bool) (a b : List A) → keep t (a ++ b) ≡ keep t a ++ keep t b
  unfolding keep
  keep_append t [] b = refl
  keep_append t (x ∷ a) b = rw (keep_append t a b) (go (t x))
    where
      go : (c : Bool) → cond c (x ∷ keep t a ++ keep t b) (keep t a ++ keep t b) ≡ cond c (x ∷ keep t a) (keep t a) ++ keep t b
      go true = refl
      go false = refl

  -- ---- tests of all elements

  pub all_of_all : (t : A → Bool) (l : List A) → all_of t l ≡ true → All (λ x. t x ≡ true) l
  unfolding all_of
  all_of_all t [] e = tt
  all_of_all t (x ∷ xs) e =
      let p = (and-eq-true_iff (t x) (all_of t xs)).0 e in
      (p.0, all_of_all t xs p.1)

  pub all_all_of : (t : A → Bool) (l : List A) → All (λ x. t x ≡ true) l → all_of t l ≡ true
  unfolding all_of
  all_all_of t [] a = refl
  all_all_of t (x ∷ xs) a = rw a.0 (all_all_of t xs a.1)

  pub all_of_append : (t : A → Bool) (a b : List A) → all_of t (a ++ b) ≡ (all_of t a && all_of t b)
  unfolding all_of
  all_of_append t [] b = refl
  all_of_append t (x ∷ a) b = rw (all_of_append t a b, and_assoc)

  pub all_of_and : (s t : A → Bool) (l : List A) → all_of (λ x. s x && t x) l ≡ (all_of s l && all_of t l)
  unfolding all_of
  all_of_and s t [] = refl
  all_of_and s t (x ∷ l) = rw (all_of_and s t l) (swap (s x) (t x) (all_of s l) (all_of t l))

  -- none that passes t passes s
  pub all_of_keep : (t s : A → Bool) (l : List A) → all_of (λ x. not (t x && s x)) l ≡ all_of (λ x. not (s x)) (keep t l)
  unfolding all_of keep
  all_of_keep t s [] = refl
  all_of_keep t s (x ∷ l) = rw (all_of_keep t s l) (go (t x))
    where
      go : (c : Bool) → (not (c && s x) && all_of (λ x. not (s x)) (keep t l)) ≡ all_of (λ x. not (s x)) (cond c (x ∷ keep t l) (keep t l))
      go true = refl
      go false = refl

  -- ---- parts

  -- two counts take the same where both reach the end, or are one
  pub take_min : (m n : ℕ) (l : List A) → m ≡ min n (length l) → take m l ≡ take n l
  take_min m n l e =
      elim (dec_le n (length l)) [
        | yes h ↦ let q : m ≡ n = omega arith in rw q
        | no h ↦ take_all m l (omega arith) ∙ sym (take_all n l (omega arith))
      ]

  -- a part of a part, which lies wholly in it
  pub take_part : (k m size : ℕ) (l : List A) → k + m ≤ size → k ≤ length l → take m (drop k (take size l)) ≡ take m (drop k l)
  take_part k m size l h g =
      let q : size ≡ k + (size - k) = omega arith in
      let e : drop k (take size l) ≡ take (size - k) (drop k l) =
      ap (λ (n : ℕ). drop k (take n l)) q ∙ rw (take-add k (size - k) l) (drop_at (take k l) (take (size - k) (drop k l)) k (length-take-le k l g)) in
      rw e (take-take m (size - k) (drop k l) (omega arith))

  pub all_take : (P : A → Type 0) (n : ℕ) (l : List A) → All P l → All P (take n l)
  all_take P zero l a = tt
  all_take P (suc n) [] a = tt
  all_take P (suc n) (x ∷ l) a = (a.0, all_take P n l a.1)

  pub all_drop : (P : A → Type 0) (n : ℕ) (l : List A) → All P l → All P (drop n l)
  all_drop P zero l a = a
  all_drop P (suc n) [] a = tt
  all_drop P (suc n) (x ∷ l) a = all_drop P n l a.1

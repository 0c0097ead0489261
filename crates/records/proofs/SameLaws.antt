-- Two lists compared element by element.
use mathlib.Core.Path.{◌≡◌, refl, sym, ◌∙◌}
use mathlib.Core.Bool.{Bool, true, false, and-eq-true_iff, false≢true}
use mathlib.Core.List.{List, [], ◌∷◌, ◌++◌}
use Prim.Native.Nat.{ℕ}
use lib.Dec.{eqb}
use borrow.Author.Tests.{eq-eqb, eqb-true}
use Rattle.records.specs.Lists.{same}

pub same_refl : (x : List ℕ) → same x x ≡ true
unfolding same
same_refl [] = refl
same_refl (x ∷ xs) = rw (eq-eqb x x refl, same_refl xs)

pub same_true : (x y : List ℕ) → same x y ≡ true → x ≡ y
unfolding same
same_true [] [] e = refl
same_true [] (y ∷ ys) e = absurd (false≢true e)
same_true (x ∷ xs) [] e = absurd (false≢true e)
same_true (x ∷ xs) (y ∷ ys) e =
    let h = (and-eq-true_iff (eqb x y) (same xs ys)).0 e in
    rw (eqb-true x y h.0, same_true xs ys h.1)

-- after one front
pub same_both : (x y z : List ℕ) → same (x ++ y) (x ++ z) ≡ same y z
unfolding same
same_both [] y z = refl
same_both (a ∷ x) y z = rw (eq-eqb a a refl, same_both x y z)

pub true_same : (x y : List ℕ) → x ≡ y → same x y ≡ true
true_same x y e = rw e (same_refl y)

-- two tests that each pass where the other does
pub bool_eq : (a b : Bool) → (a ≡ true → b ≡ true) → (b ≡ true → a ≡ true) → a ≡ b
bool_eq true b f g = sym (f refl)
bool_eq false true f g = g refl
bool_eq false false f g = refl

pub same_sym : (x y : List ℕ) → same x y ≡ same y x
same_sym x y = bool_eq _ _ (λ e. true_same y x (sym (same_true x y e))) (λ e. true_same x y (sym (same_true y x e)))

pub same_swap : (x y z : List ℕ) → same y z ≡ true → same x y ≡ same x z
same_swap x y z e =
    let l = same_true y z e in
    bool_eq _ _ (λ f. true_same x z (same_true x y f ∙ l)) (λ f. true_same x y (same_true x z f ∙ sym l))

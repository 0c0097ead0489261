-- A list cut where its first j elements end.
use Prim.Native.Nat.{ℕ, zero, suc, ◌≤◌, ◌<◌}
use mathlib.Core.Path.{◌≡◌, refl}
use mathlib.Core.List.{List, [], ◌∷◌, ◌++◌, map}
use native.Mathlib.Omega.{arith}
use lib.ListN.{length, take, drop, get_or}

module _ {A : Type 0} where
  pub cut : (j : ℕ) (l : List A) (x : A) (ls : List A) → drop j l ≡ x ∷ ls → (take (suc j) l ≡ take j l ++ x ∷ []) × (drop (suc j) l ≡ ls)
  cut zero [] x ls e = let z : ◌≡◌ {A = ℕ} 0 1 = cc in absurd (omega arith)
  cut zero (y ∷ l) x ls e = (cc, cc)
  cut (suc j) [] x ls e = let z : ◌≡◌ {A = ℕ} 0 1 = cc in absurd (omega arith)
  cut (suc j) (y ∷ l) x ls e = let r = cut j l x ls e in (rw r.0, r.1)

  pub cut_end : (j : ℕ) (l : List A) → drop j l ≡ [] → take j l ≡ l
  cut_end zero [] e = refl
  cut_end zero (y ∷ l) e = let z : ◌≡◌ {A = ℕ} 0 1 = cc in absurd (omega arith)
  cut_end (suc j) [] e = refl
  cut_end (suc j) (y ∷ l) e = rw (cut_end j l e)

  -- what stands there, and that something does
  pub cut_at : (j : ℕ) (l : List A) (x : A) (ls : List A) (z : A) → drop j l ≡ x ∷ ls → get_or l j z ≡ x
  cut_at zero [] x ls z e = let n : ◌≡◌ {A = ℕ} 0 1 = cc in absurd (omega arith)
  cut_at zero (y ∷ l) x ls z e = cc
  cut_at (suc j) [] x ls z e = let n : ◌≡◌ {A = ℕ} 0 1 = cc in absurd (omega arith)
  cut_at (suc j) (y ∷ l) x ls z e = cut_at j l x ls z e

  pub cut_past : (j : ℕ) (l : List A) (z : A) → drop j l ≡ [] → get_or l j z ≡ z
  cut_past zero [] z e = refl
  cut_past zero (y ∷ l) z e = let n : ◌≡◌ {A = ℕ} 0 1 = cc in absurd (omega arith)
  cut_past (suc j) [] z e = refl
  cut_past (suc j) (y ∷ l) z e = cut_past j l z e

  pub cut_short : (j : ℕ) (l : List A) (x : A) (ls : List A) → drop j l ≡ x ∷ ls → j < length l
  cut_short zero [] x ls e = let n : ◌≡◌ {A = ℕ} 0 1 = cc in absurd (omega arith)
  cut_short zero (y ∷ l) x ls e = omega arith
  cut_short (suc j) [] x ls e = let n : ◌≡◌ {A = ℕ} 0 1 = cc in absurd (omega arith)
  cut_short (suc j) (y ∷ l) x ls e = omega (arith, cut_short j l x ls e)

  pub cut_none : (j : ℕ) (l : List A) → drop j l ≡ [] → length l ≤ j
  cut_none zero [] e = omega arith
  cut_none zero (y ∷ l) e = let n : ◌≡◌ {A = ℕ} 0 1 = cc in absurd (omega arith)
  cut_none (suc j) [] e = omega arith
  cut_none (suc j) (y ∷ l) e = omega (arith, cut_none j l e)

  pub cut_map : {B : Type 0} (f : A → B) (j : ℕ) (l : List A) (x : A) (ls : List A) (z : B) → drop j l ≡ x ∷ ls → get_or (map f l) j z ≡ f x
  cut_map f zero [] x ls z e = let n : ◌≡◌ {A = ℕ} 0 1 = cc in absurd (omega arith)
  cut_map f zero (y ∷ l) x ls z e = cc
  cut_map f (suc j) [] x ls z e = let n : ◌≡◌ {A = ℕ} 0 1 = cc in absurd (omega arith)
  cut_map f (suc j) (y ∷ l) x ls z e = cut_map f j l x ls z e

-- Bytes are the same just where their number is.
use Prim.Native.Nat.{ℕ, zero, suc, ◌+◌, ◌*◌, ◌≤◌, ◌<◌}
use mathlib.Core.Path.{◌≡◌, refl, sym, ap, ◌∙◌}
use mathlib.Core.List.{List, ◌∷◌}
use native.Mathlib.Numerals.{add-one}
use native.Mathlib.Omega.{arith}
use lib.Dec.{eqb}
use lib.ListN.{length, get_or, take, drop}
use lib.Seq.{drop-cons, get_or-take}
use borrow.Author.Tests.{eqb-true, eq-eqb}
use Rattle.records.specs.Bytes.{le_at}
use Rattle.records.specs.Lists.{same}
use Rattle.records.proofs.SameLaws.{same_true, true_same, bool_eq}

-- the lowest byte, and the number above it
low_high : (x y r s : ℕ) → x < 256 → y < 256 → x + 256 * r ≡ y + 256 * s → (x ≡ y) × (r ≡ s)
low_high x y r s h g e = (omega arith, omega arith)

-- the number of the first n bytes is that of as many bytes of the whole
front_number : (a : List ℕ) (n w at : ℕ) → at + w ≤ n → le_at (take n a) at w ≡ le_at a at w
unfolding le_at
front_number a n zero at h = refl
front_number a n (suc w) at h = rw (get_or-take n a at 0 (omega arith), front_number a n w (at + 1) (omega arith))

module _ (a b : List ℕ) (p : (i : ℕ) → get_or a i 0 < 256) (q : (i : ℕ) → get_or b i 0 < 256) where
  parts_one : (w at : ℕ) → at + w ≤ length a → at + w ≤ length b → le_at a at w ≡ le_at b at w → take w (drop at a) ≡ take w (drop at b)
  unfolding le_at
  parts_one zero at h g e = refl
  parts_one (suc w) at h g e =
      let l = low_high (get_or a at 0) (get_or b at 0) (le_at a (at + 1) w) (le_at b (at + 1) w) (p at) (q at) e in
      let rest = parts_one w (at + 1) (omega arith) (omega arith) l.1 in
      rw (drop-cons a at 0 (omega arith), drop-cons b at 0 (omega arith), l.0) (rw add-one at (ap (λ (z : List ℕ). get_or b at 0 ∷ z) rest))

  -- the first n bytes of each
  pub number_same : (n : ℕ) → n ≤ length a → n ≤ length b → eqb (le_at a 0 n) (le_at b 0 n) ≡ same (take n a) (take n b)
  number_same n h g =
      bool_eq _ _
      (λ e. true_same (take n a) (take n b) (parts_one n 0 (omega arith) (omega arith) (eqb-true (le_at a 0 n) (le_at b 0 n) e)))
      (λ e. eq-eqb (le_at a 0 n) (le_at b 0 n)
      (sym (front_number a n n 0 (omega arith)) ∙ ap (λ (z : List ℕ). le_at z 0 n) (same_true (take n a) (take n b) e) ∙ front_number b n n 0 (omega arith)))

-- Little-endian numbers of every width, and bytes that are zero just where their number is.
use Prim.Native.Nat.{ℕ, zero, suc, ◌+◌, ◌-◌, ◌*◌, ◌^◌, ◌≤◌, ◌<◌}
use mathlib.Core.Path.{◌≡◌, refl}
use mathlib.Core.Bool.{false, ◌&&◌}
use mathlib.Core.List.{List}
use lib.Dec.{eqb}
use lib.ListN.{length, get_or, take, drop, get_or-eq_default}
use lib.Seq.{drop-cons}
use borrow.Author.Tests.{eq-eqb, ne_eqb}
use native.Mathlib.Numerals.{add-one, one-add}
use native.Mathlib.Nat.{mul-zero, mul-suc, zero-add, add-zero, one-mul, suc-add, add_assoc, mul-add, mul_assoc, pow-succ', pow-zero}
use native.Mathlib.Omega.{arith}
use Rattle.records.specs.Bytes.{le_at, is_zero, zero_in}
use Rattle.records.specs.Lists.{all_of}

-- the lowest byte, and above it the others
pub le_at_next : (xs : List ℕ) (at w : ℕ) → le_at xs at (suc w) ≡ get_or xs at 0 + 256 * le_at xs (at + 1) w
unfolding le_at
le_at_next xs at w = refl

-- a byte is the number of one byte
pub byte_is : (xs : List ℕ) (at : ℕ) → le_at xs at 1 ≡ get_or xs at 0
unfolding le_at
byte_is xs at = omega arith

-- the low m bytes, and above them the other n
pub le_at_split : (xs : List ℕ) (m n at : ℕ) → le_at xs at (m + n) ≡ le_at xs at m + 256 ^ m * le_at xs (at + m) n
unfolding le_at
le_at_split xs zero n at = simp (zero-add, add-zero, pow-zero, one-mul)
le_at_split xs (suc m) n at =
    simp (suc-add, pow-succ', le_at_split xs m n (at + 1), mul-add, mul_assoc, add_assoc, one-add)

-- past the end every number is zero
pub le_at_past : (xs : List ℕ) (w at : ℕ) → length xs ≤ at → le_at xs at w ≡ 0
unfolding le_at
le_at_past xs zero at h = refl
le_at_past xs (suc w) at h = rw (get_or-eq_default xs 0 h, le_at_past xs w (at + 1) (omega arith)) (omega arith)

-- ---- zero

not_zero : (n : ℕ) → 1 ≤ n → eqb n 0 ≡ false
not_zero n h = ne_eqb n 0 (λ e. (let no : ⊥ = omega arith in no))

sum_zero : (k a b : ℕ) → 1 ≤ k → eqb a 0 && eqb b 0 ≡ eqb (a + k * b) 0
sum_zero k zero zero h = rw (mul-zero k)
sum_zero k (suc a) b h = rw (not_zero (suc a) (omega arith), not_zero (suc a + k * b) (omega arith))
sum_zero k zero (suc b) h = rw (not_zero (suc b) (omega arith), not_zero (0 + k * suc b) (omega (arith, mul-suc k b)))

sum_same : (k a b : ℕ) → 1 ≤ k → eqb (a + k * b) a ≡ eqb b 0
sum_same k a zero h = eq-eqb (a + k * 0) a (omega (arith, mul-zero k))
sum_same k a (suc b) h =
    rw (not_zero (suc b) (omega arith)) (ne_eqb (a + k * suc b) a (λ e. (let no : ⊥ = omega (arith, mul-suc k b) in no)))

-- two numbers one behind the other are zero just where the number of both is
pub zero_both : (xs : List ℕ) (m n at : ℕ) → 1 ≤ 256 ^ m → eqb (le_at xs at m) 0 && eqb (le_at xs (at + m) n) 0 ≡ eqb (le_at xs at (m + n)) 0
zero_both xs m n at h = rw (le_at_split xs m n at) (sum_zero (256 ^ m) (le_at xs at m) (le_at xs (at + m) n) h)

-- the high n bytes are zero just where the number of all is that of the low m
pub high_zero : (xs : List ℕ) (m n at : ℕ) → 1 ≤ 256 ^ m → eqb (le_at xs at (m + n)) (le_at xs at m) ≡ eqb (le_at xs (at + m) n) 0
high_zero xs m n at h = rw (le_at_split xs m n at) (sum_same (256 ^ m) (le_at xs at m) (le_at xs (at + m) n) h)

zero_number : (xs : List ℕ) (w at : ℕ) → at + w ≤ length xs → all_of is_zero (take w (drop at xs)) ≡ eqb (le_at xs at w) 0
unfolding le_at all_of
zero_number xs zero at h = refl
zero_number xs (suc w) at h =
    rw (drop-cons xs at 0 (omega arith), ← add-one at, zero_number xs w (at + 1) (omega arith))
    (sum_zero 256 (get_or xs at 0) (le_at xs (at + 1) w) (omega arith))

pub zero_in_lem : (xs : List ℕ) (first last : ℕ) → first ≤ last → last < length xs → zero_in xs first last ≡ eqb (le_at xs first (last + 1 - first)) 0
unfolding zero_in
zero_in_lem xs first last f h = zero_number xs (last + 1 - first) first (omega arith)

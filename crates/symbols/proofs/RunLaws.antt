-- A run of elements looked at one by one: what is asked of those from i on, and from the next on.
use Prim.Native.Nat.{ℕ, zero, suc, ◌+◌, ◌-◌, ◌*◌, ◌≤◌, ◌<◌}
use mathlib.Core.Path.{◌≡◌, refl}
use mathlib.Core.Bool.{Bool, true, false, ◌||◌}
use mathlib.Core.List.{List, [], ◌∷◌}
use native.Mathlib.Numerals.{add-one}
use native.Mathlib.Omega.{arith}
use lib.ListN.{length, get_or, take, drop, length-drop, drop_of_length-le}
use lib.Seq.{drop-cons, take_all}
use borrow.Author.Tests.{ne_eqb}
use Rattle.std.specs.List.{list_all}
use Rattle.std.specs.Simd.{first_chunks}
use Rattle.records.specs.Chunks.{chunks}
use Rattle.records.specs.Lists.{all_of}
use Rattle.records.specs.Text.{value_from}
use Rattle.symbols.specs.Digits.{is_blank, is_letter, is_digit}
use Rattle.symbols.specs.Roots.{padded}

-- the byte at i, and those behind it
pub from_next : (l : List ℕ) (i : ℕ) → i < length l → drop i l ≡ get_or l i 0 ∷ drop (i + 1) l
from_next l i h = rw add-one (drop-cons l i 0 h)

-- all that stands from i on, as code takes it
pub from_there : (i : ℕ) (l : List ℕ) → take (length l - i) (drop i l) ≡ drop i l
from_there i l = take_all (length l - i) (drop i l) (rw (length-drop i l) (omega arith))

-- ---- a test of every element

-- std's word for it, of what `all` answered
pub all_listed : {A : Type 0} (t : A → Bool) (l : List A) → list_all t l ≡ all_of t l
unfolding all_of
all_listed t [] = refl
all_listed t (x ∷ l) = rw (all_listed t l)

-- ---- parts of one size, as std cuts them

pub parts_cut : (size n : ℕ) (l : List ℕ) → first_chunks size n l ≡ chunks size n l
unfolding chunks
parts_cut size zero l = refl
parts_cut size (suc n) l = rw (parts_cut size n (drop size l))

-- ---- a root's characters

module _ (l : List ℕ) (i : ℕ) where
  pub padded_next : i < length l → (get_or l i 0 ≡ 32 → ⊥) → (is_letter (get_or l i 0) || is_digit (get_or l i 0)) ≡ true → padded (drop i l) ≡ padded (drop (i + 1) l)
  unfolding padded
  padded_next h b e = rw (from_next l i h, ne_eqb (get_or l i 0) 32 b, e)

  pub padded_stop : i < length l → (get_or l i 0 ≡ 32 → ⊥) → (is_letter (get_or l i 0) || is_digit (get_or l i 0)) ≡ false → padded (drop i l) ≡ false
  unfolding padded
  padded_stop h b e = rw (from_next l i h, ne_eqb (get_or l i 0) 32 b, e)

  pub padded_blank : i < length l → get_or l i 0 ≡ 32 → padded (drop i l) ≡ all_of is_blank (drop (i + 1) l)
  unfolding padded
  padded_blank h e = rw (from_next l i h, e)

  pub padded_over : length l ≤ i → padded (drop i l) ≡ true
  unfolding padded
  padded_over h = rw (drop_of_length-le l h)

  -- ---- digits read

  pub value_next : (v : ℕ) → i < length l → value_from v (drop i l) ≡ value_from (10 * v + (get_or l i 0 - 48)) (drop (i + 1) l)
  unfolding value_from
  value_next v h = rw (from_next l i h)

  pub value_over : (v : ℕ) → length l ≤ i → value_from v (drop i l) ≡ v
  unfolding value_from
  value_over v h = rw (drop_of_length-le l h)

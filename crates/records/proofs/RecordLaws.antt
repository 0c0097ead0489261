-- A good record is what says its fields: the bytes written for its leg are its own.
use Prim.Native.Nat.{ℕ, ◌+◌}
use mathlib.Core.Path.{◌≡◌, refl, sym, ap}
use mathlib.Core.Bool.{true, ◌&&◌, and-eq-true_iff}
use mathlib.Core.List.{List, [], ◌∷◌, ◌++◌}
use native.Mathlib.Omega.{arith}
use lib.Dec.{eqb}
use lib.ListN.{length, take, drop, replicate, length-drop, length-take}
use lib.Seq.{drop-cons, take_all, take-add}
use borrow.Author.Tests.{eqb-true, le-leb}
use Rattle.records.specs.Bytes.{AllBytes, le_at, is_zero, zero_in}
use Rattle.records.specs.Legs.{leg_fields, leg_of, leg_bytes, in_range, good_leg}
use Rattle.records.specs.Lists.{all_of}
use Rattle.records.proofs.ByteLaws.{byte_is}
use Rattle.records.proofs.NumberLaws.{bytes_said}

zeros_are : (xs : List ℕ) → all_of is_zero xs ≡ true → xs ≡ replicate (length xs) 0
unfolding all_of
zeros_are [] e = refl
zeros_are (x ∷ xs) e =
    let p = (and-eq-true_iff (is_zero x) (all_of is_zero xs)).0 e in
    rw (eqb-true x 0 p.0) (ap (λ (l : List ℕ). 0 ∷ l) (zeros_are xs p.1))

-- one part more
more : (n m k : ℕ) (xs : List ℕ) → k ≡ n + m → take n xs ++ take m (drop n xs) ≡ take k xs
more n m k xs e = rw e (sym (take-add n m xs))

fields_bytes : (xs : List ℕ) → length xs ≡ 32 → AllBytes xs → zero_in xs 26 31 ≡ true → leg_bytes (leg_fields xs) ≡ xs
unfolding leg_bytes leg_fields zero_in
fields_bytes xs l a z =
    let w : length (take 6 (drop 26 xs)) ≡ 6 = simp (length-take, length-drop) (omega arith) in
    let f : replicate 6 0 ≡ take 6 (drop 26 xs) = sym (rw w at (zeros_are (take 6 (drop 26 xs)) z)) in
    let four : le_at xs 2 1 ∷ le_at xs 3 1 ∷ le_at xs 4 1 ∷ le_at xs 5 1 ∷ [] ≡ take 4 (drop 2 xs) =
    rw (
      byte_is xs 2,
      byte_is xs 3,
      byte_is xs 4,
      byte_is xs 5,
      drop-cons xs 2 0 (omega arith),
      drop-cons xs 3 0 (omega arith),
      drop-cons xs 4 0 (omega arith),
      drop-cons xs 5 0 (omega arith),
    ) in
    let two : le_at xs 24 1 ∷ le_at xs 25 1 ∷ [] ≡ take 2 (drop 24 xs) =
    rw (byte_is xs 24, byte_is xs 25, drop-cons xs 24 0 (omega arith), drop-cons xs 25 0 (omega arith)) in
    rw (
      bytes_said xs 2 0 a (omega arith),
      four,
      bytes_said xs 2 6 a (omega arith),
      bytes_said xs 4 8 a (omega arith),
      bytes_said xs 4 12 a (omega arith),
      bytes_said xs 4 16 a (omega arith),
      bytes_said xs 4 20 a (omega arith),
      two,
      f,
    )
    (rw (more 2 4 6 xs refl, more 6 2 8 xs refl, more 8 4 12 xs refl, more 12 4 16 xs refl, more 16 4 20 xs refl, more 20 4 24 xs refl, more 24 2 26 xs refl, more 26 6 32 xs refl)
    (take_all 32 xs (omega arith)))

-- of a good record
pub record_back : (top : ℕ) (xs : List ℕ) → AllBytes xs → good_leg top xs ≡ true → leg_bytes (leg_of xs) ≡ xs
unfolding good_leg leg_of
record_back top xs a e =
    let p = (and-eq-true_iff (eqb (length xs) 32) (in_range top (leg_of xs) && zero_in xs 26 31)).0 e in
    let l = eqb-true (length xs) 32 p.0 in
    let z = ((and-eq-true_iff (in_range top (leg_of xs)) (zero_in xs 26 31)).0 p.1).1 in
    rw (le-leb 32 (length xs) (omega arith)) (fields_bytes xs l a z)

-- How std reads and writes little-endian numbers, in the words of this crate's contracts.
use Rattle.std.proofs.Common.{◌≡◌, ℕ, zero, suc, ◌+◌, ◌/◌, ◌%◌, ◌<◌, ◌≤◌, ◌^◌, List, take, drop, refl, ◌∙◌, arith, add_assoc}
use Rattle.std.proofs.lemmas.List.{get_or-take, get_or-drop}
use Rattle.std.specs.Int.{w16, w32, w64, from_le_bytes, to_le_bytes}
use native.Mathlib.Nat.{add-zero}
use Rattle.records.specs.Bytes.{le_at, le_bytes}

-- a number that lies wholly in a part, which begins at `at`
part_number : (xs : List ℕ) (at n k w : ℕ) → k + w ≤ n → le_at (take n (drop at xs)) k w ≡ le_at xs (at + k) w
unfolding le_at
part_number xs at n k zero h = refl
part_number xs at n k (suc w) h =
    rw (get_or-take n (drop at xs) k 0 (omega arith), get_or-drop at xs k 0, part_number xs at n (k + 1) w (omega arith), add_assoc at k 1)

-- a part read from its beginning on
pub part_first : (xs : List ℕ) (at w : ℕ) → le_at (take w (drop at xs)) 0 w ≡ le_at xs at w
part_first xs at w = rw add-zero at (part_number xs at w 0 w (omega arith))

-- the number that std reads from so many bytes
pub two_read : (bs : List ℕ) → from_le_bytes w16 bs ≡ le_at bs 0 2
unfolding le_at
two_read bs = omega arith

pub four_read : (bs : List ℕ) → from_le_bytes w32 bs ≡ le_at bs 0 4
unfolding le_at
four_read bs = omega arith

pub eight_read : (bs : List ℕ) → from_le_bytes w64 bs ≡ le_at bs 0 8
unfolding le_at
eight_read bs = omega arith

-- and of a part of a record or a block the number that stands there
pub two_at : (xs : List ℕ) (at : ℕ) → from_le_bytes w16 (take 2 (drop at xs)) ≡ le_at xs at 2
two_at xs at = two_read (take 2 (drop at xs)) ∙ part_first xs at 2

pub four_at : (xs : List ℕ) (at : ℕ) → from_le_bytes w32 (take 4 (drop at xs)) ≡ le_at xs at 4
four_at xs at = four_read (take 4 (drop at xs)) ∙ part_first xs at 4

pub eight_at : (xs : List ℕ) (at : ℕ) → from_le_bytes w64 (take 8 (drop at xs)) ≡ le_at xs at 8
eight_at xs at = eight_read (take 8 (drop at xs)) ∙ part_first xs at 8

-- the bytes that std says a number by
pub two_bytes : (n : ℕ) → n < 2 ^ 16 → to_le_bytes w16 n ≡ le_bytes n 2
unfolding le_bytes
two_bytes n h =
    let high : n / 256 % 256 ≡ n / 256 = omega arith in
    rw high

pub four_bytes : (n : ℕ) → n < 2 ^ 32 → to_le_bytes w32 n ≡ le_bytes n 4
unfolding le_bytes
four_bytes n h =
    let third : n / 65536 % 256 ≡ n / 256 / 256 % 256 = omega arith in
    let fourth : n / 16777216 % 256 ≡ n / 256 / 256 / 256 = omega arith in
    rw (third, fourth)

-- A number as bytes: they say the number, and bytes are those of the number that they say.
use Prim.Native.Nat.{ℕ, zero, suc, ◌+◌, ◌*◌, ◌/◌, ◌%◌, ◌≤◌, ◌<◌}
use mathlib.Core.Path.{◌≡◌, refl, ◌∙◌}
use mathlib.Core.List.{List, [], ◌∷◌, ◌++◌}
use native.Mathlib.Nat.{add_assoc}
use native.Mathlib.Numerals.{add-one}
use native.Mathlib.Omega.{arith}
use lib.ListN.{length, get_or, take, drop}
use lib.Seq.{drop-cons, get_or-append-add}
use Rattle.records.specs.Bytes.{AllBytes, le_at, le_bytes}
use Rattle.records.proofs.ListLaws.{all_at}

-- bytes that stand after others
pub le_at_after : (p q : List ℕ) (k w : ℕ) → le_at (p ++ q) (length p + k) w ≡ le_at q k w
unfolding le_at
le_at_after p q k zero = refl
le_at_after p q k (suc w) = rw (get_or-append-add p q k 0, add_assoc (length p) k 1, le_at_after p q (k + 1) w)

pub number_said : (w n : ℕ) (l : List ℕ) → le_at (le_bytes n (suc w) ++ l) 0 (suc w) ≡ n
unfolding le_at le_bytes
number_said zero n l = omega arith
number_said (suc w) n l =
    let e : le_at (n % 256 ∷ le_bytes (n / 256) (suc w) ++ l) 1 (suc w) ≡ n / 256 =
    le_at_after (n % 256 ∷ []) (le_bytes (n / 256) (suc w) ++ l) 0 (suc w) ∙ number_said w (n / 256) l in
    rw e (omega arith)

pub bytes_said : (xs : List ℕ) (w at : ℕ) → AllBytes xs → at + w ≤ length xs → le_bytes (le_at xs at w) w ≡ take w (drop at xs)
unfolding le_at le_bytes
bytes_said xs zero at a h = refl
bytes_said xs (suc zero) at a h =
    let e : get_or xs at 0 + 256 * 0 ≡ get_or xs at 0 = omega arith in rw (e, drop-cons xs at 0 (omega arith))
bytes_said xs (suc (suc w)) at a h =
    let b : get_or xs at 0 < 256 = all_at (λ b. b < 256) xs at 0 a (omega arith) in
    let m = le_at xs (at + 1) (suc w) in
    let low : (get_or xs at 0 + 256 * m) % 256 ≡ get_or xs at 0 = omega arith in
    let high : (get_or xs at 0 + 256 * m) / 256 ≡ m = omega arith in
    rw (low, high, bytes_said xs (suc w) (at + 1) a (omega arith), drop-cons xs at 0 (omega arith), add-one at)

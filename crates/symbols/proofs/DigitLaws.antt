-- Decimal digits: as many as were asked for, read back as the number, and written again as they stood.
use Prim.Native.Nat.{ℕ, zero, suc, ◌+◌, ◌-◌, ◌*◌, ◌/◌, ◌%◌, ◌^◌, ◌≤◌, ◌<◌}
use mathlib.Core.Path.{◌≡◌, refl, sym}
use mathlib.Core.Bool.{Bool, true, false, cond, and-eq-true_iff}
use mathlib.Core.List.{List, [], ◌∷◌, ◌++◌, append_assoc, append-nil}
use native.Mathlib.Nat.{zero-add, pow-succ', pow-le-pow_right, mul-le-mul, le_refl}
use native.Mathlib.Numerals.{add-one}
use native.Mathlib.Omega.{arith}
use lib.Dec.{ltb}
use lib.ListN.{length, get_or, take, drop, set, length-append}
use lib.Seq.{take-set-le}
use borrow.Author.Tests.{le-leb, lt-ltb, le-ltb, ltb-true, ltb-false}
use Rattle.records.specs.Lists.{all_of}
use Rattle.records.specs.Written.{put_at}
use Rattle.records.proofs.ListLaws.{all_of_append}
use Rattle.records.proofs.PutLaws.{put_none}
use Rattle.records.proofs.TableLaws.{within_true}
use Rattle.records.specs.Text.{digit, value_from, value_of}
use Rattle.symbols.specs.Digits.{is_digit, last_digits, places_of}

-- ---- written

pub length_digits : (width n : ℕ) → length (last_digits width n) ≡ width
unfolding last_digits
length_digits zero n = refl
length_digits (suc width) n = rw (length-append (last_digits width (n / 10)) (digit (n % 10) ∷ []), length_digits width (n / 10)) (omega arith)

digit_is : (d : ℕ) → d < 10 → is_digit (digit d) ≡ true
digit_is d h = rw (le-leb 48 (48 + d) (omega arith), le-leb (48 + d) 57 (omega arith))

pub digits_good : (width n : ℕ) → all_of is_digit (last_digits width n) ≡ true
unfolding last_digits all_of
digits_good zero n = refl
digits_good (suc width) n =
    rw (all_of_append is_digit (last_digits width (n / 10)) (digit (n % 10) ∷ []), digits_good width (n / 10), digit_is (n % 10) (omega arith))

-- the last of them written first, and then those before it
module _ {A : Type 0} where
  pub put_last : (d : List A) (at : ℕ) (s : List A) (x : A) → at + length s < length d
      → put_at d at (s ++ x ∷ []) ≡ put_at (set d (at + length s) x) at s
  unfolding put_at
  put_last d at s x h =
      let n = at + length s in
      let front : take at (set d n x) ≡ take at d = take-set-le at d n x (omega arith) in
      let back : drop n (set d n x) ≡ x ∷ drop (suc n) d = drop_set d n x h in
      let more : at + length (s ++ x ∷ []) ≡ suc n = rw (length-append s (x ∷ [])) (omega arith) in
      rw (front, back, more) (simp append_assoc)
    where
      drop_set : (l : List A) (i : ℕ) (a : A) → i < length l → drop i (set l i a) ≡ a ∷ drop (suc i) l
      drop_set [] i a h = absurd (omega arith)
      drop_set (y ∷ l) zero a h = refl
      drop_set (y ∷ l) (suc i) a h = drop_set l i a (omega arith)

-- ---- read

value_snoc : (left : ℕ) (ds : List ℕ) (d : ℕ) → value_from left (ds ++ d ∷ []) ≡ 10 * value_from left ds + (d - 48)
unfolding value_from
value_snoc left [] d = refl
value_snoc left (x ∷ ds) d = value_snoc (10 * left + (x - 48)) ds d

-- digits say the number that they were written for
pub value_digits : (width n : ℕ) → n < 10 ^ width → value_of (last_digits width n) ≡ n
unfolding last_digits value_from
value_digits zero n h = omega arith
value_digits (suc width) n h =
    let p = pow-succ' 10 width in
    rw (value_snoc 0 (last_digits width (n / 10)) (digit (n % 10)), value_digits width (n / 10) (omega arith)) (omega arith)

-- digits are written again as they stood, after the `before` digits of what stood before them
digits_after : (ds : List ℕ) (before left : ℕ) → all_of is_digit ds ≡ true → last_digits (length ds + before) (value_from left ds) ≡ last_digits before left ++ ds
unfolding last_digits value_from all_of
digits_after [] before left e = rw (zero-add before) (sym (append-nil (last_digits before left)))
digits_after (d ∷ ds) before left e =
    let p = (and-eq-true_iff (is_digit d) (all_of is_digit ds)).0 e in
    let w = within_true 48 57 d p.0 in
    let q : suc (length ds) + before ≡ length ds + suc before = omega arith in
    let tens : (10 * left + (d - 48)) / 10 ≡ left = omega arith in
    let ones : 48 + (10 * left + (d - 48)) % 10 ≡ d = omega arith in
    rw (q, digits_after ds (suc before) (10 * left + (d - 48)) p.1, tens, ones) (simp append_assoc)

pub digits_back : (ds : List ℕ) → all_of is_digit ds ≡ true → last_digits (length ds) (value_of ds) ≡ ds
unfolding last_digits
digits_back ds e = let q : length ds + 0 ≡ length ds = omega arith in rw q at (digits_after ds 0 0 e)

-- one digit more
more_digits : (left k p v : ℕ) → k ≤ 9 → (10 * left + k) * p ≤ v → v < (10 * left + k + 1) * p → (left * (10 * p) ≤ v) × (v < (left + 1) * (10 * p))
more_digits left k p v h a b =
    let q : (k + 1) * p ≤ 10 * p = mul-le-mul (let r : k + 1 ≤ 10 = omega arith in r) (le_refl p) in
    (omega arith, omega arith)

-- between which powers of ten lies what digits say after `left`
value_between : (ds : List ℕ) (left : ℕ) → all_of is_digit ds ≡ true
    → (left * 10 ^ length ds ≤ value_from left ds) × (value_from left ds < (left + 1) * 10 ^ length ds)
unfolding value_from all_of
value_between [] left e = (omega arith, omega arith)
value_between (d ∷ ds) left e =
    let p = (and-eq-true_iff (is_digit d) (all_of is_digit ds)).0 e in
    let w = within_true 48 57 d p.0 in
    let r = value_between ds (10 * left + (d - 48)) p.1 in
    rw (pow-succ' 10 (length ds)) (more_digits left (d - 48) (10 ^ length ds) (value_from (10 * left + (d - 48)) ds) (omega arith) r.0 r.1)

-- digits whose first is not 0 are as few as their number needs
first_digit : (d : ℕ) (ds : List ℕ) → all_of is_digit (d ∷ ds) ≡ true → (d ≡ digit 0 → ⊥)
    → (10 ^ length ds ≤ value_of (d ∷ ds)) × (value_of (d ∷ ds) < 10 ^ suc (length ds))
unfolding value_from all_of
first_digit d ds e f =
    let p = (and-eq-true_iff (is_digit d) (all_of is_digit ds)).0 e in
    let w = within_true 48 57 d p.0 in
    let r = value_between ds (10 * 0 + (d - 48)) p.1 in
    let k : 1 ≤ 10 * 0 + (d - 48) = omega arith in
    let m = mul-le-mul k (le_refl (10 ^ length ds)) in
    let n : (10 * 0 + (d - 48) + 1) * 10 ^ length ds ≤ 10 * 10 ^ length ds = mul-le-mul (let z : 10 * 0 + (d - 48) + 1 ≤ 10 = omega arith in z) (le_refl (10 ^ length ds)) in
    rw (pow-succ' 10 (length ds)) (omega (arith, r.0), omega (arith, r.1))

pub places_is : (k n : ℕ) → k ≤ 5 → 10 ^ k ≤ n → n < 10 ^ suc k → places_of n ≡ suc k
unfolding places_of
places_is zero n h a b = rw (lt-ltb n 10 b)
places_is (suc zero) n h a b = rw (le-ltb n 10 a, lt-ltb n 100 b)
places_is (suc (suc zero)) n h a b = rw (le-ltb n 10 (omega arith), le-ltb n 100 a, lt-ltb n 1000 b)
places_is (suc (suc (suc zero))) n h a b = rw (le-ltb n 10 (omega arith), le-ltb n 100 (omega arith), le-ltb n 1000 a, lt-ltb n 10000 b)
places_is (suc (suc (suc (suc zero)))) n h a b =
    rw (le-ltb n 10 (omega arith), le-ltb n 100 (omega arith), le-ltb n 1000 (omega arith), le-ltb n 10000 a, lt-ltb n 100000 b)
places_is (suc (suc (suc (suc (suc zero))))) n h a b =
    rw (le-ltb n 10 (omega arith), le-ltb n 100 (omega arith), le-ltb n 1000 (omega arith), le-ltb n 10000 (omega arith), le-ltb n 100000 a)
places_is (suc (suc (suc (suc (suc (suc k)))))) n h a b = absurd (omega arith)

pub places_most : (n : ℕ) → (1 ≤ places_of n) × (places_of n ≤ 6)
unfolding places_of
places_most n = go (ltb n 10) (ltb n 100) (ltb n 1000) (ltb n 10000) (ltb n 100000)
  where
    go : (a b c d e : Bool) → (1 ≤ cond a 1 (cond b 2 (cond c 3 (cond d 4 (cond e 5 6))))) × (cond a 1 (cond b 2 (cond c 3 (cond d 4 (cond e 5 6)))) ≤ 6)
    go true b c d e = (omega arith, omega arith)
    go false true c d e = (omega arith, omega arith)
    go false false true d e = (omega arith, omega arith)
    go false false false true e = (omega arith, omega arith)
    go false false false false true = (omega arith, omega arith)
    go false false false false false = (omega arith, omega arith)

-- digits that do not start with 0 are written again as they stood
pub places_back : (d : ℕ) (ds : List ℕ) → all_of is_digit (d ∷ ds) ≡ true → (d ≡ digit 0 → ⊥) → length ds ≤ 5
    → last_digits (places_of (value_of (d ∷ ds))) (value_of (d ∷ ds)) ≡ d ∷ ds
places_back d ds e f h =
    let r = first_digit d ds e f in
    rw (places_is (length ds) (value_of (d ∷ ds)) h r.0 r.1) (digits_back (d ∷ ds) e)

-- a number of 1 to 6 digits in its fewest: it is read again, and the first is not 0
pub record Fewest (n : ℕ) : Type 0 where
  pub reads : n < 10 ^ places_of n
  pub first : get_or (last_digits (places_of n) n) 0 0 ≡ digit 0 → ⊥

pub fewest : (n : ℕ) → 1 ≤ n → n < 1000000 → Fewest n
unfolding places_of last_digits
fewest n h g = go (ltb n 10) refl (ltb n 100) refl (ltb n 1000) refl (ltb n 10000) refl (ltb n 100000) refl
  where
    by_places : (k : ℕ) → places_of n ≡ k → n < 10 ^ k → (get_or (last_digits k n) 0 0 ≡ digit 0 → ⊥) → Fewest n
    by_places k e a b = record { reads = rw e a; first = rw e b }

    go : (a : Bool) → ltb n 10 ≡ a → (b : Bool) → ltb n 100 ≡ b → (c : Bool) → ltb n 1000 ≡ c → (d : Bool) → ltb n 10000 ≡ d
        → (e : Bool) → ltb n 100000 ≡ e → Fewest n
    go true p b q c r d s e t = let m = ltb-true n 10 p in by_places 1 (places_is zero n (omega arith) (omega arith) m) m (λ z. omega arith)
    go false p true q c r d s e t =
        let l = ltb-false n 10 p in let m = ltb-true n 100 q in by_places 2 (places_is (suc zero) n (omega arith) l m) m (λ z. omega arith)
    go false p false q true r d s e t =
        let l = ltb-false n 100 q in let m = ltb-true n 1000 r in by_places 3 (places_is 2 n (omega arith) l m) m (λ z. omega arith)
    go false p false q false r true s e t =
        let l = ltb-false n 1000 r in let m = ltb-true n 10000 s in by_places 4 (places_is 3 n (omega arith) l m) m (λ z. omega arith)
    go false p false q false r false s true t =
        let l = ltb-false n 10000 s in let m = ltb-true n 100000 t in by_places 5 (places_is 4 n (omega arith) l m) m (λ z. omega arith)
    go false p false q false r false s false t =
        let l = ltb-false n 100000 t in by_places 6 (places_is 5 n (omega arith) l g) g (λ z. omega arith)

-- ---- loops

-- at most eight bytes say a number of 32 bits
pub value_room : (v i : ℕ) → v + 23 ≤ 23 * 10 ^ i → i < 8 → 10 * v + 207 ≤ 4294967295
value_room v i h g =
    let p = pow-succ' 10 i in
    let q : 10 ^ suc i ≤ 10 ^ 8 = pow-le-pow_right (let z : 0 < 10 = omega arith in z) g in
    omega arith

pub value_grows : (v i d : ℕ) → v + 23 ≤ 23 * 10 ^ i → d ≤ 207 → 10 * v + d + 23 ≤ 23 * 10 ^ (i + 1)
value_grows v i d h g = rw (add-one i, pow-succ' 10 i) (omega arith)

-- one digit more is written before those that stand
pub digits_turn : (out : List ℕ) (at rest i : ℕ) → 0 < i → at + i ≤ length out
    → put_at out at (last_digits i rest) ≡ put_at (set out (at + (i - 1)) (48 + rest % 10)) at (last_digits (i - 1) (rest / 10))
unfolding last_digits
digits_turn out at rest zero h g = absurd (omega arith)
digits_turn out at rest (suc i) h g =
    let q : suc i - 1 ≡ i = omega arith in
    let l = length_digits i (rest / 10) in
    rw q (rw l at (put_last out at (last_digits i (rest / 10)) (48 + rest % 10) (omega arith)))

pub digits_over : (out : List ℕ) (at rest i : ℕ) → i ≤ 0 → put_at out at (last_digits i rest) ≡ out
unfolding last_digits
digits_over out at rest zero h = sym (put_none out at [])
digits_over out at rest (suc i) h = absurd (omega arith)

pub value_most : (v i : ℕ) → v + 23 ≤ 23 * 10 ^ i → i ≤ 8 → v ≤ 2300000000
value_most v i h g =
    let q : 10 ^ i ≤ 10 ^ 8 = pow-le-pow_right (let z : 0 < 10 = omega arith in z) g in
    omega arith

-- digits say less than the power of ten of their number
pub value_below : (ds : List ℕ) → all_of is_digit ds ≡ true → value_of ds < 10 ^ length ds
value_below ds e = omega (arith, (value_between ds 0 e).1)

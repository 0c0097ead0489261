-- The lowest number that passes a test.
use Prim.Native.Nat.{ℕ, zero, suc, ◌+◌, ◌-◌, ◌≤◌, ◌<◌}
use mathlib.Core.Path.{◌≡◌, refl, sym, ◌∙◌}
use mathlib.Core.Bool.{Bool, true, false, not, cond}
use native.Mathlib.Decide.{dec_lt, ℕ_discrete}
use native.Mathlib.Numerals.{add-one}
use native.Mathlib.Omega.{arith}
use borrow.Author.Tests.{not-true, not-false}
use Rattle.records.specs.Search.{lowest_from}

pub lowest_same : (s t : ℕ → Bool) (i n : ℕ) → ((k : ℕ) → s k ≡ t k) → lowest_from s i n ≡ lowest_from t i n
unfolding lowest_from
lowest_same s t i zero h = refl
lowest_same s t i (suc n) h = rw (h i, lowest_same s t (i + 1) n h)

-- of n numbers from i on r is the lowest that passes, or the one past them where none does
pub record Lowest (t : ℕ → Bool) (i n r : ℕ) : Type 0 where
  pub past : i ≤ r
  pub few : r ≤ i + n
  pub below : (k : ℕ) → i ≤ k → k < r → t k ≡ false
  pub here : r < i + n → t r ≡ true

pub lowest_is : (t : ℕ → Bool) (i n : ℕ) → Lowest t i n (lowest_from t i n)
unfolding lowest_from
lowest_is t i zero = record { past = omega arith; few = omega arith; below = λ k a b. absurd (omega arith); here = λ h. absurd (omega arith) }
lowest_is t i (suc n) = go (t i) refl (lowest_is t (i + 1) n)
  where
    go : (b : Bool) → t i ≡ b → Lowest t (i + 1) n (lowest_from t (i + 1) n) → Lowest t i (suc n) (cond b i (lowest_from t (i + 1) n))
    go true e r = record { past = omega arith; few = omega arith; below = λ k a b. absurd (omega arith); here = λ h. e }
    go false e r =
        record {
          past = omega (arith, r.past);
          few = omega (arith, r.few);
          below = λ k a b. elim (ℕ_discrete k i) [ yes q ↦ rw q e | no q ↦ r.below k (omega arith) b ];
          here = λ h. r.here (omega arith);
        }

-- ---- a test that holds at 0 and fails at n: the number before which it first fails

module _ (s : ℕ → Bool) (n : ℕ) (begins : s 0 ≡ true) (fails : s n ≡ false) where
  abbrev pub last_kept : ℕ
  last_kept = lowest_from (λ k. not (s (k + 1))) 0 n

  pub kept_to_lem : (i : ℕ) → i ≤ last_kept → s i ≡ true
  kept_to_lem zero h = begins
  kept_to_lem (suc i) h = rw add-one at (not-false (s (i + 1)) ((lowest_is (λ k. not (s (k + 1))) 0 n).below i (omega arith) h))

  pub kept_short : last_kept < n
  kept_short =
      elim (dec_lt last_kept n) [
        | yes h ↦ h
        | no h ↦
            let e : s n ≡ true = kept_to_lem n (omega arith) in
            let z : ◌≡◌ {A = Bool} true false = sym e ∙ fails in
            let w : ◌≡◌ {A = ℕ} 0 1 = cc in
            absurd (omega arith)
      ]

  pub kept_no_more : s (last_kept + 1) ≡ false
  kept_no_more = not-true (s (last_kept + 1)) ((lowest_is (λ k. not (s (k + 1))) 0 n).here (omega (arith, kept_short)))

-- ---- a loop that asks one number after the other

pub record Seeking (t : ℕ → Bool) (n i : ℕ) : Type 0 where
  pub many : i ≤ n
  pub is : lowest_from t 0 n ≡ lowest_from t i (n - i)

pub seek_none : {t : ℕ → Bool} {n : ℕ} → Seeking t n 0
seek_none {t} {n} = let q : n - 0 ≡ n = omega arith in record { many = omega arith; is = rw q }

module _ {t : ℕ → Bool} {n i : ℕ} (s : Seeking t n i) where
  pub seek_done : n ≤ i → i ≡ lowest_from t 0 n
  unfolding lowest_from
  seek_done h = let q : n - i ≡ 0 = omega arith in rw (s.is, q)

  pub seek_more : i < n → t i ≡ false → Seeking t n (i + 1)
  unfolding lowest_from
  seek_more h e = let q : n - i ≡ suc (n - (i + 1)) = omega arith in record { many = omega arith; is = s.is ∙ rw (q, e) }

  pub seek_here : i < n → t i ≡ true → i ≡ lowest_from t 0 n
  unfolding lowest_from
  seek_here h e = let q : n - i ≡ suc (n - (i + 1)) = omega arith in rw (s.is, q, e)

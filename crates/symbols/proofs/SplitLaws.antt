-- A list cut into its lines: the first of them and the rest, joined again, and lines joined that are cut again.
use Prim.Native.Nat.{ℕ, zero, suc, ◌+◌, ◌≤◌, ◌<◌, min}
use Rattle.std.specs.List.{IsFirstMatchOrLen}
use mathlib.Core.Path.{◌≡◌, refl, ap, ◌∙◌}
use mathlib.Core.Bool.{Bool, true, false, cond, and-eq-true_iff}
use mathlib.Core.List.{List, [], ◌∷◌, ◌++◌, flatten}
use native.Mathlib.Omega.{arith}
use lib.Dec.{eqb, leb}
use lib.ListN.{length, get_or}
use borrow.Author.Tests.{ne_eqb, leb-true}
use Rattle.records.specs.Lists.{all_of, All}
use Rattle.records.specs.Text.{newline, onto}
use Rattle.symbols.specs.Lines.{lines_of}

-- the first line, which ends at the first newline or is all there is, and the lines of the rest
pub lines_step : (x r : List ℕ) (i : ℕ) → 1 ≤ length (x ++ r) → length x ≡ min (i + 1) (length (x ++ r))
    → ((k : ℕ) → k < i → eqb (get_or (x ++ r) k 0) newline ≡ false) → (i < length (x ++ r) → eqb (get_or (x ++ r) i 0) newline ≡ true)
    → lines_of (x ++ r) ≡ x ∷ lines_of r
unfolding lines_of
lines_step [] r i h l f g = absurd (omega arith)
lines_step (c ∷ []) [] i h l f g = go (eqb c newline)
  where
    go : (b : Bool) → cond b ((c ∷ []) ∷ []) (onto c []) ≡ (c ∷ []) ∷ []
    go true = refl
    go false = refl
lines_step (c ∷ []) (d ∷ r) zero h l f g = rw (g (omega arith))
lines_step (c ∷ []) (d ∷ r) (suc i) h l f g = absurd (omega arith)
lines_step (c ∷ d ∷ x) r zero h l f g = absurd (omega arith)
lines_step (c ∷ d ∷ x) r (suc i) h l f g =
    rw (f 0 (omega arith), lines_step (d ∷ x) r i (omega arith) (omega arith) (λ k q. f (suc k) (omega arith)) (λ q. g (omega arith)))

-- the same, as `split_inclusive` cuts off the line
pub line_cut : (l x r : List ℕ) → l ≡ x ++ r → (i : ℕ) → length x ≡ min (i + 1) (length l) → IsFirstMatchOrLen (λ c. eqb c newline) l i → 1 ≤ length l
    → lines_of l ≡ x ∷ lines_of r
line_cut l x r e i n f h =
    rw e (lines_step x r i (rw e at h) (rw e at n) (λ k q. rw e at (f.0 k 0 (omega arith) q)) (λ q. let j : i < length l = rw e q in rw e at (f.1 j 0)))

pub lines_none : lines_of [] ≡ []
unfolding lines_of
lines_none = refl

-- the lines joined are the list
pub lines_joined : (l : List ℕ) → flatten (lines_of l) ≡ l
unfolding lines_of flatten
lines_joined [] = refl
lines_joined (c ∷ cs) = go (eqb c newline) (lines_of cs) (lines_joined cs)
  where
    go : (b : Bool) (ls : List (List ℕ)) → flatten ls ≡ cs → flatten (cond b ((c ∷ []) ∷ ls) (onto c ls)) ≡ c ∷ cs
    go true ls e = rw e
    go false [] e = rw e
    go false (x ∷ ls) e = rw e

-- ---- lines joined

-- a line that ends where it has its newline: what stands behind it is no part of it
abbrev pub Ended : List ℕ → Type 0
Ended xs = (rest : List ℕ) → lines_of (xs ++ rest) ≡ xs ∷ lines_of rest

pub lines_cut : (ls : List (List ℕ)) → All Ended ls → lines_of (flatten ls) ≡ ls
unfolding flatten lines_of
lines_cut [] a = refl
lines_cut (x ∷ ls) a = a.0 (flatten ls) ∙ ap (λ (m : List (List ℕ)). x ∷ m) (lines_cut ls a.1)

-- characters before the newline, none of them one
pub ended : (body : List ℕ) → all_of (leb 32) body ≡ true → Ended (body ++ newline ∷ [])
unfolding lines_of all_of
ended [] e rest = refl
ended (c ∷ body) e rest =
    let p = (and-eq-true_iff (leb 32 c) (all_of (leb 32) body)).0 e in
    let h = leb-true 32 c p.0 in
    rw (ne_eqb c newline (λ q. omega arith), ended body p.1 rest)

-- nothing is left
pub emptied : (l : List ℕ) → length l ≡ 0 → l ≡ []
emptied [] e = refl
emptied (c ∷ cs) e = absurd (omega arith)

-- Checks in their order: a search that goes on, ends or is over, part by part or group by group.
use Rattle.std.specs.Prelude.{Result, Ok, Err}
use Prim.Native.Nat.{ℕ, zero, suc, ◌+◌, ◌≤◌, ◌<◌}
use mathlib.Core.Path.{◌≡◌, refl, sym, ap, ◌∙◌}
use mathlib.Core.Bool.{Bool, true, false, cond}
use mathlib.Core.List.{List, [], ◌∷◌, ◌++◌}
use native.Mathlib.Decide.{ℕ_discrete}
use native.Mathlib.Numerals.{add-one}
use native.Mathlib.Omega.{arith}
use lib.ListN.{length, get_or, drop}
use Rattle.std.proofs.lemmas.List.{drop_more, drop_all}
use Rattle.records.specs.Order.{Check, refuse, first_of, ask_each, groups}
use Rattle.records.specs.declared.refusals.Refusal.{Refusal}

-- ---- a search through the elements of a list, l being what is left of it from i on

module _ {A : Type 0} (good : A → Bool) (number table i : ℕ) where
  pub ask_good : (x : A) (l ls : List A) → l ≡ x ∷ ls → good x ≡ true
      → first_of (ask_each good number table i l) ≡ first_of (ask_each good number table (i + 1) ls)
  unfolding first_of ask_each
  ask_good x l ls e g = rw (e, g)

  pub ask_bad : (x : A) (l ls : List A) → l ≡ x ∷ ls → good x ≡ false
      → first_of (ask_each good number table i l) ≡ Err (refuse number table i)
  unfolding first_of ask_each
  ask_bad x l ls e g = rw (e, g)

  pub ask_none : (l : List A) → l ≡ [] → first_of (ask_each good number table i l) ≡ Ok tt
  unfolding first_of ask_each
  ask_none l e = rw e

-- the same within a loop, that knows by `so_far` what is left to be asked
module _ {A : Type 0} (good : A → Bool) (number table i : ℕ) (l : List A) (all : Result Unit Refusal) (so_far : all ≡ first_of (ask_each good number table i l)) where
  pub search_over : l ≡ [] → (Ok tt) ≡ all
  search_over e = sym (so_far ∙ ask_none good number table i l e)

  module _ (x : A) (ls : List A) (e : l ≡ x ∷ ls) where
    pub search_good : good x ≡ true → all ≡ first_of (ask_each good number table (i + 1) ls)
    search_good g = so_far ∙ ask_good good number table i x l ls e g

    pub search_bad : good x ≡ false → Err (refuse number table i) ≡ all
    search_bad b = sym (so_far ∙ ask_bad good number table i x l ls e b)

-- the same of a loop by index, `for (i, x) in l.iter().enumerate()`: what is left is `drop i l`, and its first is l's element i
module _ {A : Type 0} (good : A → Bool) (number table i : ℕ) (l : List A) (z : A) (so_far : first_of (ask_each good number table 0 l) ≡ first_of (ask_each good number table i (drop i l))) where
  pub asked_good : i < length l → good (get_or l i z) ≡ true
      → first_of (ask_each good number table 0 l) ≡ first_of (ask_each good number table (i + 1) (drop (i + 1) l))
  asked_good h g = search_good good number table i _ _ so_far (get_or l i z) _ (drop_more l i z h) g

  pub asked_bad : i < length l → good (get_or l i z) ≡ false → Err (refuse number table i) ≡ first_of (ask_each good number table 0 l)
  asked_bad h b = search_bad good number table i _ _ so_far (get_or l i z) _ (drop_more l i z h) b

  pub asked_all : length l ≤ i → Ok tt ≡ first_of (ask_each good number table 0 l)
  asked_all h = search_over good number table i _ _ so_far (drop_all i l h)

-- ---- a list asked part by part

-- the same refusal, of an element that stands so much further on
abbrev pub moved : ℕ → Result Unit Refusal → Result Unit Refusal
moved n (Ok _) = Ok tt
moved n (Err r) = Err (refuse r.number r.table (n + r.place))

module _ {A : Type 0} (good : A → Bool) (number table : ℕ) where
  pub ask_append : (i : ℕ) (a b : List A)
      → ask_each good number table i (a ++ b) ≡ ask_each good number table i a ++ ask_each good number table (i + length a) b
  unfolding ask_each
  ask_append i [] b = let q : i + 0 ≡ i = omega arith in rw q
  ask_append i (x ∷ a) b = let q : i + suc (length a) ≡ i + 1 + length a = omega arith in rw (q, ask_append (i + 1) a b)

  pub ask_moved : (n i : ℕ) (l : List A) → first_of (ask_each good number table (n + i) l) ≡ moved n (first_of (ask_each good number table i l))
  unfolding first_of ask_each
  ask_moved n i [] = refl
  ask_moved n i (x ∷ l) = go (good x) (ask_moved n (i + 1) l)
    where
      go : (t : Bool) → first_of (ask_each good number table (n + (i + 1)) l) ≡ moved n (first_of (ask_each good number table (i + 1) l))
          → cond t (first_of (ask_each good number table (n + i + 1) l)) (Err (refuse number table (n + i)))
          ≡ moved n (cond t (first_of (ask_each good number table (i + 1) l)) (Err (refuse number table i)))
      go true e = let q : n + i + 1 ≡ n + (i + 1) = omega arith in rw q e
      go false e = refl

  pub ask_place : (i : ℕ) (l : List A) (r : Refusal) → first_of (ask_each good number table i l) ≡ Err r → r.place < i + length l
  unfolding first_of ask_each
  ask_place i [] r e = let z : ◌≡◌ {A = ℕ} 0 1 = cc in absurd (omega arith)
  ask_place i (x ∷ l) r e = go (good x) e (ask_place (i + 1) l r)
    where
      go : (t : Bool) → cond t (first_of (ask_each good number table (i + 1) l)) (Err (refuse number table i)) ≡ Err r
          → (first_of (ask_each good number table (i + 1) l) ≡ Err r → r.place < i + 1 + length l) → r.place < i + suc (length l)
      go true q f = omega (arith, f q)
      go false q f = let z : r.place ≡ i = cc in omega arith

-- the first fault, or what comes otherwise
abbrev pub or_else : Result Unit Refusal → Result Unit Refusal → Result Unit Refusal
or_else (Ok _) otherwise = otherwise
or_else (Err r) otherwise = Err r

-- one list of checks after the other: the first fault of the first, else that of the second
pub first_append : (a b : List Check) → first_of (a ++ b) ≡ or_else (first_of a) (first_of b)
unfolding first_of
first_append [] b = refl
first_append (c ∷ a) b = go c.holds (first_append a b)
  where
    go : (t : Bool) → first_of (a ++ b) ≡ or_else (first_of a) (first_of b)
        → cond t (first_of (a ++ b)) (Err c.refusal) ≡ or_else (cond t (first_of a) (Err c.refusal)) (first_of b)
    go true e = e
    go false e = refl

-- one list of checks after another that passes, or that does not
pub first_then : (a b : List Check) → first_of a ≡ Ok tt → first_of (a ++ b) ≡ first_of b
first_then a b e = first_append a b ∙ ap (λ (f : Result Unit Refusal). or_else f (first_of b)) e

pub first_stop : (a b : List Check) (r : Refusal) → first_of a ≡ Err r → first_of (a ++ b) ≡ Err r
first_stop a b r e = first_append a b ∙ ap (λ (f : Result Unit Refusal). or_else f (first_of b)) e

-- ---- a search through groups 1 to n, ascending

pub groups_none : (F : ℕ → List Check) → first_of (groups 0 F) ≡ Ok tt
unfolding groups first_of
groups_none F = refl

module _ (F : ℕ → List Check) (k : ℕ) (e : first_of (groups k F) ≡ Ok tt) where
  pub groups_more : first_of (F (k + 1)) ≡ Ok tt → first_of (groups (k + 1) F) ≡ Ok tt
  unfolding groups
  groups_more f = rw add-one (first_then (groups k F) (F (suc k)) e ∙ rw add-one at f)

  pub groups_stop : (n : ℕ) (r : Refusal) → k < n → first_of (F (k + 1)) ≡ Err r → first_of (groups n F) ≡ Err r
  unfolding groups
  groups_stop zero r h f = absurd (omega arith)
  groups_stop (suc n) r h f =
      elim (ℕ_discrete n k) [
        | yes q ↦ rw q (first_then (groups k F) (F (suc k)) e ∙ rw add-one at f)
        | no q ↦ first_stop (groups n F) (F (suc n)) r (groups_stop n r (omega arith) f)
      ]

-- groups that are asked the same
pub groups_same : (n : ℕ) (F G : ℕ → List Check) → ((g : ℕ) → 1 ≤ g → g ≤ n → F g ≡ G g) → groups n F ≡ groups n G
unfolding groups
groups_same zero F G h = refl
groups_same (suc n) F G h = rw (groups_same n F G (λ g a b. h g a (omega arith)), h (suc n) (omega arith) (omega arith))

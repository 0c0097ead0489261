-- In a table of roots that passed its check an entry is found by its own root and by its own terms.
use Prim.Native.Nat.{ℕ, ◌<◌}
use mathlib.Core.Path.{◌≡◌, refl, sym, ap, ◌∙◌}
use mathlib.Core.Bool.{Bool, true, false, not, ◌&&◌, ◌||◌, and-eq-true_iff, false≢true}
use mathlib.Core.List.{List, []}
use lib.Dec.{eqb}
use lib.ListN.{length, get_or, take}
use Rattle.records.specs.Bytes.{le_at}
use Rattle.records.specs.Lists.{same, All}
use Rattle.records.proofs.ListLaws.{all_of_all, all_all_of, all_map}
use Rattle.records.proofs.SameLaws.{same_refl, same_true, same_sym}
use Rattle.symbols.specs.Roots.{roots_of, name_of, terms_of, five, same_terms, good_name, good_terms, good_root, repeats, fresh, place_of_name, place_of_terms}
use Rattle.symbols.specs.Demands.{RootsDiffer}
use Rattle.symbols.specs.declared.roots.Terms.{Terms}
use Rattle.symbols.proofs.RootLaws.{GoodRoots, roots_good, place_found, place_at}

-- ---- five numbers are the terms that they say

from_five : List ℕ → Terms
from_five xs =
    record { style = get_or xs 0 0; market = get_or xs 1 0; size = get_or xs 2 0; settlement = get_or xs 3 0; underlying = get_or xs 4 0 }

terms_one : (a b : Terms) → five a ≡ five b → a ≡ b
unfolding from_five
terms_one a b e = ap from_five e

pub terms_same : (a b : Terms) → same_terms a b ≡ true → a ≡ b
unfolding same_terms
terms_same a b e = terms_one a b (same_true (five a) (five b) e)

terms_refl : (a : Terms) → same_terms a a ≡ true
unfolding same_terms
terms_refl a = same_refl (five a)

pub terms_sym : (a b : Terms) → same_terms a b ≡ same_terms b a
unfolding same_terms
terms_sym a b = same_sym (five a) (five b)

-- ---- entries apart

neither : (a b : Bool) → not (a || b) ≡ true → (a ≡ false) × (b ≡ false)
neither false false e = (refl, refl)
neither false true e = absurd (false≢true e)
neither true b e = absurd (false≢true e)

apart_parts : (e f : List ℕ) → not (repeats e f) ≡ true → (same (name_of f) (name_of e) ≡ false) × (same_terms (terms_of f) (terms_of e) ≡ false)
unfolding repeats
apart_parts e f h =
    let n = neither (same (name_of e) (name_of f)) (same_terms (terms_of e) (terms_of f)) h in
    (same_sym (name_of f) (name_of e) ∙ n.0, terms_sym (terms_of f) (terms_of e) ∙ n.1)

module _ (t : List ℕ) (g : GoodRoots t) (p : ℕ) (h : p < length (roots_of t)) where
  abbrev this : List ℕ
  this = get_or (roots_of t) p []

  before : All (λ f. (same (name_of f) (name_of this) ≡ false) × (same_terms (terms_of f) (terms_of this) ≡ false)) (take p (roots_of t))
  unfolding fresh
  before = all_map (take p (roots_of t)) (apart_parts this) (all_of_all (λ f. not (repeats this f)) (take p (roots_of t)) (g.apart p h))

  pub name_place : place_of_name (name_of this) (roots_of t) ≡ p
  unfolding place_of_name
  name_place =
      place_at (λ e. same (name_of e) (name_of this)) (roots_of t) p h (same_refl (name_of this))
      (all_all_of (λ e. not (same (name_of e) (name_of this))) (take p (roots_of t)) (all_map (take p (roots_of t)) (λ f q. rw q.0) before))

  pub terms_place : place_of_terms (terms_of this) (roots_of t) ≡ p
  unfolding place_of_terms
  terms_place =
      place_at (λ e. same_terms (terms_of e) (terms_of this)) (roots_of t) p h (terms_refl (terms_of this))
      (all_all_of (λ e. not (same_terms (terms_of e) (terms_of this))) (take p (roots_of t)) (all_map (take p (roots_of t)) (λ f q. rw q.1) before))

  root_parts : (good_name (name_of this) ≡ true) × (good_terms (terms_of this) ≡ true)
  unfolding good_root
  root_parts =
      let a = (and-eq-true_iff (good_name (name_of this) && good_terms (terms_of this)) (eqb (le_at this 11 1) 0)).0 (g.good p h) in
      (and-eq-true_iff (good_name (name_of this)) (good_terms (terms_of this))).0 a.0

  pub root_name : good_name (name_of this) ≡ true
  root_name = root_parts.0

  pub root_terms : good_terms (terms_of this) ≡ true
  root_terms = root_parts.1

-- what is found has the root, or the terms, that were looked for
pub name_found : (name : List ℕ) (es : List (List ℕ)) → place_of_name name es < length es → name_of (get_or es (place_of_name name es) []) ≡ name
unfolding place_of_name
name_found name es h = same_true _ name (place_found (λ e. same (name_of e) name) es h)

pub terms_found : (terms : Terms) (es : List (List ℕ)) → place_of_terms terms es < length es → terms_of (get_or es (place_of_terms terms es) []) ≡ terms
unfolding place_of_terms
terms_found terms es h = terms_same _ terms (place_found (λ e. same_terms (terms_of e) terms) es h)

pub roots_differ : RootsDiffer
roots_differ roots e i j h k =
    let g = roots_good roots e in (
      λ q. sym (terms_place roots g i h) ∙ ap (λ (x : Terms). place_of_terms x (roots_of roots)) q ∙ terms_place roots g j k,
      λ q. sym (name_place roots g i h) ∙ ap (λ (x : List ℕ). place_of_name x (roots_of roots)) q ∙ name_place roots g j k,
    )

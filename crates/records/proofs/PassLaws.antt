-- Nothing is refused just where every check holds.
use Rattle.std.specs.Prelude.{Ok, Err}
use Prim.Native.Nat.{ℕ, zero, suc, ◌+◌, ◌≤◌}
use mathlib.Core.Path.{◌≡◌, refl}
use mathlib.Core.Bool.{Bool, true, false, cond}
use mathlib.Core.List.{List, [], ◌∷◌, ◌++◌}
use native.Mathlib.Decide.{ℕ_discrete}
use native.Mathlib.Omega.{arith}
use Rattle.records.specs.Lists.{All}
use Rattle.records.specs.Order.{Check, first_of, ask_each, groups}
use Rattle.records.specs.declared.refusals.Refusal.{Refusal}
use Rattle.records.proofs.ListLaws.{all_append}

abbrev pub Pass : List Check → Type 0
Pass cs = All (λ c. c.holds ≡ true) cs

pub clear : (cs : List Check) → first_of cs ≡ Ok tt → Pass cs
unfolding first_of
clear [] e = tt
clear (c ∷ cs) e = go c.holds refl e (clear cs)
  where
    go : (b : Bool) → c.holds ≡ b → cond b (first_of cs) (Err c.refusal) ≡ Ok tt → (first_of cs ≡ Ok tt → Pass cs) → Pass (c ∷ cs)
    go true q r f = (q, f r)
    go false q r f = let z : ◌≡◌ {A = ℕ} 0 1 = cc in absurd (omega arith)

pub unclear : (cs : List Check) → Pass cs → first_of cs ≡ Ok tt
unfolding first_of
unclear [] a = refl
unclear (c ∷ cs) a = rw a.0 (unclear cs a.1)

-- what holds of the refusal of each check that fails holds of the first
pub first_all : (P : Refusal → Type 0) (cs : List Check) → All (λ c. c.holds ≡ false → P c.refusal) cs → (r : Refusal) → first_of cs ≡ Err r → P r
unfolding first_of
first_all P [] a r e = let z : ◌≡◌ {A = ℕ} 0 1 = cc in absurd (omega arith)
first_all P (c ∷ cs) a r e = go c.holds refl e (first_all P cs a.1 r)
  where
    go : (b : Bool) → c.holds ≡ b → cond b (first_of cs) (Err c.refusal) ≡ Err r → (first_of cs ≡ Err r → P r) → P r
    go true q x f = f x
    go false q x f = let s : c.refusal ≡ r = cc in rw s at (a.0 q)

pub pass_left : (a b : List Check) → Pass (a ++ b) → Pass a
pass_left [] b p = tt
pass_left (c ∷ a) b p = (p.0, pass_left a b p.1)

pub pass_right : (a b : List Check) → Pass (a ++ b) → Pass b
pass_right [] b p = p
pass_right (c ∷ a) b p = pass_right a b p.1

pub pass_both : (a b : List Check) → Pass a → Pass b → Pass (a ++ b)
pass_both a b p q = all_append (λ c. c.holds ≡ true) a b p q

module _ {A : Type 0} (good : A → Bool) (number table : ℕ) where
  pub pass_each : (i : ℕ) (l : List A) → Pass (ask_each good number table i l) → All (λ x. good x ≡ true) l
  unfolding ask_each
  pass_each i [] p = tt
  pass_each i (x ∷ l) p = (p.0, pass_each (i + 1) l p.1)

  pub each_pass : (i : ℕ) (l : List A) → All (λ x. good x ≡ true) l → Pass (ask_each good number table i l)
  unfolding ask_each
  each_pass i [] a = tt
  each_pass i (x ∷ l) a = (a.0, each_pass (i + 1) l a.1)

pub pass_groups : (n : ℕ) (F : ℕ → List Check) → Pass (groups n F) → (g : ℕ) → 1 ≤ g → g ≤ n → Pass (F g)
unfolding groups
pass_groups zero F p g a b = absurd (omega arith)
pass_groups (suc n) F p g a b =
    elim (ℕ_discrete g (suc n)) [
      | yes q ↦ rw q (pass_right (groups n F) (F (suc n)) p)
      | no q ↦ pass_groups n F (pass_left (groups n F) (F (suc n)) p) g a (omega arith)
    ]

pub groups_pass : (n : ℕ) (F : ℕ → List Check) → ((g : ℕ) → 1 ≤ g → g ≤ n → Pass (F g)) → Pass (groups n F)
unfolding groups
groups_pass zero F h = tt
groups_pass (suc n) F h =
    pass_both (groups n F) (F (suc n)) (groups_pass n F (λ g a b. h g a (omega arith))) (h (suc n) (omega arith) (omega arith))

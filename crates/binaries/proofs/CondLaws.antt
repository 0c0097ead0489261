-- Choices between two numbers: their bounds, and one that grows with another.
use Prim.Native.Nat.{ℕ, ◌≤◌}
use mathlib.Core.Path.{◌≡◌, refl}
use mathlib.Core.Bool.{Bool, true, false, cond, false≢true}
use native.Mathlib.Omega.{arith}

pub cond_most : (t : Bool) (n a b : ℕ) → a ≤ n → b ≤ n → cond t a b ≤ n
cond_most true n a b h k = h
cond_most false n a b h k = k

pub cond_least : (t : Bool) (n a b : ℕ) → n ≤ a → n ≤ b → n ≤ cond t a b
cond_least true n a b h k = h
cond_least false n a b h k = k

-- a first step that is left sooner, before steps that grow
pub step_grows : (s t : Bool) (n a b : ℕ) → (t ≡ true → s ≡ true) → n ≤ b → a ≤ b → cond s n a ≤ cond t n b
step_grows true true n a b f h k = omega arith
step_grows true false n a b f h k = h
step_grows false true n a b f h k = absurd (false≢true (f refl))
step_grows false false n a b f h k = k

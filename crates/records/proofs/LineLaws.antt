-- Lines and sides are the same just where they are one value.
use mathlib.Core.Path.{◌≡◌, refl, ◌∙◌}
use mathlib.Core.Bool.{true, ◌&&◌, and-true, and_assoc}
use mathlib.Core.Logic.{◌↔◌}
use Prim.Native.Nat.{ℕ}
use lib.Dec.{eqb}
use borrow.Author.Tests.{eq-eqb}
use Rattle.records.specs.Legs.{with_contracts, with_paid}
use Rattle.records.specs.Lists.{same}
use Rattle.records.specs.Lines.{leg_line_side, same_line, same_line_side}
use Rattle.records.specs.declared.counts.Contracts.{Contracts}
use Rattle.records.specs.declared.legs.Leg.{Leg}
use Rattle.records.proofs.SameLaws.{same_refl, same_true, true_same, same_sym, same_swap}

-- lines of one strike and one expiry are the same where the rest is
pub line_rest : (a b : Leg) → a.strike ≡ b.strike → a.expiry ≡ b.expiry
    → eqb a.right b.right && eqb a.style b.style && eqb a.market b.market && eqb a.size b.size && eqb a.underlying b.underlying && eqb a.settlement b.settlement
    ≡ same_line a b
unfolding same_line same
line_rest a b s e = simp (eq-eqb a.strike b.strike s, eq-eqb a.expiry b.expiry e, and-true, and_assoc)

pub same? : (x y : Leg) → (same_line_side x y ≡ true) ↔ (leg_line_side x ≡ leg_line_side y)
unfolding same_line_side
same? x y = (same_true (leg_line_side x) (leg_line_side y), true_same (leg_line_side x) (leg_line_side y))

-- ---- one line and side is the same for all of it

pub line_refl : (x : Leg) → same_line_side x x ≡ true
unfolding same_line_side
line_refl x = same_refl (leg_line_side x)

pub line_sym : (x y : Leg) → same_line_side x y ≡ same_line_side y x
unfolding same_line_side
line_sym x y = same_sym (leg_line_side x) (leg_line_side y)

pub line_swap : (x y z : Leg) → same_line_side y z ≡ true → same_line_side x y ≡ same_line_side x z
unfolding same_line_side
line_swap x y z e = same_swap (leg_line_side x) (leg_line_side y) (leg_line_side z) e

pub swap_line : (x y z : Leg) → same_line_side x y ≡ true → same_line_side x z ≡ same_line_side y z
swap_line x y z e = line_sym x z ∙ line_swap z x y e ∙ line_sym z y

-- another count of contracts is the same line and side
pub line_with : (x y : Leg) (c : Contracts) → same_line_side x (with_contracts y c) ≡ same_line_side x y
unfolding same_line_side with_contracts
line_with x y c = refl

pub with_line_lem : (x y : Leg) (c : Contracts) → same_line_side (with_contracts x c) y ≡ same_line_side x y
unfolding same_line_side with_contracts
with_line_lem x y c = refl

-- the paid mark is no part of it
pub line_paid : (x y : Leg) (m : ℕ) → same_line_side x (with_paid y m) ≡ same_line_side x y
unfolding same_line_side with_paid
line_paid x y m = refl

pub paid_line : (x y : Leg) (m : ℕ) → same_line_side (with_paid x m) y ≡ same_line_side x y
unfolding same_line_side with_paid
paid_line x y m = refl

-- How many intrinsic values are worked out: group after group, in groups that have no legs none, and never more than 65,536.
use Prim.Native.Nat.{ℕ, ◌+◌, ◌*◌, ◌≤◌}
use mathlib.Core.Path.{◌≡◌, refl, ◌∙◌}
use mathlib.Core.List.{List, []}
use native.Mathlib.Nat.{mul-le-mul_left}
use native.Mathlib.Numerals.{add-one}
use native.Mathlib.Omega.{arith}
use lib.ListN.{length}
use Rattle.records.specs.Lists.{All}
use Rattle.records.specs.Tables.{legs_of}
use Rattle.records.specs.declared.legs.Leg.{Leg}
use Rattle.spreads.specs.Spreads.{group_of}
use Rattle.spreads.specs.Steps.Members.{Checked}
use Rattle.spreads.specs.Strikes.{strikes_of}
use Rattle.spreads.specs.Work.{total, values_of, work_up_to, work_of}
use Rattle.spreads.proofs.Bounds.{legs_few, table_few}
use Rattle.spreads.proofs.GroupSums.{total_le, total_rest, group_above, legs_in_groups}
use Rattle.spreads.proofs.StrikeLaws.{strikes_count}

-- a walk over a list s of strikes, and at each over n entries
pub walked_values : (legs : List Leg) {s : List ℕ} {n v : ℕ} → n ≡ length legs → s ≡ strikes_of legs → v ≡ n * length s → v ≡ values_of legs
unfolding values_of
walked_values legs a b e = e ∙ rw (a, b)

values_none : {legs : List Leg} → legs ≡ [] → values_of legs ≡ 0
unfolding values_of strikes_of
values_none e = rw e

module _ (placement : List Leg) where
  pub work_none : work_up_to 0 placement ≡ 0
  unfolding work_up_to total
  work_none = refl

  pub work_next : (k : ℕ) → work_up_to (k + 1) placement ≡ work_up_to k placement + values_of (group_of (k + 1) placement)
  unfolding work_up_to total
  work_next k = rw add-one

  -- where no leg is in a group above n, all groups have the work that groups 1 to n have
  pub work_all : (n : ℕ) → n ≤ 32 → All (λ l. l.group ≤ n) placement → work_of placement ≡ work_up_to n placement
  unfolding work_of work_up_to
  work_all n h a = total_rest n 32 (λ g. values_of (group_of g placement)) (λ g b. values_none (group_above g n placement a b)) h

  module _ (few : length placement ≤ 256) where
    -- 256 for each leg of a group
    values_most : (g : ℕ) → values_of (group_of g placement) ≤ length (group_of g placement) + 255 * length (group_of g placement)
    unfolding values_of
    values_most g =
        let legs = group_of g placement in
        let h : length (strikes_of legs) ≤ 256 = omega (arith, strikes_count legs, legs_few placement g few) in
        omega (arith, mul-le-mul_left (length legs) h)

    pub work_most : (n : ℕ) → work_up_to n placement ≤ 65536
    unfolding work_up_to
    work_most n =
        omega (
          arith,
          total_le n 255 (λ g. values_of (group_of g placement)) (λ g. length (group_of g placement)) (λ g. length (group_of g placement)) (λ g a b. values_most g),
          legs_in_groups placement n,
        )

pub checked_work : (xs : List ℕ) → Checked xs → (n : ℕ) → work_up_to n (legs_of xs) ≤ 65536
checked_work xs c n = work_most (legs_of xs) (table_few xs c) n

-- Of an accepted sheet whose last group is put into an earlier one there are tables that say it: its legs and claims stay in
-- their ranges.
use mathlib.Core.Path.{◌≡◌}
use mathlib.Core.Bool.{true, and-eq-true_iff}
use mathlib.Core.List.{List, map, flatten}
use Prim.Native.Nat.{ℕ, ◌+◌, ◌≤◌}
use native.Mathlib.Decide.{ℕ_discrete}
use native.Mathlib.Omega.{arith}
use lib.Dec.{eqb}
use lib.ListN.{length, take, length-map, length-take}
use borrow.Author.Tests.{eq-eqb, ne_eqb}
use Rattle.records.specs.Chunks.{records_of}
use Rattle.records.specs.Claims.{most_mills, claim_of, claim_bytes, good_claim}
use Rattle.records.specs.Legs.{leg_of, leg_bytes, in_range, good_leg}
use Rattle.records.specs.Lists.{All}
use Rattle.records.specs.Tables.{legs_of, claims_of}
use Rattle.records.specs.declared.claims.Claim.{Claim}
use Rattle.records.specs.declared.legs.Leg.{Leg}
use Rattle.records.specs.declared.tables.Kind.TheVariants.{Placement, Claims}
use Rattle.records.proofs.ClaimLaws.{length_claim_bytes, claim_back, claim_good}
use Rattle.records.proofs.LegLaws.{length_leg_bytes, leg_back, leg_good, group_range}
use Rattle.records.proofs.ListLaws.{map_all, all_take}
use Rattle.records.proofs.TableLaws.{ClaimRanges, claim_ranges, length_claims, whole}
use Rattle.spreads.specs.Boxes.{margin_of}
use Rattle.spreads.specs.Spreads.{group_in}
use Rattle.sheets.specs.Demands.{Sound, Joins}
use Rattle.sheets.specs.Joined.{joined_leg, joined_placement, restated, joined_claims}
use Rattle.sheets.proofs.JoinedLegs.{either_way}
use Rattle.sheets.proofs.Limits.{placed_ranges, placed_few, margin_limit}
use Rattle.sheets.proofs.SaidTables.{table_says, table_sound}

abbrev Ranged : Leg → Type 0
Ranged l = in_range 32 l ≡ true

legs_ranged : (p : List ℕ) → Sound Placement p → All Ranged (legs_of p)
unfolding legs_of good_leg
legs_ranged p s =
    map_all leg_of Ranged (λ r. good_leg 32 r ≡ true) (records_of p)
    (λ r q. ((and-eq-true_iff (in_range 32 (leg_of r)) _).0 ((and-eq-true_iff (eqb (length r) 32) _).0 q).1).0)
    s.fields

claims_ranged : (c : List ℕ) → Sound Claims c → All ClaimRanges (claims_of c)
unfolding claims_of
claims_ranged c s = map_all claim_of ClaimRanges (λ r. good_claim r ≡ true) (records_of c) claim_ranges s.fields

module _ (p c : List ℕ) (n g : ℕ) (sp : Sound Placement p) (sc : Sound Claims c) (count : length (claims_of c) ≡ n + 1) (low : 1 ≤ g) (high : g ≤ n) where
  few : n + 1 ≤ 32
  few = omega (arith, count, length_claims c, (whole Claims (length c) sc.whole).1)

  legs_stay : All Ranged (joined_placement (n + 1) g (legs_of p))
  legs_stay =
      map_all (joined_leg (n + 1) g) Ranged Ranged (legs_of p)
      (λ l q. either_way (n + 1) g Ranged l (λ e. group_range 32 g l q (omega (arith, few))) (λ k. q))
      (legs_ranged p sp)

  restated_ranged : (mills : ℕ) → mills ≤ most_mills → (x : Claim) → ClaimRanges x → ClaimRanges (restated g mills x)
  unfolding restated
  restated_ranged mills small x q =
      elim (ℕ_discrete x.group g) [
        | yes e ↦ rw (eq-eqb x.group g e) (record { group = (low, omega (arith, few)); margin = small })
        | no k ↦ rw (ne_eqb x.group g k) q
      ]

  claims_stay : (mills : ℕ) → mills ≤ most_mills → All ClaimRanges (joined_claims n g mills (claims_of c))
  claims_stay mills small =
      map_all (restated g mills) ClaimRanges ClaimRanges (take n (claims_of c)) (restated_ranged mills small)
      (all_take ClaimRanges n (claims_of c) (claims_ranged c sc))

  abbrev placement : List ℕ
  placement = flatten (map leg_bytes (joined_placement (n + 1) g (legs_of p)))

  abbrev joined_claims_lem : List Claim
  joined_claims_lem = joined_claims n g (margin_of (group_in placement g)) (claims_of c)

  sound : Sound Placement placement
  sound =
      table_sound Placement leg_of leg_bytes Ranged length_leg_bytes (λ l q. leg_back l) (λ l q. leg_good 32 l q)
      (joined_placement (n + 1) g (legs_of p)) legs_stay
      (rw (length-map (legs_of p) (joined_leg (n + 1) g)) (placed_few p sp))

  ranged : All ClaimRanges joined_claims_lem
  ranged = claims_stay (margin_of (group_in placement g)) (margin_limit (legs_of placement) (placed_ranges placement sound) (placed_few placement sound) g)

  pub joined_tables : (p' : List ℕ) × (c' : List ℕ) × Joins n g p c p' c'
  unfolding legs_of claims_of
  joined_tables = (
    placement,
    flatten (map claim_bytes joined_claims_lem),
    record {
      placement = sound;
      claims =
          table_sound Claims claim_of claim_bytes ClaimRanges length_claim_bytes claim_back claim_good joined_claims_lem ranged
          (simp (length-map, length-take) (omega (arith, few)));
      legs =
          table_says Placement leg_of leg_bytes Ranged length_leg_bytes (λ l q. leg_back l) (λ l q. leg_good 32 l q)
          (joined_placement (n + 1) g (legs_of p)) legs_stay;
      claimed = table_says Claims claim_of claim_bytes ClaimRanges length_claim_bytes claim_back claim_good joined_claims_lem ranged;
    },
  )

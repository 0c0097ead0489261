-- An accepted sheet whose last group is put into an earlier one: it keeps the rule, and its total is no greater where what is
-- joined is no long box.
use mathlib.Core.Path.{◌≡◌, refl, sym, ◌∙◌}
use mathlib.Core.List.{List}
use mathlib.Core.Logic.{◌≢◌}
use Prim.Native.Nat.{ℕ, ◌+◌, ◌≤◌}
use native.Mathlib.Decide.{ℕ_discrete}
use native.Mathlib.Omega.{arith}
use lib.ListN.{length}
use Rattle.records.specs.declared.claims.Claim.{Claim}
use Rattle.records.specs.declared.legs.Leg.{Leg}
use Rattle.spreads.specs.Boxes.{LongBox, margin_of}
use Rattle.spreads.specs.Spreads.{group_of, Spread}
use Rattle.spreads.proofs.Laws.{no_box_test, join_margins}
use Rattle.sheets.specs.Joined.{joined_placement, joined_claims}
use Rattle.sheets.specs.Sheets.{claim_for, total_of, OldRule, SheetRule}
use Rattle.sheets.proofs.JoinedClaims.{joined_length, joined_numbered, claim_joined, claim_stays, joined_total}
use Rattle.sheets.proofs.JoinedLegs.{group_stays, joined_together, contracts_stay, all_named, shorts_placed, longs_paid}

module _ (h p : List Leg) (c : List Claim) (n g : ℕ) (ok : SheetRule h p c) (count : length c ≡ n + 1) (low : 1 ≤ g) (high : g ≤ n) where
  abbrev joined : List Leg
  joined = joined_placement (n + 1) g p

  abbrev cost : ℕ
  cost = margin_of (group_of g joined)

  abbrev claims : List Claim
  claims = joined_claims n g cost c

  pub length_joined : length claims ≡ n
  length_joined = joined_length g cost n c count ok.old.numbered

  stays : (k : ℕ) → k ≤ n → k ≢ g → group_of k joined ≡ group_of k p
  stays k b o = group_stays (n + 1) g k o (λ e. (let no : ⊥ = omega arith in no)) p

  spread_each : Spread g (group_of g joined) → (k : ℕ) → 1 ≤ k → k ≤ n → Spread k (group_of k joined)
  spread_each s k a b =
      elim (ℕ_discrete k g) [
        | yes e ↦ rw e s
        | no o ↦ rw (stays k b o) (ok.old.spreads k a (omega (arith, count)))
      ]

  claim_each : (k : ℕ) → 1 ≤ k → k ≤ n → claim_for claims k ≡ margin_of (group_of k joined)
  claim_each k a b =
      elim (ℕ_discrete k g) [
        | yes e ↦ rw e (claim_joined g cost n c count ok.old.numbered low high)
        | no o ↦ claim_stays g cost n c count ok.old.numbered k a b o ∙ rw (stays k b o) (ok.old.claims k a (omega (arith, count)))
      ]

  pub rule_joined : Spread g (group_of g joined) → SheetRule h joined claims
  rule_joined s =
      let old : OldRule h joined claims =
      record {
        numbered = joined_numbered g cost n c count ok.old.numbered;
        named = rw length_joined (all_named (n + 1) g n refl high p (rw count at ok.old.named));
        spreads = λ k a b. spread_each s k a (omega (arith, length_joined));
        lines = λ x. ok.old.lines x ∙ sym (contracts_stay (n + 1) g x p);
        placed = shorts_placed (n + 1) g low p ok.old.placed;
        claims = λ k a b. claim_each k a (omega (arith, length_joined));
      } in
      record { old = old; paid = longs_paid (n + 1) g low p ok.paid }

  pub total_joined : ¬ LongBox (group_of g joined) → total_of claims ≤ total_of c
  total_joined other =
      omega (
        arith,
        joined_total g cost n c count ok.old.numbered low high,
        ok.old.claims g low (omega (arith, count)),
        ok.old.claims (n + 1) (omega arith) (omega (arith, count)),
        join_margins g (n + 1) (group_of g p) (group_of (n + 1) p) (group_of g joined)
            (ok.old.spreads g low (omega (arith, count)))
            (ok.old.spreads (n + 1) (omega arith) (omega (arith, count)))
            (joined_together (n + 1) g (λ e. (let no : ⊥ = omega arith in no)) p)
            (no_box_test (group_of g joined) other),
      )

-- What a sheet that keeps the rules says of each of its groups: its calls answer, and its claim is the margin.
use Rattle.std.specs.Prelude.{Ok}
use mathlib.Core.Path.{◌≡◌, sym, ap, ◌∙◌}
use mathlib.Core.List.{List}
use Prim.Native.Nat.{ℕ, ◌+◌, ◌/◌, ◌≤◌, ◌<◌}
use native.Mathlib.Omega.{arith}
use lib.ListN.{length, length-append}
use Rattle.records.specs.Chunks.{chunk_at}
use Rattle.records.specs.Claims.{claim_of}
use Rattle.records.specs.Order.{first_of}
use Rattle.records.specs.Tables.{table_checks, legs_of}
use Rattle.records.specs.declared.claims.Claim.{Claim}
use Rattle.records.specs.declared.tables.Kind.TheVariants.{Placement, Claims}
use Rattle.records.proofs.OrderLaws.{first_then}
use Rattle.records.proofs.TableLaws.{whole, length_claims}
use Rattle.spreads.specs.Calls.{group_checks}
use Rattle.spreads.specs.Spreads.{group_in, group_rule}
use Rattle.spreads.specs.Boxes.{margin_of}
use Rattle.spreads.proofs.Laws.{spread_to_no_refusal}
use Rattle.sheets.specs.Demands.{Kept}
use Rattle.sheets.proofs.Laws.{claim_at, sound_checked}
use Rattle.verdicts.specs.Steps.Groups.{GroupPasses}
use Rattle.verdicts.specs.TableText.{shown_of, shown_in, group_text, shown_text}
use Rattle.verdicts.proofs.ShownLaws.{shown_more}
use Rattle.verdicts.proofs.TableFits.{shown_fits}

module _ (h p c : List ℕ) (kept : Kept h p c) where
  pub kept_checked : first_of (table_checks Placement p) ≡ Ok tt
  kept_checked = sound_checked p kept.placement

  pub kept_groups : length c / 32 ≤ 32
  kept_groups = (whole Claims (length c) kept.claims.whole).1

  module _ (k : ℕ) (low : k < length c / 32) where
    pub kept_answered : GroupPasses p (k + 1)
    unfolding group_checks
    kept_answered =
        first_then (table_checks Placement p) (group_rule (k + 1) (legs_of p)) kept_checked
        ∙ spread_to_no_refusal (k + 1) (legs_of p) (kept.rule.old.spreads (k + 1) (omega arith) (omega (arith, length_claims c)))

    pub kept_margin : (claim : Claim) → claim ≡ claim_of (chunk_at 32 c k) → claim.margin ≡ margin_of (group_in p (k + 1))
    kept_margin claim e = sym (claim_at c k low claim e) ∙ kept.rule.old.claims (k + 1) (omega arith) (omega (arith, length_claims c))

    -- there is room for the group behind those before it
    pub kept_room : length (shown_text (shown_in k (legs_of p))) + length (group_text (shown_of (k + 1) (group_in p (k + 1)))) ≤ 8608
    kept_room =
        omega (
          arith,
          kept_groups,
          shown_fits p kept_checked (k + 1) (omega (arith, kept_groups)),
          ap length (shown_more (legs_of p) k),
          length-append (shown_text (shown_in k (legs_of p))) (group_text (shown_of (k + 1) (group_in p (k + 1)))),
        )

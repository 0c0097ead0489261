-- The table of a sheet, group by group.
use Rattle.std.specs.Prelude.{◌≡◌, ℕ, ◌/◌, eqb, length, Ok}
use mathlib.Core.List.{List, flatten}
use Rattle.records.specs.Limits.{record_bytes}
use Rattle.records.specs.Chunks.{records_of}
use Rattle.records.specs.Legs.{leg_of}
use Rattle.records.specs.Lists.{keep}
use Rattle.records.specs.Order.{first_of}
use Rattle.records.specs.Tables.{legs_of}
use Rattle.spreads.specs.Calls.{group_checks}
use Rattle.spreads.specs.Spreads.{group_in}
use Rattle.spreads.specs.Strikes.{strikes_of, nets_of}
use Rattle.sheets.specs.Demands.{Kept}
use Rattle.verdicts.specs.TableText.{strike_lines, shown_in, shown_text}

-- the calls of group g refuse nothing of this placement
abbrev pub GroupPasses : List ℕ → ℕ → Type 0
GroupPasses placement g = first_of (group_checks placement g) ≡ Ok tt

-- the records of group g, one after the other: a table of that group alone
unfoldable pub group_table : List ℕ → ℕ → List ℕ
group_table placement g = flatten (keep (λ r. eqb (leg_of r).group g) (records_of placement))

-- the lines under the margin of group g
abbrev pub worksheet_lines : List ℕ → ℕ → List ℕ
worksheet_lines placement g = strike_lines (strikes_of (group_in placement g)) (nets_of (group_in placement g))

-- the text of every group that has a claim
abbrev pub groups_text : List ℕ → List ℕ → List ℕ
groups_text placement claims = shown_text (shown_in (length claims / record_bytes) (legs_of placement))

-- placement and claims of a sheet that keeps the rules
abbrev pub ShownBy : List ℕ → List ℕ → Type 0
ShownBy placement claims = (holdings : List ℕ) × Kept holdings placement claims

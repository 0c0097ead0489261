-- What the test for a long box computes, for the contracts of functions that are not public.
use Rattle.std.specs.Prelude.{ℕ, Bool, ◌&&◌, cond, List, eqb, Option, Some, None}
use Rattle.records.specs.Legs.{is_long, is_call, is_put, is_european}
use Rattle.records.specs.declared.legs.Leg.{Leg}
use Rattle.spreads.specs.Boxes.{is_box_leg, units_at, box_at}
use Rattle.spreads.specs.Steps.Gathered.{no_sides, with_right, is_balanced}
use Rattle.spreads.specs.declared.boxes.Kinds.{Kinds}

-- what is asked of each leg by itself
unfoldable pub fits_box : ℕ → ℕ → ℕ → Leg → Bool
fits_box low high expiry l = is_european l && eqb l.expiry expiry && is_box_leg low high l

-- ---- the units of the kinds, leg by leg

abbrev pub no_kinds : Kinds
no_kinds = record { calls = no_sides; puts = no_sides }

unfoldable pub with_kind : Kinds → Leg → Kinds
with_kind k l = record { calls = with_right is_call k.calls l; puts = with_right is_put k.puts l }

abbrev pub are_even : Kinds → Bool
are_even k = is_balanced k.calls && is_balanced k.puts && eqb k.puts.long.0 k.calls.long.0

-- ---- the answer

unfoldable pub boxed_at : ℕ → ℕ → List Leg → Option ℕ
boxed_at low high legs = cond (box_at low high legs) (Some (units_at is_long is_call low legs)) None

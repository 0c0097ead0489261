-- How the records of a placement lead from one to the next of their group: for the contracts of functions that are not public.
use Rattle.std.specs.Prelude.{ℕ, ◌+◌, ◌/◌, ◌≤◌, ◌<◌, ◌≡◌, cond, List, leb, length, drop, get_or, replicate}
use Rattle.records.specs.Limits.{record_bytes, most_legs, most_groups}
use Rattle.records.specs.Tables.{legs_of}
use Rattle.spreads.specs.Steps.Members.{leg_at_place, places_from}

-- the places of the legs of group g from record i on
unfoldable pub places_left : ℕ → List ℕ → ℕ → List ℕ
places_left g xs i = places_from g i (drop i (legs_of xs))

-- of group g the first leg from record i on stands at p; where there is none, p is past all records
pub record Next (g : ℕ) (xs : List ℕ) (i p : ℕ) : Type 0 where
  pub past : i ≤ p
  pub few : p ≤ most_legs
  pub same : places_left g xs p ≡ places_left g xs i
  pub here : p < length xs / record_bytes → (leg_at_place xs p).group ≡ g

-- a link of each record, and of each group from 0 on
abbrev pub links_long : ℕ
links_long = most_legs + most_groups + 1

-- no record leads anywhere, and no group has a leg
abbrev pub no_links : List ℕ
no_links = replicate links_long most_legs

-- from each record after the first i the next of its group; behind them of each group the first of these records
pub record Linked (xs links : List ℕ) (i : ℕ) : Type 0 where
  pub long : length links ≡ links_long
  pub nexts : (p : ℕ) → i ≤ p → p < length xs / record_bytes → Next (leg_at_place xs p).group xs (p + 1) (get_or links p 0)
  pub heads : (g : ℕ) → g ≤ most_groups → Next g xs i (get_or links (most_legs + g) 0)

-- where the first leg of group g stands
abbrev pub first_place : List ℕ → ℕ → ℕ
first_place links g = cond (leb g most_groups) (get_or links (most_legs + g) 0) most_legs

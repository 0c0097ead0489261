-- Rows as records of which so many contracts are held.
use Rattle.std.specs.Prelude.{ℕ, zero, suc, ◌+◌, ◌≤◌, ◌≡◌, true, cond, List, [], ◌∷◌, ◌++◌, eqb, length, get_or, Option, None, Some}
use Rattle.records.specs.Legs.{contracts_from, with_contracts}
use Rattle.records.specs.Lines.{same_line_side}
use Rattle.records.specs.Limits.{most_legs}
use Rattle.records.specs.declared.legs.Leg.{Leg}
use Rattle.fills.specs.Steps.Links.{most_records, most_links, bucket_of, Rising, Leads}

-- the row of record k; where none of its contracts is held, there is none
abbrev pub row_at : (ℕ → Leg) → List ℕ → ℕ → List Leg
row_at leg held k = cond (eqb (get_or held k 0) 0) [] (with_contracts (leg k) (contracts_from (get_or held k 0)) ∷ [])

-- the rows of n records from record k on
unfoldable pub rows_of : (ℕ → Leg) → List ℕ → ℕ → ℕ → List Leg
rows_of leg held k zero = []
rows_of leg held k (suc n) = row_at leg held k ++ rows_of leg held (k + 1) n

-- the rows of the first k records
abbrev pub rows_to : (ℕ → Leg) → List ℕ → ℕ → List Leg
rows_to leg held k = rows_of leg held 0 k

-- record j is a row
abbrev pub Live : List ℕ → ℕ → Type 0
Live held j = get_or held j 0 ≡ 0 → ⊥

-- nothing is held, or linked
abbrev pub Blank : List ℕ → Type 0
Blank entries = (j : ℕ) → get_or entries j 0 ≡ 0

-- n rows stand among the first k records, one for a line and side, and links lead to each from its bucket
pub record Stand (leg : ℕ → Leg) (k : ℕ) (held links : List ℕ) (n : ℕ) (rows : List Leg) : Type 0 where
  pub held_room : most_records ≤ length held
  pub links_room : most_links ≤ length links
  pub few : n ≤ most_legs
  pub count : length rows ≡ n
  pub are : rows_to leg held k ≡ rows
  pub later : (j : ℕ) → k ≤ j → get_or held j 0 ≡ 0
  pub rising : Rising k links
  pub linked : (j : ℕ) → Live held j → ∥ Leads links (bucket_of (leg j)) j ∥₁
  pub apart : (i j : ℕ) → Live held i → Live held j → same_line_side (leg i) (leg j) ≡ true → i ≡ j

-- the number that a posting is refused with, 0 where it is not
abbrev pub refused_with : ℕ → Option ℕ
refused_with number = cond (eqb number 0) None (Some number)

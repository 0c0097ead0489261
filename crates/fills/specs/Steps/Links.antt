-- The row of a line and side, found from link to link. Holdings and fills are
-- taken as one row of records. A link is to a record, counted from 1, or to none, 0: there is one for each bucket, and one for each
-- record, to the next of its bucket.
use Rattle.std.specs.Prelude.{◌≡◌, Bool, true, not, cond, ◌&&◌, List, ℕ, suc, ◌+◌, ◌-◌, ◌*◌, ◌/◌, ◌%◌, ◌<◌, eqb, ltb, length, get_or}
use Rattle.records.specs.Chunks.{chunk_at}
use Rattle.records.specs.Legs.{leg_of}
use Rattle.records.specs.Limits.{record_bytes, most_legs}
use Rattle.records.specs.Lines.{same_line_side}
use Rattle.records.specs.declared.legs.Leg.{Leg}
use Rattle.fills.specs.Fills.{most_fills}
use Rattle.fills.specs.Rows.{unmarked}

-- record k of both tables: the holdings without their marks, then the fills
unfoldable pub leg_in_play : List ℕ → List ℕ → ℕ → Leg
leg_in_play h f k = cond (ltb k (length h / record_bytes)) (unmarked (chunk_at record_bytes h k)) (leg_of (chunk_at record_bytes f (k - length h / record_bytes)))

-- the records of both tables at most, and their links
abbrev pub most_records : ℕ
most_records = most_legs + most_fills

abbrev pub buckets : ℕ
buckets = 1024

abbrev pub most_links : ℕ
most_links = buckets + most_records

-- which of the buckets a leg is in: legs of one line and side are in one
unfoldable pub bucket_of : Leg → ℕ
bucket_of l =
    (81649157 * l.strike + 68718953 * l.expiry + 60293689 * l.underlying + 52706207 * l.size + 97612921 * l.side + 73939133 * l.right)
    / 4194304
    % buckets

-- record j is a row, of x's line and side
abbrev pub is_row : (ℕ → Leg) → List ℕ → Leg → ℕ → Bool
is_row leg held x j = not (eqb (get_or held j 0) 0) && same_line_side x (leg j)

-- links lead to the first k records, and each to one whose own link comes after it
abbrev pub Rising : ℕ → List ℕ → Type 0
Rising k links = (l j : ℕ) → get_or links l 0 ≡ suc j → (j < k) × (l < buckets + j)

-- the links go on from link l to link `end`
pub data Path (links : List ℕ) : ℕ → ℕ → Type 0 where
  stop : {l end : ℕ} → end ≡ l → Path links l end
  on : {l end : ℕ} (j : ℕ) → get_or links l 0 ≡ suc j → Path links (buckets + j) end → Path links l end

-- from link l on they lead to record k
pub record Leads (links : List ℕ) (l k : ℕ) : Type 0 where
  pub end : ℕ
  pub path : Path links l end
  pub last : get_or links end 0 ≡ suc k

-- the search from link l on ends at link `end`: at the first record that is such a row, or, where there is none, at the free link
pub record Ended (row : ℕ → Bool) (links : List ℕ) (l end : ℕ) : Type 0 where
  pub path : Path links l end
  pub found : (j : ℕ) → get_or links end 0 ≡ suc j → row j ≡ true
  pub none : get_or links end 0 ≡ 0 → (k : ℕ) → Leads links l k → row k ≡ true → ⊥

-- the same of the row of record k's line and side, from its bucket on
abbrev pub EndedAt : List ℕ → List ℕ → List ℕ → List ℕ → ℕ → ℕ → Type 0
EndedAt h f held links k end = Ended (is_row (leg_in_play h f) held (leg_in_play h f k)) links (bucket_of (leg_in_play h f k)) end

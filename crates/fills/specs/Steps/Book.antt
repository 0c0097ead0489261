-- A book, and what its steps leave in it.
use Rattle.std.specs.Prelude.{ℕ, ◌+◌, ◌/◌, ◌≡◌, List, cond, eqb, length, Result, Ok}
use Rattle.records.specs.Chunks.{records_of}
use Rattle.records.specs.Limits.{record_bytes}
use Rattle.records.specs.Listed.{Entry}
use Rattle.records.specs.declared.legs.Leg.{Leg}
use Rattle.records.specs.declared.refusals.Refusal.{Refusal}
use Rattle.fills.specs.Rows.{held_of, opened, closed, merged_rows, starting_legs}
use Rattle.fills.specs.Played.{open_number, close_number, played_over, refused_over}
use Rattle.fills.specs.Steps.Links.{leg_in_play}
use Rattle.fills.specs.Steps.Played.{row_in, rows_in}
use Rattle.fills.specs.declared.book.Book.{Book}

-- the next record
abbrev pub next_leg : Book → Leg
next_leg b = leg_in_play b.holdings.now b.fills.now b.gone

-- the row of a record, and the rows that stand
abbrev pub row_at_record : Book → ℕ → List Leg
row_at_record b k = row_in b.holdings.now b.fills.now b.held k

abbrev pub standing : Book → List Leg
standing b = rows_in b.holdings.now b.fills.now b.held b.gone

-- ---- the next record opened, and closed: its number, and the rows that then stand

abbrev pub opening_number : Book → ℕ
opening_number b = open_number (held_of (next_leg b) (standing b)) b.rows (next_leg b).contracts.0

abbrev pub closing_number : Book → ℕ
closing_number b = close_number (held_of (next_leg b) (standing b)) (next_leg b).contracts.0

abbrev pub rows_opened : Book → List Leg
rows_opened b = cond (eqb (opening_number b) 0) (opened (next_leg b) (standing b)) (standing b)

abbrev pub rows_closed : Book → List Leg
rows_closed b = cond (eqb (closing_number b) 0) (closed (next_leg b) (standing b)) (standing b)

-- so many records of the same tables are gone over, and these rows stand
pub record Gone (before after : Book) (records : ℕ) (left : List Leg) : Type 0 where
  pub holdings : after.holdings.now ≡ before.holdings.now
  pub fills : after.fills.now ≡ before.fills.now
  pub gone : after.gone ≡ records
  pub rows : standing after ≡ left

-- one record more
abbrev pub GoneOver : Book → Book → List Leg → Type 0
GoneOver before after rows = Gone before after (before.gone + 1) rows

-- the starting table, merged
abbrev pub StartStands : Book → Book → Result Unit Refusal → Type 0
StartStands before after r =
    r ≡ Ok tt → Gone before after (length before.holdings.now / record_bytes) (merged_rows (starting_legs before.holdings.now))

-- ---- all fills

abbrev pub refused_of : Book → List Entry
refused_of b = refused_over 0 (standing b) (records_of b.fills.now)

abbrev pub AllPlayed : Book → Book → Type 0
AllPlayed before after =
    Gone before after (length before.holdings.now / record_bytes + length before.fills.now / record_bytes) (played_over (standing before) (records_of before.fills.now))

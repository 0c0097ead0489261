-- What stands of both tables' records at each step of the play, and what is answered of it.
use Rattle.std.specs.Prelude.{ℕ, ◌/◌, List, [], ◌++◌, length, Result}
use Rattle.records.specs.Limits.{record_bytes}
use Rattle.records.specs.Order.{first_of}
use Rattle.records.specs.declared.legs.Leg.{Leg}
use Rattle.fills.specs.Rows.{starting_legs}
use Rattle.fills.specs.Calls.{ask_past, play_room, rows_played, refused_in, play_answer}
use Rattle.fills.specs.Steps.Links.{leg_in_play}
use Rattle.fills.specs.Steps.Standing.{row_at, rows_to, Stand}
use Rattle.records.specs.declared.refusals.Refusal.{Refusal}
use Rattle.fills.specs.declared.calls.Tally.{Tally}

-- the row of record k, and the rows of the first k records
abbrev pub row_in : List ℕ → List ℕ → List ℕ → ℕ → List Leg
row_in h f held k = row_at (leg_in_play h f) held k

abbrev pub rows_in : List ℕ → List ℕ → List ℕ → ℕ → List Leg
rows_in h f held k = rows_to (leg_in_play h f) held k

-- n rows of the first k records stand
abbrev pub StandTo : List ℕ → List ℕ → ℕ → List ℕ → List ℕ → ℕ → Type 0
StandTo h f k held links n = Stand (leg_in_play h f) k held links n (rows_in h f held k)

-- ---- what is answered, of lent slices

-- 19 of the starting table, then 17, or how many rows and refused fills there are
abbrev pub start_answer : List ℕ → List ℕ → List ℕ → List ℕ → List ℕ → Result Tally Refusal
start_answer h f result indices numbers =
    play_answer
    (first_of (ask_past [] 0 (starting_legs h) ++ play_room (length f / record_bytes) (length result) (length indices) (length numbers)))
    (length (rows_played h f))
    (length (refused_in h f))

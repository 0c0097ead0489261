-- What is demanded of the day's fills, of the definitions that the contract of `play` cites; the proofs stand in
-- proofs/LedgerLaws, BalanceLaws, ResultLaws and KeptBytes.
use Rattle.std.specs.Prelude.{◌≡◌, false, List, [], ◌∷◌, ◌++◌, ℕ, ◌+◌, ◌*◌, ◌≤◌, length, take, Result, Ok, Err}
use Rattle.records.specs.Bytes.{AllBytes}
use Rattle.records.specs.Chunks.{records_of}
use Rattle.records.specs.Legs.{leg_of}
use Rattle.records.specs.Lines.{same_line_side, contracts_of}
use Rattle.records.specs.Lists.{All}
use Rattle.records.specs.Listed.{indices_of, numbers_of}
use Rattle.records.specs.Tables.{check_call, legs_of}
use Rattle.records.specs.Written.{put_at, left_after, StandsFirst}
use Rattle.records.specs.Limits.{record_bytes}
use Rattle.records.specs.declared.legs.Leg.{Leg}
use Rattle.records.specs.declared.tables.Kind.TheVariants.{Holdings}
use Rattle.fills.specs.Fills.{fill_leg, result_bytes}
use Rattle.fills.specs.Rows.{merged_rows, bytes_of, starting_legs}
use Rattle.fills.specs.Played.{played_over, refused_over}
use Rattle.fills.specs.Calls.{rows_played, refused_in, play_call, has_played}
use Rattle.fills.specs.Ledger.{Ledger, empty_ledger, started_from, ledger_over, refused_by, Apart, StandFor, Filled}
use Rattle.fills.specs.Balance.{accepted_over, opened_in, closed_in}
use Rattle.records.specs.declared.refusals.Refusal.{Refusal}
use Rattle.fills.specs.declared.calls.Tally.{Tally}
use Rattle.fills.specs.Calls.{tally}

-- ---- 'Each is answered as a plain ledger from line and side to contracts would.'

-- After any fills over any starting table of records with at least one contract the rows stand for the ledger: each line and
-- side in at most one row, its contracts the ledger's, and as many rows as the ledger has lines.
abbrev pub LedgerStands : Type 0
LedgerStands = (legs : List Leg) (fills : List (List ℕ)) → Filled legs
    → StandFor (played_over (merged_rows legs) fills) (ledger_over (started_from empty_ledger legs) fills)

-- and each fill is refused just as the ledger says, with its number
abbrev pub LedgerRefuses : Type 0
LedgerRefuses = (legs : List Leg) (fills : List (List ℕ)) → Filled legs
    → refused_over 0 (merged_rows legs) fills ≡ refused_by 0 (started_from empty_ledger legs) fills

-- the ledger starts with the contracts of the starting table, summed by line and side
abbrev pub LedgerStarts : Type 0
LedgerStarts = (legs : List Leg) → Filled legs → (x : Leg) → (started_from empty_ledger legs).held x ≡ contracts_of x legs

-- the ledger of a call's tables
abbrev pub start_of : List ℕ → Ledger
start_of h = started_from empty_ledger (legs_of h)

-- the same of every call that is not refused
abbrev pub CallStands : Type 0
CallStands = (h f : List ℕ) (result indices numbers n k : ℕ) → play_call h f result indices numbers ≡ Ok (tally n k)
    → StandFor (rows_played h f) (ledger_over (start_of h) (records_of f)) × (refused_in h f ≡ refused_by 0 (start_of h) (records_of f))

-- ---- contracts are neither made nor lost

-- in each line and side: what it has at the end and what accepted fills closed is what it had and what accepted fills opened
abbrev pub ContractsKept : Type 0
ContractsKept = (legs : List Leg) (fills : List (List ℕ)) → Filled legs
    → (x : Leg)
    → (let accepted = accepted_over (merged_rows legs) fills in
    contracts_of x (played_over (merged_rows legs) fills) + closed_in x accepted ≡ contracts_of x legs + opened_in x accepted)

-- the starting table without its marks has the contracts of the starting table
abbrev pub StartingContracts : Type 0
StartingContracts = (x : Leg) (h : List ℕ) → contracts_of x (starting_legs h) ≡ contracts_of x (legs_of h)

-- ---- the result table of a call that is not refused

-- it is a table of holdings: whole records, at most 256, each field in its range
abbrev pub ResultSound : Type 0
ResultSound = (h f : List ℕ) (result indices numbers n k : ℕ) → play_call h f result indices numbers ≡ Ok (tally n k)
    → check_call Holdings (bytes_of (rows_played h f)) ≡ Ok n

-- 'replayed holdings get mark 0': every record of it, touched by a fill or not
abbrev pub ResultUnpaid : Type 0
ResultUnpaid = (h f : List ℕ) (result indices numbers n k : ℕ) → play_call h f result indices numbers ≡ Ok (tally n k)
    → All (λ l. l.paid ≡ 0) (legs_of (bytes_of (rows_played h f)))

-- With no fills at all it comes out as it went in: a second call, over the records that the first left in `result`, answers as many
-- and no refused fill, in any lent slices with room for a table, and leaves the same records there.
abbrev pub ResultStays : Type 0
ResultStays = (h f result : List ℕ) (indices numbers n k : ℕ) → play_call h f (length result) indices numbers ≡ Ok (tally n k)
    → (room i j : ℕ) → result_bytes ≤ room
    → (let records = take (record_bytes * n) (left_after (has_played (Ok (tally n k))) (bytes_of (rows_played h f)) result) in
    (play_call records [] room i j ≡ Ok (tally n 0)) × (bytes_of (rows_played records []) ≡ records))

-- ---- what no fill touches comes out byte for byte

-- a record of the starting table with mark 0, where no other record and no accepted fill is of its line and side
pub record Untouched (h f x : List ℕ) : Type 0 where
  pub before : List (List ℕ)
  pub after : List (List ℕ)
  pub stands : records_of h ≡ before ++ x ∷ after
  pub unpaid : (leg_of x).paid ≡ 0
  pub first : All (λ y. same_line_side (leg_of y) (leg_of x) ≡ false) before
  pub last : All (λ y. same_line_side (leg_of y) (leg_of x) ≡ false) after
  pub played : All (λ fill. same_line_side (fill_leg fill) (leg_of x) ≡ false) (accepted_over (merged_rows (starting_legs h)) (records_of f))

-- the records that a call leaves at the front of its result
abbrev pub result_records : List ℕ → List ℕ → List ℕ → ℕ → ℕ → List (List ℕ)
result_records h f result n k = records_of (take (record_bytes * n) (left_after (has_played (Ok (tally n k))) (bytes_of (rows_played h f)) result))

-- it is one of them
abbrev pub UntouchedStays : Type 0
UntouchedStays = (h f result : List ℕ) (indices numbers n k : ℕ) → AllBytes h → play_call h f (length result) indices numbers ≡ Ok (tally n k)
    → (x : List ℕ) → Untouched h f x
    → (before : List (List ℕ)) × (after : List (List ℕ)) × (result_records h f result n k ≡ before ++ x ∷ after)

-- A starting table without repeats and marks comes out as it was where no fill is accepted, as where there is none.
abbrev pub StartingStays : Type 0
StartingStays = (h f result : List ℕ) (indices numbers n k : ℕ) → AllBytes h → play_call h f (length result) indices numbers ≡ Ok (tally n k)
    → Apart (legs_of h) → All (λ l. l.paid ≡ 0) (legs_of h) → accepted_over (merged_rows (starting_legs h)) (records_of f) ≡ []
    → left_after (has_played (Ok (tally n k))) (bytes_of (rows_played h f)) result ≡ put_at result 0 h

-- ---- 'Nothing lent is written' on a refusal; 'what lies past its output in a lent slice stays'

-- what an answer leaves in the three lent slices
abbrev pub LeftByPlay : Result Tally Refusal → List ℕ → List ℕ → List ℕ → List ℕ → List ℕ → Type 0
LeftByPlay (Ok t) h f d i m =
    (length (bytes_of (rows_played h f)) ≡ record_bytes * t.rows)
    × (length (refused_in h f) ≡ t.refused)
    × StandsFirst (bytes_of (rows_played h f)) d (left_after (has_played (Ok t)) (bytes_of (rows_played h f)) d)
    × StandsFirst (indices_of (refused_in h f)) i (left_after (has_played (Ok t)) (indices_of (refused_in h f)) i)
    × StandsFirst (numbers_of (refused_in h f)) m (left_after (has_played (Ok t)) (numbers_of (refused_in h f)) m)
LeftByPlay (Err r) h f d i m = (left_after (has_played (Err r)) (bytes_of (rows_played h f)) d ≡ d) × (left_after (has_played (Err r)) (indices_of (refused_in h f)) i ≡ i) × (left_after (has_played (Err r)) (numbers_of (refused_in h f)) m ≡ m)

abbrev pub PlayLeaves : Type 0
PlayLeaves = (h f d i m : List ℕ) → LeftByPlay (play_call h f (length d) (length i) (length m)) h f d i m

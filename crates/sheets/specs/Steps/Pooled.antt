-- The records of holdings and placement pooled, and numbered by line and side.
use Rattle.std.specs.Prelude.{◌≡◌, Bool, cond, List, ℕ, ◌+◌, ◌-◌, ◌*◌, ◌/◌, ◌≤◌, ◌<◌, eqb, ltb, length, get_or, Result, Ok}
use Rattle.records.specs.Limits.{record_bytes}
use Rattle.records.specs.Chunks.{chunk_at}
use Rattle.records.specs.Legs.{leg_of}
use Rattle.records.specs.Lines.{same_line_side, contracts_of}
use Rattle.records.specs.Order.{first_of, ask_each}
use Rattle.records.specs.Tables.{most_legs, table_number, field_checks, legs_of}
use Rattle.records.specs.declared.legs.Leg.{Leg}
use Rattle.records.specs.declared.tables.Kind.{Kind}
use Rattle.records.specs.declared.tables.Kind.TheVariants.{Holdings, Placement}
use Rattle.records.specs.declared.refusals.Refusal.{Refusal}
use Rattle.sheets.specs.declared.sums.ContractSum.{ContractSum}

-- record k of the two tables taken as one, holdings first
unfoldable pub pooled_leg : List ℕ → List ℕ → ℕ → Leg
pooled_leg h p k = cond (ltb k (length h / record_bytes)) (leg_of (chunk_at record_bytes h k)) (leg_of (chunk_at record_bytes p (k - length h / record_bytes)))

-- record j is of x's line and side
abbrev pub alike : (ℕ → Leg) → Leg → ℕ → Bool
alike leg x j = same_line_side x (leg j)

-- no record has a number above its own index
abbrev pub AtMostIndex : ℕ → List ℕ → Type 0
AtMostIndex n numbers = (i : ℕ) → i < n → get_or numbers i 0 ≤ i

-- of the first n records those have one number that have one line and side
pub record LineNumbered (leg : ℕ → Leg) (n : ℕ) (numbers : List ℕ) : Type 0 where
  pub same : (i : ℕ) → i < n → (j : ℕ) → j < n → eqb (get_or numbers i 0) (get_or numbers j 0) ≡ same_line_side (leg i) (leg j)
  pub below : AtMostIndex n numbers

-- how many records two tables have, and at most
abbrev pub pooled_records : List ℕ → List ℕ → ℕ
pooled_records h p = length h / record_bytes + length p / record_bytes

abbrev pub most_pooled : ℕ
most_pooled = most_legs + most_legs

-- the bytes of the longest table of legs
abbrev pub most_leg_bytes : ℕ
most_leg_bytes = record_bytes * most_legs

-- a list has an entry for each record of two tables
module _ {A : Type 0} where
  abbrev pub RoomFor : List ℕ → List ℕ → List A → Type 0
  RoomFor h p entries = pooled_records h p ≤ length entries

-- a table's records from index `first` on have numbers
abbrev pub RoomFrom : ℕ → List ℕ → List ℕ → Type 0
RoomFrom first table numbers = (first + length table / record_bytes ≤ most_pooled) × (first + length table / record_bytes ≤ length numbers)

-- all records of two tables are so numbered
abbrev pub AllNumbered : List ℕ → List ℕ → List ℕ → Type 0
AllNumbered h p numbers = LineNumbered (pooled_leg h p) (pooled_records h p) numbers

-- holdings and placement have passed 4
abbrev pub FieldsGood : List ℕ → List ℕ → Type 0
FieldsGood h p = (first_of (field_checks Holdings h) ≡ Ok tt) × (first_of (field_checks Placement p) ≡ Ok tt)

-- the records of a table are those from `first` on
abbrev pub StandsAt : (ℕ → Leg) → ℕ → List ℕ → Type 0
StandsAt leg first table = (i : ℕ) → i < length table / record_bytes → leg (first + i) ≡ leg_of (chunk_at record_bytes table i)

-- the sum with number c
abbrev pub sum_at : List ContractSum → ℕ → ℕ
sum_at sums c = (get_or sums c (record { 0 = 0 })).0

-- at each record's number stand the contracts of its line and side in the table
abbrev pub Tallied : List ℕ → ℕ → List ℕ → List ContractSum → Type 0
Tallied numbers first table sums =
    (leg : ℕ → Leg) (n : ℕ) → LineNumbered leg n numbers → first + length table / record_bytes ≤ n → StandsAt leg first table
    → (k : ℕ) → k < n → sum_at sums (get_or numbers k 0) ≡ contracts_of (leg k) (legs_of table)

-- a test of a table's records, answered by two lists of sums
abbrev pub SumsAnswer : (Leg → Bool) → List ℕ → ℕ → List ℕ → List ContractSum → List ContractSum → Type 0
SumsAnswer good table first numbers held placed =
    (i : ℕ) → i < length table / record_bytes
    → good (leg_of (chunk_at record_bytes table i)) ≡ eqb (sum_at held (get_or numbers (first + i) 0)) (sum_at placed (get_or numbers (first + i) 0))

-- so that the first record whose sums differ is the first that fails any test they answer
abbrev pub FirstUneven : Kind → List ℕ → ℕ → List ℕ → List ContractSum → List ContractSum → Result Unit Refusal → Type 0
FirstUneven kind table first numbers held placed r =
    (good : Leg → Bool) → SumsAnswer good table first numbers held placed
    → r ≡ first_of (ask_each good 14 (table_number kind) 0 (legs_of table))

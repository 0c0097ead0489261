-- What lines and records are taken as, one after the other, and what is answered of all of them.
use Rattle.std.specs.Prelude.{ℕ, ◌≤◌, ◌≡◌, List, ◌++◌, length, Result, Ok, Err}
use Rattle.records.specs.Limits.{most_legs}
use Rattle.records.specs.Order.{first_of}
use Rattle.records.specs.Written.{put_at}
use Rattle.symbols.specs.Lines.{lines_of}
use Rattle.symbols.specs.Calls.{line_checks, record_room, records_for, import_answer, record_checks, lines_for, list_room, export_answer}
use Rattle.records.specs.declared.refusals.Refusal.{Refusal}

-- x, where nothing is refused
abbrev pub given : {A : Type 0} → Result Unit Refusal → A → Result A Refusal
given (Ok tt) x = Ok x
given (Err r) x = Err r

-- ---- import, with these entries of the table of roots

-- refusals 22, 4 and 24 of the lines, or how many there are
abbrev pub lines_answer : List (List ℕ) → List ℕ → Result ℕ Refusal
lines_answer roots list = import_answer (first_of (line_checks roots 0 (lines_of list))) (length (lines_of list))

-- where they are not refused and there are at most 256, their records stand in the rows
abbrev pub LinesTaken : List (List ℕ) → List ℕ → Result ℕ Refusal → List ℕ → List ℕ → Type 0
LinesTaken roots list r before after =
    r ≡ Ok (length (lines_of list)) → length (lines_of list) ≤ most_legs → after ≡ put_at before 0 (records_for roots (lines_of list))

-- the same, then 1 and 17, of a lent table of so many bytes
abbrev pub table_answer : List (List ℕ) → List ℕ → ℕ → Result ℕ Refusal
table_answer roots list room =
    import_answer (first_of (line_checks roots 0 (lines_of list) ++ record_room (length (lines_of list)) room)) (length (lines_of list))

-- ---- export, with these entries of the table of roots

-- refusals 4 and 24 of the records, or how long their list is
abbrev pub records_answer : List (List ℕ) → List (List ℕ) → Result ℕ Refusal
records_answer roots records = export_answer (first_of (record_checks roots 0 records)) (length (lines_for roots records))

-- where they are not refused, it stands in the text
abbrev pub RecordsTaken : List (List ℕ) → List (List ℕ) → Result ℕ Refusal → List ℕ → List ℕ → Type 0
RecordsTaken roots records r before after = r ≡ Ok (length (lines_for roots records)) → after ≡ put_at before 0 (lines_for roots records)

-- the same, then 17, of a lent list of so many bytes
abbrev pub list_answer : List (List ℕ) → List (List ℕ) → ℕ → Result ℕ Refusal
list_answer roots records room =
    export_answer (first_of (record_checks roots 0 records ++ list_room (length (lines_for roots records)) room)) (length (lines_for roots records))

-- What is demanded of lists of option symbols, of the definitions that the contracts of `import` and `export` cite; the proofs
-- stand in proofs/RoundTrips and proofs/ResultLaws.
use Rattle.std.specs.Prelude.{ℕ, ◌*◌, ◌/◌, ◌≤◌, ◌<◌, ◌≡◌, List, [], map, length, get_or, take, Result, Ok, Err}
use Rattle.records.specs.Bytes.{AllBytes}
use Rattle.records.specs.Chunks.{records_of}
use Rattle.records.specs.Limits.{record_bytes, most_legs}
use Rattle.records.specs.Lists.{All}
use Rattle.records.specs.Order.{first_of}
use Rattle.records.specs.Tables.{check_call, legs_of}
use Rattle.records.specs.Written.{put_at, left_after, StandsFirst}
use Rattle.records.specs.declared.tables.Kind.TheVariants.{Holdings}
use Rattle.symbols.specs.Roots.{roots_of, name_of, terms_of, root_checks}
use Rattle.symbols.specs.Lines.{longest_line, lines_of}
use Rattle.symbols.specs.Calls.{leg_of_line, holdings_of, import_call, line_of_record, list_of, export_call, has_imported, has_exported}
use Rattle.records.specs.declared.refusals.Refusal.{Refusal}

-- ---- 'Round trips hold both ways for holdings with mark 0.'

-- Of all holdings that export takes: its list is imported, with the same roots, into any lent table with room, and says those holdings.
-- (A record with mark 1 it does not take.)
abbrev pub ImportOfExport : Type 0
ImportOfExport = (roots h : List ℕ) → AllBytes h → (room n : ℕ) → export_call roots h room ≡ Ok n
    → ((table : ℕ) → length h ≤ table → import_call roots (list_of roots h) table ≡ Ok (length h / record_bytes)) × (holdings_of roots (list_of roots h) ≡ h)

-- Of all lists that import takes: its holdings are exported, with the same roots, into any lent list with room, and say that list.
abbrev pub ExportOfImport : Type 0
ExportOfImport = (roots list : List ℕ) (room n : ℕ) → import_call roots list room ≡ Ok n
    → ((text : ℕ) → length list ≤ text → export_call roots (holdings_of roots list) text ≡ Ok (length list)) × (list_of roots (holdings_of roots list) ≡ list)

-- The same of the two calls, one after the other: the first n bytes that export leaves in a lent list are imported into any lent table
-- with room, and the holdings stand there from byte 0.
abbrev pub CallsImportBack : Type 0
CallsImportBack = (roots h out d : List ℕ) (n : ℕ) → AllBytes h → export_call roots h (length out) ≡ Ok n → length h ≤ length d
    → (let list = take n (left_after (has_exported (Ok n)) (list_of roots h) out) in
    (import_call roots list (length d) ≡ Ok (length h / record_bytes)) × (left_after (has_imported (Ok (length h / record_bytes))) (holdings_of roots list) d ≡ put_at d 0 h))

-- The n records that import leaves in a lent table are exported into any lent list with room, and the list stands there from byte 0.
abbrev pub CallsExportBack : Type 0
CallsExportBack = (roots list d out : List ℕ) (n : ℕ) → import_call roots list (length d) ≡ Ok n → length list ≤ length out
    → (let h = take (record_bytes * n) (left_after (has_imported (Ok n)) (holdings_of roots list) d) in
    (export_call roots h (length out) ≡ Ok (length list)) × (left_after (has_exported (Ok (length list))) (list_of roots h) out ≡ put_at out 0 list))

-- so that no two lists say the same holdings
abbrev pub OneList : Type 0
OneList = (roots a b : List ℕ) (room n table m : ℕ) → import_call roots a room ≡ Ok n → import_call roots b table ≡ Ok m
    → holdings_of roots a ≡ holdings_of roots b → a ≡ b

-- a list that export makes has at most 31 bytes a record, so that 7,936 are room for any
abbrev pub ListFits : Type 0
ListFits = (roots h : List ℕ) (room n : ℕ) → export_call roots h room ≡ Ok n → (n ≤ longest_line * (length h / record_bytes)) × (n ≤ longest_line * most_legs)

-- ---- 'roots differ, and so do those five taken together'

-- two entries of a table that passes never name the same terms, and never have one root
abbrev pub RootsDiffer : Type 0
RootsDiffer = (roots : List ℕ) → first_of (root_checks roots) ≡ Ok tt
    → (i j : ℕ) → i < length (roots_of roots) → j < length (roots_of roots)
    → (let entry : ℕ → List ℕ = λ k. get_or (roots_of roots) k [] in
    (terms_of (entry i) ≡ terms_of (entry j) → i ≡ j) × (name_of (entry i) ≡ name_of (entry j) → i ≡ j))

-- ---- 'Import makes holdings in line order with paid mark 0'

-- the legs are those of the lines, one for each, in their order
abbrev pub ImportInOrder : Type 0
ImportInOrder = (roots list : List ℕ) (room n : ℕ) → import_call roots list room ≡ Ok n
    → legs_of (holdings_of roots list) ≡ map (leg_of_line (roots_of roots)) (lines_of list)

-- and the lines of an exported list are those of the records, one for each, in their order
abbrev pub ExportInOrder : Type 0
ExportInOrder = (roots h : List ℕ) (room n : ℕ) → export_call roots h room ≡ Ok n
    → lines_of (list_of roots h) ≡ map (line_of_record (roots_of roots)) (records_of h)

-- what import makes is a table of holdings: whole records, at most 256, each field in its range
abbrev pub ImportSound : Type 0
ImportSound = (roots list : List ℕ) (room n : ℕ) → import_call roots list room ≡ Ok n → check_call Holdings (holdings_of roots list) ≡ Ok n

abbrev pub ImportUnpaid : Type 0
ImportUnpaid = (roots list : List ℕ) (room n : ℕ) → import_call roots list room ≡ Ok n → All (λ l. l.paid ≡ 0) (legs_of (holdings_of roots list))

-- 'An empty list is good': of no records, with any table of roots that passes and in any lent table
abbrev pub EmptyListGood : Type 0
EmptyListGood = (roots : List ℕ) (room : ℕ) → first_of (root_checks roots) ≡ Ok tt → (import_call roots [] room ≡ Ok 0) × (holdings_of roots [] ≡ [])

-- ---- 'Nothing lent is written' on a refusal; 'what lies past its output in a lent slice stays'

-- what an answer of import leaves in the lent table d
abbrev pub LeftByImport : Result ℕ Refusal → List ℕ → List ℕ → List ℕ → Type 0
LeftByImport (Ok n) roots list d =
    (length (holdings_of roots list) ≡ record_bytes * n) × StandsFirst (holdings_of roots list) d (left_after (has_imported (Ok n)) (holdings_of roots list) d)
LeftByImport (Err r) roots list d = left_after (has_imported (Err r)) (holdings_of roots list) d ≡ d

abbrev pub ImportLeaves : Type 0
ImportLeaves = (roots list d : List ℕ) → LeftByImport (import_call roots list (length d)) roots list d

-- what an answer of export leaves in the lent list d
abbrev pub LeftByExport : Result ℕ Refusal → List ℕ → List ℕ → List ℕ → Type 0
LeftByExport (Ok n) roots h d = (length (list_of roots h) ≡ n) × StandsFirst (list_of roots h) d (left_after (has_exported (Ok n)) (list_of roots h) d)
LeftByExport (Err r) roots h d = left_after (has_exported (Err r)) (list_of roots h) d ≡ d

abbrev pub ExportLeaves : Type 0
ExportLeaves = (roots h d : List ℕ) → LeftByExport (export_call roots h (length d)) roots h d

-- What import and export answer, and what they leave in the slice that they are lent.
use Rattle.std.specs.Prelude.{ℕ, ◌+◌, ◌*◌, Bool, true, false, leb, ltb, length, get_or, Result, Ok, Err}
use mathlib.Core.List.{List, [], ◌∷◌, ◌++◌, map, flatten}
use Rattle.records.specs.Chunks.{records_of}
use Rattle.records.specs.Legs.{leg_of, leg_bytes}
use Rattle.records.specs.Order.{Check, ask, first_of}
use Rattle.records.specs.Limits.{record_bytes, most_legs}
use Rattle.records.specs.Tables.{good_unpaid, whole_table}
use Rattle.records.specs.declared.legs.Leg.{Leg}
use Rattle.records.specs.declared.tables.Kind.TheVariants.{Holdings}
use Rattle.symbols.specs.Roots.{roots_of, name_of, terms_of, root_checks, place_of_name, place_of_terms, leg_terms}
use Rattle.symbols.specs.Lines.{lines_of, root_in, well_formed, line_says, line_in_range, line_leg, line_text}
use Rattle.records.specs.declared.refusals.Refusal.{Refusal}

-- ---- import: 'makes holdings in line order'

-- the entry of a line's root
unfoldable pub place_of_line : List (List ℕ) → List ℕ → ℕ
place_of_line roots xs = place_of_name (root_in xs) roots

unfoldable pub known_root : List (List ℕ) → List ℕ → Bool
known_root roots xs = ltb (place_of_line roots xs) (length roots)

unfoldable pub leg_of_line : List (List ℕ) → List ℕ → Leg
leg_of_line roots xs = line_leg (terms_of (get_or roots (place_of_line roots xs) [])) (line_says xs)

-- 'per line .. 22, malformed line or no newline; 4, field out of range ..; 24, root .. not in the table'; the first is line i
unfoldable pub line_checks : List (List ℕ) → ℕ → List (List ℕ) → List Check
line_checks roots i [] = []
line_checks roots i (xs ∷ lines) =
    ask (well_formed xs) 22 6 i ∷ ask (line_in_range (line_says xs)) 4 6 i ∷ ask (known_root roots xs) 24 6 i ∷ line_checks roots (i + 1) lines

-- 'then 1 for more than 256 lines; then 17, table 1 .., bytes needed'
unfoldable pub record_room : ℕ → ℕ → List Check
record_room lines room = ask (leb lines most_legs) 1 0 0 ∷ ask (leb (record_bytes * lines) room) 17 1 (record_bytes * lines) ∷ []

unfoldable pub import_checks : List ℕ → List ℕ → ℕ → List Check
import_checks roots list room =
    root_checks roots ++ (line_checks (roots_of roots) 0 (lines_of list) ++ record_room (length (lines_of list)) room)

-- the records of a list's lines
unfoldable pub records_for : List (List ℕ) → List (List ℕ) → List ℕ
records_for roots lines = flatten (map (λ xs. leg_bytes (leg_of_line roots xs)) lines)

unfoldable pub holdings_of : List ℕ → List ℕ → List ℕ
holdings_of roots list = records_for (roots_of roots) (lines_of list)

abbrev pub import_answer : Result Unit Refusal → ℕ → Result ℕ Refusal
import_answer (Ok _) records = Ok records
import_answer (Err r) records = Err r

-- with a lent table of so many bytes
unfoldable pub import_call : List ℕ → List ℕ → ℕ → Result ℕ Refusal
import_call roots list room = import_answer (first_of (import_checks roots list room)) (length (lines_of list))

-- whether the lent table then has the holdings, `left_after`
abbrev pub has_imported : Result ℕ Refusal → Bool
has_imported (Ok n) = true
has_imported (Err r) = false

-- ---- 'export is the reverse'

-- the entry of a record's terms
unfoldable pub place_of_record : List (List ℕ) → List ℕ → ℕ
place_of_record roots xs = place_of_terms (leg_terms (leg_of xs)) roots

unfoldable pub known_terms : List (List ℕ) → List ℕ → Bool
known_terms roots xs = ltb (place_of_record roots xs) (length roots)

unfoldable pub line_of_record : List (List ℕ) → List ℕ → List ℕ
line_of_record roots xs = line_text (name_of (get_or roots (place_of_record roots xs) [])) (leg_of xs)

-- 'per .. record .. 4, field out of range, where export also refuses mark 1; 24, .. terms not in the table'; the first is record i
unfoldable pub record_checks : List (List ℕ) → ℕ → List (List ℕ) → List Check
record_checks roots i [] = []
record_checks roots i (xs ∷ records) =
    ask (good_unpaid xs) 4 1 i ∷ ask (known_terms roots xs) 24 1 i ∷ record_checks roots (i + 1) records

-- the lines of records
unfoldable pub lines_for : List (List ℕ) → List (List ℕ) → List ℕ
lines_for roots records = flatten (map (line_of_record roots) records)

unfoldable pub list_of : List ℕ → List ℕ → List ℕ
list_of roots holdings = lines_for (roots_of roots) (records_of holdings)

-- 'then 17, table .. 6, bytes needed'
unfoldable pub list_room : ℕ → ℕ → List Check
list_room bytes room = ask (leb bytes room) 17 6 bytes ∷ []

-- 'then 1, holdings not whole records or over 256 of them; then per .. record ..; then 17'
unfoldable pub export_checks : List ℕ → List ℕ → ℕ → List Check
export_checks roots holdings room =
    root_checks roots
    ++ (ask (whole_table Holdings (length holdings)) 1 0 0
    ∷ (record_checks (roots_of roots) 0 (records_of holdings) ++ list_room (length (list_of roots holdings)) room))

abbrev pub export_answer : Result Unit Refusal → ℕ → Result ℕ Refusal
export_answer (Ok _) bytes = Ok bytes
export_answer (Err r) bytes = Err r

-- with a lent list of so many bytes
unfoldable pub export_call : List ℕ → List ℕ → ℕ → Result ℕ Refusal
export_call roots holdings room = export_answer (first_of (export_checks roots holdings room)) (length (list_of roots holdings))

abbrev pub has_exported : Result ℕ Refusal → Bool
has_exported (Ok n) = true
has_exported (Err r) = false

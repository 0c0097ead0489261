-- What the salvage answers, and what it leaves in the slices that it is lent.
use Rattle.std.specs.Prelude.{ℕ, Bool, true, false, not, ◌&&◌, List, [], ◌∷◌, ◌++◌, eqb, leb, length, Result, Ok, Err}
use Rattle.records.specs.Order.{Check, ask, first_of}
use Rattle.records.specs.Within.{within}
use Rattle.blocks.specs.Sizes.{most_file_bytes}
use Rattle.blocks.specs.File.{within_limits}
use Rattle.salvage.specs.Kept.{kept_in, dropped_in, sound_file}
use Rattle.records.specs.declared.refusals.Refusal.{Refusal}
use Rattle.salvage.specs.declared.calls.Saved.{Saved}

-- ---- 'Refusals, all table 0, with place 0 for the first three'

-- '1 for size; 2 when nothing is kept'
unfoldable pub salvage_start : ℕ → List (List ℕ) → List Check
salvage_start size kept = ask (within 1 most_file_bytes size) 1 0 0 ∷ ask (not (eqb (length kept) 0)) 2 0 0 ∷ []

-- '17, place bytes needed for the file, then entries needed for the list'
unfoldable pub salvage_room : ℕ → ℕ → ℕ → ℕ → ℕ → List Check
salvage_room bytes entries out indices numbers =
    ask (leb bytes out) 17 0 bytes ∷ ask (leb entries indices && leb entries numbers) 17 0 entries ∷ []

-- '3 when the kept records pass a table's limit', then 17
unfoldable pub salvage_end : List (List ℕ) → ℕ → ℕ → ℕ → ℕ → ℕ → List Check
salvage_end kept bytes entries out indices numbers =
    ask (within_limits kept) 3 0 0 ∷ salvage_room bytes entries out indices numbers

unfoldable pub salvage_checks : List ℕ → ℕ → ℕ → ℕ → List Check
salvage_checks bytes out indices numbers =
    salvage_start (length bytes) (kept_in bytes)
    ++ salvage_end (kept_in bytes) (length (sound_file bytes)) (length (dropped_in bytes)) out indices numbers

-- ---- the answer: the file's bytes and the list's entries

abbrev pub saved : ℕ → ℕ → Saved
saved bytes entries = record { bytes = bytes; entries = entries }

abbrev pub salvage_answer : Result Unit Refusal → ℕ → ℕ → Result Saved Refusal
salvage_answer (Ok _) bytes entries = Ok (saved bytes entries)
salvage_answer (Err r) bytes entries = Err r

-- with lent slices of so many entries
unfoldable pub salvage_call : List ℕ → ℕ → ℕ → ℕ → Result Saved Refusal
salvage_call bytes out indices numbers =
    salvage_answer (first_of (salvage_checks bytes out indices numbers)) (length (sound_file bytes)) (length (dropped_in bytes))

-- whether the lent slices then have the file and the list, `left_after`
abbrev pub has_saved : Result Saved Refusal → Bool
has_saved (Ok s) = true
has_saved (Err r) = false

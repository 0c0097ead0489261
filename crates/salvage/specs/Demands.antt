-- What is demanded of a salvage, of the definitions that the contract of `salvage` cites; the proofs stand in proofs/Undamaged,
-- ListedLaws and Demands.
use Rattle.std.specs.Prelude.{ℕ, ◌/◌, ◌%◌, ◌+◌, ◌≤◌, ◌<◌, ◌≡◌, true, false, not, List, [], eqb, length, take, Result, Ok, Err}
use Rattle.records.specs.Bytes.{AllBytes}
use Rattle.records.specs.Chunks.{chunk_at}
use Rattle.records.specs.Lists.{All, Ascending, same, only, sum_of}
use Rattle.records.specs.Listed.{Entry, indices_of, numbers_of}
use Rattle.records.specs.Written.{left_after, StandsFirst}
use Rattle.blocks.specs.Sizes.{block_bytes}
use Rattle.blocks.specs.Forms.{form_mark}
use Rattle.blocks.specs.Block.{sums_agree}
use Rattle.blocks.specs.File.{tables_of, tables_in, origin_in}
use Rattle.blocks.specs.Alone.{alone_call}
use Rattle.blocks.specs.RoundTrips.{Reads}
use Rattle.blocks.specs.declared.forms.Form.{Form}
use Rattle.blocks.specs.declared.forms.Origin.{Origin}
use Rattle.salvage.specs.Pieces.{piece_count}
use Rattle.salvage.specs.Kept.{origin_for, drop_number, is_kept, kept_in, dropped_in, sound_file}
use Rattle.salvage.specs.Calls.{salvage_call, has_saved}
use Rattle.records.specs.declared.refusals.Refusal.{Refusal}
use Rattle.salvage.specs.declared.calls.Saved.{Saved}
use Rattle.salvage.specs.Calls.{saved}

-- ---- 'writes a sound file'

-- Where the salvage is not refused, the reader takes what comes out; its tables are the kept blocks' records, joined by kind in file
-- order; its form and account are the first kept block's.
abbrev pub ComesOutSound : Type 0
ComesOutSound = (bytes : List ℕ) (out indices numbers n k : ℕ) → salvage_call bytes out indices numbers ≡ Ok (saved n k)
    → Reads (sound_file bytes) × (tables_in (sound_file bytes) ≡ tables_of (kept_in bytes)) × (origin_in (sound_file bytes) ≡ origin_for bytes)

-- every kept block is sound by itself, and of the form and account that the file has
abbrev pub KeptAreSound : Type 0
KeptAreSound = (bytes : List ℕ) → All (λ b. alone_call b ≡ Ok (origin_for bytes)) (kept_in bytes)

-- ---- 'An undamaged file comes out the same with an empty list.'

abbrev pub UndamagedSame : Type 0
UndamagedSame = (file : List ℕ) → AllBytes file → Reads file → (out indices numbers : ℕ) → length file ≤ out
    → (salvage_call file out indices numbers ≡ Ok (saved (length file) 0)) × (sound_file file ≡ file) × (dropped_in file ≡ [])

-- What a salvage leaves in the first n bytes of a lent buffer, n being what it answers, comes out of a second one the same, with an
-- empty list, into any lent slices with room for it.
abbrev pub TwiceSame : Type 0
TwiceSame = (bytes out : List ℕ) (indices numbers n k : ℕ) → salvage_call bytes (length out) indices numbers ≡ Ok (saved n k)
    → (room i m : ℕ) → n ≤ room
    → (let file = take n (left_after (has_saved (Ok (saved n k))) (sound_file bytes) out) in
    (salvage_call file room i m ≡ Ok (saved n 0)) × (sound_file file ≡ file) × (dropped_in file ≡ []))

-- ---- 'a list of what it dropped': every piece is kept, or listed once

-- how often x stands in a list
abbrev pub times : ℕ → List ℕ → ℕ
times x xs = sum_of (λ y. only (eqb y x) 1) xs

abbrev pub KeptOrListed : Type 0
KeptOrListed = (bytes : List ℕ) (i : ℕ) → i < piece_count (length bytes)
    → times i (indices_of (dropped_in bytes)) ≡ only (not (is_kept (origin_for bytes) (chunk_at block_bytes bytes i))) 1

-- an entry says the index of a piece, and the number that it is dropped with
abbrev pub Says : List ℕ → Entry → Type 0
Says bytes e = (e.index < piece_count (length bytes)) × (e.number ≡ drop_number (origin_for bytes) (chunk_at block_bytes bytes e.index)) × (1 ≤ e.number)

abbrev pub ListedRight : Type 0
ListedRight = (bytes : List ℕ) → All (Says bytes) (dropped_in bytes)

-- 'The list is in file order'
abbrev pub ListedInOrder : Type 0
ListedInOrder = (bytes : List ℕ) → Ascending (indices_of (dropped_in bytes))

abbrev pub NoneLost : Type 0
NoneLost = (bytes : List ℕ) → length (kept_in bytes) + length (dropped_in bytes) ≡ piece_count (length bytes)

-- 'a torn last block as 1'
abbrev pub TornIsOne : Type 0
TornIsOne = (bytes : List ℕ) → 1 ≤ length bytes % block_bytes → drop_number (origin_for bytes) (chunk_at block_bytes bytes (length bytes / block_bytes)) ≡ 1

-- a block with neither form's mark is 3, where its checks are right
abbrev pub UnmarkedIsThree : Type 0
UnmarkedIsThree = (lead : Origin) (b : List ℕ) → length b ≡ block_bytes → sums_agree b ≡ true → ((form : Form) → same (take 4 b) (form_mark form) ≡ false)
    → drop_number lead b ≡ 3

-- ---- 'Nothing lent is written' on a refusal; 'what lies past its output in a lent slice stays'

-- what an answer leaves in the three lent slices
abbrev pub LeftBySalvage : Result Saved Refusal → List ℕ → List ℕ → List ℕ → List ℕ → Type 0
LeftBySalvage (Ok s) bytes d i m =
    (length (sound_file bytes) ≡ s.bytes)
    × (length (dropped_in bytes) ≡ s.entries)
    × StandsFirst (sound_file bytes) d (left_after (has_saved (Ok s)) (sound_file bytes) d)
    × StandsFirst (indices_of (dropped_in bytes)) i (left_after (has_saved (Ok s)) (indices_of (dropped_in bytes)) i)
    × StandsFirst (numbers_of (dropped_in bytes)) m (left_after (has_saved (Ok s)) (numbers_of (dropped_in bytes)) m)
LeftBySalvage (Err r) bytes d i m =
    (left_after (has_saved (Err r)) (sound_file bytes) d ≡ d)
    × (left_after (has_saved (Err r)) (indices_of (dropped_in bytes)) i ≡ i)
    × (left_after (has_saved (Err r)) (numbers_of (dropped_in bytes)) m ≡ m)

abbrev pub SalvageLeaves : Type 0
SalvageLeaves = (bytes d i m : List ℕ) → LeftBySalvage (salvage_call bytes (length d) (length i) (length m)) bytes d i m

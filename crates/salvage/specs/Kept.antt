-- Which pieces are kept, which are dropped and with which number, and the file of those that are kept.
use Rattle.std.specs.Prelude.{ℕ, ◌+◌, Bool, ◌&&◌, cond, List, [], ◌∷◌, ◌++◌, eqb, Result, Ok, Err, Option, Some, None}
use Rattle.records.specs.Lists.{keep}
use Rattle.records.specs.Listed.{Entry, entry}
use Rattle.blocks.specs.Forms.{same_form, in_old}
use Rattle.blocks.specs.File.{tables_of, file_of}
use Rattle.blocks.specs.Alone.{alone_call}
use Rattle.blocks.specs.declared.forms.Origin.{Origin}
use Rattle.salvage.specs.Pieces.{pieces_of}
use Rattle.records.specs.declared.refusals.Refusal.{Refusal}

-- ---- 'Form and account are the first kept block's'

-- The first kept block is the first that is sound by itself: none before it is kept, and it is of its own form and account.
abbrev pub lead_by : Result Origin Refusal → Option Origin → Option Origin
lead_by (Ok o) later = Some o
lead_by (Err r) later = later

unfoldable pub lead_of : List (List ℕ) → Option Origin
lead_of [] = None
lead_of (b ∷ bs) = lead_by (alone_call b) (lead_of bs)

-- where no piece is sound none is kept, whatever stands here
abbrev pub leading : Option Origin → Origin
leading (Some o) = o
leading None = in_old

unfoldable pub origin_for : List ℕ → Origin
origin_for bytes = leading (lead_of (pieces_of bytes))

-- ---- kept or dropped

abbrev pub same_origin : Origin → Origin → Bool
same_origin a b = same_form a.form b.form && eqb a.account b.account

-- 'each with the first of 2, 3, 4, 20 that applies', 'a torn last block as 1'; 0 where it is kept. 20 is 'a new-form block with
-- account zero', which is not sound by itself, 'or a block of another form or account'.
abbrev pub number_by : Result Origin Refusal → Origin → ℕ
number_by (Ok o) lead = cond (same_origin o lead) 0 20
number_by (Err r) lead = r.number

unfoldable pub drop_number : Origin → List ℕ → ℕ
drop_number lead b = number_by (alone_call b) lead

abbrev pub is_kept : Origin → List ℕ → Bool
is_kept lead b = eqb (drop_number lead b) 0

unfoldable pub kept_of : Origin → List (List ℕ) → List (List ℕ)
kept_of lead bs = keep (is_kept lead) bs

-- 'a list of what it dropped: block index and refusal number'; 'The list is in file order'. The first piece is piece i.
unfoldable pub dropped_of : Origin → ℕ → List (List ℕ) → List Entry
dropped_of lead i [] = []
dropped_of lead i (b ∷ bs) = entry i (drop_number lead b) ++ dropped_of lead (i + 1) bs

-- ---- of all the bytes

unfoldable pub kept_in : List ℕ → List (List ℕ)
kept_in bytes = kept_of (origin_for bytes) (pieces_of bytes)

unfoldable pub dropped_in : List ℕ → List Entry
dropped_in bytes = dropped_of (origin_for bytes) 0 (pieces_of bytes)

-- 'joins records by kind in file order, and writes a sound file'
unfoldable pub sound_file : List ℕ → List ℕ
sound_file bytes = file_of (origin_for bytes) (tables_of (kept_in bytes))

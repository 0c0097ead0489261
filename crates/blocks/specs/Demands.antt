-- What is demanded of lent memory in every call of this crate, each statement under its sentence, and of a block judged by itself.
-- The proofs stand in proofs/Demands.antt and SoundBlocks.antt; the round trips in specs/RoundTrips.antt.
use Rattle.std.specs.Prelude.{ℕ, ◌≡◌, List, length, drop, Ok, Err}
use Rattle.records.specs.Lists.{All}
use Rattle.records.specs.Written.{left_after}
use Rattle.records.specs.declared.refusals.Refusal.{Refusal}
use Rattle.records.specs.declared.tables.Kind.{Kind}
use Rattle.blocks.specs.File.{Tables, table_of, blocks_of, tables_in, origin_in, file_of}
use Rattle.blocks.specs.Writer.{write_call, has_written}
use Rattle.blocks.specs.Reader.{counts_of, read_call, copied, has_read}
use Rattle.blocks.specs.Moves.{move_call}
use Rattle.blocks.specs.Alone.{alone_call}
use Rattle.blocks.specs.RoundTrips.{Reads}
use Rattle.blocks.specs.declared.forms.Form.{Form}
use Rattle.blocks.specs.declared.forms.Origin.{Origin}
use Rattle.blocks.specs.declared.answers.Counts.{Counts}
use Rattle.blocks.specs.Reader.{reading}

-- 'Nothing lent is written' on a refusal: where the reader refuses, each lent table is left as it was, and where the writer or a
-- move does, its buffer
abbrev pub RefusedReadsNothing : Type 0
RefusedReadsNothing = (file : List ℕ) (h p c : ℕ) (r : Refusal) → read_call file h p c ≡ Err r
    → (kind : Kind) (lent : List ℕ) → left_after (has_read (read_call file h p c)) (table_of kind (tables_in file)) lent ≡ lent

abbrev pub RefusedWritesNothing : Type 0
RefusedWritesNothing = (o : Origin) (t : Tables) (out : List ℕ) (r : Refusal) → write_call o t (length out) ≡ Err r
    → left_after (has_written (write_call o t (length out))) (file_of o t) out ≡ out

abbrev pub RefusedMovesNothing : Type 0
RefusedMovesNothing = (from : Form) (to : Origin) (file out : List ℕ) (r : Refusal) → move_call from to file (length out) ≡ Err r
    → left_after (has_written (move_call from to file (length out))) (file_of to (tables_in file)) out ≡ out

-- 'In every call that succeeds, what lies past its output in a lent slice stays': past a table's records, read or only copied, and past
-- the file, whose length the writer and a move answer
abbrev pub PastRecordsStays : Type 0
PastRecordsStays = (file : List ℕ) (h p c : ℕ) (n : Counts) (o : Origin) → read_call file h p c ≡ Ok (reading n o)
    → (n ≡ counts_of (tables_in file))
    × (o ≡ origin_in file)
    × ((kind : Kind) (lent : List ℕ)
    → (let past = length (table_of kind (tables_in file)) in drop past (left_after (has_read (read_call file h p c)) (table_of kind (tables_in file)) lent) ≡ drop past lent))

abbrev pub PastCopyStays : Type 0
PastCopyStays = (kind : Kind) (file lent : List ℕ)
    → (let past = length (table_of kind (tables_in file)) in drop past (copied kind file lent) ≡ drop past lent)

abbrev pub PastFileStays : Type 0
PastFileStays = (o : Origin) (t : Tables) (out : List ℕ) (n : ℕ) → write_call o t (length out) ≡ Ok n
    → drop n (left_after (has_written (write_call o t (length out))) (file_of o t) out) ≡ drop n out

abbrev pub PastMovedStays : Type 0
PastMovedStays = (from : Form) (to : Origin) (file out : List ℕ) (n : ℕ) → move_call from to file (length out) ≡ Ok n
    → drop n (left_after (has_written (move_call from to file (length out))) (file_of to (tables_in file)) out) ≡ drop n out

-- every block of a file that the reader takes is sound by itself, and of the form and account that the file has
abbrev pub ReadAreSound : Type 0
ReadAreSound = (file : List ℕ) → Reads file → All (λ b. alone_call b ≡ Ok (origin_in file)) (blocks_of file)

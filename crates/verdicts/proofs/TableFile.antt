-- The text of a file's table, by the verdict on it and by its tables as they were copied.
use Rattle.std.specs.Prelude.{Ok, Err}
use mathlib.Core.Path.{◌≡◌}
use mathlib.Core.List.{List}
use Prim.Native.Nat.{ℕ, ◌/◌, ◌≤◌}
use lib.IntN.{ℤ}
use lib.ListN.{length, take}
use Rattle.records.specs.Tables.{legs_of}
use Rattle.records.specs.declared.refusals.Refusal.{Refusal}
use Rattle.records.specs.declared.tables.Kind.{Kind}
use Rattle.records.proofs.PutLaws.{put_holds, put_front}
use Rattle.records.proofs.TableLaws.{length_claims}
use Rattle.blocks.specs.File.{table_of, tables_in}
use Rattle.blocks.specs.Reader.{copied}
use Rattle.blocks.proofs.Laws.{copied_room}
use Rattle.verdicts.specs.FileVerdicts.{file_verdict}
use Rattle.verdicts.specs.Printed.{refuse_line}
use Rattle.verdicts.specs.Steps.Groups.{ShownBy}
use Rattle.verdicts.specs.TableText.{shown_in, shown_text, table_text}
use Rattle.verdicts.proofs.Demands.{file_iff}
use Rattle.sheets.specs.Verdicts.{accepted}

module _ (file : List ℕ) where
  pub refused_text : (r : Refusal) → file_verdict file ≡ Err r → refuse_line r ≡ table_text file
  unfolding table_text
  refused_text r e = rw e

  module _ (n : ℕ) (total : ℤ) (work : ℕ) (e : file_verdict file ≡ Ok (accepted n total work)) where
    pub accepted_text : shown_text (shown_in (length (tables_in file).claims / 32) (legs_of (tables_in file).placement)) ≡ table_text file
    unfolding table_text
    accepted_text = rw (e, ((file_iff file n total work).0 e).2, length_claims (tables_in file).claims)

    pub accepted_shown : ShownBy (tables_in file).placement (tables_in file).claims
    accepted_shown = ((tables_in file).holdings, ((file_iff file n total work).0 e).1)

  -- the records of a kind in a lent table
  pub copied_front : (kind : Kind) (m : ℕ) (d l : List ℕ) → l ≡ copied kind file d → m ≡ length (table_of kind (tables_in file)) → m ≤ length d
      → (m ≤ length l) × (take m l ≡ table_of kind (tables_in file))
  copied_front kind m d l e k h =
      let q = copied_room kind file d (rw k at h) in
      rw (e, q, k) (put_holds d (table_of kind (tables_in file)), put_front d (table_of kind (tables_in file)))

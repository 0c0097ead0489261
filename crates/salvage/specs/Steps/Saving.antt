-- What is answered of a file and a list of what was dropped, by the room in the lent slices.
use Rattle.std.specs.Prelude.{ℕ, List, length, Result}
use Rattle.records.specs.Order.{first_of}
use Rattle.blocks.specs.File.{blocks_of, tables_in, file_of}
use Rattle.blocks.specs.declared.forms.Origin.{Origin}
use Rattle.salvage.specs.Calls.{salvage_room, salvage_end, salvage_answer}
use Rattle.records.specs.declared.refusals.Refusal.{Refusal}
use Rattle.salvage.specs.declared.calls.Saved.{Saved}

-- refusal 17, or how long they are
abbrev pub saved_answer : List ℕ → List ℕ → List ℕ → List ℕ → List ℕ → Result Saved Refusal
saved_answer file dropped out indices numbers =
    salvage_answer (first_of (salvage_room (length file) (length dropped) (length out) (length indices) (length numbers))) (length file)
    (length dropped)

-- refusal 3 of the kept blocks, then the same of the file that they make
abbrev pub kept_answer : Origin → List ℕ → List ℕ → List ℕ → List ℕ → List ℕ → Result Saved Refusal
kept_answer lead kept dropped out indices numbers =
    salvage_answer
    (first_of
    (salvage_end (blocks_of kept) (length (file_of lead (tables_in kept))) (length dropped) (length out) (length indices) (length numbers)))
    (length (file_of lead (tables_in kept)))
    (length dropped)

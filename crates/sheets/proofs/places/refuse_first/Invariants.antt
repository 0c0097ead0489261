use Rattle.std.proofs.Common.{ℕ, Bool, ◌≡◌, ◌-◌}
use Rattle.records.specs.Order.{first_of}
use Rattle.records.specs.Tables.{table_number}
use Rattle.sheets.specs.Steps.Places.{ask_places, AnswersFrom}
use Rattle.sheets.proofs.places.refuse_first.Given as goal

-- whatever test is answered: what is left to be asked, from this place on, has the answer
abbrev pub invariant-loop-place : goal.invariant-loop-place
invariant-loop-place g l =
    (test : ℕ → Bool) → AnswersFrom (goal.F-post g l.good) l.first l.end test
    → first_of (ask_places test l.number (table_number l.kind) l.first (l.end - l.first)) ≡ first_of (ask_places test l.number (table_number l.kind) l.place (l.end - l.place))

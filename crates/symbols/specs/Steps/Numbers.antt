-- What the check of a table of roots answers.
use Rattle.std.specs.Prelude.{◌≡◌, List, ℕ, MatchResult, Result, Ok, Err}
use Rattle.records.specs.Order.{first_of}
use Rattle.symbols.specs.Roots.{roots_of, root_checks}
use Rattle.records.specs.declared.refusals.Refusal.{Refusal}
use denote.Ref.{Bor}

-- the entries of a table that passes, or its refusal
abbrev pub RootsJudged : List ℕ → Result (Bor (List (List ℕ))) Refusal → Type 0
RootsJudged table r =
    MatchResult r (λ roots. (roots.now ≡ roots_of table) × (first_of (root_checks table) ≡ Ok tt)) (λ e. first_of (root_checks table) ≡ Err e)

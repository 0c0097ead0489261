-- A test of the places of a table's records, one after the other.
use Rattle.std.specs.Prelude.{◌≡◌, Bool, List, [], ◌∷◌, ℕ, zero, suc, ◌+◌, ◌-◌, ◌≤◌, ◌<◌, Result}
use Rattle.records.specs.Order.{Check, ask, first_of}
use Rattle.records.specs.declared.refusals.Refusal.{Refusal}

-- one check of each of n places, counted from i
unfoldable pub ask_places : (ℕ → Bool) → ℕ → ℕ → ℕ → ℕ → List Check
ask_places good number table i zero = []
ask_places good number table i (suc n) = ask (good i) number table i ∷ ask_places good number table (i + 1) n

-- a test has these answers at the places from `first` on and before `end`
abbrev pub AnswersFrom : (ℕ → Bool → Type 0) → ℕ → ℕ → (ℕ → Bool) → Type 0
AnswersFrom post first end good = (i : ℕ) → first ≤ i → i < end → (b : Bool) → post i b → b ≡ good i

-- the first of these places that fails any such test is refused
abbrev pub FirstRefused : (ℕ → Bool → Type 0) → ℕ → ℕ → ℕ → ℕ → Result Unit Refusal → Type 0
FirstRefused post number table first end r =
    (good : ℕ → Bool) → AnswersFrom post first end good → r ≡ first_of (ask_places good number table first (end - first))

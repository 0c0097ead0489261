-- The row of a line and side among others: what is held in it, and what opening and closing change.
use mathlib.Core.Path.{◌≡◌, refl, ap}
use mathlib.Core.Bool.{true, false}
use mathlib.Core.List.{List, [], ◌∷◌, ◌++◌}
use Rattle.records.specs.Lines.{same_line_side}
use Rattle.records.specs.Lists.{All}
use Rattle.records.specs.declared.legs.Leg.{Leg}
use Rattle.fills.specs.Rows.{held_of, more, opened, stays, closed}

-- rows of other lines and sides
abbrev pub Others : Leg → List Leg → Type 0
Others x rows = All (λ y. same_line_side x y ≡ false) rows

module _ (x : Leg) where
  -- ---- row y, after rows of others

  module _ (y : Leg) (b : List Leg) (e : same_line_side x y ≡ true) where
    pub held_at : (a : List Leg) → Others x a → held_of x (a ++ y ∷ b) ≡ y.contracts.0
    unfolding held_of
    held_at [] o = rw e
    held_at (z ∷ a) o = rw o.0 (held_at a o.1)

    pub opened_at : (a : List Leg) → Others x a → opened x (a ++ y ∷ b) ≡ a ++ more y x ∷ b
    unfolding opened
    opened_at [] o = rw e
    opened_at (z ∷ a) o = rw o.0 (ap (λ (l : List Leg). z ∷ l) (opened_at a o.1))

    pub closed_at : (a : List Leg) → Others x a → closed x (a ++ y ∷ b) ≡ a ++ (stays y x ++ b)
    unfolding closed
    closed_at [] o = rw e
    closed_at (z ∷ a) o = rw o.0 (ap (λ (l : List Leg). z ∷ l) (closed_at a o.1))

  -- ---- no row

  pub held_none : (a : List Leg) → Others x a → held_of x a ≡ 0
  unfolding held_of
  held_none [] o = refl
  held_none (z ∷ a) o = rw o.0 (held_none a o.1)

  pub opened_none : (a : List Leg) → Others x a → opened x a ≡ a ++ x ∷ []
  unfolding opened
  opened_none [] o = refl
  opened_none (z ∷ a) o = rw o.0 (ap (λ (l : List Leg). z ∷ l) (opened_none a o.1))

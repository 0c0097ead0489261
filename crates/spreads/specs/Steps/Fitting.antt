-- The test for a cash account: what it asks of each leg by itself, and what is answered of a spread.
use Rattle.std.specs.Prelude.{ℕ, Bool, ◌&&◌, List, [], ◌∷◌, eqb, Result, ℤ}
use Rattle.records.specs.Legs.{is_european, is_cash}
use Rattle.records.specs.Order.{ask, first_of}
use Rattle.records.specs.declared.legs.Leg.{Leg}
use Rattle.spreads.specs.Calls.{due_answer}
use Rattle.spreads.specs.Cash.{is_fit}
use Rattle.spreads.specs.Strikes.{worst_loss}
use Rattle.records.specs.declared.refusals.Refusal.{Refusal}

unfoldable pub fits_cash : ℕ → Leg → Bool
fits_cash expiry l = is_european l && is_cash l && eqb l.expiry expiry

abbrev pub cash_due : ℕ → List Leg → Result ℤ Refusal
cash_due g legs = due_answer (first_of (ask (is_fit legs) 21 2 g ∷ [])) (worst_loss legs)

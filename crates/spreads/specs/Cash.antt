-- Document 02, request 7: 'Cash accounts'.
use Rattle.std.specs.Prelude.{ℕ, ◌≡◌, Bool, ◌&&◌, List, [], ◌∷◌, ◌++◌, Result, ℤ}
use Rattle.records.specs.Lists.{all_of, All}
use Rattle.records.specs.Legs.{is_european, is_cash}
use Rattle.records.specs.Order.{Check, ask, first_of}
use Rattle.records.specs.Tables.{table_checks, legs_of}
use Rattle.records.specs.declared.legs.Leg.{Leg}
use Rattle.records.specs.declared.tables.Kind.TheVariants.{Placement}
use Rattle.spreads.specs.Spreads.{one_of, group_of, group_in, group_rule}
use Rattle.spreads.specs.Strikes.{worst_loss}
use Rattle.spreads.specs.Calls.{due_answer}
use Rattle.records.specs.declared.refusals.Refusal.{Refusal}

-- ---- a group fit for a cash account, as facts

pub record FitForCash (legs : List Leg) : Type 0 where
  -- 'all European'
  pub european : All (λ l. l.style ≡ 2) legs
  -- 'all stated as cash'
  pub cash : All (λ l. l.settlement ≡ 1) legs
  -- 'one expiry'
  pub expiry : (e : ℕ) × All (λ l. l.expiry ≡ e) legs

-- ---- the same as a check, and the call

unfoldable pub is_fit : List Leg → Bool
is_fit legs = all_of is_european legs && all_of is_cash legs && one_of (λ l. l.expiry) legs

-- '21, after 13, group not fit for a cash account .. table 2, place g'
unfoldable pub cash_rule : ℕ → List Leg → List Check
cash_rule g placement = group_rule g placement ++ ask (is_fit (group_of g placement)) 21 2 g ∷ []

-- 'then the cash required is its margin by document 01, without the half of [2]'
unfoldable pub cash_call : List ℕ → ℕ → Result ℤ Refusal
cash_call xs g = due_answer (first_of (table_checks Placement xs ++ cash_rule g (legs_of xs))) (worst_loss (group_in xs g))

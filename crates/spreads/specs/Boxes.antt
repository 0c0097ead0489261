-- Document 02, request 2: 'European long boxes', and the margin of a group from there on.
use Rattle.std.specs.Prelude.{ℕ, ◌+◌, ◌*◌, ◌-◌, ◌/◌, ◌<◌, ◌≡◌, Bool, true, false, ◌&&◌, ◌||◌, cond, List, [], ◌∷◌, eqb, ltb}
use Rattle.records.specs.Lists.{only, sum_of, all_of, All}
use Rattle.records.specs.Legs.{is_long, is_short, is_call, is_put, is_european, units}
use Rattle.records.specs.declared.legs.Leg.{Leg}
use Rattle.spreads.specs.Spreads.{one_of}
use Rattle.spreads.specs.Strikes.{strikes_of, worst_loss}

-- ---- kinds of legs

-- a kind is side, type and strike
abbrev pub of_kind : (Leg → Bool) → (Leg → Bool) → ℕ → Leg → Bool
of_kind side right strike l = side l && right l && eqb l.strike strike

-- 'records of one kind added together'
unfoldable pub units_at : (Leg → Bool) → (Leg → Bool) → ℕ → List Leg → ℕ
units_at side right strike legs = sum_of (λ l. only (of_kind side right strike l) (units l)) legs

-- 'long in calls at the lower, short in calls at the higher, long in puts at the higher, short in puts at the lower'
unfoldable pub is_box_leg : ℕ → ℕ → Leg → Bool
is_box_leg low high l =
    of_kind is_long is_call low l || of_kind is_short is_call high l || of_kind is_long is_put high l || of_kind is_short is_put low l

-- ---- a long box as facts

pub record LongBox (legs : List Leg) : Type 0 where
  -- 'a long box whose options are all European'
  pub european : All (λ l. l.style ≡ 2) legs
  -- 'exactly two strikes'
  pub low : ℕ
  pub high : ℕ
  pub strikes : strikes_of legs ≡ low ∷ high ∷ []
  pub apart : low < high
  -- 'and one expiry'
  pub expiry : (e : ℕ) × All (λ l. l.expiry ≡ e) legs
  -- 'the same number of units'
  pub units : ℕ
  pub low_calls : units_at is_long is_call low legs ≡ units
  pub high_calls : units_at is_short is_call high legs ≡ units
  pub high_puts : units_at is_long is_put high legs ≡ units
  pub low_puts : units_at is_short is_put low legs ≡ units
  -- 'and no leg of any other kind'
  pub others : All (λ l. is_box_leg low high l ≡ true) legs

-- ---- the same as a test

-- as many units short in calls as long, as many short in puts as long, and as many long in puts as in calls
unfoldable pub even_kinds : ℕ → ℕ → List Leg → Bool
even_kinds low high legs =
    eqb (units_at is_long is_call low legs) (units_at is_short is_call high legs)
    && eqb (units_at is_long is_put high legs) (units_at is_short is_put low legs)
    && eqb (units_at is_long is_put high legs) (units_at is_long is_call low legs)

unfoldable pub box_at : ℕ → ℕ → List Leg → Bool
box_at low high legs =
    all_of is_european legs && one_of (λ l. l.expiry) legs && all_of (is_box_leg low high) legs && ltb low high && even_kinds low high legs

abbrev pub box_on : List ℕ → List Leg → Bool
box_on [] legs = false
box_on (low ∷ []) legs = false
box_on (low ∷ high ∷ []) legs = box_at low high legs
box_on (low ∷ high ∷ k ∷ ks) legs = false

unfoldable pub is_long_box : List Leg → Bool
is_long_box legs = box_on (strikes_of legs) legs

-- ---- the margin

-- 'half of units times the difference, a half mill rounded up'
abbrev pub half_of : ℕ → ℕ → ℕ → ℕ
half_of units low high = (units * (high - low) + 1) / 2

abbrev pub half_on : List ℕ → List Leg → ℕ
half_on [] legs = 0
half_on (low ∷ []) legs = 0
half_on (low ∷ high ∷ []) legs = half_of (units_at is_long is_call low legs) low high
half_on (low ∷ high ∷ k ∷ ks) legs = 0

unfoldable pub half_box : List Leg → ℕ
half_box legs = half_on (strikes_of legs) legs

-- 'Margin calls, claims and sheets use the new figure'
unfoldable pub margin_of : List Leg → ℕ
margin_of legs = cond (is_long_box legs) (half_box legs) (worst_loss legs)

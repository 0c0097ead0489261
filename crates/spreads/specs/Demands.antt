-- What is demanded of one group and of the calls about it, each statement under its sentence. The proofs stand in
-- proofs/Demands.antt. That margins cover every price, and that none smaller does, is said of sheets, in their own crate; of the
-- cash required it is said here.
use Rattle.std.specs.Prelude.{ℕ, ◌+◌, ◌*◌, ◌-◌, ◌≤◌, ◌<◌, ◌≡◌, Bool, true, false, not, ◌||◌, ◌↔◌, ◌≢◌, eqb, ℤ, pos, neg_ℤ, length, take, drop, get_or, ◌≤ℤ◌, Result, Ok, Err}
use mathlib.Core.List.{List, [], ◌∷◌, ◌++◌, map, Memᴰ}
use Rattle.records.specs.Lists.{keep, All, Ascending}
use Rattle.records.specs.Limits.{most_groups}
use Rattle.records.specs.Legs.{contracts_from, with_contracts, in_range}
use Rattle.records.specs.Order.{first_of}
use Rattle.records.specs.Written.{left_after}
use Rattle.records.specs.Tables.{table_checks, legs_of}
use Rattle.records.specs.declared.legs.Leg.{Leg}
use Rattle.records.specs.declared.refusals.Refusal.{Refusal}
use Rattle.records.specs.declared.tables.Kind.TheVariants.{Placement}
use Rattle.spreads.specs.Spreads.{group_of, group_in, one_of, doubled, none_doubled, outlives, none_outlives, legs_up_to, Spread, group_rule}
use Rattle.spreads.specs.Prices.{long_at, short_at, at, Covers}
use Rattle.spreads.specs.Strikes.{strikes_of, worst_loss, nets_of}
use Rattle.spreads.specs.Boxes.{LongBox, is_long_box, half_of, margin_of}
use Rattle.spreads.specs.Cash.{FitForCash, is_fit, cash_call}
use Rattle.spreads.specs.Bench.{verticals}
use Rattle.spreads.specs.Calls.{margin_call, worksheet_call, has_listed, margins_from, margins_call}

-- 'They are a spread when all hold': just then 6 to 13 refuse nothing
abbrev pub SpreadIff : Type 0
SpreadIff = (g : ℕ) (placement : List Leg) → (first_of (group_rule g placement) ≡ Ok tt) ↔ Spread g (group_of g placement)

-- ---- 'Point at the leg'

-- which group record i names
abbrev pub group_at : List Leg → ℕ → ℕ
group_at placement i = get_or (map (λ l. l.group) placement) i 0

-- 'the lowest record such that the group's legs up to and with it already break that condition'; it is one of the group
pub record Points (kept : List Leg → Bool) (g : ℕ) (placement : List Leg) (place : ℕ) : Type 0 where
  pub there : place < length placement
  pub member : group_at placement place ≡ g
  pub breaks : kept (legs_up_to g placement place) ≡ false
  pub before : (i : ℕ) → i < place → kept (legs_up_to g placement i) ≡ true

-- what a refusal of group g names: 'For 7, 8, 9, 10 and 13' a leg; '6, 11, 12 .. still name the group'
pub record Named (g : ℕ) (placement : List Leg) (r : Refusal) : Type 0 where
  pub table : r.table ≡ 2
  pub leg : r.number ≡ 6 → r.place ≡ g
  pub underlying : r.number ≡ 7 → Points (one_of (λ l. l.underlying)) g placement r.place
  pub style : r.number ≡ 8 → Points (one_of (λ l. l.style)) g placement r.place
  pub market : r.number ≡ 9 → Points (one_of (λ l. l.market)) g placement r.place
  pub series : r.number ≡ 10 → Points none_doubled g placement r.place
  pub calls : r.number ≡ 11 → r.place ≡ g
  pub puts : r.number ≡ 12 → r.place ≡ g
  pub lives : r.number ≡ 13 → Points none_outlives g placement r.place

abbrev pub RefusalsName : Type 0
RefusalsName = (g : ℕ) (placement : List Leg) (r : Refusal) → first_of (group_rule g placement) ≡ Err r → Named g placement r

-- of the leg at a place, and an earlier one of its group
pub record Beside (r : Leg → Leg → Bool) (g : ℕ) (placement : List Leg) (place : ℕ) : Type 0 where
  pub leg : Leg
  pub other : Leg
  pub there : take 1 (drop place placement) ≡ leg ∷ []
  pub earlier : Memᴰ other (group_of g (take place placement))
  pub so : r other leg ≡ true

-- the leg that 7, 8 or 9 names differs from an earlier one; that of 10 is of one series with an earlier one, on the other
-- side; of that of 13 and an earlier one a short outlives a long, whichever is which
pub record NamedBeside (g : ℕ) (placement : List Leg) (place : ℕ) : Type 0 where
  pub field : (f : Leg → ℕ) → Points (one_of f) g placement place → Beside (λ k l. not (eqb (f k) (f l))) g placement place
  pub series : Points none_doubled g placement place → Beside (λ k l. doubled k l || doubled l k) g placement place
  pub lives : Points none_outlives g placement place → Beside (λ k l. outlives k l || outlives l k) g placement place

abbrev pub LegsBeside : Type 0
LegsBeside = (g : ℕ) (placement : List Leg) (place : ℕ) → NamedBeside g placement place

-- and no other record could be named so
abbrev pub PointsOnce : Type 0
PointsOnce = (kept : List Leg → Bool) (g : ℕ) (placement : List Leg) (a b : ℕ) → Points kept g placement a → Points kept g placement b → a ≡ b

-- ---- the strikes, and the greatest loss

-- 'the group's distinct strikes, ascending': the strike of every leg, and no other
abbrev pub StrikesExact : Type 0
StrikesExact = (legs : List Leg) → All (λ l. Memᴰ l.strike (strikes_of legs)) legs
    × All (λ k. (l : Leg) × Memᴰ l legs × (l.strike ≡ k)) (strikes_of legs)
    × Ascending (strikes_of legs)

-- 'the greatest of 0 and the losses (net negated)', of the nets that the worksheet lists
abbrev pub Greatest : ℤ → List ℤ → Type 0
Greatest z zs = Memᴰ z zs × All (λ y. y ≤ℤ z) zs

abbrev pub WorstIsGreatest : Type 0
WorstIsGreatest = (legs : List Leg) → Greatest (pos (worst_loss legs)) (pos 0 ∷ map neg_ℤ (nets_of legs))

-- ---- 'European long boxes'

-- the test passes just where the sentence holds
abbrev pub BoxIff : Type 0
BoxIff = (legs : List Leg) → (is_long_box legs ≡ true) ↔ LongBox legs

-- the leg with so many contracts
abbrev pub of_contracts : ℕ → Leg → Leg
of_contracts n l = with_contracts l (contracts_from n)

-- 'records of one kind added together': neither the order of records nor how one is split makes or unmakes a long box
abbrev pub BoxAnyOrder : Type 0
BoxAnyOrder = (a b : List Leg) (x y : Leg) → LongBox (a ++ x ∷ y ∷ b) ↔ LongBox (a ++ y ∷ x ∷ b)

abbrev pub BoxAnySplit : Type 0
BoxAnySplit = (a b : List Leg) (l : Leg) (m n : ℕ)
    → LongBox (a ++ of_contracts (m + n) l ∷ b) ↔ LongBox (a ++ of_contracts m l ∷ of_contracts n l ∷ b)

-- at every price n/d, both sides taken d times, a long box nets units times the difference
abbrev pub BoxNets : Type 0
BoxNets = (legs : List Leg) (b : LongBox legs) (d n : ℕ)
    → long_at d (at n) legs ≡ short_at d (at n) legs + d * (b.units * (b.high - b.low))

-- 'Its margin is half of units times the difference, a half mill rounded up'; that of any other group is its worst loss
pub record MarginByKind (legs : List Leg) : Type 0 where
  pub box : (b : LongBox legs) → margin_of legs ≡ half_of b.units b.low b.high
  pub other : ¬ LongBox legs → margin_of legs ≡ worst_loss legs

abbrev pub MarginsByKind : Type 0
MarginsByKind = (legs : List Leg) → MarginByKind legs

-- ---- 'Cash accounts'

-- the check passes just where the sentence holds
abbrev pub FitIff : Type 0
FitIff = (legs : List Leg) → (is_fit legs ≡ true) ↔ FitForCash legs

-- 'a spread, all European, all stated as cash, one expiry; then the cash required is its margin by document 01': it covers
-- the group at every price, and nothing less does; a long box needs none
pub record RightCash (g mills : ℕ) (legs : List Leg) : Type 0 where
  pub spread : Spread g legs
  pub fit : FitForCash legs
  pub margin : mills ≡ worst_loss legs
  pub covers : Covers mills legs
  pub least : (m : ℕ) → m < mills → ¬ Covers m legs
  pub box : LongBox legs → mills ≡ 0

abbrev pub CashRight : Type 0
CashRight = (placement : List ℕ) (g mills : ℕ) → cash_call placement g ≡ Ok (pos mills) → RightCash g mills (group_in placement g)

-- and every such group of a sound placement gets an amount
abbrev pub CashGiven : Type 0
CashGiven = (placement : List ℕ) (g : ℕ) → first_of (table_checks Placement placement) ≡ Ok tt → Spread g (group_in placement g)
    → FitForCash (group_in placement g) → cash_call placement g ≡ Ok (pos (worst_loss (group_in placement g)))

-- ---- margin, margins and worksheet

-- where the call answers, the group is a spread, and the answer is its margin
abbrev pub MarginRight : Type 0
MarginRight = (placement : List ℕ) (g : ℕ) (mills : ℤ) → margin_call placement g ≡ Ok mills
    → Spread g (group_in placement g) × (mills ≡ pos (margin_of (group_in placement g)))

-- and every group of a sound placement that is a spread is answered so
abbrev pub MarginGiven : Type 0
MarginGiven = (placement : List ℕ) (g : ℕ) → first_of (table_checks Placement placement) ≡ Ok tt → Spread g (group_in placement g)
    → margin_call placement g ≡ Ok (pos (margin_of (group_in placement g)))

-- where it answers, groups 1 to n are spreads, and the margin of group g stands at index g - 1
abbrev pub MarginsRight : Type 0
MarginsRight = (placement : List ℕ) (n : ℕ) (out : List ℤ) (m : ℕ) → margins_call placement n (length out) ≡ Ok m
    → (m ≡ n)
    × ((g : ℕ) → 1 ≤ g → g ≤ n
    → Spread g (group_in placement g)
    × (get_or (left_after (has_listed (Ok m)) (margins_from (legs_of placement) 1 n) out) (g - 1) (pos 0) ≡ pos (margin_of (group_in placement g))))

abbrev pub MarginsGiven : Type 0
MarginsGiven = (placement : List ℕ) (n room : ℕ) → first_of (table_checks Placement placement) ≡ Ok tt
    → ((g : ℕ) → 1 ≤ g → g ≤ n → Spread g (group_in placement g)) → n ≤ room → margins_call placement n room ≡ Ok n

-- where it answers, the group is a spread, the count is that of its strikes, and in the lent slices stand its strikes and its nets
abbrev pub WorksheetRight : Type 0
WorksheetRight = (placement : List ℕ) (g : ℕ) (strikes : List ℕ) (nets : List ℤ) (n : ℕ)
    → worksheet_call placement g (length strikes) (length nets) ≡ Ok n
    → (let legs = group_in placement g in
    Spread g legs
    × (n ≡ length (strikes_of legs))
    × (take n (left_after (has_listed (Ok n)) (strikes_of legs) strikes) ≡ strikes_of legs)
    × (take n (left_after (has_listed (Ok n)) (nets_of legs) nets) ≡ nets_of legs))

abbrev pub WorksheetGiven : Type 0
WorksheetGiven = (placement : List ℕ) (g a b : ℕ) → first_of (table_checks Placement placement) ≡ Ok tt → Spread g (group_in placement g)
    → length (strikes_of (group_in placement g)) ≤ a → length (strikes_of (group_in placement g)) ≤ b
    → worksheet_call placement g a b ≡ Ok (length (strikes_of (group_in placement g)))

-- ---- what is left in lent slices

-- 'Nothing lent is written' on a refusal. 'In every call that succeeds, what lies past its output in a lent slice stays.'
module _ {A : Type 0} where
  abbrev pub Leaves : Result ℕ Refusal → List A → List A → List A → Type 0
  Leaves (Ok n) entries before after = (take n after ≡ entries) × (drop n after ≡ drop n before)
  Leaves (Err r) entries before after = after ≡ before

abbrev pub WorksheetLeaves : Type 0
WorksheetLeaves = (placement : List ℕ) (g : ℕ) (strikes : List ℕ) (nets : List ℤ)
    → (let answer = worksheet_call placement g (length strikes) (length nets) in
    let legs = group_in placement g in
    Leaves answer (strikes_of legs) strikes (left_after (has_listed answer) (strikes_of legs) strikes) × Leaves answer (nets_of legs) nets (left_after (has_listed answer) (nets_of legs) nets))

abbrev pub MarginsLeave : Type 0
MarginsLeave = (placement : List ℕ) (n : ℕ) (out : List ℤ)
    → (let answer = margins_call placement n (length out) in
    let margins = margins_from (legs_of placement) 1 n in
    Leaves answer margins out (left_after (has_listed answer) margins out))

-- ---- 'Joining groups never costs more'

-- the legs of groups g and k taken together, in the placement's order
unfoldable pub taken_together : ℕ → ℕ → List Leg → List Leg
taken_together g k legs = keep (λ l. eqb l.group g || eqb l.group k) legs

-- 'If two groups, and their legs taken together, are all spreads, and the joined group is no box under [2], .. its margin is
-- at most the sum of the two.'
abbrev pub JoiningNeverCosts : Type 0
JoiningNeverCosts = (g k : ℕ) (placement : List Leg) → g ≢ k → Spread g (group_of g placement) → Spread k (group_of k placement)
    → Spread g (taken_together g k placement) → ¬ LongBox (taken_together g k placement)
    → margin_of (taken_together g k placement) ≤ margin_of (group_of g placement) + margin_of (group_of k placement)

-- that follows from more: what is joined need not be a spread
abbrev pub JoiningCosts : Type 0
JoiningCosts = (g k : ℕ) (placement : List Leg) → g ≢ k → Spread g (group_of g placement) → Spread k (group_of k placement)
    → ¬ LongBox (taken_together g k placement)
    → margin_of (taken_together g k placement) ≤ margin_of (group_of g placement) + margin_of (group_of k placement)

-- and two groups that are spreads never lose more together than by themselves, long box or not
abbrev pub JoiningLoses : Type 0
JoiningLoses = (g k : ℕ) (placement : List Leg) → g ≢ k → Spread g (group_of g placement) → Spread k (group_of k placement)
    → worst_loss (taken_together g k placement) ≤ worst_loss (group_of g placement) + worst_loss (group_of k placement)

-- long boxes must be excepted: two European verticals of no margin join into one, which is asked its half
pub record JoinedBoxCosts : Type 0 where
  pub ranges : All (λ l. in_range most_groups l ≡ true) verticals
  pub calls : Spread 1 (group_of 1 verticals)
  pub puts : Spread 2 (group_of 2 verticals)
  pub joined : Spread 1 (taken_together 1 2 verticals)
  pub box : LongBox (taken_together 1 2 verticals)
  pub before : margin_of (group_of 1 verticals) + margin_of (group_of 2 verticals) ≡ 0
  pub after : margin_of (taken_together 1 2 verticals) ≡ 500_000

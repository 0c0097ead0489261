-- What is demanded of binaries, of the definitions that the calls' contracts cite; the proofs stand in proofs/PercentageLaws,
-- TimeLaws, MarginLaws and PairLaws.
use Rattle.std.specs.Prelude.{◌≡◌, true, false, ℕ, ◌+◌, ◌-◌, ◌*◌, ◌≤◌, leb, pos, Ok}
use Rattle.records.specs.Dates.{real_date}
use Rattle.binaries.specs.Percentages.{tenths_at, row_of}
use Rattle.binaries.specs.Times.{year_of, month_and_day, same_day, twenty_eighth, year_end, column_of}
use Rattle.binaries.specs.Positions.{offsets}
use Rattle.binaries.specs.Margins.{settlement, per_contract, binary_margin, margin_for, pair_margin}
use Rattle.binaries.specs.Calls.{single_call, pair_call}
use Rattle.binaries.specs.declared.percentages.Side.{Side}
use Rattle.binaries.specs.declared.percentages.Side.TheVariants.{Long, Short}
use Rattle.binaries.specs.declared.positions.Position.{Position}
use Rattle.binaries.specs.declared.positions.LongPosition.{LongPosition}

-- ---- the tables

-- 'Short is twice that in every cell.'
abbrev pub ShortTwice : Type 0
ShortTwice = (row column : ℕ) → tenths_at Short row column ≡ 2 * tenths_at Long row column

-- so that a short position needs twice what a long one does
abbrev pub ShortCostsTwice : Type 0
ShortCostsTwice = (spread valuation expiry contracts : ℕ) → binary_margin Short spread valuation expiry contracts ≡ 2 * binary_margin Long spread valuation expiry contracts

-- 'The percentage scales up as the credit default swap spread .. and/or the time until expiration increase': a wider spread, a later
-- expiry and more contracts never need less
abbrev pub MarginGrows : Type 0
MarginGrows = (side : Side) (valuation s t d e m n : ℕ) → s ≤ t → d ≤ e → m ≤ n
    → binary_margin side s valuation d m ≤ binary_margin side t valuation e n

-- the percentage of the settlement is a whole number of mills: nothing is rounded
abbrev pub NothingRounded : Type 0
NothingRounded = (side : Side) (spread valuation expiry : ℕ)
    → 1000 * per_contract side spread valuation expiry ≡ settlement * tenths_at side (row_of spread) (column_of valuation expiry)

-- ---- 'Years end on the same month and day; a missing 29 February is the 28th.'

abbrev pub SameMonthAndDay : Type 0
SameMonthAndDay = (years date : ℕ) → (month_and_day date ≡ 229 → ⊥) → year_end years date ≡ same_day years date

-- one, three and seven years after a 29 February there is none
abbrev pub LeapDayEnds : Type 0
LeapDayEnds = (date : ℕ) → real_date date ≡ true → month_and_day date ≡ 229
    → (year_end 1 date ≡ twenty_eighth (year_of date + 1)) × (year_end 3 date ≡ twenty_eighth (year_of date + 3)) × (year_end 7 date ≡ twenty_eighth (year_of date + 7))

-- an option that expires on a real date lives as long by the 28th as by the 29th that is missing
abbrev pub MissingDayUnseen : Type 0
MissingDayUnseen = (years date expiry : ℕ) → real_date expiry ≡ true → leb expiry (year_end years date) ≡ leb expiry (same_day years date)

-- ---- pairs

-- a pair never needs more than its two positions apart
abbrev pub PairCostsNoMore : Type 0
PairCostsNoMore = (valuation : ℕ) (long : LongPosition) (short : Position)
    → pair_margin valuation long short ≤ margin_for Long valuation long.position long.position.contracts + margin_for Short valuation short short.contracts

-- 'the smaller count is matched and needs no margin; the rest keeps its percentage': only a short that is larger leaves a rest of
-- the short, only a long that is larger one of the long
abbrev pub LongerLong : Type 0
LongerLong = (valuation : ℕ) (long : LongPosition) (short : Position) → offsets long short ≡ true → short.contracts ≤ long.position.contracts
    → pair_margin valuation long short ≡ margin_for Long valuation long.position (long.position.contracts - short.contracts)

abbrev pub LongerShort : Type 0
LongerShort = (valuation : ℕ) (long : LongPosition) (short : Position) → offsets long short ≡ true → long.position.contracts ≤ short.contracts
    → pair_margin valuation long short ≡ margin_for Short valuation short (short.contracts - long.position.contracts)

-- 'no margin is required'
abbrev pub EqualPairFree : Type 0
EqualPairFree = (valuation : ℕ) (long : LongPosition) (short : Position) → offsets long short ≡ true → long.position.contracts ≡ short.contracts
    → pair_margin valuation long short ≡ 0

-- where the long does not stand against the short both keep their full percentage
abbrev pub ApartKeepsBoth : Type 0
ApartKeepsBoth = (valuation : ℕ) (long : LongPosition) (short : Position) → offsets long short ≡ false
    → pair_margin valuation long short ≡ margin_for Long valuation long.position long.position.contracts + margin_for Short valuation short short.contracts

-- ---- limits: what is answered is far within a signed number of 64 bits

abbrev pub SingleMost : Type 0
SingleMost = (side : Side) (spread valuation expiry contracts n : ℕ) → single_call side spread valuation expiry contracts ≡ Ok (pos n) → n ≤ 30000000000

abbrev pub PairMost : Type 0
PairMost = (valuation : ℕ) (long : LongPosition) (short : Position) (n : ℕ) → pair_call valuation long short ≡ Ok (pos n) → n ≤ 45000000000

-- A leg record of 32 bytes: document 01's table of fields, row by row.
use Rattle.std.specs.Prelude.{ℕ, ◌+◌, ◌*◌, min, Bool, ◌&&◌, cond, List, [], ◌∷◌, ◌++◌, eqb, leb, length, replicate}
use Rattle.records.specs.Bytes.{le_at, le_bytes, zero_in}
use Rattle.records.specs.Limits.{record_bytes, most_contracts}
use Rattle.records.specs.Within.{within}
use Rattle.records.specs.Dates.{real_date}
use Rattle.records.specs.declared.counts.Contracts.{Contracts}
use Rattle.records.specs.declared.counts.Units.{Units}
use Rattle.records.specs.declared.legs.Leg.{Leg}

abbrev pub contracts_from : ℕ → Contracts
contracts_from n = record { 0 = n }

-- where each field stands
unfoldable pub leg_fields : List ℕ → Leg
leg_fields xs =
    record {
      group = le_at xs 0 2;
      side = le_at xs 2 1;
      right = le_at xs 3 1;
      style = le_at xs 4 1;
      market = le_at xs 5 1;
      size = le_at xs 6 2;
      underlying = le_at xs 8 4;
      strike = le_at xs 12 4;
      expiry = le_at xs 16 4;
      contracts = contracts_from (le_at xs 20 4);
      settlement = le_at xs 24 1;
      paid = le_at xs 25 1;
    }

-- the fields of a part of at least 32 bytes; those of a shorter one are all zero, as of no bytes
unfoldable pub leg_of : List ℕ → Leg
leg_of xs = leg_fields (cond (leb record_bytes (length xs)) xs [])

-- the 32 bytes that say these fields; the filler is zero
unfoldable pub leg_bytes : Leg → List ℕ
leg_bytes l =
    le_bytes l.group 2
    ++ (l.side ∷ l.right ∷ l.style ∷ l.market ∷ [])
    ++ le_bytes l.size 2
    ++ le_bytes l.underlying 4
    ++ le_bytes l.strike 4
    ++ le_bytes l.expiry 4
    ++ le_bytes l.contracts.0 4
    ++ (l.settlement ∷ l.paid ∷ [])
    ++ replicate 6 0

-- the ranges of the rows before the expiry; the group is at most `top`
unfoldable pub terms_in_range : ℕ → Leg → Bool
terms_in_range top l =
    within 0 top l.group
    && within 1 2 l.side
    && within 1 2 l.right
    && within 1 2 l.style
    && within 1 2 l.market
    && within 1 1000 l.size
    && within 1 4294967295 l.underlying
    && within 1 99999999 l.strike

-- each field's range
unfoldable pub in_range : ℕ → Leg → Bool
in_range top l =
    terms_in_range top l
    && real_date l.expiry
    && within 1 most_contracts l.contracts.0
    && within 0 2 l.settlement
    && within 0 1 l.paid

-- 32 bytes, each field in its range, bytes 26 to 31 zero
unfoldable pub good_leg : ℕ → List ℕ → Bool
good_leg top xs = eqb (length xs) record_bytes && (in_range top (leg_of xs) && zero_in xs 26 31)

-- ---- what a leg's fields mean

abbrev pub is_long : Leg → Bool
is_long l = eqb l.side 1

abbrev pub is_short : Leg → Bool
is_short l = eqb l.side 2

abbrev pub is_call : Leg → Bool
is_call l = eqb l.right 1

abbrev pub is_put : Leg → Bool
is_put l = eqb l.right 2

abbrev pub is_european : Leg → Bool
is_european l = eqb l.style 2

-- 'stated as cash'
abbrev pub is_cash : Leg → Bool
is_cash l = eqb l.settlement 1

-- 'paid mark, 0 or 1'
abbrev pub is_paid : Leg → Bool
is_paid l = eqb l.paid 1

-- ---- contracts and units

-- 'A leg's units are its contracts times its unit size.'
abbrev pub units_of : Contracts → ℕ → Units
units_of c size = record { 0 = c.0 * size }

abbrev pub units : Leg → ℕ
units l = (units_of l.contracts l.size).0

abbrev pub no_units : Units
no_units = record { 0 = 0 }

-- added, up to the end of the type
abbrev pub plus_units : Units → Units → Units
plus_units a b = record { 0 = min (a.0 + b.0) 18446744073709551615 }

-- added, up to the end of the type
abbrev pub plus_contracts : Contracts → Contracts → Contracts
plus_contracts a b = record { 0 = min (a.0 + b.0) 4294967295 }

-- the same leg in another group
unfoldable pub with_group : Leg → ℕ → Leg
with_group l g =
    record {
      group = g;
      side = l.side;
      right = l.right;
      style = l.style;
      market = l.market;
      size = l.size;
      underlying = l.underlying;
      strike = l.strike;
      expiry = l.expiry;
      contracts = l.contracts;
      settlement = l.settlement;
      paid = l.paid;
    }

-- the same leg with another count of contracts
unfoldable pub with_contracts : Leg → Contracts → Leg
with_contracts l c =
    record {
      group = l.group;
      side = l.side;
      right = l.right;
      style = l.style;
      market = l.market;
      size = l.size;
      underlying = l.underlying;
      strike = l.strike;
      expiry = l.expiry;
      contracts = c;
      settlement = l.settlement;
      paid = l.paid;
    }

-- the same leg with another paid mark
unfoldable pub with_paid : Leg → ℕ → Leg
with_paid l mark =
    record {
      group = l.group;
      side = l.side;
      right = l.right;
      style = l.style;
      market = l.market;
      size = l.size;
      underlying = l.underlying;
      strike = l.strike;
      expiry = l.expiry;
      contracts = l.contracts;
      settlement = l.settlement;
      paid = mark;
    }

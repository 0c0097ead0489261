-- A list of option symbols: its lines, when a line is well formed, what it says, and how a leg is written as one.
use Rattle.std.specs.Prelude.{ℕ, ◌+◌, ◌-◌, ◌%◌, Bool, not, cond, ◌&&◌, ◌||◌, List, [], ◌∷◌, ◌++◌, eqb, length, get_or, take, drop}
use Rattle.records.specs.Dates.{real_date}
use Rattle.records.specs.Limits.{most_contracts}
use Rattle.records.specs.Legs.{contracts_from}
use Rattle.records.specs.Lists.{all_of}
use Rattle.records.specs.Within.{within}
use Rattle.records.specs.declared.legs.Leg.{Leg}
use Rattle.records.specs.Text.{newline, digit, value_of, onto}
use Rattle.symbols.specs.Digits.{blank, is_digit, last_digits, places_of}
use Rattle.symbols.specs.Roots.{name_bytes, good_name}
use Rattle.symbols.specs.declared.lines.Line.{Line}
use Rattle.symbols.specs.declared.roots.Terms.{Terms}

-- ---- lines

-- a list cut after each newline; bytes after the last newline are a line that has none. 'An empty list is good': it has no lines
unfoldable pub lines_of : List ℕ → List (List ℕ)
lines_of [] = []
lines_of (c ∷ cs) = cond (eqb c newline) ((c ∷ []) ∷ lines_of cs) (onto c (lines_of cs))

-- ---- one line

-- 'root of 6'
abbrev pub root_in : List ℕ → List ℕ
root_in xs = take name_bytes xs

-- 'YYMMDD'
abbrev pub date_in : List ℕ → List ℕ
date_in xs = take 6 (drop 6 xs)

-- 'strike in mills as 8 digits'
abbrev pub strike_in : List ℕ → List ℕ
strike_in xs = take 8 (drop 13 xs)

-- 'contracts as 1 to 6 digits': what stands between the third blank and the newline, the last byte
abbrev pub contracts_in : List ℕ → List ℕ
contracts_in xs = take (length xs - 25) (drop 24 xs)

-- 'C or P'
abbrev pub is_right : ℕ → Bool
is_right c = eqb c 67 || eqb c 80

-- 'L or S'
abbrev pub is_side : ℕ → Bool
is_side c = eqb c 76 || eqb c 83

-- C for a call (1), P for a put (2), and what they say
abbrev pub right_char : ℕ → ℕ
right_char right = cond (eqb right 1) 67 80

abbrev pub right_said : ℕ → ℕ
right_said c = cond (eqb c 67) 1 2

-- L for long (1), S for short (2), and what they say
abbrev pub side_char : ℕ → ℕ
side_char side = cond (eqb side 1) 76 83

abbrev pub side_said : ℕ → ℕ
side_said c = cond (eqb c 76) 1 2

-- of 21 characters, three more, 1 to 6 digits and a newline
abbrev pub shortest_line : ℕ
shortest_line = 26

abbrev pub longest_line : ℕ
longest_line = 31

-- 'A line is the symbol, blank, L or S, blank, contracts as 1 to 6 digits, the first not 0, newline.'
unfoldable pub well_formed : List ℕ → Bool
well_formed xs =
    within shortest_line longest_line (length xs)
    && (good_name (root_in xs)
    && all_of is_digit (date_in xs)
    && is_right (get_or xs 12 0)
    && all_of is_digit (strike_in xs)
    && eqb (get_or xs 21 0) blank
    && is_side (get_or xs 22 0)
    && eqb (get_or xs 23 0) blank
    && not (eqb (get_or xs 24 0) (digit 0))
    && all_of is_digit (contracts_in xs)
    && eqb (get_or xs (length xs - 1) 0) newline)

-- what a line says besides its root; 'Years are 2000 to 2099'
unfoldable pub line_says : List ℕ → Line
line_says xs =
    record {
      right = right_said (get_or xs 12 0);
      expiry = 20000000 + value_of (date_in xs);
      strike = value_of (strike_in xs);
      side = side_said (get_or xs 22 0);
      contracts = value_of (contracts_in xs);
    }

-- '4, field out of range': a real date, and document 01's ranges of strike and contracts
unfoldable pub line_in_range : Line → Bool
line_in_range l = real_date l.expiry && within 1 99999999 l.strike && within 1 most_contracts l.contracts

-- the leg that a line says with the terms of its root: 'holdings .. with paid mark 0'
unfoldable pub line_leg : Terms → Line → Leg
line_leg t l =
    record {
      group = 0;
      side = l.side;
      right = l.right;
      style = t.style;
      market = t.market;
      size = t.size;
      underlying = t.underlying;
      strike = l.strike;
      expiry = l.expiry;
      contracts = contracts_from l.contracts;
      settlement = t.settlement;
      paid = 0;
    }

-- ---- a leg written as a line

-- '21-character symbols ..: root of 6 ..; YYMMDD; C or P; strike in mills as 8 digits'
unfoldable pub symbol_text : List ℕ → Leg → List ℕ
symbol_text name l = name ++ last_digits 6 (l.expiry % 1000000) ++ (right_char l.right ∷ []) ++ last_digits 8 l.strike

-- 'the symbol, blank, L or S, blank, contracts .., newline'
unfoldable pub line_text : List ℕ → Leg → List ℕ
line_text name l =
    symbol_text name l
    ++ (blank ∷ side_char l.side ∷ blank ∷ [])
    ++ last_digits (places_of l.contracts.0) l.contracts.0
    ++ (newline ∷ [])

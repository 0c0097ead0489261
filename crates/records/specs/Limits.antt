-- The sizes and limits that several layers go by, each named once.
use Rattle.std.specs.Prelude.{ℕ}

-- 'A leg record has 32 bytes', and so has a claim record
abbrev pub record_bytes : ℕ
record_bytes = 32

-- 'Holdings and placement have 0 to 256 records each, claims 0 to 32.' So many lines and sides may stand after the day's
-- fills, too: '19, the 257th line and side' (02, [4])
abbrev pub most_legs : ℕ
most_legs = 256

abbrev pub most_claims : ℕ
most_claims = 32

-- group: '0 to 32'
abbrev pub most_groups : ℕ
most_groups = 32

-- contracts: '1 to 100,000'; of a line and side that the day's fills leave, too: 'at most 100,000 contracts' (02, [4])
abbrev pub most_contracts : ℕ
most_contracts = 100000

-- margin: '0 to 2,560,000,000,000,000,000'
abbrev pub most_mills : ℕ
most_mills = 2560000000000000000

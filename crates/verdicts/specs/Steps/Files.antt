-- A file of good blocks, and its records in lent tables.
use Rattle.std.specs.Prelude.{◌≡◌, List, ℕ, ◌*◌, ◌≤◌, length, Ok}
use Rattle.records.specs.Limits.{record_bytes}
use Rattle.blocks.specs.File.{origin_in}
use Rattle.blocks.specs.Reader.{scan_call}
use Rattle.blocks.specs.declared.answers.Counts.{Counts}
use Rattle.blocks.specs.Reader.{reading}

-- the file, of either form, has blocks without a fault, and so many records of each kind, whose fields are not yet looked at
abbrev pub HasRecords : List ℕ → Counts → Type 0
HasRecords file n = scan_call file ≡ Ok (reading n (origin_in file))

-- three tables have room for so many records
abbrev pub HasRoom : Counts → List ℕ → List ℕ → List ℕ → Type 0
HasRoom n h p c = (record_bytes * n.holdings ≤ length h) × (record_bytes * n.placement ≤ length p) × (record_bytes * n.claims ≤ length c)

-- two tables of `legs` bytes and one of `claims` bytes have it
abbrev pub FitsIn : Counts → ℕ → ℕ → Type 0
FitsIn n legs claims = (record_bytes * n.holdings ≤ legs) × (record_bytes * n.placement ≤ legs) × (record_bytes * n.claims ≤ claims)

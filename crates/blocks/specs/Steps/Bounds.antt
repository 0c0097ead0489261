-- How long blocks and tables are at most, and the tables as they are lent.
use Rattle.std.specs.Prelude.{ℕ, ◌*◌, ◌≤◌, ◌≡◌, List, length, take}
use Rattle.records.specs.Limits.{record_bytes}
use Rattle.records.specs.Tables.{limit_of}
use Rattle.records.specs.declared.tables.Kind.{Kind}
use Rattle.records.specs.declared.tables.Kind.TheVariants.{Holdings, Placement, Claims}
use Rattle.blocks.specs.Sizes.{block_bytes, full_block}
use Rattle.blocks.specs.Block.{count_of}
use Rattle.blocks.specs.File.{Tables, tables}
use Rattle.blocks.specs.declared.answers.Counts.{Counts}
use Rattle.blocks.specs.declared.writer.LentTables.{LentTables}

-- a block of 512 bytes with at most 15 records
pub record Sized (b : List ℕ) : Type 0 where
  pub size : length b ≡ block_bytes
  pub few : count_of b ≤ full_block

-- the bytes of a kind's longest table
abbrev pub most_table_bytes : Kind → ℕ
most_table_bytes kind = record_bytes * limit_of kind

-- no table is longer than that
abbrev pub TablesFit : Tables → Type 0
TablesFit t =
    (length t.holdings ≤ most_table_bytes Holdings)
    × (length t.placement ≤ most_table_bytes Placement)
    × (length t.claims ≤ most_table_bytes Claims)

-- the three tables that are lent to be written
abbrev pub lent : LentTables → Tables
lent t = tables t.holdings.now t.placement.now t.claims.now

-- so many records of each kind stand in these tables
abbrev pub Hold : Tables → Counts → Type 0
Hold t n =
    (record_bytes * n.holdings ≤ length t.holdings)
    × (record_bytes * n.placement ≤ length t.placement)
    × (record_bytes * n.claims ≤ length t.claims)

-- and they are
abbrev pub first_records : Counts → Tables → Tables
first_records n t =
    tables (take (record_bytes * n.holdings) t.holdings) (take (record_bytes * n.placement) t.placement)
    (take (record_bytes * n.claims) t.claims)

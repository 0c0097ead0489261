-- what is promised of the definitions
mod Undamaged
mod ListedLaws
mod Demands
mod Unique
-- what a kept block is, and the tables of kept blocks
mod SoundLaws
mod KeptTables
-- the loops over pieces, and what the call answers
mod PieceLaws
mod SortLaws
mod CallLaws

-- what is promised of the definitions
mod RoundTrips
mod ResultLaws
mod Unique
-- bytes, digits and characters
mod RunLaws
mod NumberLaws
mod DigitLaws
mod CharLaws
mod WriteLaws
-- the table of roots
mod RootLaws
mod ApartLaws
-- lines: cut out of a list, written, read
mod SplitLaws
mod LineLaws
mod WrittenLaws
mod ReadLaws
-- the loops over lines and records, and what the calls answer
mod ImportLaws
mod ExportLaws
mod ClearLaws
mod AnswerLaws

-- What crates above cite of this one besides its contracts and definitions: laws of groups, their margins and their calls. All
-- else in proofs/ is the crate's own.

-- a group is a spread just where nothing is refused
pub use Rattle.spreads.proofs.RuleLaws.{rule_to_spread, spread_to_rule, spread_to_no_refusal}
-- what a margin is, covers, and is the least of
pub use Rattle.spreads.proofs.BoxLaws.{no_box_test, box_margin, other_margin, margin_covers, margin_least, join_margins}
pub use Rattle.spreads.proofs.Cover.{covers_each}
pub use Rattle.spreads.proofs.Nets.{margin_nets}
pub use Rattle.spreads.proofs.Merge.{Together}
-- how many legs and strikes, and how much, there can be
pub use Rattle.spreads.proofs.Bounds.{sides_small, legs_ranges, legs_few, table_few, group_ranges, group_few}
pub use Rattle.spreads.proofs.BoxBounds.{margin_bound, margin_small}
pub use Rattle.spreads.proofs.StrikeLaws.{strikes_small, strikes_count}
pub use Rattle.spreads.proofs.Signed.{abs_minus}
-- sums over the groups of a placement, and the work that they cause
pub use Rattle.spreads.proofs.GroupSums.{by_group, by_group_upto, total_le, total_ext, legs_in_groups}
pub use Rattle.spreads.proofs.WorkLaws.{work_all, work_most}
-- what the calls answer
pub use Rattle.spreads.proofs.AnswerLaws.{list_in}
pub use Rattle.spreads.proofs.MarginLists.{length_margins, margin_at}

use Rattle.sheets.specs.Steps.Links.{AllWorded}
use Rattle.sheets.specs.Steps.Pooled.{pooled_leg}
use Rattle.sheets.proofs.LinkLaws.{Linked}
use Rattle.sheets.proofs.numbers.link_lines.Given as goal

-- the first k records are numbered and can be found, and the words of those that are linked stand at their indices
abbrev pub invariant-loop-k : goal.invariant-loop-k
invariant-loop-k l =
    Linked (pooled_leg l.tables.holdings.now l.tables.placement.now) l.k l.numbers l.links
    × AllWorded (pooled_leg l.tables.holdings.now l.tables.placement.now) l.words l.links

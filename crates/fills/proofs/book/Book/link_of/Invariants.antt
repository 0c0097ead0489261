use Rattle.std.proofs.Common.{◌<◌, ◌-◌}
use Rattle.fills.specs.Steps.Links.{leg_in_play, bucket_of, is_row, most_links}
use Rattle.fills.proofs.LinkLaws.{Searching}
use Rattle.fills.proofs.book.Book.link_of.Given as goal

abbrev pub invariant-loop-leg : goal.invariant-loop-leg
invariant-loop-leg l =
    let leg = leg_in_play l.self.holdings.now l.self.fills.now in
    record {
      inside : l.link < most_links;
      searching : Searching (is_row leg l.self.held (leg l.k)) l.self.links (bucket_of (leg l.k)) l.link;
    }

-- links rise
abbrev pub decreases-loop-leg : goal.decreases-loop-leg
decreases-loop-leg l = most_links - l.link

use Rattle.fills.specs.Steps.Links.{leg_in_play}
use Rattle.fills.proofs.WriteLaws.{Writing}
use Rattle.fills.proofs.book.Book.put_rows.Given as goal

-- the rows of the records before record k are written, one after the other
abbrev pub invariant-loop-k : goal.invariant-loop-k
invariant-loop-k l = Writing (leg_in_play l.self.holdings.now l.self.fills.now) l.self.held l.self.gone l.initial.res l.res l.out l.k

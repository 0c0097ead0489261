use Rattle.fills.proofs.BookLaws.{Started}
use Rattle.fills.proofs.book.Book.merge.Given as goal

abbrev pub invariant-loop-i : goal.invariant-loop-i
invariant-loop-i l = Started l.fn.self l.self l.i

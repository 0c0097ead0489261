use Rattle.spreads.proofs.SearchLaws.{marks_taken}
use Rattle.spreads.proofs.pairs.search_doubled.Goals as goal

pub first_doubled-requires : goal.first_doubled-requires
first_doubled-requires g c = rw c.len.ensures (marks_taken _ _ _ c.copy_marks.ensures)

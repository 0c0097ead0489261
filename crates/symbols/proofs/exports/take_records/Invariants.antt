use Rattle.symbols.proofs.ExportLaws.{TakingRecords}
use Rattle.symbols.proofs.exports.take_records.Given as goal

-- the records before record i are good, and their lines stand in the text, up to `at`
abbrev pub invariant-loop-i : goal.invariant-loop-i
invariant-loop-i l = TakingRecords l.roots l.records l.fn.text l.text l.at l.i

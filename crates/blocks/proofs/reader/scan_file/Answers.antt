use Rattle.std.proofs.Common.{sym, ◌∙◌}
use Rattle.blocks.proofs.ReadLaws.{scan_1, scan_whole}
use Rattle.blocks.proofs.reader.scan_file.Goals as goal

pub returns-then-whole_file : goal.returns-then-whole_file
returns-then-whole_file c = c.scan.ensures ∙ scan_whole c.args.file.now (sym c.whole_file.ensures ∙ c.if-whole_file.true)

pub returns : goal.returns
returns c = rw c.refused.ensures (sym (scan_1 c.args.file.now (sym c.whole_file.ensures ∙ c.if-whole_file.false)))

use Rattle.std.proofs.Common.{sym, ◌∙◌, length}
use Rattle.blocks.proofs.MoveLaws.{move_1, move_20}
use Rattle.blocks.proofs.moves.move_file.Goals as goal

pub returns-then-not-whole_file-clause-value : goal.returns-then-not-whole_file-clause-value
returns-then-not-whole_file-clause-value c =
    let a = c.args in
    rw c.refused.ensures (sym (move_1 a.from a.to a.file.now (length a.out.now) (sym c.whole_file.ensures ∙ c.if-not-whole_file.true)))

pub returns-then-not-is_named-clause-value : goal.returns-then-not-is_named-clause-value
returns-then-not-is_named-clause-value c =
    let a = c.args in
    rw c.refused-then-not-is_named.ensures
    (sym (move_20 a.from a.to a.file.now (length a.out.now) (sym c.whole_file.ensures ∙ c.if-not-whole_file.false) (sym c.is_named.ensures ∙ c.if-not-is_named.true)))

use Rattle.std.proofs.Common.{[], sym, ap, ◌∙◌, ◌*◌}
use borrow.Author.Tests.{ne_eqb}
use Rattle.records.specs.Legs.{leg_bytes}
use Rattle.records.specs.Written.{put_at}
use Rattle.records.proofs.PutLaws.{put_none}
use Rattle.fills.specs.Rows.{bytes_of}
use Rattle.fills.proofs.BytesLaws.{bytes_one}
use Rattle.fills.proofs.book.Book.put_record.Goals as goal

pub returns-then-self-k-eq0-clause-res_after : goal.returns-then-self-k-eq0-clause-res_after
unfolding bytes_of
returns-then-self-k-eq0-clause-res_after c = rw c.if-self-k-eq0.true (put_none _ _ [])

pub returns-clause-res_after : goal.returns-clause-res_after
returns-clause-res_after c =
    rw (ne_eqb _ 0 c.if-self-k-eq0.false)
    (c.put_row.ensures
    ∙ ap (put_at c.args.res.now (32 * c.args.out)) (ap leg_bytes (rw (c.of.ensures, c.leg.ensures) at c.with_contracts-leg.ensures) ∙ sym (bytes_one _)))

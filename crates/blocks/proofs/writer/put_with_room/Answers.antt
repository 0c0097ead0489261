use Rattle.std.specs.Prelude.{Ok}
use Rattle.std.proofs.Common.{refl, sym, ap, ◌∙◌, length, arith}
use Rattle.blocks.specs.File.{file_of}
use Rattle.blocks.specs.Steps.Bounds.{lent}
use Rattle.blocks.proofs.FlatLaws.{length_file}
use Rattle.blocks.proofs.WriteLaws.{written_tables, write_17, write_done}
use Rattle.blocks.proofs.writer.put_with_room.Goals as goal

pub overflow_mul-need : goal.overflow_mul-need
overflow_mul-need c =
    let l = written_tables c.args.origin (lent c.args.tables.now) 0 c.requires in
    omega (arith, l.holdings.1, l.placement.1, l.claims.1)

pub returns-then-out-need : goal.returns-then-out-need
returns-then-out-need c =
    let t = lent c.args.tables.now in
    let n = c.blocks_needed-blocks.ensures in
    (rw (c.refused.ensures, n) (sym (write_17 c.args.origin t (length c.args.out.now) c.requires (omega arith))), refl)

pub overflow_cast-frame : goal.overflow_cast-frame
overflow_cast-frame c =
    let l = written_tables c.args.origin (lent c.args.tables.now) 0 c.requires in
    omega (arith, l.holdings.1, l.placement.1, l.claims.1)

pub put_file-requires-clause-tables_fit : goal.put_file-requires-clause-tables_fit
put_file-requires-clause-tables_fit c =
    let l = written_tables c.args.origin (lent c.args.tables.now) 0 c.requires in
    (l.holdings.1, l.placement.1, l.claims.1)

pub returns : goal.returns
unfolding file_of
returns c =
    let t = lent c.args.tables.now in
    let n = c.blocks_needed-blocks.ensures in (
      rw n
          (ap Ok (sym (length_file c.args.origin t)) ∙ sym (write_done c.args.origin t (length c.args.out.now) c.requires (omega arith))),
      rw (← n, ← c.settled.ensures) c.put_file.ensures,
    )

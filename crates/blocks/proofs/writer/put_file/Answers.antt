use Rattle.std.proofs.Common.{arith}
use Rattle.blocks.proofs.WriteLaws.{file_put}
use Rattle.blocks.proofs.writer.put_file.Goals as goal

pub returns : goal.returns
returns c =
    let t = c.args.tables.now in
    let p = c.write_kind-p in
    let q = c.write_kind-c in
    file_put c.args.frame c.args.out.now p.new.out q.new.out c.write_kind.new.out t.holdings.now t.placement.now t.claims.now
    p.result q.result p.ensures.out_after (omega (arith, p.ensures.value)) q.ensures.out_after q.ensures.value c.write_kind.ensures.out_after

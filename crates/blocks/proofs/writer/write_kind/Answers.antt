use mathlib.Core.List.{flatten}
use Rattle.std.proofs.Common.{ℕ, ◌*◌, ◌∙◌, ap, arith}
use Rattle.records.specs.Chunks.{chunks}
use Rattle.records.specs.Written.{put_at}
use Rattle.records.proofs.PutLaws.{put_none}
use Rattle.blocks.specs.File.{numbered, blocks_of_kind}
use Rattle.blocks.proofs.WriteLaws.{written_to, write_turn}
use Rattle.blocks.proofs.writer.write_kind.Goals as goal

pub loop-k-init : goal.loop-k-init
unfolding chunks numbered flatten
loop-k-init c = put_none c.args.out.now (512 * c.args.first) c.args.records.now

pub loop-k-preserved : goal.loop-k-preserved
loop-k-preserved c =
    let a = c.args in
    write_turn a.frame a.kind a.first a.records.now a.out.now c.loop-k.out c.fill_block.new.part c.loop-k.k
    c.min-to.result (omega arith) c.loop-k.invariant c.min-to.ensures c.fill_block.ensures

pub returns-clause-out_after : goal.returns-clause-out_after
unfolding blocks_of_kind
returns-clause-out_after c =
    let a = c.args in
    c.loop-k.invariant
    ∙ ap (λ (k : ℕ). put_at a.out.now (512 * a.first) (written_to a.frame a.kind a.first a.records.now k)) (omega arith)

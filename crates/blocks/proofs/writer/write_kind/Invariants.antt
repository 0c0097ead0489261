use Rattle.std.proofs.Common.{◌≡◌, ◌*◌}
use Rattle.records.specs.Written.{put_at}
use Rattle.blocks.proofs.WriteLaws.{written_to}
use Rattle.blocks.proofs.writer.write_kind.Given as goal

-- the first k blocks of the kind stand where they are to stand
abbrev pub invariant-loop-k : goal.invariant-loop-k
invariant-loop-k l = l.out ≡ put_at l.fn.out (512 * l.first) (written_to l.frame l.kind l.first l.records l.k)

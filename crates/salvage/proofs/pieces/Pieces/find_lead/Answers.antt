use Rattle.std.proofs.Common.{sym, ◌+◌, ◌∙◌, arith}
use Rattle.records.specs.Chunks.{chunk_at}
use Rattle.salvage.proofs.PieceLaws.{pieces_from, pieces_all, pieces_step, pieces_none, lead_found, lead_next, lead_none}
use Rattle.salvage.proofs.pieces.Pieces.find_lead.Goals as goal

pub loop-i-init : goal.loop-i-init
loop-i-init c = rw (pieces_all c.args.self.now.bytes.now)

pub returns-in-Ok : goal.returns-in-Ok
returns-in-Ok c =
    let l = c.loop-i in
    let x = c.args.self.now.bytes.now in
    sym
    (l.invariant
    ∙ lead_found (chunk_at 512 x l.i) (pieces_from x l.i) (pieces_from x (l.i + 1)) (pieces_step x l.i (omega arith)) _
    (sym c.judge.ensures ∙ c.in-Ok.is))

pub loop-i-preserved : goal.loop-i-preserved
loop-i-preserved c =
    let l = c.loop-i in
    let x = c.args.self.now.bytes.now in
    l.invariant
    ∙ lead_next (chunk_at 512 x l.i) (pieces_from x l.i) (pieces_from x (l.i + 1)) (pieces_step x l.i (omega arith)) _
    (sym c.judge.ensures ∙ c.in_default.is)

pub returns : goal.returns
returns c =
    let l = c.loop-i in
    let x = c.args.self.now.bytes.now in
    sym (l.invariant ∙ lead_none (pieces_from x l.i) (pieces_none x l.i (omega arith)))

use Rattle.std.proofs.Common.{take, length, ◌≡◌, ◌∙◌, arith}
use Rattle.std.proofs.Math.Seq.{length-take-le}
use Rattle.records.proofs.PutLaws.{put_room}
use Rattle.symbols.proofs.LineLaws.{symbol_put}
use Rattle.symbols.proofs.lines.put_symbol.Goals as goal

pub returns : goal.returns
returns c =
    let root = c.args.root.now in
    let six : length (take 6 root) ≡ 6 = length-take-le 6 root (omega arith) in
    symbol_put (take 6 root) c.args.leg six c.args.out.now c.copy_to.new.to c.put_digits.new.out c.put_digits-2.new.out c.args.at
    c.letter.result c.requires (c.put_digits.auto.out ∙ c.copy_to.auto.to) (c.copy_to.ensures ∙ put_room _ c.args.at _ (omega arith)) c.put_digits.ensures
    c.letter.ensures c.put_digits-2.ensures

use Rattle.std.proofs.Common.{◌+◌, take, length, ◌≡◌, ◌∙◌, arith}
use Rattle.std.proofs.Math.Seq.{length-take-le}
use Rattle.records.proofs.PutLaws.{put_room}
use Rattle.symbols.proofs.LineLaws.{length_line, line_put}
use Rattle.symbols.proofs.lines.put_line.Goals as goal

pub returns-clause-value : goal.returns-clause-value
returns-clause-value c =
    let root = c.args.root.now in
    let six : length (take 6 root) ≡ 6 = length-take-le 6 root (omega arith) in
    rw (length_line (take 6 root) c.args.leg six) (rw (← c.number-contracts.ensures, ← c.places_of-places.ensures) (omega arith))

pub returns-clause-out_after : goal.returns-clause-out_after
returns-clause-out_after c =
    let root = c.args.root.now in
    let six : length (take 6 root) ≡ 6 = length-take-le 6 root (omega arith) in
    line_put (take 6 root) c.args.leg six c.args.out.now c.put_symbol.new.out c.copy_to.new.to c.put_digits.new.out c.args.at
    c.letter.result c.number-contracts.result c.places_of-places.result c.requires
    (c.put_digits.auto.out ∙ c.copy_to.auto.to ∙ c.put_symbol.auto.out) c.put_symbol.ensures c.letter.ensures
    (c.copy_to.ensures ∙ put_room _ (c.args.at + 21) _ (omega (arith, c.put_symbol.auto.out))) c.number-contracts.ensures c.places_of-places.ensures c.put_digits.ensures

use Rattle.std.proofs.Common.{ℕ, ◌∷◌, [], ◌++◌, ◌≤◌, ◌<◌, length, arith, length-append}
use Rattle.verdicts.specs.Printed.{decimal_of, space}
use Rattle.verdicts.proofs.DecimalLaws.{decimal_short}
use Rattle.verdicts.proofs.PieceLaws.{piece_then, piece_is, refuse_pieces}
use Rattle.verdicts.proofs.line.refuse_line.Goals as goal

-- a number of one byte, and with its space
short : (n : ℕ) → n < 1000 → (length (decimal_of n) ≤ 3) × (length (decimal_of n ++ (space ∷ [])) ≤ 4)
short n h = let d = decimal_short 2 n h in (d, simp length-append (omega arith))

pub put_count-second-requires : goal.put_count-second-requires
put_count-second-requires c = omega (arith, short c.args.refusal.number (omega arith))

pub put_count-last-requires : goal.put_count-last-requires
put_count-last-requires c = omega (arith, short c.args.refusal.number (omega arith), short c.args.refusal.table (omega arith))

pub put_count-requires : goal.put_count-requires
put_count-requires c =
    let r = c.args.refusal in
    omega (arith, short r.number (omega arith), short r.table (omega arith), decimal_short 19 r.place (omega arith))

pub returns : goal.returns
returns c =
    let numbered = piece_then (omega arith) c.put_text-first.ensures c.put_count-second.ensures in
    piece_is (refuse_pieces c.args.refusal)
    (piece_then (omega arith) (piece_then (omega arith) numbered c.put_count-last.ensures) c.put_count.ensures)

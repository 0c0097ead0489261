use Rattle.std.proofs.Common.{◌≡◌, ℕ, ◌+◌, ◌∷◌, [], ◌++◌, length, arith, w64, length-append}
use lib.IntN.{ℤ}
use mir.Val.{SFits, to_z, of_z}
use mir.Facts.{to_z-of_z}
use Rattle.verdicts.specs.Printed.{decimal_of, amount_of, space}
use Rattle.verdicts.specs.TableText.{strike_line}
use Rattle.verdicts.proofs.PieceLaws.{piece_then, piece_is}
use Rattle.verdicts.proofs.ShownLaws.{strike_pieces, length_strike_line}
use Rattle.verdicts.proofs.table.put_strike_line.Goals as goal

-- the line's length, by that of the strike with its space and of the amount as it is handed on
parts : (strike : ℕ) (net : ℤ) → SFits w64 net
    → length (strike_line strike net) ≡ 1 + length (decimal_of strike ++ (space ∷ [])) + length (amount_of (to_z w64 (of_z w64 net)))
parts strike net k = rw (to_z-of_z k) (omega (arith, length_strike_line strike net, length-append (decimal_of strike) (space ∷ [])))

pub put_count-first-requires : goal.put_count-first-requires
put_count-first-requires c =
    omega (arith, parts c.args.strike c.args.net c.ranges.net, length-append (decimal_of c.args.strike) (space ∷ []))

pub put_amount-last-requires : goal.put_amount-last-requires
put_amount-last-requires c = omega (arith, parts c.args.strike c.args.net c.ranges.net)

pub put_byte-requires : goal.put_byte-requires
put_byte-requires c = omega (arith, parts c.args.strike c.args.net c.ranges.net)

pub returns : goal.returns
returns c =
    let amount = rw (to_z-of_z c.ranges.net) at c.put_amount-last.ensures in
    piece_is (strike_pieces c.args.strike c.args.net)
    (piece_then (omega arith) (piece_then (omega arith) c.put_count-first.ensures amount) c.put_byte.ensures)

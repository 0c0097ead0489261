use Rattle.std.proofs.Common.{◌≡◌, ℕ, true, false, [], ◌∷◌, ap, ◌∙◌, length, arith, w64}
use lib.IntN.{ℤ, nat_abs}
use mir.Val.{SFits, to_z, of_z}
use mir.Facts.{to_z-of_z}
use Rattle.verdicts.specs.Printed.{decimal_of, amount_of, minus_sign}
use Rattle.verdicts.proofs.AmountLaws.{is_negative, amount_negative, amount_other}
use Rattle.verdicts.proofs.PieceLaws.{piece_then}
use Rattle.verdicts.proofs.pieces.put_amount.Goals as goal

-- what is printed, by the magnitude that was worked out
negative : (z : ℤ) (k : SFits w64 z) (size : ℕ) → size ≡ nat_abs (to_z w64 (of_z w64 z)) → is_negative z ≡ true → amount_of z ≡ minus_sign ∷ decimal_of size
negative z k size e below = amount_negative z k below ∙ rw (e ∙ ap nat_abs (to_z-of_z k))

other : (z : ℤ) (k : SFits w64 z) (size : ℕ) → size ≡ nat_abs (to_z w64 (of_z w64 z)) → is_negative z ≡ false → amount_of z ≡ decimal_of size
other z k size e above = amount_other z k above ∙ rw (e ∙ ap nat_abs (to_z-of_z k))

pub put_byte-next-requires : goal.put_byte-next-requires
put_byte-next-requires c = omega (arith, ap length (negative c.args.mills c.ranges.mills _ c.magnitude-size.ensures c.if-mills-lt0.true))

pub put_decimal-requires : goal.put_decimal-requires
put_decimal-requires c = omega (arith, ap length (negative c.args.mills c.ranges.mills _ c.magnitude-size.ensures c.if-mills-lt0.true))

pub returns-then-mills-lt0 : goal.returns-then-mills-lt0
returns-then-mills-lt0 c =
    rw (negative c.args.mills c.ranges.mills _ c.magnitude-size.ensures c.if-mills-lt0.true)
    (piece_then {p = minus_sign ∷ []} (omega arith) c.put_byte-next.ensures c.put_decimal.ensures)

pub put_decimal-requires-2 : goal.put_decimal-requires-2
put_decimal-requires-2 c = omega (arith, ap length (other c.args.mills c.ranges.mills _ c.magnitude-size.ensures c.if-mills-lt0.false))

pub returns : goal.returns
returns c = rw (other c.args.mills c.ranges.mills _ c.magnitude-size.ensures c.if-mills-lt0.false) c.put_decimal-2.ensures

use Rattle.verdicts.proofs.pieces.+put_decimal.Given as goal

-- each call has a tenth of the number
abbrev pub decreases-put_decimal : goal.decreases-put_decimal
decreases-put_decimal l = l.n

use Rattle.std.proofs.Common.{◌≡◌}
use Rattle.records.specs.Written.{put_at}
use Rattle.symbols.specs.Digits.{last_digits}
use Rattle.symbols.proofs.digits.put_digits.Given as goal

-- with the first i digits of what is left put too, all stand there
abbrev pub invariant-loop-i : goal.invariant-loop-i
invariant-loop-i l = put_at l.out l.at (last_digits l.i l.rest) ≡ put_at l.fn.out l.at (last_digits l.width l.n)

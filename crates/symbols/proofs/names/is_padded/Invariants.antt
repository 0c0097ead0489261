use Rattle.std.proofs.Common.{◌≡◌, drop}
use Rattle.symbols.specs.Roots.{padded}
use Rattle.symbols.proofs.names.is_padded.Given as goal

-- the characters before character i are neither blank nor wrong
abbrev pub invariant-loop-i : goal.invariant-loop-i
invariant-loop-i l = padded l.name ≡ padded (drop l.i l.name)

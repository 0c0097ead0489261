use Rattle.std.proofs.Common.{◌≡◌, []}
use Rattle.records.specs.Order.{first_of}
use Rattle.symbols.specs.Roots.{ask_roots}
use Rattle.symbols.proofs.RootLaws.{asked_from}
use Rattle.symbols.proofs.roots.entry_fault.Given as goal

-- the entries before entry i are good
abbrev pub invariant-loop-i : goal.invariant-loop-i
invariant-loop-i l = first_of (ask_roots [] 0 l.roots) ≡ asked_from l.roots l.i

use Rattle.std.proofs.Common.{◌≡◌, ℕ, false, ◌<◌, get_or}
use Rattle.spreads.proofs.pairs.has_mark.Given as goal

-- where nothing was found, none of the entries so far is x
abbrev pub invariant-loop-mark : goal.invariant-loop-mark
invariant-loop-mark l = l.found ≡ false → (p : ℕ) → p < l.mark-index → get_or l.marks p 0 ≡ l.x → ⊥

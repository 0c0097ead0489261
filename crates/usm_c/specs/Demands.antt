-- What the words of an answer rest on; proved in proofs/Amounts.antt.
use Rattle.std.specs.Prelude.{List, ℕ}
use Rattle.binaries.specs.declared.positions.Position.{Position}
use Rattle.spreads.specs.Calls.{margin_call}
use Rattle.spreads.specs.Cash.{cash_call}
use Rattle.sheets.specs.Verdicts.{verdict_of}
use Rattle.verdicts.specs.FileVerdicts.{file_verdict}
use Rattle.usm_c.specs.Answers.{DueMills, VerdictMills}
use Rattle.usm_c.specs.Outcomes.{single_as, pair_as}

-- No amount in the words of an answer is below zero, so that the word for it, `nat_abs` of the amount, is the amount itself.
pub record NoneBelowZero : Type 0 where
  pub margin : (placement : List ℕ) (g : ℕ) → DueMills (margin_call placement g)
  pub cash : (placement : List ℕ) (g : ℕ) → DueMills (cash_call placement g)
  pub sheet : (h p c : List ℕ) → VerdictMills (verdict_of h p c)
  pub file : (file : List ℕ) → VerdictMills (file_verdict file)
  pub single : (side spread valuation expiry contracts : ℕ) → DueMills (single_as side spread valuation expiry contracts)
  pub pair : (valuation : ℕ) (long : Position) (paid : ℕ) (short : Position) → DueMills (pair_as valuation long paid short)

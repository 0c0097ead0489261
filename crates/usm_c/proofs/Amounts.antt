-- No amount of an answer is below zero: the statement of specs/Demands.antt.
use Rattle.std.specs.Prelude.{Option, Some, None, Result, Ok, Err}
use mathlib.Core.Path.{refl}
use mathlib.Core.List.{List, ◌++◌}
use Prim.Native.Nat.{ℕ}
use lib.IntN.{ℤ}
use Rattle.records.specs.Order.{first_of}
use Rattle.records.specs.Tables.{table_checks, legs_of}
use Rattle.records.specs.declared.tables.Kind.TheVariants.{Placement}
use Rattle.blocks.specs.Reader.{read_checks}
use Rattle.binaries.specs.Calls.{binary_answer, single_checks, single_call, pair_checks, pair_call}
use Rattle.binaries.specs.declared.positions.Position.{Position}
use Rattle.spreads.specs.Calls.{due_answer, group_checks, margin_call}
use Rattle.spreads.specs.Cash.{cash_rule, cash_call}
use Rattle.sheets.specs.Sheets.{sheet_checks}
use Rattle.sheets.specs.Verdicts.{verdict_in, verdict_of}
use Rattle.verdicts.specs.FileVerdicts.{after_reading, file_verdict}
use Rattle.usm_c.specs.Answers.{answer_for, DueMills, VerdictMills}
use Rattle.usm_c.specs.Outcomes.{side_of, paid_of, single_as, pair_as}
use Rattle.usm_c.specs.Demands.{NoneBelowZero}
use Rattle.records.specs.declared.refusals.Refusal.{Refusal}
use Rattle.sheets.specs.declared.sheet.Accepted.{Accepted}

due_mills : (fault : Result Unit Refusal) (mills : ℕ) → DueMills (due_answer fault mills)
due_mills (Ok _) mills = refl
due_mills (Err r) mills = tt

verdict_mills : (fault : Result Unit Refusal) (n total work : ℕ) → VerdictMills (verdict_in fault n total work)
verdict_mills (Ok _) n total work = refl
verdict_mills (Err r) n total work = tt

after_mills : (fault : Result Unit Refusal) (v : Result Accepted Refusal) → VerdictMills v → VerdictMills (after_reading fault v)
after_mills (Ok _) v h = h
after_mills (Err r) v h = tt

pub margin_mills : (placement : List ℕ) (g : ℕ) → DueMills (margin_call placement g)
unfolding margin_call
margin_mills placement g = due_mills (first_of (group_checks placement g)) _

pub cash_mills : (placement : List ℕ) (g : ℕ) → DueMills (cash_call placement g)
unfolding cash_call
cash_mills placement g = due_mills (first_of (table_checks Placement placement ++ cash_rule g (legs_of placement))) _

pub sheet_mills : (h p c : List ℕ) → VerdictMills (verdict_of h p c)
unfolding verdict_of
sheet_mills h p c = verdict_mills (first_of (sheet_checks h p c)) _ _ _

pub file_mills : (file : List ℕ) → VerdictMills (file_verdict file)
unfolding file_verdict
file_mills file = after_mills (first_of (read_checks file)) _ (sheet_mills _ _ _)

-- ---- positions in credit event binary options

required_mills : (fault : Result Unit Refusal) (mills : ℕ) → DueMills (binary_answer fault mills)
required_mills (Ok _) mills = refl
required_mills (Err r) mills = tt

-- a number of nothing is refused, and a refusal has no amount
asked_mills : {A : Type 0} (o : Option A) (f : A → Result ℤ Refusal) (r : Refusal) → ((x : A) → DueMills (f x)) → DueMills (answer_for o f r)
asked_mills (Some x) f r h = h x
asked_mills None f r h = tt

pub single_mills : (side spread valuation expiry contracts : ℕ) → DueMills (single_as side spread valuation expiry contracts)
unfolding single_as single_call
single_mills side spread valuation expiry contracts =
    asked_mills (side_of side) _ _ (λ s. required_mills (first_of (single_checks spread valuation expiry contracts)) _)

pub pair_mills : (valuation : ℕ) (long : Position) (paid : ℕ) (short : Position) → DueMills (pair_as valuation long paid short)
unfolding pair_as pair_call
pair_mills valuation long paid short =
    asked_mills (paid_of paid) _ _ (λ p. required_mills (first_of (pair_checks valuation long short)) _)

pub none_below_zero : NoneBelowZero
none_below_zero =
    record { margin = margin_mills; cash = cash_mills; sheet = sheet_mills; file = file_mills; single = single_mills; pair = pair_mills }

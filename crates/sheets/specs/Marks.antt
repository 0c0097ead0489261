-- 'Give a pass that sets the mark on every unplaced long; old sheets go through it.'
use Rattle.std.specs.Prelude.{Bool, true, false, cond, ◌&&◌, List, ◌++◌, ℕ, zero, suc, ◌/◌, eqb, length, set, take, drop, Result, Ok, Err}
use Rattle.records.specs.Legs.{leg_of, is_long, with_paid}
use Rattle.records.specs.Limits.{record_bytes}
use Rattle.records.specs.Lists.{only, sum_of}
use Rattle.records.specs.Order.{first_of}
use Rattle.records.specs.Tables.{table_checks, legs_of}
use Rattle.records.specs.declared.legs.Leg.{Leg}
use Rattle.records.specs.declared.tables.Kind.TheVariants.{Placement}
use Rattle.sheets.specs.Sheets.{unpaid_long}
use Rattle.records.specs.declared.refusals.Refusal.{Refusal}

-- 'Byte 25 of a leg record becomes paid mark'
abbrev pub paid_at : ℕ
paid_at = 25

-- an unplaced long that has no mark gets it; every other record stays, and every other byte of this one
unfoldable pub marked_record : List ℕ → List ℕ
marked_record r = cond (unpaid_long (leg_of r)) (set r paid_at 1) r

-- the first n records of a table each so
unfoldable pub marked_first : ℕ → List ℕ → List ℕ
marked_first zero xs = xs
marked_first (suc n) xs = marked_record (take record_bytes xs) ++ marked_first n (drop record_bytes xs)

abbrev pub marked_placement : List ℕ → List ℕ
marked_placement p = marked_first (length p / record_bytes) p

-- what that makes of a leg: every unplaced long has the mark
abbrev pub marked_leg : Leg → Leg
marked_leg l = cond (is_long l && eqb l.group 0) (with_paid l 1) l

-- how many marks that are
abbrev pub mark_on : Leg → ℕ
mark_on l = only (unpaid_long l) 1

unfoldable pub marks_in : List ℕ → ℕ
marks_in p = sum_of mark_on (legs_of p)

-- 'the pass gives 1 and 4 and then changes nothing': the refusal, or how many marks were set
abbrev pub pass_answer : Result Unit Refusal → ℕ → Result ℕ Refusal
pass_answer (Ok _) n = Ok n
pass_answer (Err r) n = Err r

unfoldable pub pass_call : List ℕ → Result ℕ Refusal
pass_call p = pass_answer (first_of (table_checks Placement p)) (marks_in p)

-- whether the table then is `marked_placement`, by `left_after`
abbrev pub has_marked : Result ℕ Refusal → Bool
has_marked (Ok n) = true
has_marked (Err r) = false

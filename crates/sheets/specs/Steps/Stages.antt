-- What the stages of the check compute.
use Rattle.std.specs.Prelude.{◌≡◌, Bool, false, cond, List, [], ◌∷◌, ◌++◌, ℕ, ◌-◌, eqb, ℤ, pos, negsuc, length, get_or, Result, Ok, Err}
use Rattle.records.specs.Order.{Check, ask, first_of}
use Rattle.records.specs.declared.claims.Claim.{Claim}
use Rattle.records.specs.Tables.{whole_tables, field_checks, legs_of, claims_of}
use Rattle.records.specs.declared.refusals.Refusal.{Refusal}
use Rattle.records.specs.declared.tables.Kind.TheVariants.{Holdings, Claims}
use Rattle.spreads.specs.Work.{work_up_to}
use Rattle.sheets.specs.Sheets.{claim_for, ask_numbered, ask_named, last_checks, sheet_checks}

-- what is asked first: 1 of three tables, and 4 of the holdings
unfoldable pub opening_checks : List ℕ → List ℕ → List ℕ → List Check
opening_checks h p c = ask (whole_tables (length h) (length p) (length c)) 1 0 0 ∷ field_checks Holdings h

-- three tables that have passed that
abbrev pub Opened : List ℕ → List ℕ → List ℕ → Type 0
Opened h p c = first_of (opening_checks h p c) ≡ Ok tt

-- a check that fails so
abbrev pub failing : Refusal → Check
failing r = record { holds = false; refusal = r }

-- what is asked between 4 of the placement and 6: 4 of the claims, and 5
unfoldable pub claimed_checks : List ℕ → List ℕ → List Check
claimed_checks p c = field_checks Claims c ++ (ask_numbered 0 (claims_of c) ++ ask_named (length (claims_of c)) (legs_of p))

-- the same with the refusal of the margins' call: 4 of the placement before all that, 6 to 13 after it
unfoldable pub called_checks : List ℕ → List ℕ → Refusal → List Check
called_checks p c r = cond (eqb r.number 4) (failing r ∷ []) (claimed_checks p c ++ failing r ∷ [])

-- the first refusal, or how many intrinsic values were worked out
abbrev pub worked_out : Result Unit Refusal → ℕ → Result ℕ Refusal
worked_out (Ok _) values = Ok values
worked_out (Err r) values = Err r

-- that of a sheet, for the intrinsic values of as many groups as it has claims
unfoldable pub judged : List ℕ → List ℕ → List ℕ → Result ℕ Refusal
judged h p c = worked_out (first_of (sheet_checks h p c)) (work_up_to (length (claims_of c)) (legs_of p))

-- ---- claims against a list of margins, that of group g at index g - 1

-- so many mills are the amount, which has a sign
abbrev pub is_amount : ℕ → ℤ → Bool
is_amount mills (pos n) = eqb mills n
is_amount mills (negsuc n) = false

unfoldable pub ask_listed : List ℤ → List Claim → ℕ → List Check
ask_listed margins c g = ask (is_amount (claim_for c g) (get_or margins (g - 1) (pos 0))) 16 3 g ∷ []

-- 14 and 15, and 16 against a list of margins
unfoldable pub listed_checks : List ℕ → List ℕ → List ℕ → List ℤ → List Check
listed_checks h p c margins = last_checks (legs_of h) (legs_of p) (length (claims_of c)) (ask_listed margins (claims_of c))

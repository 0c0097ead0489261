-- The three tables: which number each has, how many records it may have, what a record of it is.
use Rattle.std.specs.Prelude.{ℕ, ◌/◌, ◌%◌, Bool, not, ◌&&◌, List, ◌∷◌, ◌++◌, map, eqb, leb, length, Result, Ok, Err}
use Rattle.records.specs.Chunks.{records_of}
use Rattle.records.specs.Limits.{record_bytes, most_claims, most_groups}
pub use Rattle.records.specs.Limits.{most_legs}
use Rattle.records.specs.Legs.{leg_of, is_paid, good_leg}
use Rattle.records.specs.Claims.{claim_of, good_claim}
use Rattle.records.specs.Order.{Check, ask, ask_each, first_of}
use Rattle.records.specs.declared.legs.Leg.{Leg}
use Rattle.records.specs.declared.claims.Claim.{Claim}
use Rattle.records.specs.declared.tables.Kind.{Kind}
use Rattle.records.specs.declared.tables.Kind.TheVariants.{Holdings, Placement, Claims}
use Rattle.records.specs.declared.refusals.Refusal.{Refusal}

-- 'table (0 none, 1 holdings, 2 placement, 3 claims)'
abbrev pub table_number : Kind → ℕ
table_number Holdings = 1
table_number Placement = 2
table_number Claims = 3

-- 'Holdings and placement have 0 to 256 records each, claims 0 to 32.'
abbrev pub limit_of : Kind → ℕ
limit_of Holdings = most_legs
limit_of Placement = most_legs
limit_of Claims = most_claims

abbrev pub in_limit : Kind → ℕ → Bool
in_limit kind records = leb records (limit_of kind)

-- group: '0 to 32; in holdings 0 only'
abbrev pub good_record : Kind → List ℕ → Bool
good_record Holdings xs = good_leg 0 xs
good_record Placement xs = good_leg most_groups xs
good_record Claims xs = good_claim xs

-- a holdings record that is not marked as paid: "a fill's mark 1 is 4" (02, [8]), and 'export also refuses mark 1' ([9])
unfoldable pub good_unpaid : List ℕ → Bool
good_unpaid xs = good_record Holdings xs && not (is_paid (leg_of xs))

-- a table of so many bytes is of whole records and within its limit
abbrev pub whole_table : Kind → ℕ → Bool
whole_table kind bytes = eqb (bytes % record_bytes) 0 && in_limit kind (bytes / record_bytes)

-- three tables of so many bytes, each of them so
abbrev pub whole_tables : ℕ → ℕ → ℕ → Bool
whole_tables h p c = whole_table Holdings h && whole_table Placement p && whole_table Claims c

-- refusal 4, 'a field out of range': table, record
unfoldable pub field_checks : Kind → List ℕ → List Check
field_checks kind xs = ask_each (good_record kind) 4 (table_number kind) 0 (records_of xs)

-- 'then records by table (4)': holdings, placement, claims
unfoldable pub fields_checks : List ℕ → List ℕ → List ℕ → List Check
fields_checks h p c = field_checks Holdings h ++ (field_checks Placement p ++ field_checks Claims c)

-- refusal 1, 'table not whole records or over its limit', then 4
unfoldable pub table_checks : Kind → List ℕ → List Check
table_checks kind xs = ask (whole_table kind (length xs)) 1 0 0 ∷ field_checks kind xs

-- what the answer says of each case: the refusal, or how many records
abbrev pub check_answer : Result Unit Refusal → ℕ → Result ℕ Refusal
check_answer (Ok _) n = Ok n
check_answer (Err r) n = Err r

unfoldable pub check_call : Kind → List ℕ → Result ℕ Refusal
check_call kind xs = check_answer (first_of (table_checks kind xs)) (length xs / record_bytes)

-- ---- a table as a list

unfoldable pub legs_of : List ℕ → List Leg
legs_of xs = map leg_of (records_of xs)

unfoldable pub claims_of : List ℕ → List Claim
claims_of xs = map claim_of (records_of xs)

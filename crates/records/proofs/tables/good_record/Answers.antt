use Rattle.std.proofs.Common.{◌≡◌, ◌≢◌, ℕ, List, length, false}
use borrow.Author.Tests.{ne_eqb}
use Rattle.records.specs.Claims.{good_claim}
use Rattle.records.specs.Legs.{good_leg}
use Rattle.records.specs.Tables.{good_record}
use Rattle.records.specs.declared.tables.Kind.{Kind}
use Rattle.records.specs.declared.tables.Kind.TheVariants.{Holdings, Placement, Claims}
use Rattle.records.proofs.tables.good_record.Goals as goal

not_record : (kind : Kind) (xs : List ℕ) → length xs ≢ 32 → false ≡ good_record kind xs
unfolding good_leg good_claim
not_record Holdings xs h = simp (ne_eqb (length xs) 32 h)
not_record Placement xs h = simp (ne_eqb (length xs) 32 h)
not_record Claims xs h = simp (ne_eqb (length xs) 32 h)

pub returns-in_default : goal.returns-in_default
returns-in_default c = not_record c.args.kind c.args.part.now c.in_default.ensures.cases

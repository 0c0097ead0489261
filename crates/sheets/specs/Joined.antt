-- Document 02, request 13, of a whole sheet: its last group is put into an earlier one, so that none is renumbered.
use Rattle.std.specs.Prelude.{cond, List, map, ℕ, eqb, take}
use Rattle.records.specs.Legs.{with_group}
use Rattle.records.specs.declared.claims.Claim.{Claim}
use Rattle.records.specs.declared.legs.Leg.{Leg}

-- a leg of group `last` is put into group g; every other stays, and so does all else that this one says
unfoldable pub joined_leg : ℕ → ℕ → Leg → Leg
joined_leg last g l = cond (eqb l.group last) (with_group l g) l

abbrev pub joined_placement : ℕ → ℕ → List Leg → List Leg
joined_placement last g legs = map (joined_leg last g) legs

-- the claim for group g is of so many mills; every other stays
unfoldable pub restated : ℕ → ℕ → Claim → Claim
restated g mills c = cond (eqb c.group g) (record { group = g; margin = mills }) c

-- one claim in place of two: the first n stay, and that for group g is of the joined margin
abbrev pub joined_claims : ℕ → ℕ → ℕ → List Claim → List Claim
joined_claims n g mills claims = map (restated g mills) (take n claims)

use Rattle.std.proofs.Common.{ℕ, ◌≡◌, ◌+◌, ◌*◌, ◌-◌, ◌<◌, length}
use Rattle.records.specs.declared.legs.Leg.{Leg}
use Rattle.sheets.specs.Steps.Links.{digits_of, Ends, Packed, AllWorded}
use Rattle.sheets.proofs.links.link_of.Given as goal

-- a search for x, whose words these are, that goes on from here ends where the whole search does
abbrev pub invariant-loop-whole : goal.invariant-loop-whole
invariant-loop-whole l =
    (l.link < 509 + 8 * length l.words)
    × ((legs : ℕ → Leg) → AllWorded legs l.words l.links → (x : Leg) → Packed x → l.whole ≡ digits_of x
    → (e : ℕ) → Ends legs l.links x l.digits l.link e → Ends legs l.links x l.whole l.bucket e)

abbrev pub decreases-loop-whole : goal.decreases-loop-whole
decreases-loop-whole l = length l.links - l.link

use Rattle.std.proofs.Common.{◌≡◌, length}
use Rattle.records.specs.Tables.{legs_of}
use Rattle.spreads.proofs.PricingLaws.{Pricing}
use Rattle.spreads.proofs.calls.price_each.Given as goal

-- none of the first k groups is refused, and their margins and their work are there
abbrev pub invariant-loop-k : goal.invariant-loop-k
invariant-loop-k l = record { long : length l.margins ≡ 32; pricing : Pricing l.n (legs_of l.links.placement.bytes.now) l.k l.values l.margins }

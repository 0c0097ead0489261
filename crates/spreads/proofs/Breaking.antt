-- The walk over a refused group: the facts so far, leg by leg, until they break what its refusal asks.
use Rattle.std.specs.Prelude.{Some, None}
use Prim.Native.Nat.{ℕ, ◌+◌, ◌≤◌, ◌<◌}
use mathlib.Core.Path.{◌≡◌, ap, ◌∙◌}
use mathlib.Core.Bool.{Bool, true, false, not}
use mathlib.Core.List.{List, foldl-append}
use native.Mathlib.Decide.{dec_le}
use native.Mathlib.Numerals.{add-one}
use native.Mathlib.Omega.{arith}
use lib.Dec.{leb, ltb}
use lib.ListN.{length, take, drop, get_or}
use borrow.Author.Tests.{le-leb, lt-leb, le-ltb, lt-ltb}
use Rattle.records.specs.declared.legs.Leg.{Leg}
use Rattle.spreads.specs.Steps.Gathered.{with_leg, no_facts, gathered}
use Rattle.spreads.specs.Steps.Members.{leg_at_place, legs_at}
use Rattle.spreads.specs.Steps.Pointing.{broken_by, index_in, facts_broken}
use Rattle.spreads.specs.declared.facts.Facts.{Facts}
use Rattle.records.proofs.Cuts.{cut}
use Rattle.records.proofs.LowestLaws.{Seeking, seek_none, seek_more, seek_here, seek_done}
use Rattle.spreads.proofs.MemberLaws.{length_at, legs_next}

pub later_not : (a b : ℕ) → ltb a b ≡ not (leb b a)
later_not a b =
    elim (dec_le b a) [
      | yes h ↦ rw (le-leb b a h, le-ltb a b h)
      | no h ↦ let k : a < b = omega arith in rw (lt-leb b a k, lt-ltb a b k)
    ]

-- whether the facts of the legs up to and with index k break it
abbrev broken_with : ℕ → List ℕ → List ℕ → ℕ → Bool
broken_with number xs ms k = broken_by number (gathered (take (k + 1) (legs_at xs ms)))

-- with the facts of the first i legs
pub record Breaking (number : ℕ) (xs ms : List ℕ) (i : ℕ) (facts : Facts) : Type 0 where
  pub seeking : Seeking (broken_with number xs ms) (length (legs_at xs ms)) i
  pub is : facts ≡ gathered (take i (legs_at xs ms))

pub break_none : {number : ℕ} {xs ms : List ℕ} {facts : Facts} → facts ≡ no_facts → Breaking number xs ms 0 facts
unfolding gathered
break_none e = record { seeking = seek_none; is = e }

module _ {number : ℕ} {xs ms : List ℕ} {i : ℕ} {facts : Facts} (b : Breaking number xs ms i facts) where
  pub break_done : length ms ≤ i → None ≡ index_in (length (legs_at xs ms)) (facts_broken number (legs_at xs ms))
  unfolding facts_broken
  break_done h =
      let past : length (legs_at xs ms) ≤ i = rw (length_at xs ms) h in
      rw (← seek_done b.seeking past, le-ltb i (length (legs_at xs ms)) past)

  module _ (h : i < length ms) {l : Leg} (e : l ≡ leg_at_place xs (get_or ms i 0)) {next : Facts} (q : next ≡ with_leg facts l) where
    next_is : next ≡ gathered (take (i + 1) (legs_at xs ms))
    unfolding gathered
    next_is =
        rw (add-one, (cut i (legs_at xs ms) l (drop (i + 1) (legs_at xs ms)) (legs_next xs ms i l h e)).0, foldl-append)
        (q ∙ ap (λ (f : Facts). with_leg f l) b.is)

    short : i < length (legs_at xs ms)
    short = rw (length_at xs ms) h

    pub break_more : broken_by number next ≡ false → Breaking number xs ms (i + 1) next
    break_more t = record { seeking = seek_more b.seeking short (rw (← next_is) t); is = next_is }

    pub break_here : broken_by number next ≡ true → Some i ≡ index_in (length (legs_at xs ms)) (facts_broken number (legs_at xs ms))
    unfolding facts_broken
    break_here t = rw (← seek_here b.seeking short (rw (← next_is) t), lt-ltb i (length (legs_at xs ms)) short)

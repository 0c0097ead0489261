-- A group that was found: its legs and its strikes, as the first entries of two lists.
use Rattle.std.specs.Prelude.{Result, Ok, Err, MatchResult}
use Prim.Native.Nat.{ℕ}
use mathlib.Core.Path.{◌≡◌, sym, ap, ◌∙◌}
use mathlib.Core.List.{List}
use lib.ListN.{take}
use Rattle.records.specs.Order.{first_of}
use Rattle.records.specs.Tables.{legs_of}
use Rattle.records.specs.declared.refusals.Refusal.{Refusal}
use Rattle.spreads.specs.Spreads.{group_in, group_rule}
use Rattle.spreads.specs.Strikes.{strikes_of}
use Rattle.spreads.specs.Steps.Members.{MembersOf, legs_at}
use Rattle.spreads.specs.Steps.Found.{IsFound}
use Rattle.spreads.specs.declared.group.Found.{Found}
use Rattle.spreads.specs.declared.prices.Worked.{Worked}
use Rattle.spreads.proofs.MemberLaws.{members_are}

-- what a search for a group answers
module _ (xs : List ℕ) (g : ℕ) (ms ps : List ℕ) {r : Result Found Refusal}
    (f : MatchResult r (λ found. IsFound xs g found ms ps) (λ refusal. first_of (group_rule g (legs_of xs)) ≡ Err refusal)) where
  pub is_found : {found : Found} → r ≡ Ok found → IsFound xs g found ms ps
  is_found e = rw e at f

  pub is_refused : {refusal : Refusal} → r ≡ Err refusal → first_of (group_rule g (legs_of xs)) ≡ Err refusal
  is_refused e = rw e at f

-- its legs and its strikes, whether it passed its rule or not
module _ (xs : List ℕ) (g legs : ℕ) (ms : List ℕ) (members : MembersOf xs g (take legs ms)) where
  pub found_legs : legs_at xs (take legs ms) ≡ group_in xs g
  found_legs = members_are xs g members

  pub found_prices : (strikes : ℕ) (ps : List ℕ) → take strikes ps ≡ strikes_of (group_in xs g)
      → take strikes ps ≡ strikes_of (legs_at xs (take legs ms))
  found_prices strikes ps prices = prices ∙ ap strikes_of (sym found_legs)

-- an amount and the work that it took
pub ap_worked : {w : Worked} {mills values : ℕ} → w.mills ≡ mills → w.values ≡ values → w ≡ record { mills = mills; values = values }
ap_worked a b = rw (← a, ← b)

-- What is found of a group before anything is worked out for it, for the contracts of functions that are not public.
use Rattle.std.specs.Prelude.{ℕ, ◌≤◌, ◌≡◌, List, ℤ, take, Result, Ok, Err}
use Rattle.records.specs.Limits.{most_mills, most_legs, most_groups}
use Rattle.records.specs.Order.{first_of, groups}
use Rattle.records.specs.Tables.{legs_of}
use Rattle.records.specs.declared.legs.Leg.{Leg}
use Rattle.records.specs.declared.refusals.Refusal.{Refusal}
use Rattle.spreads.specs.Spreads.{group_in, group_rule}
use Rattle.spreads.specs.Strikes.{strikes_of}
use Rattle.spreads.specs.Boxes.{margin_of}
use Rattle.spreads.specs.Calls.{listed_answer, margins_from}
use Rattle.spreads.specs.Work.{values_of, work_up_to, work_listed}
use Rattle.spreads.specs.Steps.Members.{Checked, MembersOf}
use Rattle.spreads.specs.declared.answers.Priced.{Priced}
use Rattle.spreads.specs.declared.prices.Worked.{Worked}
use Rattle.spreads.specs.declared.group.Found.{Found}

-- group g of a checked placement is a spread: the places of its legs stand first in ms, and its strikes first in ps
pub record IsFound (xs : List ℕ) (g : ℕ) (found : Found) (ms ps : List ℕ) : Type 0 where
  pub checked : Checked xs
  pub members : MembersOf xs g (take found.legs ms)
  pub prices : take found.strikes ps ≡ strikes_of (group_in xs g)
  pub few : (found.legs ≤ most_legs) × (found.strikes ≤ most_legs)
  pub passed : first_of (group_rule g (legs_of xs)) ≡ Ok tt

-- ---- groups 1 to n, each judged and priced

-- an amount of some legs, and the work that it took
abbrev pub PricedAt : Worked → (List Leg → ℕ) → List Leg → Type 0
PricedAt w amount legs = (w.mills ≡ amount legs) × (w.mills ≤ most_mills) × (w.values ≡ values_of legs)

-- a group's margin and its work
abbrev pub asked_answer : Result Unit Refusal → List Leg → Result Worked Refusal
asked_answer (Ok _) legs = Ok (record { mills = margin_of legs; values = values_of legs })
asked_answer (Err r) legs = Err r

-- the values that n groups took, as the call answers them
abbrev pub priced_as : ℕ → Result ℕ Refusal → Priced
priced_as n (Ok values) = record { listed = Ok n; values = values }
priced_as n (Err r) = record { listed = Err r; values = 0 }

-- the margins stand first in a list of them only where no group is refused
pub record AllPriced (n : ℕ) (placement : List Leg) (priced : Priced) (list : List ℤ) : Type 0 where
  pub listed : priced.listed ≡ listed_answer (first_of (groups n (λ g. group_rule g placement))) n
  pub values : priced.values ≡ work_listed priced.listed (work_up_to n placement)
  pub margins : priced.listed ≡ Ok n → (n ≤ most_groups) × (take n list ≡ margins_from placement 1 n)

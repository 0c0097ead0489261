-- The worksheet of a spread of a checked placement, in lists that have room for every one.
use Rattle.std.specs.Prelude.{Result, Ok, Err}
use mathlib.Core.Path.{◌≡◌, sym}
use mathlib.Core.List.{List}
use Prim.Native.Nat.{ℕ, ◌≤◌}
use native.Mathlib.Omega.{arith}
use lib.ListN.{length, take, length-map}
use borrow.Author.Tests.{le-leb}
use Rattle.records.specs.declared.refusals.Refusal.{Refusal}
use Rattle.records.specs.Order.{first_of}
use Rattle.records.specs.Written.{left_after}
use Rattle.records.specs.Tables.{table_checks, legs_of}
use Rattle.records.specs.declared.tables.Kind.TheVariants.{Placement}
use Rattle.records.proofs.PassLaws.{clear, unclear, pass_left}
use Rattle.records.proofs.PutLaws.{put_holds, put_front}
use Rattle.spreads.specs.Calls.{group_checks, strikes_listed, worksheet_call, has_listed}
use Rattle.records.specs.declared.legs.Leg.{Leg}
use Rattle.spreads.specs.Prices.{net}
use Rattle.spreads.specs.Spreads.{group_in, group_rule}
use Rattle.spreads.specs.Strikes.{strikes_of, nets_of}
use Rattle.spreads.proofs.Laws.{list_in, group_few, strikes_count}
use Rattle.verdicts.specs.Steps.Groups.{GroupPasses}

module _ (xs : List ℕ) (g : ℕ) (a : GroupPasses xs g) where
  answered_checked : first_of (table_checks Placement xs) ≡ Ok tt
  unfolding group_checks
  answered_checked =
      unclear (table_checks Placement xs) (pass_left (table_checks Placement xs) (group_rule g (legs_of xs)) (clear _ a))

  pub strikes_few : length (strikes_of (group_in xs g)) ≤ 256
  strikes_few = omega (arith, strikes_count (group_in xs g), group_few xs answered_checked g)

  worksheet_is : worksheet_call xs g 256 256 ≡ Ok (length (strikes_of (group_in xs g)))
  unfolding strikes_listed
  worksheet_is = sym (list_in (group_checks xs g) _ _ a (rw (le-leb _ 256 strikes_few)))

  module _ {r : Result ℕ Refusal} (e : r ≡ worksheet_call xs g 256 256) where
    pub entries_are : {n : ℕ} → r ≡ Ok n → n ≡ length (strikes_of (group_in xs g))
    entries_are q = cc worksheet_is

    pub never_refused : {f : Refusal} → r ≡ Err f → ⊥
    never_refused q = let z : ◌≡◌ {A = ℕ} 0 1 = cc worksheet_is in omega arith

pub length_nets : (legs : List Leg) → length (nets_of legs) ≡ length (strikes_of legs)
unfolding nets_of
length_nets legs = length-map (strikes_of legs) (net legs)

-- the first n entries of a lent slice, where n were listed
pub listed_front : {A : Type 0} (s d l : List A) (r : Result ℕ Refusal) (n : ℕ) → l ≡ left_after (has_listed r) s d → r ≡ Ok n → n ≡ length s → (n ≤ length l) × (take n l ≡ s)
listed_front s d l r n e q k = rw (e, q, k) (put_holds d s, put_front d s)

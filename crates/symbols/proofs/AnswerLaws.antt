-- What an answer says of the checks behind it, and what is left in the lent slice.
use Rattle.std.specs.Prelude.{Result, Ok, Err}
use Prim.Native.Nat.{ℕ, ◌*◌, ◌≤◌}
use mathlib.Core.Path.{◌≡◌, refl, sym, ◌∙◌}
use mathlib.Core.Bool.{Bool, true, false, cond}
use mathlib.Core.List.{List, [], ◌∷◌, ◌++◌, flatten}
use native.Mathlib.Omega.{arith}
use lib.Dec.{leb}
use lib.ListN.{length, length-append}
use borrow.Author.Tests.{le-leb, leb-true}
use Rattle.records.specs.Legs.{leg_bytes}
use Rattle.records.specs.Order.{Check, ask, refuse, first_of}
use Rattle.records.specs.declared.refusals.Refusal.{Refusal}
use Rattle.records.proofs.LegLaws.{length_leg_bytes}
use Rattle.records.proofs.OrderLaws.{first_stop}
use Rattle.records.specs.Written.{left_after}
use Rattle.symbols.specs.Steps.Taken.{given}
use Rattle.symbols.specs.Calls.{leg_of_line, records_for, record_room, import_answer, export_answer, has_imported}

module _ {A : Type 0} where
  pub given_refused : (f : Result Unit Refusal) (x : A) (r : Refusal) → given f x ≡ Err r → f ≡ Err r
  given_refused (Ok tt) x r e = let z : ◌≡◌ {A = ℕ} 0 1 = cc in absurd (omega arith)
  given_refused (Err s) x r e = cc

  pub given_all : (f : Result Unit Refusal) (x y : A) → given f x ≡ Ok y → (f ≡ Ok tt) × (y ≡ x)
  given_all (Ok tt) x y e = (refl, cc)
  given_all (Err s) x y e = let z : ◌≡◌ {A = ℕ} 0 1 = cc in absurd (omega arith)

pub imported : (f : Result Unit Refusal) (n : ℕ) → import_answer f n ≡ given f n
imported (Ok tt) n = refl
imported (Err r) n = refl

pub exported : (f : Result Unit Refusal) (n : ℕ) → export_answer f n ≡ given f n
exported (Ok tt) n = refl
exported (Err r) n = refl

-- the first check that fails answers for those behind it too
pub imported_stop : (a b : List Check) (n m : ℕ) (r : Refusal) → import_answer (first_of a) n ≡ Err r → Err r ≡ import_answer (first_of (a ++ b)) m
imported_stop a b n m r e = rw (first_stop a b r (given_refused (first_of a) n r (sym (imported (first_of a) n) ∙ e)))

pub exported_stop : (a b : List Check) (n m : ℕ) (r : Refusal) → export_answer (first_of a) n ≡ Err r → Err r ≡ export_answer (first_of (a ++ b)) m
exported_stop a b n m r e = rw (first_stop a b r (given_refused (first_of a) n r (sym (exported (first_of a) n) ∙ e)))

pub imported_records : (f : Result Unit Refusal) (n k : ℕ) → Ok k ≡ import_answer f n → (f ≡ Ok tt) × (k ≡ n)
imported_records f n k e = given_all f n k (sym (e ∙ imported f n))

pub exported_bytes : (f : Result Unit Refusal) (n k : ℕ) → Ok k ≡ export_answer f n → (f ≡ Ok tt) × (k ≡ n)
exported_bytes f n k e = given_all f n k (sym (e ∙ exported f n))

pub records_length : (roots lines : List (List ℕ)) → length (records_for roots lines) ≡ 32 * length lines
unfolding records_for flatten
records_length roots [] = omega arith
records_length roots (xs ∷ lines) =
    rw (length-append (leg_bytes (leg_of_line roots xs)) (records_for roots lines), length_leg_bytes (leg_of_line roots xs), records_length roots lines) (omega arith)

-- only where there are at most 256 lines are records left at all
pub leaves_same : (n room : ℕ) (x y d : List ℕ) → (n ≤ 256 → x ≡ y)
    → left_after (has_imported (import_answer (first_of (record_room n room)) n)) x d ≡ left_after (has_imported (import_answer (first_of (record_room n room)) n)) y d
unfolding record_room first_of
leaves_same n room x y d h = go (leb n 256) refl (leb (32 * n) room)
  where
    go : (a : Bool) → leb n 256 ≡ a → (b : Bool)
        → left_after (has_imported (import_answer (cond a (cond b (Ok tt) (Err (refuse 17 1 (32 * n)))) (Err (refuse 1 0 0))) n)) x d
        ≡ left_after (has_imported (import_answer (cond a (cond b (Ok tt) (Err (refuse 17 1 (32 * n)))) (Err (refuse 1 0 0))) n)) y d
    go true e true = rw (h (leb-true n 256 e))
    go true e false = refl
    go false e b = refl

-- of at most 256 lines only the room is asked
pub room_asked : (n room : ℕ) (f : Result Unit Refusal) → n ≤ 256 → f ≡ first_of (ask (leb (32 * n) room) 17 1 (32 * n) ∷ []) → first_of (record_room n room) ≡ f
unfolding record_room first_of
room_asked n room f h e = rw (le-leb n 256 h) (sym e)

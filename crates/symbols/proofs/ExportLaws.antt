-- Records taken one by one: what is answered so far, what is left to be answered, and the lines that stand.
use Rattle.std.specs.Prelude.{Option, Some, None, Result, Ok, Err}
use Rattle.std.specs.List.{find}
use Prim.Native.Nat.{ℕ, ◌+◌, ◌*◌, ◌≤◌, ◌<◌}
use mathlib.Core.Path.{◌≡◌, refl, sym, ◌∙◌}
use mathlib.Core.Bool.{Bool, true, false, not, ◌&&◌}
use mathlib.Core.List.{List, [], ◌∷◌, ◌++◌, flatten}
use native.Mathlib.Numerals.{add-one}
use native.Mathlib.Omega.{arith}
use lib.Dec.{eqb}
use lib.ListN.{length, get_or, drop, length-append, drop_of_length-le}
use lib.Seq.{drop-cons, length-take-le}
use borrow.Author.Tests.{ltb-true}
use Rattle.records.specs.Legs.{leg_of}
use Rattle.records.specs.Order.{refuse, first_of}
use Rattle.records.specs.Tables.{good_record, good_unpaid}
use Rattle.records.specs.declared.legs.Leg.{Leg}
use Rattle.records.specs.declared.refusals.Refusal.{Refusal}
use Rattle.records.specs.declared.tables.Kind.TheVariants.{Holdings}
use Rattle.records.specs.Written.{put_at}
use Rattle.records.proofs.OrderLaws.{first_then, first_stop}
use Rattle.records.proofs.PassLaws.{clear}
use Rattle.records.proofs.PutLaws.{put_none, put_put}
use Rattle.symbols.specs.Calls.{place_of_record, known_terms, line_of_record, record_checks, lines_for, export_answer}
use Rattle.symbols.specs.Roots.{name_of, terms_of, same_terms, place_of_terms, leg_terms}
use Rattle.symbols.specs.Lines.{line_text}
use Rattle.symbols.specs.Steps.Taken.{given}
use Rattle.symbols.proofs.AnswerLaws.{given_refused, given_all}
use Rattle.symbols.proofs.ClearLaws.{records_taken}
use Rattle.symbols.proofs.LineLaws.{line_short}
use Rattle.symbols.proofs.RootLaws.{find_some, find_none}

-- ---- one record

module _ (roots : List (List ℕ)) (i : ℕ) (xs : List ℕ) where
  -- what is asked of it
  abbrev asked : Result Unit Refusal
  asked = first_of (record_checks roots i (xs ∷ []))

  pub record_bad : good_unpaid xs ≡ false → asked ≡ Err (refuse 4 1 i)
  unfolding record_checks first_of
  record_bad e = rw e

  pub record_unknown : good_unpaid xs ≡ true → known_terms roots xs ≡ false → asked ≡ Err (refuse 24 1 i)
  unfolding record_checks first_of
  record_unknown e f = rw (e, f)

  pub record_fine : good_unpaid xs ≡ true → known_terms roots xs ≡ true → asked ≡ Ok tt
  unfolding record_checks first_of
  record_fine e f = rw (e, f)

  pub record_known : asked ≡ Ok tt → known_terms roots xs ≡ true
  record_known e = (records_taken roots i (xs ∷ []) (clear (record_checks roots i (xs ∷ [])) e)).0.known

  pub record_apart : (rs : List (List ℕ)) → record_checks roots i (xs ∷ rs) ≡ record_checks roots i (xs ∷ []) ++ record_checks roots (i + 1) rs
  unfolding record_checks
  record_apart rs = refl

pub unpaid_is : (xs : List ℕ) (l : Leg) (g b : Bool) → l ≡ leg_of xs → g ≡ good_record Holdings xs → (g && not (eqb l.paid 1)) ≡ b → good_unpaid xs ≡ b
unfolding good_unpaid
unpaid_is xs l g b e f h = rw (← f, ← e) h

-- the entry that is found is that of the record's terms
module _ (roots : List (List ℕ)) (xs : List ℕ) where
  abbrev entry : Option (List ℕ)
  entry = find (λ e. same_terms (terms_of e) (leg_terms (leg_of xs))) roots

  pub terms_known : (e : List ℕ) → entry ≡ Some e → (known_terms roots xs ≡ true) × (line_of_record roots xs ≡ line_text (name_of e) (leg_of xs))
  unfolding known_terms line_of_record place_of_record place_of_terms
  terms_known e h =
      let f = find_some (λ e. same_terms (terms_of e) (leg_terms (leg_of xs))) roots e h in
      (f.0, rw f.1)

  pub terms_unknown : entry ≡ None → known_terms roots xs ≡ false
  unfolding known_terms place_of_record place_of_terms
  terms_unknown h = find_none (λ e. same_terms (terms_of e) (leg_terms (leg_of xs))) roots h

-- the line of a record that is taken has at most 31 bytes
pub record_short : (roots : List (List ℕ)) → ((i : ℕ) → i < length roots → length (get_or roots i []) ≡ 16) → (xs : List ℕ) → known_terms roots xs ≡ true
    → length (line_of_record roots xs) ≤ 31
unfolding known_terms line_of_record
record_short roots s xs k =
    let place = place_of_record roots xs in
    let n = s place (ltb-true place (length roots) k) in
    line_short (name_of (get_or roots place [])) (leg_of xs) (length-take-le 6 (get_or roots place []) (omega arith))

-- ---- the records from record i on

pub record TakingRecords (roots rs : List (List ℕ)) (text₀ text : List ℕ) (at i : ℕ) : Type 0 where
  pub small : at ≤ 31 * i
  pub room : 7936 ≤ length text
  pub bytes : length (lines_for roots rs) ≡ at + length (lines_for roots (drop i rs))
  pub faults : first_of (record_checks roots 0 rs) ≡ first_of (record_checks roots i (drop i rs))
  pub stand : put_at text at (lines_for roots (drop i rs)) ≡ put_at text₀ 0 (lines_for roots rs)

module _ (roots rs : List (List ℕ)) (text₀ : List ℕ) where
  pub taking_none : 7936 ≤ length text₀ → TakingRecords roots rs text₀ text₀ 0 0
  taking_none h = record { small = omega arith; room = h; bytes = omega arith; faults = refl; stand = refl }

  module _ (text : List ℕ) (at i : ℕ) (t : TakingRecords roots rs text₀ text at i) where
    module _ (k : i < length rs) (next : ℕ) where
      abbrev this : List ℕ
      this = get_or rs i []

      rest : drop i rs ≡ this ∷ drop (i + 1) rs
      rest = rw (add-one i) (drop-cons rs i [] k)

      pub taking_stop : (e : Refusal) → given (first_of (record_checks roots i (this ∷ []))) next ≡ Err e → (bytes : ℕ)
          → Err e ≡ export_answer (first_of (record_checks roots 0 rs)) bytes
      taking_stop e q bytes =
          rw (t.faults, rest, record_apart roots i this (drop (i + 1) rs), first_stop _ (record_checks roots (i + 1) (drop (i + 1) rs)) e (given_refused _ next e q))

      pub taking_more : (to : ℕ) → given (first_of (record_checks roots i (this ∷ []))) next ≡ Ok to → next ≡ at + length (line_of_record roots this)
          → ((j : ℕ) → j < length roots → length (get_or roots j []) ≡ 16) → (text' : List ℕ) → length text' ≡ length text → at ≤ length text → text' ≡ put_at text at (line_of_record roots this)
          → TakingRecords roots rs text₀ text' to (i + 1)
      unfolding lines_for flatten
      taking_more to q e s text' v w p =
          let room = t.room in
          let g = given_all _ next to q in
          let end : to ≡ at + length (line_of_record roots this) = g.1 ∙ e in
          record {
            small = omega (arith, t.small, record_short roots s this (record_known roots i this g.0));
            room = omega arith;
            bytes = t.bytes ∙ rw (rest, length-append (line_of_record roots this) (lines_for roots (drop (i + 1) rs))) (omega arith);
            faults = t.faults ∙ rw (rest, record_apart roots i this (drop (i + 1) rs)) (first_then _ (record_checks roots (i + 1) (drop (i + 1) rs)) g.0);
            stand = rw p (put_put text (line_of_record roots this) (lines_for roots (drop (i + 1) rs)) at to w end ∙ rw rest at t.stand);
          }

    module _ (k : length rs ≤ i) where
      none : drop i rs ≡ []
      none = drop_of_length-le rs k

      pub taken_bytes : at ≡ length (lines_for roots rs)
      unfolding lines_for flatten
      taken_bytes = sym (t.bytes ∙ rw none (omega arith))

      pub taking_over : Ok at ≡ export_answer (first_of (record_checks roots 0 rs)) (length (lines_for roots rs))
      unfolding record_checks first_of
      taking_over = rw (t.faults, none, ← taken_bytes)

      pub taking_text : text ≡ put_at text₀ 0 (lines_for roots rs)
      unfolding lines_for flatten
      taking_text = put_none text at [] ∙ rw none at t.stand

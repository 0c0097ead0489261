-- Lines taken one by one: what is answered so far, what is left to be answered, and the records that stand.
use Rattle.std.specs.Prelude.{Option, Some, None, Result, Ok, Err}
use Rattle.std.specs.List.{find}
use Prim.Native.Nat.{ℕ, ◌+◌, ◌*◌, ◌≤◌, ◌<◌}
use mathlib.Core.Path.{◌≡◌, refl, sym, ◌∙◌}
use mathlib.Core.Bool.{true, false}
use mathlib.Core.List.{List, [], ◌∷◌, ◌++◌, flatten}
use native.Mathlib.Omega.{arith}
use lib.ListN.{length}
use Rattle.records.specs.Legs.{leg_bytes}
use Rattle.records.specs.Lists.{same}
use Rattle.records.specs.Order.{refuse, first_of}
use Rattle.records.specs.Written.{put_at}
use Rattle.records.specs.declared.legs.Leg.{Leg}
use Rattle.records.specs.declared.refusals.Refusal.{Refusal}
use Rattle.records.proofs.LegLaws.{length_leg_bytes}
use Rattle.records.proofs.OrderLaws.{first_then, first_stop}
use Rattle.records.proofs.PutLaws.{put_none, put_put}
use Rattle.symbols.specs.Roots.{name_of, terms_of, place_of_name}
use Rattle.symbols.specs.Lines.{lines_of, root_in, well_formed, line_says, line_in_range, line_leg}
use Rattle.symbols.specs.Calls.{place_of_line, known_root, leg_of_line, line_checks, records_for, import_answer}
use Rattle.symbols.specs.Steps.Taken.{given}
use Rattle.symbols.proofs.AnswerLaws.{given_refused, given_all}
use Rattle.symbols.proofs.RootLaws.{find_some, find_none}
use Rattle.symbols.proofs.SplitLaws.{lines_none}

-- ---- one line

module _ (roots : List (List ℕ)) (i : ℕ) (xs : List ℕ) where
  -- what is asked of it
  abbrev asked : Result Unit Refusal
  asked = first_of (line_checks roots i (xs ∷ []))

  pub line_malformed : well_formed xs ≡ false → asked ≡ Err (refuse 22 6 i)
  unfolding line_checks first_of
  line_malformed e = rw e

  pub line_past_range : well_formed xs ≡ true → line_in_range (line_says xs) ≡ false → asked ≡ Err (refuse 4 6 i)
  unfolding line_checks first_of
  line_past_range e f = rw (e, f)

  module _ (e : well_formed xs ≡ true) (f : line_in_range (line_says xs) ≡ true) where
    pub line_unknown : known_root roots xs ≡ false → asked ≡ Err (refuse 24 6 i)
    unfolding line_checks first_of
    line_unknown g = rw (e, f, g)

    pub line_good : known_root roots xs ≡ true → asked ≡ Ok tt
    unfolding line_checks first_of
    line_good g = rw (e, f, g)

  pub line_apart : (ls : List (List ℕ)) → line_checks roots i (xs ∷ ls) ≡ line_checks roots i (xs ∷ []) ++ line_checks roots (i + 1) ls
  unfolding line_checks
  line_apart ls = refl

-- the entry that is found is that of the line's root
module _ (roots : List (List ℕ)) (xs : List ℕ) where
  abbrev entry : Option (List ℕ)
  entry = find (λ e. same (name_of e) (root_in xs)) roots

  pub root_known : (e : List ℕ) → entry ≡ Some e → (known_root roots xs ≡ true) × (leg_of_line roots xs ≡ line_leg (terms_of e) (line_says xs))
  unfolding known_root leg_of_line place_of_line place_of_name
  root_known e h =
      let f = find_some (λ e. same (name_of e) (root_in xs)) roots e h in
      (f.0, rw f.1)

  pub root_unknown : entry ≡ None → known_root roots xs ≡ false
  unfolding known_root place_of_line place_of_name
  root_unknown h = find_none (λ e. same (name_of e) (root_in xs)) roots h

-- ---- the lines of what is left of a list, after n lines

pub record TakingLines (roots : List (List ℕ)) (list rows₀ rows rest : List ℕ) (n : ℕ) : Type 0 where
  pub few : n + length rest ≤ length list
  pub room : 8192 ≤ length rows
  pub count : length (lines_of list) ≡ n + length (lines_of rest)
  pub faults : first_of (line_checks roots 0 (lines_of list)) ≡ first_of (line_checks roots n (lines_of rest))
  pub stand : n ≤ 256 → put_at rows (32 * n) (records_for roots (lines_of rest)) ≡ put_at rows₀ 0 (records_for roots (lines_of list))

module _ (roots : List (List ℕ)) (list rows₀ : List ℕ) where
  pub taking_none : (rest : List ℕ) → rest ≡ list → 8192 ≤ length rows₀ → TakingLines roots list rows₀ rows₀ rest 0
  taking_none rest e h = rw e (record { few = omega arith; room = h; count = omega arith; faults = refl; stand = λ k. refl })

  module _ (rows rest : List ℕ) (n : ℕ) (t : TakingLines roots list rows₀ rows rest n) where
    module _ (line rest' : List ℕ) (h : lines_of rest ≡ line ∷ lines_of rest') where
      -- what is answered of that line
      abbrev taken : Result Leg Refusal
      taken = given (first_of (line_checks roots n (line ∷ []))) (leg_of_line roots line)

      pub taking_stop : (e : Refusal) → taken ≡ Err e → (lines : ℕ) → Err e ≡ import_answer (first_of (line_checks roots 0 (lines_of list))) lines
      taking_stop e q lines =
          rw (t.faults, h, line_apart roots n line (lines_of rest'), first_stop _ (line_checks roots (n + 1) (lines_of rest')) e (given_refused _ (leg_of_line roots line) e q))

      pub taking_more : (l : Leg) → taken ≡ Ok l → n + 1 + length rest' ≤ length list → (rows' : List ℕ) → length rows' ≡ length rows
          → (n < 256 → rows' ≡ put_at rows (32 * n) (leg_bytes l)) → TakingLines roots list rows₀ rows' rest' (n + 1)
      unfolding records_for flatten
      taking_more l q w rows' r f =
          let g = given_all _ (leg_of_line roots line) l q in
          let room = t.room in
          record {
            few = w;
            room = omega arith;
            count = t.count ∙ rw h (omega arith);
            faults = t.faults ∙ rw (h, line_apart roots n line (lines_of rest')) (first_then _ (line_checks roots (n + 1) (lines_of rest')) g.0);
            stand = λ k.
                let at32 : 32 * (n + 1) ≡ 32 * n + length (leg_bytes (leg_of_line roots line)) = rw (length_leg_bytes (leg_of_line roots line)) (omega arith) in
                rw (f (omega arith), g.1)
                (put_put rows (leg_bytes (leg_of_line roots line)) (records_for roots (lines_of rest')) (32 * n) (32 * (n + 1)) (omega arith) at32
                ∙ rw h at (t.stand (omega arith)));
          }

    module _ (h : rest ≡ []) where
      none : lines_of rest ≡ []
      none = rw h lines_none

      pub taken_count : n ≡ length (lines_of list)
      taken_count = sym (t.count ∙ rw none (omega arith))

      pub taking_over : Ok n ≡ import_answer (first_of (line_checks roots 0 (lines_of list))) (length (lines_of list))
      unfolding line_checks first_of
      taking_over = rw (t.faults, none, ← taken_count)

      pub taking_rows : length (lines_of list) ≤ 256 → rows ≡ put_at rows₀ 0 (records_for roots (lines_of list))
      unfolding records_for flatten
      taking_rows k = put_none rows (32 * n) [] ∙ rw none at (t.stand (omega (arith, taken_count)))

-- 'Point at the leg': the record that a refusal points at, and how it is found by a leg's index in its group.
use Prim.Native.Nat.{ℕ, ◌+◌, ◌<◌}
use mathlib.Core.Path.{◌≡◌, refl, sym, ap, ◌∙◌}
use mathlib.Core.Bool.{Bool, true, false, not, cond}
use mathlib.Core.List.{List, [], ◌∷◌, ◌++◌, append-nil}
use native.Mathlib.Decide.{dec_lt, ℕ_discrete}
use native.Mathlib.Numerals.{add-one}
use native.Mathlib.Omega.{arith}
use lib.Dec.{eqb}
use lib.ListN.{length, take, drop, get_or, take-append-drop, length-append}
use lib.Seq.{take-append_seam, take-length}
use borrow.Author.Tests.{eqb-true}
use Rattle.records.specs.Lists.{keep}
use Rattle.records.specs.declared.legs.Leg.{Leg}
use Rattle.records.proofs.ListLaws.{keep_append}
use Rattle.spreads.specs.Spreads.{group_of, legs_up_to, first_broken}
use Rattle.records.specs.Search.{lowest_from}
use Rattle.spreads.specs.Steps.Members.{places_from}
use Rattle.spreads.specs.Steps.Pointing.{broken_at}
use Rattle.spreads.specs.Demands.{group_at, Points, PointsOnce}
use Rattle.records.proofs.Cuts.{cut, cut_at, cut_past, cut_none, cut_map}
use Rattle.records.proofs.LowestLaws.{kept_to_lem, kept_short, kept_no_more}

-- ---- one record more

module _ (g : ℕ) where
  pub group_in_lem : (legs : List Leg) (l : Leg) → eqb l.group g ≡ true → group_of g (legs ++ l ∷ []) ≡ group_of g legs ++ l ∷ []
  unfolding group_of keep
  group_in_lem legs l h = keep_append (λ k. eqb k.group g) legs (l ∷ []) ∙ rw h

  group_out : (legs : List Leg) (l : Leg) → eqb l.group g ≡ false → group_of g (legs ++ l ∷ []) ≡ group_of g legs
  unfolding group_of keep
  group_out legs l h = keep_append (λ k. eqb k.group g) legs (l ∷ []) ∙ rw (h, append-nil)

  -- the legs among the first records are the first legs
  first_legs : (placement : List Leg) (i : ℕ) → take (length (group_of g (take i placement))) (group_of g placement) ≡ group_of g (take i placement)
  unfolding group_of
  first_legs placement i =
      let e : group_of g placement ≡ group_of g (take i placement) ++ group_of g (drop i placement) =
      ap (group_of g) (sym (take-append-drop i placement)) ∙ keep_append (λ k. eqb k.group g) (take i placement) (drop i placement) in
      ap (take (length (group_of g (take i placement)))) e ∙ take-append_seam (group_of g (take i placement)) (group_of g (drop i placement))

-- ---- by the index of the leg in its group

module _ (kept : List Leg → Bool) (g : ℕ) (placement : List Leg) where
  -- with record i, or with leg k, the condition is broken
  abbrev by_record : ℕ → Bool
  by_record i = not (kept (legs_up_to g placement i))

  abbrev by_leg : ℕ → Bool
  by_leg k = not (kept (take (k + 1) (group_of g placement)))

  abbrev places : List ℕ
  places = places_from g 0 placement

  -- from record i on, with k legs before it
  abbrev Alike : ℕ → ℕ → List Leg → Type 0
  Alike i k rest = lowest_from by_record i (length rest) ≡ get_or places (lowest_from by_leg k (length (group_of g rest))) (length placement)

  module _ (i k : ℕ) (l : Leg) (ls : List Leg) (e : drop i placement ≡ l ∷ ls) (q : k ≡ length (group_of g (take i placement))) where
    upto_in : eqb l.group g ≡ true → group_of g (take (i + 1) placement) ≡ group_of g (take i placement) ++ l ∷ []
    upto_in h = rw (add-one, (cut i placement l ls e).0) (group_in_lem g (take i placement) l h)

    upto_out : eqb l.group g ≡ false → group_of g (take (i + 1) placement) ≡ group_of g (take i placement)
    upto_out h = rw (add-one, (cut i placement l ls e).0) (group_out g (take i placement) l h)

    length_in : eqb l.group g ≡ true → k + 1 ≡ length (group_of g (take (i + 1) placement))
    length_in h = rw (upto_in h, length-append, ← q)

    legs_in : eqb l.group g ≡ true → take (k + 1) (group_of g placement) ≡ group_of g (take (i + 1) placement)
    legs_in h = rw (length_in h) (first_legs g placement (i + 1))

    step_in : eqb l.group g ≡ true → drop k places ≡ i ∷ places_from g (i + 1) ls
        → (kept (group_of g (take (i + 1) placement)) ≡ true → Alike (i + 1) (k + 1) ls) → Alike i k (l ∷ ls)
    unfolding lowest_from legs_up_to group_of keep
    step_in h d f = rw (h, legs_in h) (go (kept (group_of g (take (i + 1) placement))) refl)
      where
        go : (t : Bool) → kept (group_of g (take (i + 1) placement)) ≡ t
            → cond (not t) i (lowest_from by_record (i + 1) (length ls))
            ≡ get_or places (cond (not t) k (lowest_from by_leg (k + 1) (length (group_of g ls)))) (length placement)
        go true a = f a
        go false a = sym (cut_at k places i (places_from g (i + 1) ls) (length placement) d)

    step_out : eqb l.group g ≡ false → kept (group_of g (take i placement)) ≡ true → Alike (i + 1) k ls → Alike i k (l ∷ ls)
    unfolding lowest_from legs_up_to group_of keep
    step_out h s f = rw (h, upto_out h, s) f

    step : (t : Bool) → eqb l.group g ≡ t → drop k places ≡ places_from g i (l ∷ ls) → kept (group_of g (take i placement)) ≡ true
        → (eqb l.group g ≡ true → drop k places ≡ i ∷ places_from g (i + 1) ls → kept (group_of g (take (i + 1) placement)) ≡ true → Alike (i + 1) (k + 1) ls)
        → (eqb l.group g ≡ false → drop k places ≡ places_from g (i + 1) ls → Alike (i + 1) k ls) → Alike i k (l ∷ ls)
    unfolding places_from
    step true h d s f b = let p : drop k places ≡ i ∷ places_from g (i + 1) ls = rw h at d in step_in h p (f h p)
    step false h d s f b = let p : drop k places ≡ places_from g (i + 1) ls = rw h at d in step_out h s (b h p)

  along : (rest : List Leg) (i k : ℕ) → drop i placement ≡ rest → i + length rest ≡ length placement → k ≡ length (group_of g (take i placement))
      → kept (group_of g (take i placement)) ≡ true → drop k places ≡ places_from g i rest → Alike i k rest
  unfolding lowest_from group_of keep places_from
  along [] i k e n q s d = let z : i ≡ length placement = omega arith in z ∙ sym (cut_past k places (length placement) d)
  along (l ∷ ls) i k e n q s d =
      let rest : drop (i + 1) placement ≡ ls = rw add-one (cut i placement l ls e).1 in
      let many : i + 1 + length ls ≡ length placement = omega arith in
      step i k l ls e q (eqb l.group g) refl d s
      (λ h p a. along ls (i + 1) (k + 1) rest many (length_in i k l ls e q h) a (rw add-one (cut k places i (places_from g (i + 1) ls) p).1))
      (λ h p. let o = upto_out i k l ls e q h in along ls (i + 1) k rest many (rw o q) (rw o s) p)

  -- the place that is pointed at is that of the first leg with which the group's legs break the condition
  pub broken_place : kept [] ≡ true → first_broken kept g placement ≡ get_or (places_from g 0 placement) (broken_at kept (group_of g placement)) (length placement)
  unfolding first_broken broken_at group_of keep
  broken_place none = along placement 0 0 refl (omega arith) refl none refl

  -- ---- the sentence as facts

  module _ (none : kept [] ≡ true) (broken : kept (group_of g placement) ≡ false) where
    -- among the first i records
    abbrev kept_to : ℕ → Bool
    kept_to i = kept (group_of g (take i placement))

    begins : kept_to 0 ≡ true
    unfolding group_of keep
    begins = none

    fails : kept_to (length placement) ≡ false
    fails = rw (take-length placement) broken

    here : first_broken kept g placement < length placement
    unfolding first_broken legs_up_to
    here = kept_short kept_to (length placement) begins fails

    same_group : (i : ℕ) (rest : List Leg) → drop i placement ≡ rest → i < length placement → kept_to i ≡ true → kept_to (i + 1) ≡ false → group_at placement i ≡ g
    same_group i [] e h a b = let n = cut_none i placement e in absurd (omega arith)
    same_group i (l ∷ ls) e h a b =
        cut_map (λ k. k.group) i placement l ls 0 e ∙ go (eqb l.group g) refl
      where
        go : (t : Bool) → eqb l.group g ≡ t → l.group ≡ g
        go true q = eqb-true l.group g q
        go false q =
            let z : ◌≡◌ {A = Bool} true false = sym a ∙ ap kept (sym (upto_out i (length (group_of g (take i placement))) l ls e refl q)) ∙ b in
            let w : ◌≡◌ {A = ℕ} 0 1 = cc in
            absurd (omega arith)

    pub points : Points kept g placement (first_broken kept g placement)
    unfolding first_broken legs_up_to
    points =
        record {
          there = here;
          member =
              same_group (first_broken kept g placement) (drop (first_broken kept g placement) placement) refl here
              (kept_to_lem kept_to (length placement) begins fails (first_broken kept g placement) (omega arith))
              (kept_no_more kept_to (length placement) begins fails);
          breaks = kept_no_more kept_to (length placement) begins fails;
          before = λ i h. kept_to_lem kept_to (length placement) begins fails (i + 1) (omega arith);
        }

-- ---- no other record

-- the lower of two would break the condition, and keep it as one below the other
not_lower : (kept : List Leg → Bool) (g : ℕ) (placement : List Leg) (a b : ℕ) → Points kept g placement a → Points kept g placement b → a < b → ⊥
not_lower kept g placement a b p q h =
    let z : ◌≡◌ {A = Bool} true false = sym (q.before a h) ∙ p.breaks in
    let w : ◌≡◌ {A = ℕ} 0 1 = cc in
    omega arith

pub one_place : PointsOnce
one_place kept g placement a b p q =
    elim (ℕ_discrete a b) [
      | yes e ↦ e
      | no e ↦
          elim (dec_lt a b) [
            | yes h ↦ absurd (not_lower kept g placement a b p q h)
            | no h ↦ absurd (not_lower kept g placement b a q p (omega arith))
          ]
    ]

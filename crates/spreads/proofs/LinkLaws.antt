-- The records of a placement linked by their groups: one record more, from the last on, and a group's places along its links.
use Prim.Native.Nat.{ℕ, ◌+◌, ◌/◌, ◌≤◌, ◌<◌}
use mathlib.Core.Path.{◌≡◌, refl, sym, ◌∙◌}
use mathlib.Core.List.{List, [], ◌∷◌, ◌++◌, append_assoc, append-nil}
use native.Mathlib.Numerals.{add-one}
use native.Mathlib.Decide.{dec_le, ℕ_discrete}
use native.Mathlib.Omega.{arith}
use lib.ListN.{length, take, set, get_or, length-set, length-replicate, get_or-replicate, drop_of_length-le}
use lib.Seq.{take-suc-set, get_or-set_same, get_or-set_other}
use borrow.Author.Tests.{eq-eqb, ne_eqb, le-leb, lt-leb}
use Rattle.records.specs.Lists.{All}
use Rattle.records.specs.Legs.{leg_of}
use Rattle.records.specs.Tables.{legs_of}
use Rattle.records.specs.declared.legs.Leg.{Leg}
use Rattle.records.proofs.ListLaws.{all_at}
use Rattle.records.proofs.TableLaws.{Ranges, length_legs}
use Rattle.spreads.specs.Steps.Members.{Checked, leg_at_place, places_from, places_in, MembersOf}
use Rattle.spreads.specs.Steps.Links.{places_left, Next, no_links, Linked, first_place}
use Rattle.spreads.proofs.Bounds.{table_few, table_ranges}
use Rattle.spreads.proofs.MemberLaws.{leg_at, legs_from}

-- ---- the records from i on

module _ (xs : List ℕ) where
  from_none : (g i : ℕ) → length xs / 32 ≤ i → places_left g xs i ≡ []
  unfolding places_left places_from
  from_none g i h = rw (drop_of_length-le (legs_of xs) {i = i} (rw length_legs h))

  from_in : (g i : ℕ) → i < length xs / 32 → (leg_at_place xs i).group ≡ g → places_left g xs i ≡ i ∷ places_left g xs (i + 1)
  unfolding places_left places_from
  from_in g i h q = rw (legs_from xs i h, eq-eqb (leg_at_place xs i).group g q)

  from_out : (g i : ℕ) → i < length xs / 32 → ((leg_at_place xs i).group ≡ g → ⊥) → places_left g xs i ≡ places_left g xs (i + 1)
  unfolding places_left places_from
  from_out g i h q = rw (legs_from xs i h, ne_eqb (leg_at_place xs i).group g q)

  from_all : (g : ℕ) → places_left g xs 0 ≡ places_in xs g
  unfolding places_left
  from_all g = refl

  -- no record has a group above 32
  group_none : (g : ℕ) → 32 < g → (i : ℕ) (legs : List Leg) → All (Ranges 32) legs → places_from g i legs ≡ []
  unfolding places_from
  group_none g h i [] r = refl
  group_none g h i (l ∷ ls) r =
      let f : (l.group ≡ g → ⊥) = λ e. let no : ⊥ = omega (arith, r.0.group) in no in
      rw (ne_eqb l.group g f) (group_none g h (i + 1) ls r.1)

-- ---- from one record to the next

module _ (xs : List ℕ) (p : Checked xs) where
  pub table_records : length xs / 32 ≤ 256
  table_records = omega (arith, table_few xs p, length_legs xs)

  pub group_fits : (j : ℕ) → j < length xs / 32 → {l : Leg} → l ≡ leg_at_place xs j → l.group ≤ 32
  group_fits j h {l} e =
      let r : Ranges 32 l = rw (e, ← leg_at xs j h) (all_at (Ranges 32) (legs_of xs) j (leg_of []) (table_ranges xs p) (rw length_legs h)) in
      r.group

  -- past all records
  none_left : (g : ℕ) → Next g xs (length xs / 32) 256
  none_left g =
      record {
        past = table_records;
        few = omega arith;
        same = from_none xs g 256 table_records ∙ sym (from_none xs g (length xs / 32) (omega arith));
        here = λ h. let no : ⊥ = omega (arith, table_records) in absurd no;
      }

  pub link_none : Linked xs no_links (length xs / 32)
  link_none =
      record {
        long = length-replicate {A = ℕ} 289 256;
        nexts = λ q a b. let no : ⊥ = omega arith in absurd no;
        heads = λ g h. rw (get_or-replicate {A = ℕ} 289 (256 + g) 256 0 (omega arith)) (none_left g);
      }

  -- of every group
  first_next : {links : List ℕ} → Linked xs links 0 → (g : ℕ) → Next g xs 0 (first_place links g)
  first_next k g =
      elim (dec_le g 32) [
        | yes h ↦ rw (le-leb g 32 h) (k.heads g h)
        | no h ↦
            let high : 32 < g = omega arith in
            let none : places_left g xs 0 ≡ [] = from_all xs g ∙ group_none xs g high 0 (legs_of xs) (table_ranges xs p) in
            rw (lt-leb g 32 high)
            (record {
              past = omega arith;
              few = omega arith;
              same = from_none xs g 256 table_records ∙ sym none;
              here = λ a. let no : ⊥ = omega (arith, table_records) in absurd no;
            })
      ]

  -- record j linked before those that are
  module _ {links : List ℕ} {j : ℕ} (k : Linked xs links (j + 1)) (h : j < length xs / 32) {l : Leg} (e : l ≡ leg_at_place xs j) where
    abbrev with_link : List ℕ
    with_link = set (set links j (get_or links (256 + l.group) 0)) (256 + l.group) j

    head_here : get_or with_link (256 + l.group) 0 ≡ j
    head_here =
        get_or-set_same (set links j (get_or links (256 + l.group) 0)) (256 + l.group) j 0
        (rw length-set (omega (arith, k.long, group_fits j h e)))

    head_other : (g : ℕ) → (g ≡ l.group → ⊥) → get_or with_link (256 + g) 0 ≡ get_or links (256 + g) 0
    head_other g q =
        get_or-set_other (set links j (get_or links (256 + l.group) 0)) (256 + l.group) (256 + g) j 0 (λ a. q (omega arith))
        ∙ get_or-set_other links j (256 + g) (get_or links (256 + l.group) 0) 0 (λ a. let no : ⊥ = omega (arith, table_records) in no)

    next_here : get_or with_link j 0 ≡ get_or links (256 + l.group) 0
    next_here =
        get_or-set_other (set links j (get_or links (256 + l.group) 0)) (256 + l.group) j j 0 (λ a. let no : ⊥ = omega (arith, table_records) in no)
        ∙ get_or-set_same links j (get_or links (256 + l.group) 0) 0 (omega (arith, k.long, table_records))

    next_other : (q : ℕ) → j < q → q < length xs / 32 → get_or with_link q 0 ≡ get_or links q 0
    next_other q a b =
        get_or-set_other (set links j (get_or links (256 + l.group) 0)) (256 + l.group) q j 0 (λ c. let no : ⊥ = omega (arith, table_records) in no)
        ∙ get_or-set_other links j q (get_or links (256 + l.group) 0) 0 (λ c. let no : ⊥ = omega arith in no)

    step_heads : (g : ℕ) → g ≤ 32 → Next g xs j (get_or with_link (256 + g) 0)
    step_heads g a =
        elim (ℕ_discrete g l.group) [
          | yes q ↦
              rw (q, head_here)
              (record { past = omega arith; few = omega (arith, table_records); same = refl; here = λ b. rw e })
          | no q ↦
              let x = k.heads g a in
              rw (head_other g q)
              (record {
                past = omega (arith, x.past);
                few = x.few;
                same = x.same ∙ sym (from_out xs g j h (λ b. q (sym b ∙ rw e)));
                here = x.here;
              })
        ]

    step_nexts : (q : ℕ) → j ≤ q → q < length xs / 32 → Next (leg_at_place xs q).group xs (q + 1) (get_or with_link q 0)
    step_nexts q a b =
        elim (ℕ_discrete q j) [
          | yes c ↦ rw (c, next_here, ← e) (k.heads l.group (group_fits j h e))
          | no c ↦ let d : j < q = omega arith in rw (next_other q d b) (k.nexts q (omega arith) b)
        ]

    pub link_more : {next : List ℕ} → next ≡ with_link → Linked xs next j
    link_more q = rw q (record { long = rw (length-set, length-set) k.long; nexts = step_nexts; heads = step_heads })

-- ---- the places of a group, `count` of them along its links, the next one at `at`, in a slice that was d

pub record Finding (g : ℕ) (xs links d ms : List ℕ) (n count at : ℕ) : Type 0 where
  pub all : n ≡ length xs / 32
  pub small : n ≤ 256
  pub room : 256 ≤ length d
  pub same : length ms ≡ length d
  pub linked : Linked xs links 0
  pub few : count ≤ at
  pub many : at ≤ 256
  pub here : at < n → (leg_at_place xs at).group ≡ g
  pub is : take count ms ++ places_left g xs at ≡ places_in xs g

pub find_none : (g : ℕ) (xs links d : List ℕ) → Checked xs → Linked xs links 0 → 256 ≤ length d → {at : ℕ} → at ≡ first_place links g
    → Finding g xs links d d (length xs / 32) 0 at
find_none g xs links d p k h e =
    let x = first_next xs p k g in
    rw e
    (record {
      all = refl;
      small = table_records xs p;
      room = h;
      same = refl;
      linked = k;
      few = omega arith;
      many = x.few;
      here = x.here;
      is = x.same ∙ from_all xs g;
    })

module _ {g : ℕ} {xs links d ms : List ℕ} {n count at : ℕ} (f : Finding g xs links d ms n count at) where
  pub find_done : n ≤ at → (count ≤ 256) × MembersOf xs g (take count ms)
  find_done h =
      (omega (arith, f.few, f.many), rw (from_none xs g at (omega (arith, f.all)), append-nil) at f.is)

  module _ (h : at < n) where
    places_more : take (count + 1) (set ms count at) ≡ take count ms ++ at ∷ []
    places_more = rw add-one (take-suc-set ms count at (omega (arith, f.few, f.small, f.room, f.same)))

    pub find_past : at < get_or links at 0
    find_past = omega (arith, (f.linked.nexts at (omega arith) (omega (arith, f.all))).past)

    pub find_more : {next : List ℕ} {more then : ℕ} → next ≡ set ms count at → more ≡ count + 1 → then ≡ get_or links at 0
        → Finding g xs links d next n more then
    find_more a b c =
        let x : Next g xs (at + 1) (get_or links at 0) = rw (f.here h) at (f.linked.nexts at (omega arith) (omega (arith, f.all))) in
        rw (a, b, c)
        (record {
          all = f.all;
          small = f.small;
          room = f.room;
          same = rw length-set f.same;
          linked = f.linked;
          few = omega (arith, f.few, x.past);
          many = x.few;
          here = λ q. x.here (omega (arith, f.all));
          is = rw (places_more, append_assoc, x.same) (rw (from_in xs g at (omega (arith, f.all)) (f.here h)) at f.is);
        })

-- Rows that stand among the first records: none, one more record that is no row, one that is a new row, and a row that changes or leaves.
use Prim.Native.Nat.{ℕ, zero, suc, ◌+◌, ◌-◌, ◌≤◌, ◌<◌}
use mathlib.Core.Path.{◌≡◌, refl, sym, ap, ◌∙◌}
use mathlib.Core.Bool.{true, false, false≢true}
use mathlib.Core.List.{List, [], ◌∷◌, ◌++◌, append-nil}
use mathlib.Core.Logic.{∥∥₁_map}
use native.Mathlib.Decide.{ℕ_discrete, dec_le}
use native.Mathlib.Omega.{arith}
use lib.ListN.{length, get_or, set, replicate, length-append, length-set}
use lib.Seq.{get_or-set_same, get_or-set_other}
use borrow.Author.Tests.{ne_eqb}
use Rattle.records.specs.Legs.{with_contracts}
use Rattle.records.specs.Lines.{same_line_side}
use Rattle.records.specs.Limits.{most_legs}
use Rattle.records.specs.declared.legs.Leg.{Leg}
use Rattle.records.proofs.LineLaws.{line_sym}
use Rattle.fills.specs.Steps.Links.{bucket_of, Path, Leads}
use Rattle.fills.specs.Steps.Standing.{rows_of, rows_to, Live, Blank, Stand}
use Rattle.fills.proofs.HeldLaws.{rows_more, rows_same, length_kept, length_gone}
use Rattle.fills.proofs.LinkLaws.{bucket_small, path_small, leads_new, leads_here, rising_new, leads_less, rising_less}

-- zeros, and nothing past their end
pub blank : (n : ℕ) → Blank (replicate n 0)
blank zero j = refl
blank (suc n) zero = refl
blank (suc n) (suc j) = blank n j

pub stand_none : (leg : ℕ → Leg) (held links : List ℕ) → 1280 ≤ length held → 2304 ≤ length links → Blank held → Blank links
    → Stand leg 0 held links 0 []
unfolding rows_of
stand_none leg held links a b none free =
    record {
      held_room = a;
      links_room = b;
      few = omega arith;
      count = refl;
      are = refl;
      later = λ j h. none j;
      rising = λ l j s. absurd (omega (arith, free l));
      linked = λ j live. absurd (live (none j));
      apart = λ i j live. absurd (live (none i));
    }

-- ---- rows by what is held, and by what they are

module _ {leg : ℕ → Leg} {k : ℕ} {held links : List ℕ} {n : ℕ} {rows : List Leg} (s : Stand leg k held links n rows) where
  pub stand_self : Stand leg k held links n (rows_to leg held k)
  stand_self = rw s.are s

  -- record k is no row
  pub stand_skip : Stand leg (k + 1) held links n rows
  stand_skip =
      let none = s.later k (omega arith) in
      record {
        held_room = s.held_room;
        links_room = s.links_room;
        few = s.few;
        count = s.count;
        are = rows_more leg held k ∙ rw none (append-nil (rows_to leg held k) ∙ s.are);
        later = λ j h. s.later j (omega arith);
        rising = λ l j t. (let r = s.rising l j t in (omega (arith, r.0), r.1));
        linked = s.linked;
        apart = s.apart;
      }

  pub live_before : (j : ℕ) → Live held j → j < k
  live_before j live =
      elim (dec_le k j) [
        | yes h ↦ absurd (live (s.later j h))
        | no h ↦ omega arith
      ]

-- ---- what is held of row j is v now

module _ {leg : ℕ → Leg} {k : ℕ} {held links : List ℕ} {n : ℕ} {rows : List Leg} (s : Stand leg k held links n rows) (small : k < 1280)
    (j : ℕ) (live : Live held j) where
  there : j < k
  there = live_before s j live

  room : j < length held
  room = omega (arith, there, s.held_room)

  was_live : (v i : ℕ) → Live (set held j v) i → Live held i
  was_live v i l =
      elim (ℕ_discrete i j) [
        | yes e ↦ rw e live
        | no m ↦ (λ z. l (get_or-set_other held j i v 0 m ∙ z))
      ]

  still_none : (v i : ℕ) → k ≤ i → get_or (set held j v) i 0 ≡ 0
  still_none v i h = get_or-set_other held j i v 0 (λ e. omega (arith, there)) ∙ s.later i h

  pub stand_changed : (v : ℕ) → (v ≡ 0 → ⊥) → Stand leg k (set held j v) links n (rows_to leg (set held j v) k)
  stand_changed v some =
      record {
        held_room = simp length-set s.held_room;
        links_room = s.links_room;
        few = s.few;
        count = length_kept leg held k j there room live v some ∙ ap length s.are ∙ s.count;
        are = refl;
        later = still_none v;
        rising = s.rising;
        linked = λ i l. s.linked i (was_live v i l);
        apart = λ i m a b q. s.apart i m (was_live v i a) (was_live v m b) q;
      }

  -- it leaves, and so does its link
  module _ (at : ℕ) (t : get_or links at 0 ≡ suc j) where
    at_small : at < 1024 + j
    at_small = (s.rising at j t).1

    at_room : at < length links
    at_room = omega (arith, at_small, there, s.links_room)

    not_gone : (i : ℕ) → Live (set held j 0) i → i ≡ j → ⊥
    not_gone i l e = l (ap (λ (m : ℕ). get_or (set held j 0) m 0) e ∙ get_or-set_same held j 0 0 room)

    pub stand_gone : Stand leg k (set held j 0) (set links at (get_or links (1024 + j) 0)) (n - 1) (rows_to leg (set held j 0) k)
    stand_gone =
        record {
          held_room = simp length-set s.held_room;
          links_room = simp length-set s.links_room;
          few = omega (arith, s.few);
          count = omega (arith, length_gone leg held k j there room live, ap length s.are, s.count);
          are = refl;
          later = still_none 0;
          rising = rising_less links j at t at_small at_room k s.rising;
          linked = λ i l. ∥∥₁_map (s.linked i (was_live 0 i l)) (λ d. leads_less links j at t at_small at_room i (not_gone i l) d);
          apart = λ i m a b q. s.apart i m (was_live 0 i a) (was_live 0 m b) q;
        }

-- ---- record k is a new row, linked at the free link of its bucket

module _ {leg : ℕ → Leg} {k : ℕ} {held links : List ℕ} {n : ℕ} {rows : List Leg} (s : Stand leg k held links n rows) (small : k < 1280) (at : ℕ)
    (path : Path links (bucket_of (leg k)) at) where
  pub link_small : at < 1024 + k
  link_small = path_small k s.rising (bucket_small k (leg k)) path

  module _ (none : get_or links at 0 ≡ 0) (others : (i : ℕ) → Live held i → same_line_side (leg k) (leg i) ≡ false)
      (v : ℕ) (is : v ≡ (leg k).contracts.0) (some : v ≡ 0 → ⊥) (few : n < most_legs) where
    held_long : k < length held
    held_long = omega (arith, s.held_room)

    at_fits : at < length links
    at_fits = omega (arith, link_small, s.links_room)

    old : (i : ℕ) → (i ≡ k → ⊥) → Live (set held k v) i → Live held i
    old i m l z = l (get_or-set_other held k i v 0 m ∙ z)

    rows_new : rows_to leg (set held k v) (k + 1) ≡ rows ++ leg k ∷ []
    unfolding with_contracts
    rows_new =
        rows_more leg (set held k v) k
        ∙ rw (get_or-set_same held k v 0 held_long, ne_eqb v 0 some, rows_same leg held (set held k v) k 0 (λ i a b. get_or-set_other held k i v 0 (λ e. omega arith)), s.are, is)

    linked_new : (i : ℕ) → Live (set held k v) i → ∥ Leads (set links at (suc k)) (bucket_of (leg i)) i ∥₁
    linked_new i l =
        elim (ℕ_discrete i k) [
          | yes e ↦ ∣ rw e (leads_here links k at none at_fits path) ∣₁
          | no m ↦ ∥∥₁_map (s.linked i (old i m l)) (λ d. leads_new links k at none at_fits d)
        ]

    apart_new : (i j : ℕ) → Live (set held k v) i → Live (set held k v) j → same_line_side (leg i) (leg j) ≡ true → i ≡ j
    apart_new i j a b q =
        elim (ℕ_discrete i k) [
          | yes e ↦ elim (ℕ_discrete j k) [
            | yes f ↦ e ∙ sym f
            | no m ↦ absurd (false≢true (sym (others j (old j m b)) ∙ ap (λ (h : ℕ). same_line_side (leg h) (leg j)) (sym e) ∙ q))
          ]
          | no m ↦ elim (ℕ_discrete j k) [
            | yes f ↦ absurd (false≢true (sym (others i (old i m a)) ∙ line_sym (leg k) (leg i) ∙ ap (λ (h : ℕ). same_line_side (leg i) (leg h)) (sym f) ∙ q))
            | no w ↦ s.apart i j (old i m a) (old j w b) q
          ]
        ]

    pub stand_new : Stand leg (k + 1) (set held k v) (set links at (suc k)) (n + 1) (rows ++ leg k ∷ [])
    stand_new =
        record {
          held_room = simp length-set s.held_room;
          links_room = simp length-set s.links_room;
          few = omega arith;
          count = length-append rows (leg k ∷ []) ∙ omega (arith, s.count);
          are = rows_new;
          later = λ j h. get_or-set_other held k j v 0 (λ e. omega arith) ∙ s.later j (omega arith);
          rising = rising_new links k at none at_fits link_small s.rising;
          linked = linked_new;
          apart = apart_new;
        }

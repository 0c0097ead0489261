-- Links: where they lead to, also after a record is linked at a free one, or is left out.
use Prim.Native.Nat.{ℕ, suc, ◌+◌, ◌-◌, ◌<◌}
use mathlib.Core.Path.{◌≡◌, refl, sym, ap, ◌∙◌}
use mathlib.Core.Bool.{Bool, true, false, false≢true}
use mathlib.Core.List.{List}
use native.Mathlib.Decide.{ℕ_discrete}
use native.Mathlib.Omega.{arith}
use lib.ListN.{length, get_or, set}
use lib.Seq.{get_or-set_same, get_or-set_other}
use Rattle.records.specs.Lines.{same_line_side}
use Rattle.records.specs.declared.legs.Leg.{Leg}
use Rattle.records.proofs.LineLaws.{same?}
use Rattle.fills.specs.Steps.Links.{bucket_of, Rising, Path, Leads, Ended}
use Rattle.fills.specs.Steps.Links as links-of

-- legs of one line and side are in one bucket
pub same_bucket : (x y : Leg) → same_line_side x y ≡ true → bucket_of x ≡ bucket_of y
unfolding bucket_of
same_bucket x y e = let l = (same? x y).0 e in cc

pub bucket_small : (k : ℕ) (x : Leg) → bucket_of x < 1024 + k
unfolding bucket_of
bucket_small k x = omega arith

-- ---- one step

module _ {links : List ℕ} where
  pub path_small : {l e : ℕ} (k : ℕ) → Rising k links → l < 1024 + k → Path links l e → e < 1024 + k
  path_small k rising h (links-of.stop q) = omega arith
  path_small {l} k rising h (links-of.on j s rest) = path_small k rising (omega (arith, (rising l j s).0)) rest

  path_none : {l e : ℕ} (k : ℕ) → Path links l e → get_or links e 0 ≡ suc k → get_or links l 0 ≡ 0 → ⊥
  path_none k (links-of.stop q) s z = omega (arith, ap (λ (m : ℕ). get_or links m 0) q)
  path_none k (links-of.on j t rest) s z = omega arith

  -- a free link leads nowhere
  pub leads_none : {l : ℕ} (k : ℕ) → Leads links l k → get_or links l 0 ≡ 0 → ⊥
  leads_none k d z = path_none k d.path d.last z

  path_on : {l e : ℕ} (j k : ℕ) → get_or links l 0 ≡ suc j → (k ≡ j → ⊥) → Path links l e → get_or links e 0 ≡ suc k → Leads links (1024 + j) k
  path_on j k t n (links-of.stop q) s = absurd (n (omega (arith, ap (λ (m : ℕ). get_or links m 0) q)))
  path_on {l} {e} j k t n (links-of.on i u rest) s =
      let same : i ≡ j = omega arith in
      record { end = e; path = rw same at rest; last = s }

  -- what is led to past another record
  pub leads_on : {l : ℕ} (j k : ℕ) → get_or links l 0 ≡ suc j → (k ≡ j → ⊥) → Leads links l k → Leads links (1024 + j) k
  leads_on j k t n d = path_on j k t n d.path d.last

-- ---- record k linked at a free link

module _ (links : List ℕ) (k at : ℕ) (none : get_or links at 0 ≡ 0) (room : at < length links) where
  not_free : (l j : ℕ) → get_or links l 0 ≡ suc j → l ≡ at → ⊥
  not_free l j s e = omega (arith, ap (λ (m : ℕ). get_or links m 0) e)

  path_new : {l e : ℕ} → Path links l e → Path (set links at (suc k)) l e
  path_new (links-of.stop q) = links-of.stop q
  path_new {l} {e} (links-of.on j s rest) = links-of.on j (get_or-set_other links at l (suc k) 0 (not_free l j s) ∙ s) (path_new rest)

  pub leads_new : {l i : ℕ} → Leads links l i → Leads (set links at (suc k)) l i
  leads_new {l} {i} d =
      record {
        end = d.end;
        path = path_new d.path;
        last = get_or-set_other links at d.end (suc k) 0 (not_free d.end i d.last) ∙ d.last;
      }

  pub leads_here : {l : ℕ} → Path links l at → Leads (set links at (suc k)) l k
  leads_here p = record { end = at; path = path_new p; last = get_or-set_same links at (suc k) 0 room }

  pub rising_new : at < 1024 + k → Rising k links → Rising (k + 1) (set links at (suc k))
  rising_new small rising l j s =
      elim (ℕ_discrete l at) [
        | yes e ↦
            (let i : j ≡ k = omega (arith, ap (λ (m : ℕ). get_or (set links at (suc k)) m 0) e, get_or-set_same links at (suc k) 0 room) in
            (omega arith, omega arith))
        | no n ↦ (let r = rising l j (sym (get_or-set_other links at l (suc k) 0 n) ∙ s) in (omega (arith, r.0), r.1))
      ]

-- ---- record j left out: the link that led to it leads on to where its own does

module _ (links : List ℕ) (j at : ℕ) (s : get_or links at 0 ≡ suc j) (small : at < 1024 + j) (room : at < length links) where
  abbrev less : List ℕ
  less = set links at (get_or links (1024 + j) 0)

  same_next : get_or less at 0 ≡ get_or less (1024 + j) 0
  same_next =
      get_or-set_same links at (get_or links (1024 + j) 0) 0 room
      ∙ sym (get_or-set_other links at (1024 + j) (get_or links (1024 + j) 0) 0 (λ e. omega arith))

  over : {e : ℕ} (k : ℕ) → Path less (1024 + j) e → get_or less e 0 ≡ suc k → Leads less at k
  over k (links-of.stop q) t = record { end = at; path = links-of.stop refl; last = same_next ∙ ap (λ (m : ℕ). get_or less m 0) (sym q) ∙ t }
  over {e} k (links-of.on i u rest) t = record { end = e; path = links-of.on i (same_next ∙ u) rest; last = t }

  over_it : {l i : ℕ} (k : ℕ) → l ≡ at → i ≡ j → Leads less (1024 + i) k → Leads less l k
  over_it k w same d =
      let p : Leads less (1024 + j) k = rw same at d in
      rw w (over k p.path p.last)

  past_it : {l : ℕ} (i k : ℕ) → (l ≡ at → ⊥) → get_or links l 0 ≡ suc i → Leads less (1024 + i) k → Leads less l k
  past_it {l} i k m u d =
      record {
        end = d.end;
        path = links-of.on i (get_or-set_other links at l (get_or links (1024 + j) 0) 0 m ∙ u) d.path;
        last = d.last;
      }

  path_less : {l e : ℕ} (k : ℕ) → (k ≡ j → ⊥) → Path links l e → get_or links e 0 ≡ suc k → Leads less l k
  path_less {l} {e} k n (links-of.stop q) t =
      record {
        end = e;
        path = links-of.stop q;
        last = get_or-set_other links at e (get_or links (1024 + j) 0) 0 (λ w. n (omega (arith, ap (λ (m : ℕ). get_or links m 0) w))) ∙ t;
      }
  path_less {l} {e} k n (links-of.on i u rest) t =
      elim (ℕ_discrete l at) [
        | yes w ↦ over_it k w (omega (arith, ap (λ (m : ℕ). get_or links m 0) w)) (path_less k n rest t)
        | no m ↦ past_it i k m u (path_less k n rest t)
      ]

  pub leads_less : {l : ℕ} (k : ℕ) → (k ≡ j → ⊥) → Leads links l k → Leads less l k
  leads_less k n d = path_less k n d.path d.last

  pub rising_less : (k : ℕ) → Rising k links → Rising k less
  rising_less k rising l i t =
      elim (ℕ_discrete l at) [
        | yes w ↦
            (let r = rising (1024 + j) i (sym (get_or-set_same links at (get_or links (1024 + j) 0) 0 room) ∙ ap (λ (m : ℕ). get_or less m 0) (sym w) ∙ t) in
            (r.0, omega (arith, r.1)))
        | no m ↦ rising l i (sym (get_or-set_other links at l (get_or links (1024 + j) 0) 0 m) ∙ t)
      ]

-- ---- the search from link l, at link `here`

-- where the links lead from here they lead from l; and a row to which they lead from l has not been passed
pub record Searching (row : ℕ → Bool) (links : List ℕ) (l here : ℕ) : Type 0 where
  pub led : (e : ℕ) → Path links here e → Path links l e
  pub ahead : (i : ℕ) → Leads links l i → row i ≡ true → Leads links here i

pub searching_none : (row : ℕ → Bool) (links : List ℕ) {l here : ℕ} → here ≡ l → Searching row links l here
searching_none row links e = record { led = λ end p. rw (← e) p; ahead = λ i d t. rw e d }

module _ {row : ℕ → Bool} {links : List ℕ} {l here : ℕ} (s : Searching row links l here) where
  pub search_free : get_or links here 0 ≡ 0 → Ended row links l here
  search_free z =
      record {
        path = s.led here (links-of.stop refl);
        found = λ j t. absurd (omega (arith, z, t));
        none = λ f k d t. leads_none k (s.ahead k d t) f;
      }

  module _ (n : get_or links here 0 ≡ 0 → ⊥) where
    pub linked : get_or links here 0 ≡ suc (get_or links here 0 - 1)
    linked = omega arith

    pub search_found : row (get_or links here 0 - 1) ≡ true → Ended row links l here
    search_found r =
        record {
          path = s.led here (links-of.stop refl);
          found = λ i t. (let same : i ≡ get_or links here 0 - 1 = omega arith in ap row same ∙ r);
          none = λ f. absurd (n f);
        }

    pub search_on : row (get_or links here 0 - 1) ≡ false → Searching row links l (1024 + (get_or links here 0 - 1))
    search_on r =
        record {
          led = λ e p. s.led e (links-of.on _ linked p);
          ahead = λ k d t. leads_on _ k linked (λ q. false≢true (sym r ∙ ap row (sym q) ∙ t)) (s.ahead k d t);
        }

-- That two outcomes of a call are the same is shown part by part: of the result, and of what each lent slice holds.
use Prim.Native.Nat.{ℕ}
use mathlib.Core.Path.{◌≡◌, refl}
use mathlib.Core.List.{List, [], ◌∷◌, ◌++◌}
use contract.Lifetimes.{Lfts}
use denote.Exit.{Exit, unchanged, leaves, Last}
use denote.RattleType.{Denots}
use denote.Signature.{Slot, types_at}
use denote.Triple.End.{Kepts, Fins}
use denote.Triple.Clauses.{Ended}
use borrow.Fn.Claims.{AllOf, All-head, All-tail, all_left, All-right}
use Rattle.records.specs.OneOutcome.{Lifetimes, Arguments, Promise, Outcome, Satisfies, OneOutcome}

both_same : {A B : Type 0} (o p : A × B) → o.0 ≡ p.0 → o.1 ≡ p.1 → o ≡ p
both_same o p d e = rw d (rw e refl)

-- an argument that the call cannot change leaves nothing to show
abbrev last_same : {D : Type 0} (e : Exit D) (x : D) → Last e x → Last e x → List (Type 0)
last_same unchanged x v w = []
last_same (leaves _ _ _ _ _) x v w = (v ≡ w) ∷ []

last_same_lem : {D : Type 0} (e : Exit D) (x : D) (v w : Last e x) → AllOf (last_same e x v w) → v ≡ w
last_same_lem unchanged x v w h = refl
last_same_lem (leaves _ _ _ _ _) x v w h = h

module _ {n : ℕ} (κs : Lfts n) where
  abbrev lasts_same : (ss : List (Slot n)) (ks : Kepts ss) (a : Denots (types_at ss κs)) → Fins κs ss ks a → Fins κs ss ks a → List (Type 0)
  lasts_same [] ks a v w = []
  lasts_same (s ∷ ss) ks a v w = last_same ((s.row κs).exit ks.0) a.0 v.0 w.0 ++ lasts_same ss ks.1 a.1 v.1 w.1

  lasts_same_lem : (ss : List (Slot n)) (ks : Kepts ss) (a : Denots (types_at ss κs)) (v w : Fins κs ss ks a) → AllOf (lasts_same ss ks a v w) → v ≡ w
  lasts_same_lem [] ks a v w h = refl
  lasts_same_lem (s ∷ ss) ks a v w h =
      let e = (s.row κs).exit ks.0 in
      let first = last_same e a.0 v.0 w.0 in
      let rest = lasts_same ss ks.1 a.1 v.1 w.1 in
      both_same v w (last_same_lem e a.0 v.0 w.0 (all_left first rest h)) (lasts_same_lem ss ks.1 a.1 v.1 w.1 (All-right first rest h))

module _ (call : Ended) (κs : Lifetimes call) (a : Arguments call κs) (o p : Outcome call κs a) where
  abbrev lent_same : List (Type 0)
  lent_same = lasts_same κs call.signature.params call.kept a o.1 p.1

  -- the result is the same, and so is what each lent slice holds
  abbrev pub SameParts : Type 0
  SameParts = AllOf ((o.0 ≡ p.0) ∷ lent_same)

  same_parts : SameParts → o ≡ p
  same_parts h =
      both_same o p (All-head (o.0 ≡ p.0) lent_same h)
      (lasts_same_lem κs call.signature.params call.kept a o.1 p.1 (All-tail (o.0 ≡ p.0) lent_same h))

pub by_parts : {call : Ended} {promise : Promise call}
    → ((κs : Lifetimes call) (a : Arguments call κs) (o p : Outcome call κs a) → Satisfies call promise κs a o → Satisfies call promise κs a p → SameParts call κs a o p)
    → OneOutcome call promise
by_parts {call} h = record { same = λ κs a o p x y. same_parts call κs a o p (h κs a o p x y) }

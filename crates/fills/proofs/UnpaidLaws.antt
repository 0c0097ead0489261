-- Yesterday's holdings without their marks: the contracts of each line and side, and so the ledger, are the same.
use Prim.Native.Nat.{ℕ, ◌+◌, ◌-◌}
use mathlib.Core.Path.{◌≡◌, refl, sym, ap, ◌∙◌}
use mathlib.Core.Bool.{cond}
use mathlib.Core.List.{List, [], ◌∷◌, map}
use Rattle.records.specs.Chunks.{records_of}
use Rattle.records.specs.Legs.{leg_of, with_paid}
use Rattle.records.specs.Lines.{same_line_side, contracts_of}
use Rattle.records.specs.Lists.{All, only, sum_of}
use Rattle.records.specs.Tables.{legs_of}
use Rattle.records.specs.declared.legs.Leg.{Leg}
use Rattle.records.proofs.LineLaws.{line_paid}
use Rattle.fills.specs.Rows.{unmarked, starting_legs}
use Rattle.fills.specs.Ledger.{Ledger, empty_ledger, counts, posted, with_more, started_from}
use Rattle.fills.specs.Demands.{StartingContracts}

pub unpaid : Leg → Leg
unpaid l = with_paid l 0

-- a record read without its mark is the leg read, without its mark
each_is : (rs : List (List ℕ)) → map unmarked rs ≡ map unpaid (map leg_of rs)
unfolding unmarked unpaid
each_is [] = refl
each_is (r ∷ rs) = ap (λ (t : List Leg). unpaid (leg_of r) ∷ t) (each_is rs)

pub starting_is : (h : List ℕ) → starting_legs h ≡ map unpaid (legs_of h)
unfolding starting_legs legs_of
starting_is h = each_is (records_of h)

one_same : (l : Leg) → l.paid ≡ 0 → unpaid l ≡ l
unfolding unpaid with_paid
one_same l p = ap (with_paid l) (sym p)

pub unpaid_same : (rows : List Leg) → All (λ l. l.paid ≡ 0) rows → map unpaid rows ≡ rows
unpaid_same [] a = refl
unpaid_same (x ∷ xs) a = rw (one_same x a.0, unpaid_same xs a.1)

-- ---- contracts and ledger

contracts_unpaid : (x : Leg) (legs : List Leg) → contracts_of x (map unpaid legs) ≡ contracts_of x legs
unfolding contracts_of sum_of unpaid with_paid same_line_side
contracts_unpaid x [] = refl
contracts_unpaid x (y ∷ ys) = ap (λ (n : ℕ). only (same_line_side x y) y.contracts.0 + n) (contracts_unpaid x ys)

pub starting_contracts : StartingContracts
starting_contracts x h = ap (contracts_of x) (starting_is h) ∙ contracts_unpaid x (legs_of h)

-- a ledger that does not look at marks
abbrev Blind : Ledger → Type 0
Blind g = (x : Leg) → g.held (unpaid x) ≡ g.held x

posted_same : (x : Leg) (n : ℕ) (g : Ledger) → Blind g → posted (unpaid x) n g ≡ posted x n g
unfolding posted same_line_side unpaid with_paid
posted_same x n g b =
    let made : ℕ → Ledger = λ m. record { held = λ y. cond (same_line_side x y) n (g.held y); lines = g.lines - counts m + counts n } in
    ap made (b x)

posted_blind : (x : Leg) (n : ℕ) (g : Ledger) → Blind g → Blind (posted x n g)
unfolding posted unpaid
posted_blind x n g b y = rw (line_paid x y 0, b y)

bought_same : (x : Leg) (g : Ledger) → Blind g → with_more (unpaid x) g ≡ with_more x g
unfolding unpaid with_paid
bought_same x g b =
    posted_same x (g.held (unpaid x) + x.contracts.0) g b ∙ ap (λ (n : ℕ). posted x (n + x.contracts.0) g) (b x)

started_same : (g : Ledger) (legs : List Leg) → Blind g → started_from g (map unpaid legs) ≡ started_from g legs
unfolding started_from
started_same g [] b = refl
started_same g (x ∷ xs) b =
    ap (λ (t : Ledger). started_from t (map unpaid xs)) (bought_same x g b)
    ∙ started_same (with_more x g) xs (posted_blind x (g.held x + x.contracts.0) g b)

pub start_same : (h : List ℕ) → started_from empty_ledger (starting_legs h) ≡ started_from empty_ledger (legs_of h)
start_same h = ap (started_from empty_ledger) (starting_is h) ∙ started_same empty_ledger (legs_of h) (λ x. refl)

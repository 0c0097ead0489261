-- "Each public function's promise settles the result and the later content of every lent slice, for all inputs and refusals.
-- Show that no two different outcomes satisfy it": the statement, of any call. Of a function F, `F.ended` has its types, and
-- `F.Reads.Learnt` is what a caller learns from its contract; both are made from the source.
use Rattle.std.specs.Prelude.{◌≡◌}
use contract.Lifetimes.{Lfts}
use denote.Triple.Entry.{Args, Res}
use denote.Triple.Clauses.{Ended, Lasts, AtExit, at_exit}

module _ (call : Ended) where
  abbrev pub Lifetimes : Type 0
  Lifetimes = Lfts call.signature.lifetimes

  abbrev pub Arguments : Lifetimes → Type 0
  Arguments κs = Args call.signature κs

  -- of the arguments, the result, and the arguments as they are when the call returns
  abbrev pub Promise : Type 1
  Promise = (κs : Lifetimes) → Arguments κs → Res call.signature κs → AtExit call κs → Type 0

  -- the result, and the later content of every lent slice
  abbrev pub Outcome : (κs : Lifetimes) → Arguments κs → Type 0
  Outcome κs a = Res call.signature κs × Lasts call κs a

  abbrev pub Satisfies : Promise → (κs : Lifetimes) (a : Arguments κs) → Outcome κs a → Type 0
  Satisfies promise κs a o = promise κs a o.0 (at_exit call κs a o.1)

pub record OneOutcome (call : Ended) (promise : Promise call) : Type 0 where
  pub same : (κs : Lifetimes call) (a : Arguments call κs) (o p : Outcome call κs a)
      → Satisfies call promise κs a o → Satisfies call promise κs a p → o ≡ p

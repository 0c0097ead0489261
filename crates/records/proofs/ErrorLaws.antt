-- What `?` hands on is the refusal that it met.
use Rattle.std.specs.Prelude.{◌≡◌, Result, Ok, Err, IsErrAnd}
use Rattle.std.proofs.Common.{ap}
use Rattle.records.specs.declared.refusals.Refusal.{Refusal}

pub handed_on : {T : Type 0} (r : Result T Refusal) (e : Refusal) → IsErrAnd r (λ x. x ≡ e) → r ≡ Err e
handed_on (Err x) e q = ap Err q
handed_on (Ok x) e q = absurd q

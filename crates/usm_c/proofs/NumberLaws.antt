-- What is answered for a number that stands for a kind, a form, a side or a mark.
use Rattle.std.specs.Prelude.{◌≡◌, Option, Some, None, Result, Err, refl}
use Rattle.records.specs.declared.refusals.Refusal.{Refusal}
use Rattle.usm_c.specs.Answers.{answer_for}

module _ {A B : Type 0} (o : Option A) (f : A → Result B Refusal) (r : Refusal) where
  pub asked : (x : A) → o ≡ Some x → f x ≡ answer_for o f r
  asked x e = rw e refl

  pub unasked : (s : Refusal) → s ≡ r → o ≡ None → Err s ≡ answer_for o f r
  unasked s same e = rw (same, e) refl

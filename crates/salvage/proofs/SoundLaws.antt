-- What a block is that is kept.
use Rattle.std.specs.Prelude.{Result, Ok, Err}
use mathlib.Core.Path.{◌≡◌, refl}
use mathlib.Core.Bool.{Bool, true, false, cond, false≢true, and-eq-true_iff}
use mathlib.Core.List.{List}
use Prim.Native.Nat.{ℕ}
use native.Mathlib.Omega.{arith}
use lib.Dec.{eqb}
use borrow.Author.Tests.{eqb-true, eq-eqb}
use Rattle.records.specs.Order.{first_of}
use Rattle.records.specs.declared.refusals.Refusal.{Refusal}
use Rattle.blocks.specs.Forms.{form_number, same_form, origin}
use Rattle.blocks.specs.Block.{origin_of}
use Rattle.blocks.specs.Alone.{alone_checks, alone_answer, alone_call}
use Rattle.blocks.specs.declared.forms.Form.{Form}
use Rattle.blocks.specs.declared.forms.Form.TheVariants.{Old, New}
use Rattle.blocks.specs.declared.forms.Origin.{Origin}
use Rattle.blocks.proofs.Laws.{SoundAlone, sound_is, is_sound, refused_numbered}
use Rattle.salvage.specs.Kept.{same_origin, number_by, drop_number}

-- ---- form and account

form_same : (f g : Form) → same_form f g ≡ true → f ≡ g
form_same Old Old e = refl
form_same Old New e = absurd (false≢true e)
form_same New Old e = absurd (false≢true e)
form_same New New e = refl

origin_same : (a b : Origin) → same_origin a b ≡ true → a ≡ b
origin_same a b e =
    let p = (and-eq-true_iff (same_form a.form b.form) (eqb a.account b.account)).0 e in
    let same : origin a.form a.account ≡ b = rw (form_same a.form b.form p.0, eqb-true a.account b.account p.1) in
    same

pub same_origin_lem : (a : Origin) → same_origin a a ≡ true
same_origin_lem a = rw (eq-eqb (form_number a.form) (form_number a.form) refl, eq-eqb a.account a.account refl)

-- ---- kept

cond_zero : (t : Bool) → ◌≡◌ {A = ℕ} (cond t 0 20) 0 → t ≡ true
cond_zero true e = refl
cond_zero false e = absurd (omega arith)

refused_as : (b : List ℕ) (r : Refusal) → first_of (alone_checks b) ≡ Err r → alone_call b ≡ Err r
unfolding alone_call
refused_as b r e = rw e

-- a block that is kept is sound by itself, and of the form and account of the first
pub kept_is : (lead : Origin) (b : List ℕ) → drop_number lead b ≡ 0 → SoundAlone b × (origin_of b ≡ lead)
unfolding drop_number alone_call
kept_is lead b e = go (first_of (alone_checks b)) refl e
  where
    go : (f : Result Unit Refusal) → first_of (alone_checks b) ≡ f → number_by (alone_answer f (origin_of b)) lead ≡ 0 → SoundAlone b × (origin_of b ≡ lead)
    go (Ok _) q z = (sound_is b q, origin_same (origin_of b) lead (cond_zero (same_origin (origin_of b) lead) z))
    go (Err r) q z = absurd (omega (arith, z, refused_numbered b r (refused_as b r q)))

pub is_kept_lem : (lead : Origin) (b : List ℕ) → SoundAlone b → origin_of b ≡ lead → drop_number lead b ≡ 0
unfolding drop_number
is_kept_lem lead b s e = rw (is_sound b s, e, same_origin_lem lead)

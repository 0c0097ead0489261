-- Bytes 496 to 507: by the number that they say, and as the writer would write them.
use mathlib.Core.Path.{◌≡◌, refl, sym, ap, ◌∙◌}
use mathlib.Core.Bool.{true, ◌&&◌}
use mathlib.Core.List.{List, ◌++◌}
use Prim.Native.Nat.{ℕ}
use native.Mathlib.Omega.{arith}
use lib.Dec.{eqb}
use lib.ListN.{length, take, drop, length-take, length-drop}
use lib.Seq.{take-add, drop-drop}
use borrow.Author.Tests.{eq-eqb}
use Rattle.records.specs.Bytes.{AllBytes, le_at, le_bytes, is_zero, zero_in}
use Rattle.records.specs.Lists.{all_of, same}
use Rattle.records.proofs.ByteLaws.{zero_in_lem}
use Rattle.records.proofs.ListLaws.{all_of_append, take_part}
use Rattle.records.proofs.NumberLaws.{bytes_said}
use Rattle.records.proofs.SameLaws.{same_both}
use Rattle.blocks.specs.Forms.{kept}
use Rattle.blocks.specs.Block.{account_of, tail_fits, tail_of, zeros}
use Rattle.blocks.specs.declared.forms.Form.{Form}
use Rattle.blocks.specs.declared.forms.Form.TheVariants.{Old, New}
use Rattle.blocks.proofs.SameLaws.{zeros_of, zeros_zero}

module _ (b : List ℕ) (len : length b ≡ 512) where
  cut : take 12 (drop 496 b) ≡ take 8 (drop 496 b) ++ take 4 (drop 504 b)
  cut = take-add 8 4 (drop 496 b) ∙ ap (λ (l : List ℕ). take 8 (drop 496 b) ++ take 4 l) (drop-drop 8 496 b)

  zero_say : all_of is_zero (take 8 (drop 496 b)) ≡ eqb (le_at b 496 8) 0
  unfolding zero_in
  zero_say = zero_in_lem b 496 503 (omega arith) (omega arith)

  -- the form keeps the number that stands there, and zeros follow it
  pub tail_says : (form : Form) → (eqb (le_at b 496 8) (kept form (le_at b 496 8)) && all_of is_zero (take 4 (drop 504 b))) ≡ tail_fits form b
  unfolding tail_fits zero_in
  tail_says Old = rw (← zero_say) (sym (ap (all_of is_zero) cut ∙ all_of_append is_zero (take 8 (drop 496 b)) (take 4 (drop 504 b))))
  tail_says New = rw (eq-eqb (le_at b 496 8) (le_at b 496 8) refl)

  -- they are what the writer would write there, with the account that they say
  pub tail_written : (form : Form) → AllBytes b → tail_fits form b ≡ same (take 12 (drop 496 b)) (tail_of (account_of form b))
  unfolding tail_fits zero_in tail_of le_bytes
  tail_written Old a = sym (zeros_of 12 (take 12 (drop 496 b)) (simp (length-take, length-drop) (omega arith)))
  tail_written New a =
      let n = le_at b 496 8 in
      let z = zeros_of 4 (take 4 (drop 504 b)) (simp (length-take, length-drop) (omega arith)) in
      rw (cut, ← bytes_said b 8 496 a (omega arith)) (sym (same_both (le_bytes n 8) (take 4 (drop 504 b)) (zeros 4) ∙ z))

  -- and where they are, they fit
  pub written_fits : (form : Form) (account : ℕ) → kept form account ≡ account → take 12 (drop 496 b) ≡ tail_of account → tail_fits form b ≡ true
  unfolding tail_fits zero_in tail_of le_bytes
  written_fits Old account k e = rw (e, ← k) (zeros_zero 12)
  written_fits New account k e =
      rw (← drop-drop 8 496 b, ← take_part 8 4 12 (drop 496 b) (omega arith) (simp length-drop (omega arith)), e) (zeros_zero 4)

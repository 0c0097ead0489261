-- What a lent slice holds after a part of it was written.
use Rattle.std.specs.Prelude.{ℕ, ◌+◌, ◌≡◌, Bool, true, false, cond, List, ◌++◌, leb, length, take, drop}

module _ {A : Type 0} where
  -- d with s in the place of what stood from index `at` on; what lies past it stays
  unfoldable pub put_at : List A → ℕ → List A → List A
  put_at d at s = take at d ++ s ++ drop (at + length s) d

  -- the same where there is room for it; where there is none, d stays
  unfoldable pub put_in_room : List A → ℕ → List A → List A
  put_in_room d at s = cond (leb (at + length s) (length d)) (put_at d at s) d

  -- What a call leaves in a lent slice d: s, from index 0 on, where the call answered; on a refusal 'Nothing lent is written.'
  abbrev pub left_after : Bool → List A → List A → List A
  left_after true s d = put_at d 0 s
  left_after false s d = d

  -- s stands at the front, and 'what lies past its output in a lent slice stays'
  abbrev pub StandsFirst : List A → List A → List A → Type 0
  StandsFirst s before after = (take (length s) after ≡ s) × (drop (length s) after ≡ drop (length s) before)

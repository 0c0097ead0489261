-- What a lent slice holds after writes: a loop that writes one element at a time, and one write after another.
use mathlib.Core.Path.{◌≡◌, refl, sym, ap, ◌∙◌}
use mathlib.Core.Bool.{Bool, true, false}
use mathlib.Core.List.{List, [], ◌∷◌, ◌++◌, append_assoc, append-nil}
use Prim.Native.Nat.{ℕ, suc, ◌+◌, ◌≤◌, ◌<◌}
use native.Mathlib.Nat.{add_assoc, zero-add}
use native.Mathlib.Numerals.{add-one}
use native.Mathlib.Omega.{arith}
use lib.ListN.{length, take, drop, get_or, set, length-append, length-take, length-drop, drop_of_length-le}
use lib.Seq.{paste-zero, paste-suc, take_all, take_at, drop_at, drop-drop, drop-append-add, length-take-le, set_split}
use borrow.Author.Tests.{le-leb, lt-leb}
use borrow.Rule.Slice.PartMut.{put_mid}
use Rattle.records.specs.Written.{put_at, put_in_room, left_after, StandsFirst}

module _ {A : Type 0} where
  -- a loop that writes the elements of s one by one: where it begins, a turn, and where it ends
  pub put_none : (d : List A) (at : ℕ) (s : List A) → d ≡ put_at d at (take 0 s)
  unfolding put_at
  put_none d at s = paste-zero d at s

  pub put_more : (z : A) (d : List A) (at : ℕ) (s : List A) (i : ℕ) → at + i < length d → i < length s
      → set (put_at d at (take i s)) (at + i) (get_or s i z) ≡ put_at d at (take (i + 1) s)
  unfolding put_at
  put_more z d at s i hd hs =
      rw (add-one, length-take-le i s (omega arith), length-take-le (suc i) s (omega arith)) (paste-suc d at s i z hd hs)

  pub put_all : (d : List A) (at : ℕ) (s : List A) (i : ℕ) → length s ≤ i → put_at d at (take i s) ≡ put_at d at s
  put_all d at s i h = ap (put_at d at) (take_all i s h)

  pub length_put_at : (d : List A) (at : ℕ) (s : List A) → at + length s ≤ length d → length (put_at d at s) ≡ length d
  unfolding put_at
  length_put_at d at s h = simp (length-append, length-take, length-drop) (omega arith)

  -- what stands before it stays
  pub before_put : (d : List A) (at : ℕ) (s : List A) → at ≤ length d → take at (put_at d at s) ≡ take at d
  unfolding put_at
  before_put d at s h =
      rw (append_assoc (take at d) s (drop (at + length s) d)) (take_at (take at d) (s ++ drop (at + length s) d) at (length-take-le at d h))

  -- what is written after a front that is written already
  pub put_after : (p s d : List A) (at : ℕ) → length p ≡ at → put_at (p ++ drop at d) at s ≡ p ++ s ++ drop (at + length s) d
  unfolding put_at
  put_after p s d at e =
      ap (λ (l : List A). l ++ s ++ drop (at + length s) (p ++ drop at d)) (take_at p (drop at d) at e)
      ∙ ap (λ (l : List A). p ++ s ++ l)
      (ap (λ (n : ℕ). drop (n + length s) (p ++ drop at d)) (sym e) ∙ drop-append-add p (drop at d) (length s) ∙ drop-drop (length s) at d)

  -- the next part, lent and filled, after what is written from index `at` on
  pub put_next : (d p s : List A) (at a k : ℕ) → at ≤ length d → a ≡ at + length p → k ≡ length s
      → put_mid a k (put_at d at p) s ≡ put_at d at (p ++ s)
  unfolding put_at
  put_next d p s at a k h ea ek =
      let front : length (take at d ++ p) ≡ a = length-append (take at d) p ∙ ap (λ (n : ℕ). n + length p) (length-take-le at d h) ∙ sym ea in
      let rest : drop k (drop a (take at d ++ p ++ drop (at + length p) d)) ≡ drop (at + length (p ++ s)) d =
      rw (drop_at (take at d ++ p) (drop (at + length p) d) a front, drop-drop k (at + length p) d, ek, length-append p s, add_assoc) in
      rw (take_at (take at d ++ p) (drop (at + length p) d) a front, rest) (simp append_assoc)

  -- a part `[at..at + k]` that was lent and filled, as by `copy_from_slice`
  pub put_part : (d : List A) (at k : ℕ) (s : List A) → k ≡ length s → put_mid at k d s ≡ put_at d at s
  unfolding put_at
  put_part d at k s e = rw (drop-drop k at d, e) (simp append_assoc)

  -- what is written after what is written is written together
  pub put_put : (d p s : List A) (at k : ℕ) → at ≤ length d → k ≡ at + length p → put_at (put_at d at p) k s ≡ put_at d at (p ++ s)
  unfolding put_at
  put_put d p s at k h e =
      rw (← (drop-drop (length s) k (put_at d at p)), append_assoc (take k (put_at d at p)) s (drop (length s) (drop k (put_at d at p))))
      (put_next d p s at k (length s) h e refl)

  -- nothing written, one element written, and one element after what is written from index 0 on
  pub put_empty : (d : List A) → d ≡ put_at d 0 []
  unfolding put_at
  put_empty d = refl

  pub put_one : (d : List A) (k : ℕ) (v : A) → k < length d → set d k v ≡ put_at d k (v ∷ [])
  unfolding put_at
  put_one d k v h = set_split d k v h ∙ rw (← add-one) (sym (append_assoc (take k d) (v ∷ []) (drop (k + 1) d)))

  pub put_snoc : (d s out : List A) (k : ℕ) (v : A) → out ≡ put_at d 0 s → length s ≡ k → k < length d → set out k v ≡ put_at d 0 (s ++ v ∷ [])
  put_snoc d s out k v e h r =
      let q : length (put_at d 0 s) ≡ length d = length_put_at d 0 s (omega arith) in
      rw e (put_one (put_at d 0 s) k v (omega arith) ∙ put_put d s (v ∷ []) 0 k (omega arith) (omega arith))

  -- what is written from index 0 on is no longer than what then stands there
  pub put_holds : (d s : List A) → length s ≤ length (put_at d 0 s)
  unfolding put_at
  put_holds d s = omega (arith, length-append s (drop (0 + length s) d))

  -- and is there what was written
  pub put_front : (d s : List A) → take (length s) (put_at d 0 s) ≡ s
  unfolding put_at
  put_front d s = take_at s (drop (0 + length s) d) (length s) refl

  -- 'what lies past its output in a lent slice stays'
  pub put_past : (d s : List A) → drop (length s) (put_at d 0 s) ≡ drop (length s) d
  unfolding put_at
  put_past d s = drop_at s (drop (0 + length s) d) (length s) refl ∙ simp zero-add

  -- a list no shorter than the slice is all that then stands there
  pub put_whole : (d s : List A) → length d ≤ length s → put_at d 0 s ≡ s
  unfolding put_at
  put_whole d s h =
      let past : length d ≤ 0 + length s = omega (arith, h) in
      rw (drop_of_length-le d past) (append-nil s)

  -- ---- where there is room, and where there is none

  pub put_room : (d : List A) (at : ℕ) (s : List A) → at + length s ≤ length d → put_in_room d at s ≡ put_at d at s
  unfolding put_in_room
  put_room d at s h = rw (le-leb (at + length s) (length d) h)

  pub put_no_room : (d : List A) (at : ℕ) (s : List A) → length d < at + length s → put_in_room d at s ≡ d
  unfolding put_in_room
  put_no_room d at s h = rw (lt-leb (at + length s) (length d) h)

  -- ---- what a call leaves in a lent slice

  pub left_stands : (d s : List A) → StandsFirst s d (left_after true s d)
  left_stands d s = (put_front d s, put_past d s)

  -- the slice is as long as it was, whether the call answered or not
  pub left_length : (answered : Bool) (s d : List A) → (answered ≡ true → length s ≤ length d)
      → length (left_after answered s d) ≡ length d
  left_length true s d room = length_put_at d 0 s (omega (arith, room refl))
  left_length false s d room = refl

  -- of a call that answered, and of one that did not, where the test is not yet worked out
  pub left_answered : (answered : Bool) (s d : List A) → answered ≡ true → left_after answered s d ≡ put_at d 0 s
  left_answered answered s d e = rw e refl

  pub left_refused : (answered : Bool) (s d : List A) → answered ≡ false → left_after answered s d ≡ d
  left_refused answered s d e = rw e refl

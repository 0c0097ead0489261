-- Text written piece by piece, each from where the one before it ends.
use Prim.Native.Nat.{ℕ, ◌+◌, ◌≤◌, ◌<◌}
use mathlib.Core.Path.{◌≡◌, ap, ◌∙◌}
use mathlib.Core.List.{List, [], ◌∷◌, ◌++◌}
use native.Mathlib.Omega.{arith}
use lib.ListN.{length, set, take}
use Rattle.records.specs.Written.{put_at}
use Rattle.records.proofs.PutLaws.{put_none, put_more, put_put, put_front, put_holds}

-- one byte
pub put_byte : (d : List ℕ) (at b : ℕ) → at < length d → set d at b ≡ put_at d at (b ∷ [])
put_byte d at b h =
    let z : at + 0 ≡ at = omega arith in
    ap (λ (l : List ℕ). set l at b) (put_none d at (b ∷ [])) ∙ (rw z at (put_more 0 d at (b ∷ []) 0 (omega arith) (omega arith)))

-- a piece, and the next piece where it ends
pub put_then : (d e f : List ℕ) (at k : ℕ) (p q : List ℕ) → at ≤ length d → e ≡ put_at d at p → k ≡ at + length p → f ≡ put_at e k q
    → f ≡ put_at d at (p ++ q)
put_then d e f at k p q h a n b = b ∙ rw a (put_put d p q at k h n)

-- what is written from index 0 on is there
pub front_is : (n : ℕ) (t d s : List ℕ) → n ≡ length s → t ≡ put_at d 0 s → take n t ≡ s
front_is n t d s e f = rw (e, f) (put_front d s)

pub front_fits : (t d s : List ℕ) → t ≡ put_at d 0 s → length s ≤ length t
front_fits t d s e = rw e (put_holds d s)

-- Pieces of one size, records or blocks, joined one after the other: how many bytes they are, and cut again.
use mathlib.Core.Path.{◌≡◌, refl, sym}
use mathlib.Core.List.{List, [], ◌∷◌, ◌++◌, append_assoc, append-nil, flatten}
use Prim.Native.Nat.{ℕ, zero, suc, ◌*◌, ◌/◌}
use native.Mathlib.Nat.{mul-suc}
use native.Mathlib.Omega.{arith}
use lib.ListN.{length, drop, length-append, length-drop, take-append-drop}
use lib.Seq.{take_at, drop_at}
use Rattle.records.specs.Chunks.{chunks, records_of}
use Rattle.records.specs.Lists.{All}

pub flatten_append : (a b : List (List ℕ)) → flatten (a ++ b) ≡ flatten a ++ flatten b
unfolding flatten
flatten_append [] b = refl
flatten_append (x ∷ a) b = rw (flatten_append a b) (sym (append_assoc x (flatten a) (flatten b)))

pub flatten_one : (b : List ℕ) → flatten (b ∷ []) ≡ b
unfolding flatten
flatten_one b = append-nil b

module _ (size : ℕ) where
  pub length_flatten : (bs : List (List ℕ)) → All (λ b. length b ≡ size) bs → length (flatten bs) ≡ size * length bs
  unfolding flatten
  length_flatten [] l = omega arith
  length_flatten (b ∷ bs) l = simp (length-append, length_flatten bs l.1, l.0) (omega (arith, mul-suc size (length bs)))

  pub cut_joined : (bs : List (List ℕ)) → All (λ b. length b ≡ size) bs → chunks size (length bs) (flatten bs) ≡ bs
  unfolding chunks flatten
  cut_joined [] l = refl
  cut_joined (b ∷ bs) l = rw (take_at b (flatten bs) size l.0, drop_at b (flatten bs) size l.0, cut_joined bs l.1)

  pub join_cut : (n : ℕ) (f : List ℕ) → length f ≡ size * n → flatten (chunks size n f) ≡ f
  unfolding chunks flatten
  join_cut zero [] e = refl
  join_cut zero (x ∷ f) e = absurd (omega arith)
  join_cut (suc n) f e =
      let d : length (drop size f) ≡ size * n = simp length-drop (omega (arith, mul-suc size n)) in
      rw (join_cut n (drop size f) d) (take-append-drop size f)

-- whole records joined to a table are its records
pub records_joined : (rs : List (List ℕ)) → All (λ r. length r ≡ 32) rs → records_of (flatten rs) ≡ rs
records_joined rs a =
    let n : length (flatten rs) / 32 ≡ length rs = omega (arith, length_flatten 32 rs a) in
    rw n (cut_joined 32 rs a)

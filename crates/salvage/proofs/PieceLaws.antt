-- The pieces one after the other: as code takes them, the first that is sound, and with what a piece is dropped.
use Rattle.std.specs.Prelude.{Result, Ok, Err, Some, None}
use mathlib.Core.Path.{◌≡◌, refl, sym, ap, ◌∙◌}
use mathlib.Core.Bool.{Bool, true, false, cond}
use mathlib.Core.List.{List, [], ◌∷◌}
use Prim.Native.Nat.{ℕ, zero, suc, ◌+◌, ◌-◌, ◌*◌, ◌≤◌, ◌<◌, min}
use native.Mathlib.Omega.{arith}
use lib.Dec.{eqb, eqb-suc-zero}
use lib.ListN.{length, take, drop, length-drop}
use borrow.Author.Tests.{eq-eqb, ne_eqb}
use Rattle.records.specs.Steps.Rest.{chunks_from}
use Rattle.records.specs.Chunks.{chunk_at}
use Rattle.records.specs.Lists.{keep}
use Rattle.records.proofs.ListLaws.{take_min, keep_none, keep_out}
use Rattle.records.proofs.ChunkLaws.{chunks_all, chunks_step, chunks_none}
use Rattle.records.specs.declared.refusals.Refusal.{Refusal}
use Rattle.blocks.specs.Alone.{alone_call}
use Rattle.blocks.specs.declared.forms.Origin.{Origin}
use Rattle.blocks.proofs.Laws.{refused_numbered}
use Rattle.salvage.specs.Pieces.{piece_count, pieces_of}
use Rattle.salvage.specs.Kept.{lead_by, lead_of, same_origin, drop_number, is_kept, kept_of}
use Rattle.salvage.specs.Steps.AllKept.{dropped_with}
use Rattle.salvage.proofs.SoundLaws.{same_origin_lem}

-- a piece as code takes it
pub piece_is : (bytes : List ℕ) (i end : ℕ) → end ≡ min (512 * i + 512) (length bytes)
    → take (end - 512 * i) (drop (512 * i) bytes) ≡ chunk_at 512 bytes i
piece_is bytes i end e = take_min (end - 512 * i) 512 (drop (512 * i) bytes) (simp length-drop (omega arith))

-- ---- the pieces from i on

abbrev pub pieces_from : List ℕ → ℕ → List (List ℕ)
pieces_from bytes i = chunks_from 512 (piece_count (length bytes)) i bytes

pub pieces_all : (bytes : List ℕ) → pieces_from bytes 0 ≡ pieces_of bytes
pieces_all bytes = chunks_all 512 (piece_count (length bytes)) bytes

pub pieces_step : (bytes : List ℕ) (i : ℕ) → i < piece_count (length bytes) → pieces_from bytes i ≡ chunk_at 512 bytes i ∷ pieces_from bytes (i + 1)
pieces_step bytes i h = chunks_step 512 (piece_count (length bytes)) i bytes h

pub pieces_none : (bytes : List ℕ) (i : ℕ) → piece_count (length bytes) ≤ i → pieces_from bytes i ≡ []
pieces_none bytes i h = chunks_none 512 (piece_count (length bytes)) i bytes h

-- ---- the first that is sound

module _ (b : List ℕ) (l ls : List (List ℕ)) (e : l ≡ b ∷ ls) where
  pub lead_found : (o : Origin) → alone_call b ≡ Ok o → lead_of l ≡ Some o
  unfolding lead_of
  lead_found o h = rw (e, h)

  pub lead_next : (r : Refusal) → alone_call b ≡ Err r → lead_of l ≡ lead_of ls
  unfolding lead_of
  lead_next r h = rw (e, h)

pub lead_none : (l : List (List ℕ)) → l ≡ [] → lead_of l ≡ None
unfolding lead_of
lead_none l e = rw e

of_one : (o p : Origin) → Some o ≡ Some p → o ≡ p
of_one o p e = cc

of_no_number : (n : ℕ) → Some n ≡ None → ⊥
of_no_number n e = let z : ◌≡◌ {A = ℕ} 0 1 = cc in absurd (omega arith)

of_missing : (o : Origin) → Some o ≡ None → ⊥
of_missing o e = let z : ◌≡◌ {A = ℕ} 0 1 = cc in absurd (omega arith)

-- it is kept
lead_number : (b : List ℕ) (o : Origin) → alone_call b ≡ Ok o → drop_number o b ≡ 0
unfolding drop_number
lead_number b o e = rw (e, same_origin_lem o)

-- and where there is none, nothing is
refused_out : (lead : Origin) (b : List ℕ) (r : Refusal) → alone_call b ≡ Err r → is_kept lead b ≡ false
unfolding drop_number
refused_out lead b r e =
    let n = refused_numbered b r e in
    rw e (ne_eqb r.number 0 (λ z. omega (arith, z, n)))

-- ---- with what a block is dropped, if it is

dropped_by : (lead : Origin) (b : List ℕ) (n : ℕ) → drop_number lead b ≡ n → dropped_with lead b ≡ cond (eqb n 0) None (Some n)
unfolding dropped_with
dropped_by lead b n e = rw e

pub dropped_refused : (lead : Origin) (b : List ℕ) (r : Refusal) → alone_call b ≡ Err r → dropped_with lead b ≡ Some r.number
unfolding drop_number
dropped_refused lead b r e =
    dropped_by lead b r.number (rw e) ∙ rw (ne_eqb r.number 0 (λ z. omega (arith, z, refused_numbered b r e)))

pub dropped_same : (lead : Origin) (b : List ℕ) (o : Origin) → alone_call b ≡ Ok o → same_origin o lead ≡ true → dropped_with lead b ≡ None
unfolding drop_number
dropped_same lead b o e s = dropped_by lead b 0 (rw (e, s))

pub dropped_other : (lead : Origin) (b : List ℕ) (o : Origin) → alone_call b ≡ Ok o → same_origin o lead ≡ false → dropped_with lead b ≡ Some 20
unfolding drop_number
dropped_other lead b o e s = dropped_by lead b 20 (rw (e, s))

by_none : (n : ℕ) → cond (eqb n 0) None (Some n) ≡ None → n ≡ 0
by_none zero e = refl
by_none (suc n) e = absurd (of_no_number (suc n) (rw (eqb-suc-zero n) at e))

by_some : (m n : ℕ) → cond (eqb m 0) None (Some m) ≡ Some n → (n ≡ m) × (n ≡ 0 → ⊥)
by_some zero n e = absurd (of_no_number n (sym e))
by_some (suc m) n e =
    let s : Some (suc m) ≡ Some n = rw (eqb-suc-zero m) at e in
    let k : suc m ≡ n = cc in
    (sym k, λ z. omega (arith, k, z))

pub none_dropped : (lead : Origin) (b : List ℕ) → dropped_with lead b ≡ None → drop_number lead b ≡ 0
none_dropped lead b e = by_none (drop_number lead b) (sym (dropped_by lead b (drop_number lead b) refl) ∙ e)

pub some_dropped : (lead : Origin) (b : List ℕ) (n : ℕ) → dropped_with lead b ≡ Some n → (n ≡ drop_number lead b) × (n ≡ 0 → ⊥)
some_dropped lead b n e = by_some (drop_number lead b) n (sym (dropped_by lead b (drop_number lead b) refl) ∙ e)

-- one block more does not make fewer
kept_more : (t : List ℕ → Bool) (b : List ℕ) (bs : List (List ℕ)) → length (keep t bs) ≤ length (keep t (b ∷ bs))
unfolding keep
kept_more t b bs = go (t b)
  where
    go : (c : Bool) → length (keep t bs) ≤ length (cond c (b ∷ keep t bs) (keep t bs))
    go true = omega arith
    go false = omega arith

kept_first : (t : List ℕ → Bool) (b : List ℕ) (bs : List (List ℕ)) → t b ≡ true → 1 ≤ length (keep t (b ∷ bs))
unfolding keep
kept_first t b bs e = rw e (omega arith)

pub lead_kept : (bs : List (List ℕ)) (o : Origin) → lead_of bs ≡ Some o → 1 ≤ length (kept_of o bs)
unfolding lead_of kept_of
lead_kept [] o e = absurd (of_missing o (sym e))
lead_kept (b ∷ bs) o e = go (alone_call b) refl e (lead_kept bs o)
  where
    go : (a : Result Origin Refusal) → alone_call b ≡ a → lead_by a (lead_of bs) ≡ Some o → (lead_of bs ≡ Some o → 1 ≤ length (keep (is_kept o) bs))
        → 1 ≤ length (keep (is_kept o) (b ∷ bs))
    go (Ok p) q z f =
        kept_first (is_kept o) b bs (eq-eqb (drop_number o b) 0 (lead_number b o (q ∙ ap Ok (of_one p o z))))
    go (Err r) q z f = omega (arith, f z, kept_more (is_kept o) b bs)

pub missing_kept : (bs : List (List ℕ)) (o : Origin) → lead_of bs ≡ None → kept_of o bs ≡ []
unfolding lead_of kept_of
missing_kept [] o e = keep_none (is_kept o) [] refl
missing_kept (b ∷ bs) o e = go (alone_call b) refl e (missing_kept bs o)
  where
    go : (a : Result Origin Refusal) → alone_call b ≡ a → lead_by a (lead_of bs) ≡ None → (lead_of bs ≡ None → keep (is_kept o) bs ≡ [])
        → keep (is_kept o) (b ∷ bs) ≡ []
    go (Ok p) q z f = absurd (of_missing p z)
    go (Err r) q z f = keep_out (is_kept o) b (b ∷ bs) bs refl (refused_out o b r q) ∙ f z

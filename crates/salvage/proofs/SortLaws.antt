-- The sorting as a loop over pieces: of those before piece i the kept ones are joined, and the dropped ones are listed.
use mathlib.Core.Path.{◌≡◌, refl, sym, ap, ◌∙◌}
use mathlib.Core.Bool.{false}
use mathlib.Core.List.{List, [], ◌∷◌, ◌++◌, append_assoc, append-nil, map-append, flatten}
use Prim.Native.Nat.{ℕ, ◌+◌, ◌-◌, ◌*◌, ◌≤◌, ◌<◌, min}
use native.Mathlib.Omega.{arith}
use lib.Dec.{eqb}
use lib.ListN.{length, set, length-append, length-map, length-set, length-take, length-drop}
use borrow.Author.Tests.{eq-eqb, ne_eqb}
use Rattle.records.specs.Chunks.{chunk_at}
use Rattle.records.specs.Lists.{All}
use Rattle.records.specs.Listed.{Entry, entry, indices_of, numbers_of}
use Rattle.records.specs.Written.{put_at}
use Rattle.records.proofs.ListLaws.{all_append, keep_in, keep_out, keep_none}
use Rattle.records.proofs.PutLaws.{put_put, put_empty, put_snoc, length_put_at}
use Rattle.records.proofs.JoinLaws.{flatten_append, flatten_one, length_flatten}
use Rattle.blocks.specs.declared.forms.Origin.{Origin}
use Rattle.salvage.specs.Pieces.{piece_count, pieces_of}
use Rattle.salvage.specs.Kept.{drop_number, is_kept, kept_of, dropped_of}
use Rattle.salvage.proofs.PieceLaws.{pieces_from, pieces_all, pieces_step, pieces_none}
use Rattle.salvage.proofs.SoundLaws.{kept_is}

pub record Sorting (bytes : List ℕ) (lead : Origin) (kept₀ indices₀ numbers₀ kept indices numbers : List ℕ) (k d i : ℕ) : Type 0 where
  pub held : List (List ℕ)
  pub done : List Entry
  pub holds : kept_of lead (pieces_of bytes) ≡ held ++ kept_of lead (pieces_from bytes i)
  pub lists : dropped_of lead 0 (pieces_of bytes) ≡ done ++ dropped_of lead i (pieces_from bytes i)
  pub held_count : length held ≡ k
  pub held_whole : All (λ b. length b ≡ 512) held
  pub done_count : length done ≡ d
  pub all : k + d ≡ i
  pub kept_are : kept ≡ put_at kept₀ 0 (flatten held)
  pub indices_are : indices ≡ put_at indices₀ 0 (indices_of done)
  pub numbers_are : numbers ≡ put_at numbers₀ 0 (numbers_of done)
  pub kept_long : length kept ≡ length kept₀
  pub indices_long : length indices ≡ length indices₀
  pub numbers_long : length numbers ≡ length numbers₀

pub sorting_none : (bytes : List ℕ) (lead : Origin) (kept indices numbers : List ℕ) → Sorting bytes lead kept indices numbers kept indices numbers 0 0 0
unfolding flatten
sorting_none bytes lead kept indices numbers =
    record {
      held = [];
      done = [];
      holds = rw (pieces_all bytes);
      lists = rw (pieces_all bytes);
      held_count = refl;
      held_whole = tt;
      done_count = refl;
      all = refl;
      kept_are = put_empty kept;
      indices_are = put_empty indices;
      numbers_are = put_empty numbers;
      kept_long = refl;
      indices_long = refl;
      numbers_long = refl;
    }

-- a piece that is kept is whole
pub kept_whole : (bytes : List ℕ) (i : ℕ) (lead : Origin) → drop_number lead (chunk_at 512 bytes i) ≡ 0 → 512 * i + 512 ≤ length bytes
kept_whole bytes i lead z =
    let size = (kept_is lead (chunk_at 512 bytes i) z).0.size in
    let is : min 512 (length bytes - 512 * i) ≡ 512 = simp (length-take, length-drop) at size in
    omega (arith, is)

module _ {bytes : List ℕ} {lead : Origin} {kept₀ indices₀ numbers₀ kept indices numbers : List ℕ} {k d i : ℕ}
    (p : Sorting bytes lead kept₀ indices₀ numbers₀ kept indices numbers k d i) (h : i < piece_count (length bytes)) where
  abbrev piece : List ℕ
  piece = chunk_at 512 bytes i

  next : pieces_from bytes i ≡ piece ∷ pieces_from bytes (i + 1)
  next = pieces_step bytes i h

  lists_next : dropped_of lead 0 (pieces_of bytes) ≡ p.done ++ entry i (drop_number lead piece) ++ dropped_of lead (i + 1) (pieces_from bytes (i + 1))
  unfolding dropped_of
  lists_next = p.lists ∙ rw (next, append_assoc)

  module _ {kept' indices' numbers' : List ℕ} {k' d' : ℕ} where
    pub sorting_kept : drop_number lead piece ≡ 0 → 512 * k + 512 ≤ length kept₀
        → kept' ≡ put_at kept (512 * k) piece → indices' ≡ indices → numbers' ≡ numbers → k' ≡ k + 1 → d' ≡ d
        → Sorting bytes lead kept₀ indices₀ numbers₀ kept' indices' numbers' k' d' (i + 1)
    unfolding kept_of
    sorting_kept z room ek ei en kk dd =
        let one = piece ∷ [] in
        let whole = (kept_is lead piece z).0.size in
        let size : length (flatten p.held) ≡ 512 * k = length_flatten 512 p.held p.held_whole ∙ ap (λ (m : ℕ). 512 * m) p.held_count in
        record {
          held = p.held ++ one;
          done = p.done;
          holds =
              p.holds
              ∙ ap (λ (l : List (List ℕ)). p.held ++ l) (keep_in (is_kept lead) piece (pieces_from bytes i) (pieces_from bytes (i + 1)) next (eq-eqb (drop_number lead piece) 0 z))
              ∙ sym (append_assoc p.held one (kept_of lead (pieces_from bytes (i + 1))));
          lists = lists_next ∙ rw (z, append-nil);
          held_count = length-append p.held one ∙ omega (arith, p.held_count, kk);
          held_whole = all_append (λ b. length b ≡ 512) p.held one p.held_whole (whole, tt);
          done_count = p.done_count ∙ sym dd;
          all = omega (arith, p.all, kk, dd);
          kept_are =
              ek
              ∙ ap (λ (l : List ℕ). put_at l (512 * k) piece) p.kept_are
              ∙ put_put kept₀ (flatten p.held) piece 0 (512 * k) (omega arith) (omega (arith, size))
              ∙ ap (put_at kept₀ 0) (sym (flatten_append p.held one ∙ ap (λ (l : List ℕ). flatten p.held ++ l) (flatten_one piece)));
          indices_are = ei ∙ p.indices_are;
          numbers_are = en ∙ p.numbers_are;
          kept_long = ap length ek ∙ length_put_at kept (512 * k) piece (omega (arith, room, whole, p.kept_long)) ∙ p.kept_long;
          indices_long = ap length ei ∙ p.indices_long;
          numbers_long = ap length en ∙ p.numbers_long;
        }

    pub sorting_dropped : (number : ℕ) → number ≡ drop_number lead piece → (number ≡ 0 → ⊥) → d < length indices₀ → d < length numbers₀
        → kept' ≡ kept → indices' ≡ set indices d i → numbers' ≡ set numbers d number → k' ≡ k → d' ≡ d + 1
        → Sorting bytes lead kept₀ indices₀ numbers₀ kept' indices' numbers' k' d' (i + 1)
    unfolding kept_of
    sorting_dropped number en z hi hn ek ei em kk dd =
        let e : Entry = record { index = i; number = number } in
        let out : is_kept lead piece ≡ false = ap (λ (m : ℕ). eqb m 0) (sym en) ∙ ne_eqb number 0 z in
        record {
          held = p.held;
          done = p.done ++ e ∷ [];
          holds =
              p.holds
              ∙ ap (λ (l : List (List ℕ)). p.held ++ l) (keep_out (is_kept lead) piece (pieces_from bytes i) (pieces_from bytes (i + 1)) next out);
          lists = lists_next ∙ rw (← en, ne_eqb number 0 z);
          held_count = p.held_count ∙ sym kk;
          held_whole = p.held_whole;
          done_count = length-append p.done (e ∷ []) ∙ omega (arith, p.done_count, dd);
          all = omega (arith, p.all, kk, dd);
          kept_are = ek ∙ p.kept_are;
          indices_are =
              ei
              ∙ put_snoc indices₀ (indices_of p.done) indices d i p.indices_are (simp length-map p.done_count) hi
              ∙ ap (put_at indices₀ 0) (sym (map-append (λ e. e.index) p.done (e ∷ [])));
          numbers_are =
              em
              ∙ put_snoc numbers₀ (numbers_of p.done) numbers d number p.numbers_are (simp length-map p.done_count) hn
              ∙ ap (put_at numbers₀ 0) (sym (map-append (λ e. e.number) p.done (e ∷ [])));
          kept_long = ap length ek ∙ p.kept_long;
          indices_long = ap length ei ∙ simp length-set p.indices_long;
          numbers_long = ap length em ∙ simp length-set p.numbers_long;
        }

module _ {bytes : List ℕ} {lead : Origin} {kept₀ indices₀ numbers₀ kept indices numbers : List ℕ} {k d i : ℕ}
    (p : Sorting bytes lead kept₀ indices₀ numbers₀ kept indices numbers k d i) (h : piece_count (length bytes) ≤ i) where
  none : pieces_from bytes i ≡ []
  none = pieces_none bytes i h

  held_is : kept_of lead (pieces_of bytes) ≡ p.held
  unfolding kept_of
  held_is = p.holds ∙ rw (keep_none (is_kept lead) (pieces_from bytes i) none) (append-nil p.held)

  done_is : dropped_of lead 0 (pieces_of bytes) ≡ p.done
  unfolding dropped_of
  done_is = p.lists ∙ rw none (append-nil p.done)

  pub sorted_kept : k ≡ length (kept_of lead (pieces_of bytes))
  sorted_kept = sym p.held_count ∙ ap length (sym held_is)

  pub sorted_dropped : d ≡ length (dropped_of lead 0 (pieces_of bytes))
  sorted_dropped = sym p.done_count ∙ ap length (sym done_is)

  pub sorted_bytes : kept ≡ put_at kept₀ 0 (flatten (kept_of lead (pieces_of bytes)))
  sorted_bytes = rw held_is p.kept_are

  pub sorted_indices : indices ≡ put_at indices₀ 0 (indices_of (dropped_of lead 0 (pieces_of bytes)))
  sorted_indices = rw done_is p.indices_are

  pub sorted_numbers : numbers ≡ put_at numbers₀ 0 (numbers_of (dropped_of lead 0 (pieces_of bytes)))
  sorted_numbers = rw done_is p.numbers_are

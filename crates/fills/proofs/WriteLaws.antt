-- The rows written as a loop over records: those of the records before k are written.
use Prim.Native.Nat.{ℕ, ◌+◌, ◌-◌, ◌*◌, ◌≤◌, ◌<◌}
use mathlib.Core.Path.{◌≡◌, refl, sym, ap, ◌∙◌}
use mathlib.Core.List.{List, [], ◌++◌, append_assoc, append-nil}
use native.Mathlib.Omega.{arith}
use lib.ListN.{length, length-append}
use Rattle.records.specs.Written.{put_at}
use Rattle.records.specs.declared.legs.Leg.{Leg}
use Rattle.records.proofs.PutLaws.{put_empty, put_put}
use Rattle.fills.specs.Rows.{bytes_of}
use Rattle.fills.specs.Steps.Standing.{row_at, rows_of, rows_to}
use Rattle.fills.proofs.BytesLaws.{bytes_append, length_bytes}
use Rattle.fills.proofs.HeldLaws.{rows_next}

pub record Writing (leg : ℕ → Leg) (held : List ℕ) (count : ℕ) (result₀ result : List ℕ) (out k : ℕ) : Type 0 where
  pub done : List Leg
  pub whole : rows_to leg held count ≡ done ++ rows_of leg held k (count - k)
  pub counted : length done ≡ out
  pub written : result ≡ put_at result₀ 0 (bytes_of done)

pub writing_none : (leg : ℕ → Leg) (held : List ℕ) (count : ℕ) (result : List ℕ) → Writing leg held count result result 0 0
unfolding bytes_of
writing_none leg held count result =
    let q : count - 0 ≡ count = omega arith in
    record { done = []; whole = rw q; counted = refl; written = put_empty result }

module _ {leg : ℕ → Leg} {held : List ℕ} {count : ℕ} {result₀ result : List ℕ} {out k : ℕ} (w : Writing leg held count result₀ result out k) where
  module _ (h : k < count) where
    next : rows_to leg held count ≡ w.done ++ (row_at leg held k ++ rows_of leg held (k + 1) (count - (k + 1)))
    next = w.whole ∙ ap (λ (l : List Leg). w.done ++ l) (rows_next leg held count k h)

    pub writing_room : out + length (row_at leg held k) ≤ length (rows_to leg held count)
    writing_room =
        omega (arith, ap length next, length-append w.done (row_at leg held k ++ rows_of leg held (k + 1) (count - (k + 1))), length-append (row_at leg held k) (rows_of leg held (k + 1) (count - (k + 1))), w.counted)

    pub writing_more : (after : List ℕ) (more : ℕ) → more ≡ out + length (row_at leg held k) → after ≡ put_at result (32 * out) (bytes_of (row_at leg held k))
        → Writing leg held count result₀ after more (k + 1)
    writing_more after more e a =
        record {
          done = w.done ++ row_at leg held k;
          whole = next ∙ sym (append_assoc w.done (row_at leg held k) (rows_of leg held (k + 1) (count - (k + 1))));
          counted = length-append w.done (row_at leg held k) ∙ omega (arith, w.counted);
          written =
              a
              ∙ ap (λ (l : List ℕ). put_at l (32 * out) (bytes_of (row_at leg held k))) w.written
              ∙ put_put result₀ (bytes_of w.done) (bytes_of (row_at leg held k)) 0 (32 * out) (omega arith) (omega (arith, length_bytes w.done, w.counted))
              ∙ ap (put_at result₀ 0) (sym (bytes_append w.done (row_at leg held k)));
        }

  pub writing_over : count ≤ k → result ≡ put_at result₀ 0 (bytes_of (rows_to leg held count))
  unfolding rows_of
  writing_over h =
      let q : count - k ≡ 0 = omega arith in
      let all : rows_to leg held count ≡ w.done = w.whole ∙ rw q (append-nil w.done) in
      w.written ∙ ap (λ (l : List Leg). put_at result₀ 0 (bytes_of l)) (sym all)

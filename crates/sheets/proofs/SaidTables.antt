-- Legs or claims in their ranges, said as a table: it is sound, and says them.
use mathlib.Core.Path.{◌≡◌, refl}
use mathlib.Core.Bool.{true}
use mathlib.Core.List.{List, [], ◌∷◌, map, flatten}
use Prim.Native.Nat.{ℕ, ◌*◌, ◌/◌, ◌%◌, ◌≤◌}
use native.Mathlib.Omega.{arith}
use lib.ListN.{length, length-map}
use borrow.Author.Tests.{eq-eqb, le-leb}
use Rattle.records.specs.Chunks.{records_of}
use Rattle.records.specs.Lists.{All}
use Rattle.records.specs.Tables.{good_record, limit_of}
use Rattle.records.specs.declared.tables.Kind.{Kind}
use Rattle.records.proofs.JoinLaws.{length_flatten, records_joined}
use Rattle.records.proofs.ListLaws.{map_all}
use Rattle.sheets.specs.Demands.{Sound}

module _ {A : Type 0} (kind : Kind) (read : List ℕ → A) (say : A → List ℕ) (InRange : A → Type 0) (size : (x : A) → length (say x) ≡ 32)
    (back : (x : A) → InRange x → read (say x) ≡ x) (good : (x : A) → InRange x → good_record kind (say x) ≡ true) where
  read_all : (l : List A) → All InRange l → map read (map say l) ≡ l
  read_all [] a = refl
  read_all (x ∷ l) a = rw (back x a.0, read_all l a.1)

  module _ (l : List A) (a : All InRange l) where
    sizes : All (λ r. length r ≡ 32) (map say l)
    sizes = map_all say (λ r. length r ≡ 32) InRange l (λ x q. size x) a

    pub table_says : map read (records_of (flatten (map say l))) ≡ l
    table_says = rw (records_joined (map say l) sizes) (read_all l a)

    pub table_sound : length l ≤ limit_of kind → Sound kind (flatten (map say l))
    table_sound few =
        let n : length (flatten (map say l)) ≡ 32 * length l = rw (length-map l say) at (length_flatten 32 (map say l) sizes) in
        record {
          whole = rw (n, eq-eqb (32 * length l % 32) 0 (omega arith), le-leb (32 * length l / 32) (limit_of kind) (omega arith));
          fields = rw (records_joined (map say l) sizes) (map_all say (λ r. good_record kind r ≡ true) InRange l good a);
        }

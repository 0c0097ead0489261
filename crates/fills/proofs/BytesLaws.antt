-- The table of rows: their records one after the other, read as they were written.
use Prim.Native.Nat.{◌*◌}
use mathlib.Core.Path.{◌≡◌, refl, ◌∙◌}
use mathlib.Core.List.{List, [], ◌∷◌, ◌++◌, map, map-append, flatten}
use lib.ListN.{length, length-map}
use Rattle.records.specs.Chunks.{records_of}
use Rattle.records.specs.Legs.{leg_of, leg_bytes}
use Rattle.records.specs.Lists.{All}
use Rattle.records.specs.Tables.{legs_of}
use Rattle.records.specs.declared.legs.Leg.{Leg}
use Rattle.records.proofs.JoinLaws.{flatten_append, flatten_one, length_flatten, records_joined}
use Rattle.records.proofs.LegLaws.{length_leg_bytes, leg_back}
use Rattle.records.proofs.ListLaws.{map_all, every}
use Rattle.fills.specs.Rows.{bytes_of}

-- the rows' records, joined
bytes_flatten : (rows : List Leg) → bytes_of rows ≡ flatten (map leg_bytes rows)
unfolding bytes_of flatten
bytes_flatten [] = refl
bytes_flatten (x ∷ rows) = rw (bytes_flatten rows)

each_whole : (rows : List Leg) → All (λ r. length r ≡ 32) (map leg_bytes rows)
each_whole rows = map_all leg_bytes (λ r. length r ≡ 32) (λ l. length (leg_bytes l) ≡ 32) rows (λ l e. e) (every rows length_leg_bytes)

pub bytes_append : (a b : List Leg) → bytes_of (a ++ b) ≡ bytes_of a ++ bytes_of b
bytes_append a b =
    rw (bytes_flatten (a ++ b), bytes_flatten a, bytes_flatten b, map-append leg_bytes a b) (flatten_append (map leg_bytes a) (map leg_bytes b))

pub length_bytes : (l : List Leg) → length (bytes_of l) ≡ 32 * length l
length_bytes l = rw (bytes_flatten l, length_flatten 32 (map leg_bytes l) (each_whole l), length-map)

pub bytes_one : (x : Leg) → bytes_of (x ∷ []) ≡ leg_bytes x
bytes_one x = bytes_flatten (x ∷ []) ∙ flatten_one (leg_bytes x)

pub records_back : (rows : List Leg) → records_of (bytes_of rows) ≡ map leg_bytes rows
records_back rows = rw (bytes_flatten rows) (records_joined (map leg_bytes rows) (each_whole rows))

each_back : (rows : List Leg) → map leg_of (map leg_bytes rows) ≡ rows
each_back [] = refl
each_back (x ∷ rows) = rw (leg_back x, each_back rows)

-- rows are read as they were written
pub legs_back : (rows : List Leg) → legs_of (bytes_of rows) ≡ rows
unfolding legs_of
legs_back rows = rw (records_back rows) (each_back rows)

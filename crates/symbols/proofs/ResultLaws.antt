-- What the two calls leave, one after the other and each by itself.
use Rattle.std.specs.Prelude.{Result, Ok, Err}
use Prim.Native.Nat.{ℕ, ◌*◌, ◌/◌, ◌≤◌}
use mathlib.Core.Path.{◌≡◌, refl, sym, ◌∙◌}
use mathlib.Core.Bool.{true, and-eq-true_iff, not}
use mathlib.Core.List.{List, [], ◌∷◌, map, flatten}
use native.Mathlib.Omega.{arith}
use lib.ListN.{length, length-append}
use Rattle.records.specs.Chunks.{records_of}
use Rattle.records.specs.Legs.{leg_of, leg_bytes, is_paid}
use Rattle.records.specs.Lists.{All}
use Rattle.records.specs.Order.{first_of}
use Rattle.records.specs.Tables.{table_checks, field_checks, check_call, good_record, legs_of, good_unpaid}
use Rattle.records.specs.Written.{put_at}
use Rattle.records.specs.declared.tables.Kind.TheVariants.{Holdings}
use Rattle.records.proofs.ChunkLaws.{length_chunks}
use Rattle.records.proofs.ListLaws.{all_map, map_all}
use Rattle.records.proofs.PassLaws.{unclear, each_pass}
use Rattle.records.proofs.PutLaws.{left_stands}
use Rattle.records.proofs.TableLaws.{whole}
use Rattle.symbols.specs.Calls.{leg_of_line, records_for, holdings_of, line_of_record, lines_for, import_call, list_of, export_call}
use Rattle.symbols.specs.Demands.{ImportInOrder, ExportInOrder, ListFits, CallsImportBack, CallsExportBack, ImportSound, ImportUnpaid, EmptyListGood, LeftByImport, ImportLeaves, LeftByExport, ExportLeaves}
use Rattle.symbols.specs.Lines.{lines_of}
use Rattle.symbols.specs.Roots.{roots_of}
use Rattle.symbols.proofs.ClearLaws.{TakenLine, TakenRecord, Imports, import_clear, clear_import, export_clear}
use Rattle.symbols.proofs.ExportLaws.{record_short}
use Rattle.symbols.proofs.RootLaws.{GoodRoots, roots_good, root_size}
use Rattle.symbols.proofs.RoundTrips.{import_of_export, export_of_import, made_records, made_taken, made_length, made_whole, line_leg_again, line_unpaid, exported_lines}
use Rattle.symbols.proofs.WriteLaws.{front_is}
use Rattle.records.specs.declared.refusals.Refusal.{Refusal}

-- ---- what import makes

unpaid_good : (roots : List (List ℕ)) (xs : List ℕ) → TakenRecord roots xs → good_record Holdings xs ≡ true
unfolding good_unpaid
unpaid_good roots xs t = ((and-eq-true_iff (good_record Holdings xs) (not (is_paid (leg_of xs)))).0 t.good).0

pub import_sound : ImportSound
unfolding check_call table_checks field_checks first_of
import_sound t list room n e =
    let c = import_clear t list room n e in
    let i = c.0 in
    let h = holdings_of t list in
    let k : length h / 32 ≡ n = omega (arith, made_length t list i, c.1) in
    let f : first_of (field_checks Holdings h) ≡ (Ok tt) =
    unclear (field_checks Holdings h) (each_pass (good_record Holdings) 4 1 0 (records_of h) (all_map (records_of h) (unpaid_good (roots_of t)) (made_taken t list i))) in
    rw (made_whole t list i, f, k)

legs_again : (t : List ℕ) (g : GoodRoots t) (ls : List (List ℕ)) → All (TakenLine (roots_of t)) ls
    → map leg_of (map (λ xs. leg_bytes (leg_of_line (roots_of t) xs)) ls) ≡ map (leg_of_line (roots_of t)) ls
legs_again t g [] a = refl
legs_again t g (xs ∷ ls) a = rw (line_leg_again t g xs a.0, legs_again t g ls a.1)

pub import_in_order : ImportInOrder
unfolding legs_of
import_in_order t list room n e =
    let i = (import_clear t list room n e).0 in
    rw (made_records t list i) (legs_again t (roots_good t i.table) (lines_of list) i.lines)

pub export_in_order : ExportInOrder
export_in_order t h room n e = exported_lines t h (export_clear t h room n e).0

pub import_unpaid : ImportUnpaid
unfolding legs_of
import_unpaid t list room n e =
    let i = (import_clear t list room n e).0 in
    rw (made_records t list i)
    (map_all leg_of (λ l. l.paid ≡ 0) (λ r. (leg_of r).paid ≡ 0) (map (λ xs. leg_bytes (leg_of_line (roots_of t) xs)) (lines_of list)) (λ r q. q)
    (map_all (λ xs. leg_bytes (leg_of_line (roots_of t) xs)) (λ r. (leg_of r).paid ≡ 0) (TakenLine (roots_of t)) (lines_of list) (line_unpaid t (roots_good t i.table)) i.lines))

pub empty_list_good : EmptyListGood
unfolding holdings_of records_for flatten lines_of
empty_list_good t room e =
    let i : Imports t [] = record { table = e; lines = tt; few = omega arith } in
    (clear_import t [] room i (omega arith), refl)

-- ---- what export makes

lines_short : (t : List ℕ) (rs : List (List ℕ)) → All (TakenRecord (roots_of t)) rs → length (lines_for (roots_of t) rs) ≤ 31 * length rs
unfolding lines_for flatten
lines_short t [] a = omega arith
lines_short t (xs ∷ rs) a =
    rw (length-append (line_of_record (roots_of t) xs) (lines_for (roots_of t) rs)) (omega (arith, record_short (roots_of t) (root_size t) xs a.0.known, lines_short t rs a.1))

pub list_fits : ListFits
unfolding list_of
list_fits t h room n e =
    let c = export_clear t h room n e in
    let w = whole Holdings (length h) c.0.whole in
    let s = lines_short t (records_of h) c.0.records in
    let k : length (records_of h) ≡ length h / 32 = length_chunks 32 (length h / 32) h in
    (omega (arith, c.1), omega (arith, c.1))

-- ---- one after the other

pub calls_import_back : CallsImportBack
calls_import_back t h out d n a e k =
    let r = import_of_export t h a (length out) n e in
    let q = (export_clear t h (length out) n e).1 in
    let l = front_is n (put_at out 0 (list_of t h)) out (list_of t h) q refl in
    rw l (r.0 (length d) k, rw r.1)

pub calls_export_back : CallsExportBack
calls_export_back t list d out n e k =
    let c = import_clear t list (length d) n e in
    let r = export_of_import t list (length d) n e in
    let q : 32 * n ≡ length (holdings_of t list) = omega (arith, made_length t list c.0, c.1) in
    let l = front_is (32 * n) (put_at d 0 (holdings_of t list)) d (holdings_of t list) q refl in
    rw l (r.0 (length out) k, rw r.1)

-- ---- what is left in a lent slice

pub import_leaves : ImportLeaves
import_leaves t list d = go (import_call t list (length d)) refl
  where
    go : (r : Result ℕ Refusal) → import_call t list (length d) ≡ r → LeftByImport r t list d
    go (Ok n) e =
        let c = import_clear t list (length d) n e in
        (made_length t list c.0 ∙ rw c.1, left_stands d (holdings_of t list))
    go (Err r) e = refl

pub export_leaves : ExportLeaves
export_leaves t h d = go (export_call t h (length d)) refl
  where
    go : (r : Result ℕ Refusal) → export_call t h (length d) ≡ r → LeftByExport r t h d
    go (Ok n) e = (sym (export_clear t h (length d) n e).1, left_stands d (list_of t h))
    go (Err r) e = refl

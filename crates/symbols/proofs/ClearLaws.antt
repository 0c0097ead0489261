-- Lines and records of which none is refused: each is taken, and where each is taken, none is refused.
use Rattle.std.specs.Prelude.{Ok}
use Prim.Native.Nat.{ℕ, ◌+◌, ◌*◌, ◌≤◌}
use mathlib.Core.Path.{◌≡◌, sym}
use mathlib.Core.Bool.{true}
use mathlib.Core.List.{List, [], ◌∷◌, ◌++◌}
use lib.ListN.{length}
use borrow.Author.Tests.{le-leb, leb-true}
use Rattle.records.specs.Chunks.{records_of}
use Rattle.records.specs.Lists.{All}
use Rattle.records.specs.Order.{ask, first_of}
use Rattle.records.specs.Limits.{most_legs}
use Rattle.records.specs.Tables.{whole_table, good_unpaid}
use Rattle.records.specs.declared.tables.Kind.TheVariants.{Holdings}
use Rattle.records.proofs.OrderLaws.{first_then}
use Rattle.records.proofs.PassLaws.{Pass, clear, unclear, pass_left, pass_right}
use Rattle.symbols.specs.Lines.{lines_of, well_formed, line_says, line_in_range}
use Rattle.symbols.specs.Roots.{roots_of, root_checks}
use Rattle.symbols.specs.Calls.{known_root, line_checks, record_room, import_checks, import_call, known_terms, record_checks, list_of, list_room, export_checks, export_call}
use Rattle.symbols.proofs.AnswerLaws.{imported_records, exported_bytes}

-- what holds of a line that is taken
pub record TakenLine (roots : List (List ℕ)) (xs : List ℕ) : Type 0 where
  pub formed : well_formed xs ≡ true
  pub said : line_in_range (line_says xs) ≡ true
  pub known : known_root roots xs ≡ true

-- and of a record that is
pub record TakenRecord (roots : List (List ℕ)) (xs : List ℕ) : Type 0 where
  pub good : good_unpaid xs ≡ true
  pub known : known_terms roots xs ≡ true

module _ (roots : List (List ℕ)) where
  pub lines_taken : (i : ℕ) (ls : List (List ℕ)) → Pass (line_checks roots i ls) → All (TakenLine roots) ls
  unfolding line_checks
  lines_taken i [] p = tt
  lines_taken i (xs ∷ ls) p = (record { formed = p.0; said = p.1.0; known = p.1.1.0 }, lines_taken (i + 1) ls p.1.1.1)

  pub taken_lines : (i : ℕ) (ls : List (List ℕ)) → All (TakenLine roots) ls → Pass (line_checks roots i ls)
  unfolding line_checks
  taken_lines i [] a = tt
  taken_lines i (xs ∷ ls) a = (a.0.formed, (a.0.said, (a.0.known, taken_lines (i + 1) ls a.1)))

  pub records_taken : (i : ℕ) (rs : List (List ℕ)) → Pass (record_checks roots i rs) → All (TakenRecord roots) rs
  unfolding record_checks
  records_taken i [] p = tt
  records_taken i (xs ∷ rs) p = (record { good = p.0; known = p.1.0 }, records_taken (i + 1) rs p.1.1)

  pub taken_records : (i : ℕ) (rs : List (List ℕ)) → All (TakenRecord roots) rs → Pass (record_checks roots i rs)
  unfolding record_checks
  taken_records i [] a = tt
  taken_records i (xs ∷ rs) a = (a.0.good, (a.0.known, taken_records (i + 1) rs a.1))

-- ---- a call that is not refused

pub record Imports (roots list : List ℕ) : Type 0 where
  pub table : first_of (root_checks roots) ≡ Ok tt
  pub lines : All (TakenLine (roots_of roots)) (lines_of list)
  pub few : length (lines_of list) ≤ most_legs

pub import_clear : (roots list : List ℕ) (room n : ℕ) → import_call roots list room ≡ Ok n → Imports roots list × (n ≡ length (lines_of list))
unfolding import_call import_checks record_room
import_clear roots list room n e =
    let r = imported_records (first_of (import_checks roots list room)) (length (lines_of list)) n (sym e) in
    let lines = line_checks (roots_of roots) 0 (lines_of list) in
    let end = record_room (length (lines_of list)) room in
    let p = clear (import_checks roots list room) r.0 in
    let q = pass_right (root_checks roots) (lines ++ end) p in (
      record {
        table = unclear (root_checks roots) (pass_left (root_checks roots) (lines ++ end) p);
        lines = lines_taken (roots_of roots) 0 (lines_of list) (pass_left lines end q);
        few = leb-true (length (lines_of list)) most_legs (pass_right lines end q).0;
      },
      r.1,
    )

pub clear_import : (roots list : List ℕ) (room : ℕ) → Imports roots list → 32 * length (lines_of list) ≤ room → import_call roots list room ≡ Ok (length (lines_of list))
unfolding import_call import_checks record_room first_of
clear_import roots list room i h =
    rw (
      first_then _ _ i.table,
      first_then _ _ (unclear (line_checks (roots_of roots) 0 (lines_of list)) (taken_lines (roots_of roots) 0 (lines_of list) i.lines)),
      le-leb (length (lines_of list)) most_legs i.few,
      le-leb (32 * length (lines_of list)) room h,
    )

pub record Exports (roots holdings : List ℕ) : Type 0 where
  pub table : first_of (root_checks roots) ≡ Ok tt
  pub whole : whole_table Holdings (length holdings) ≡ true
  pub records : All (TakenRecord (roots_of roots)) (records_of holdings)

pub export_clear : (roots h : List ℕ) (room n : ℕ) → export_call roots h room ≡ Ok n → Exports roots h × (n ≡ length (list_of roots h))
unfolding export_call export_checks
export_clear roots h room n e =
    let r = exported_bytes (first_of (export_checks roots h room)) (length (list_of roots h)) n (sym e) in
    let records = record_checks (roots_of roots) 0 (records_of h) in
    let end = list_room (length (list_of roots h)) room in
    let whole = ask (whole_table Holdings (length h)) 1 0 0 in
    let p = clear (export_checks roots h room) r.0 in
    let q = pass_right (root_checks roots) (whole ∷ (records ++ end)) p in (
      record {
        table = unclear (root_checks roots) (pass_left (root_checks roots) (whole ∷ (records ++ end)) p);
        whole = q.0;
        records = records_taken (roots_of roots) 0 (records_of h) (pass_left records end q.1);
      },
      r.1,
    )

pub clear_export : (roots h : List ℕ) (room : ℕ) → Exports roots h → length (list_of roots h) ≤ room → export_call roots h room ≡ Ok (length (list_of roots h))
unfolding export_call export_checks list_room first_of
clear_export roots h room i r =
    rw (
      first_then _ _ i.table,
      i.whole,
      first_then _ _ (unclear (record_checks (roots_of roots) 0 (records_of h)) (taken_records (roots_of roots) 0 (records_of h) i.records)),
      le-leb (length (list_of roots h)) room r,
    )

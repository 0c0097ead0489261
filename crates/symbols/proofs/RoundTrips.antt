-- 'Round trips hold both ways': what is exported is imported as it was, and what is imported is exported as it was.
use Prim.Native.Nat.{ℕ, ◌*◌, ◌/◌, ◌%◌, ◌≤◌, ◌<◌}
use mathlib.Core.Path.{◌≡◌, refl, sym, ap, ◌∙◌}
use mathlib.Core.Bool.{true, false, not, ◌&&◌, and-eq-true_iff}
use mathlib.Core.List.{List, [], ◌∷◌, map, flatten}
use native.Mathlib.Omega.{arith}
use lib.Dec.{eqb}
use lib.ListN.{length, get_or, length-map}
use borrow.Author.Tests.{ltb-true, lt-ltb, eqb-false, eq-eqb, le-leb, not-true}
use Rattle.records.specs.Bytes.{AllBytes, zero_in}
use Rattle.records.specs.Chunks.{records_of}
use Rattle.records.specs.Legs.{leg_of, leg_bytes, in_range, good_leg, is_paid}
use Rattle.records.specs.Lists.{All}
use Rattle.records.specs.Tables.{good_record, whole_table, good_unpaid}
use Rattle.records.specs.declared.legs.Leg.{Leg}
use Rattle.records.specs.declared.tables.Kind.TheVariants.{Holdings}
use Rattle.records.proofs.ChunkLaws.{length_chunks, chunks_each}
use Rattle.records.proofs.JoinLaws.{join_cut, records_joined}
use Rattle.records.proofs.LegLaws.{leg_back, leg_good, length_leg_bytes}
use Rattle.records.proofs.ListLaws.{map_all, every}
use Rattle.records.proofs.TableLaws.{ranges, whole}
use Rattle.symbols.specs.Calls.{place_of_line, known_root, leg_of_line, records_for, holdings_of, place_of_record, known_terms, line_of_record, lines_for, list_of}
use Rattle.symbols.specs.Demands.{ImportOfExport, ExportOfImport, OneList}
use Rattle.symbols.specs.Lines.{lines_of, root_in, line_says, line_leg, line_text}
use Rattle.symbols.specs.Roots.{roots_of, name_of, terms_of, leg_terms}
use Rattle.symbols.proofs.AnswerLaws.{records_length}
use Rattle.symbols.proofs.ApartLaws.{name_place, terms_place, root_name, root_terms, name_found, terms_found}
use Rattle.symbols.proofs.ClearLaws.{TakenLine, TakenRecord, Imports, Exports, import_clear, clear_import, export_clear, clear_export}
use Rattle.symbols.proofs.ReadLaws.{read_back, leg_sound}
use Rattle.symbols.proofs.WrittenLaws.{Written, written}
use Rattle.records.proofs.RecordLaws.{record_back}
use Rattle.symbols.proofs.RootLaws.{GoodRoots, roots_good}
use Rattle.symbols.proofs.SplitLaws.{Ended, lines_cut, lines_joined}

module _ (t : List ℕ) (g : GoodRoots t) where
  abbrev roots : List (List ℕ)
  roots = roots_of t

  -- ---- a record exported and imported

  module _ (x : List ℕ) (taken : TakenRecord roots x) where
    abbrev place : ℕ
    place = place_of_record roots x

    abbrev entry : List ℕ
    entry = get_or roots place []

    abbrev text : List ℕ
    text = line_of_record roots x

    found : place < length roots
    unfolding known_terms
    found = ltb-true place (length roots) taken.known

    good_leg_lem : good_leg 0 x ≡ true
    unfolding good_unpaid
    good_leg_lem = ((and-eq-true_iff (good_record Holdings x) (not (is_paid (leg_of x)))).0 taken.good).0

    in_range_lem : in_range 0 (leg_of x) ≡ true
    unfolding good_leg
    in_range_lem =
        let p = (and-eq-true_iff (eqb (length x) 32) (in_range 0 (leg_of x) && zero_in x 26 31)).0 good_leg_lem in
        ((and-eq-true_iff (in_range 0 (leg_of x)) (zero_in x 26 31)).0 p.1).0

    unpaid : (leg_of x).paid ≡ 0
    unfolding good_unpaid
    unpaid =
        let q = not-true (is_paid (leg_of x)) ((and-eq-true_iff (good_record Holdings x) (not (is_paid (leg_of x)))).0 taken.good).1 in
        let n = eqb-false (leg_of x).paid 1 q in
        omega (arith, (ranges 0 (leg_of x) in_range_lem).paid)

    line : Written (name_of entry) (leg_of x)
    line = written (name_of entry) (leg_of x) (root_name t g place found) in_range_lem unpaid

    text_is : line_text (name_of entry) (leg_of x) ≡ text
    unfolding line_of_record
    text_is = refl

    same_place : place_of_line roots text ≡ place
    unfolding place_of_line
    same_place = rw (← text_is, line.root) (name_place t g place found)

    pub line_again : TakenLine roots text
    unfolding known_root
    line_again =
        record {
          formed = rw text_is at line.formed;
          said = rw text_is at line.said;
          known = rw same_place (lt-ltb place (length roots) found);
        }

    pub ends_again : Ended text
    ends_again = rw text_is at line.ends

    same_terms_lem : terms_of entry ≡ leg_terms (leg_of x)
    unfolding place_of_record
    same_terms_lem = terms_found (leg_terms (leg_of x)) roots found

    leg_again : leg_of_line roots text ≡ leg_of x
    unfolding leg_of_line
    leg_again = rw (same_place, same_terms_lem) (rw text_is at line.leg)

    pub bytes_again : AllBytes x → leg_bytes (leg_of_line roots text) ≡ x
    bytes_again a = rw leg_again (record_back 0 x a good_leg_lem)

  -- all of them
  records_again : (rs : List (List ℕ)) → All (TakenRecord roots) rs → All AllBytes rs → records_for roots (map (line_of_record roots) rs) ≡ flatten rs
  unfolding records_for flatten
  records_again [] a b = refl
  records_again (x ∷ rs) a b = rw (bytes_again x a.0 b.0, records_again rs a.1 b.1)

  -- ---- a line imported and exported

  module _ (xs : List ℕ) (taken : TakenLine roots xs) where
    abbrev at : ℕ
    at = place_of_line roots xs

    abbrev root : List ℕ
    root = get_or roots at []

    abbrev leg : Leg
    leg = leg_of_line roots xs

    known : at < length roots
    unfolding known_root
    known = ltb-true at (length roots) taken.known

    sound : in_range 0 leg ≡ true
    unfolding leg_of_line
    sound = leg_sound (terms_of root) xs (root_terms t g at known) taken.said

    read : leg_of (leg_bytes leg) ≡ leg
    read = leg_back leg

    not_paid : is_paid leg ≡ false
    unfolding leg_of_line line_leg
    not_paid = refl

    terms_kept : leg_terms leg ≡ terms_of root
    unfolding leg_of_line line_leg leg_terms
    terms_kept = refl

    place_again : place_of_record roots (leg_bytes leg) ≡ at
    unfolding place_of_record
    place_again = rw (read, terms_kept) (terms_place t g at known)

    pub record_again : TakenRecord roots (leg_bytes leg)
    unfolding known_terms good_unpaid
    record_again =
        record {
          good = rw (leg_good 0 leg sound, read, not_paid);
          known = rw place_again (lt-ltb at (length roots) known);
        }

    name_kept : name_of root ≡ root_in xs
    unfolding place_of_line
    name_kept = name_found (root_in xs) roots known

    leg_is : leg ≡ line_leg (terms_of root) (line_says xs)
    unfolding leg_of_line
    leg_is = refl

    pub text_again : line_of_record roots (leg_bytes leg) ≡ xs
    unfolding line_of_record
    text_again = rw (place_again, read, name_kept, leg_is) (read_back xs (terms_of root) taken.formed)

    pub line_leg_again : leg_of (leg_bytes leg) ≡ leg
    line_leg_again = read

    pub line_unpaid : (leg_of (leg_bytes leg)).paid ≡ 0
    unfolding leg_of_line line_leg
    line_unpaid = rw read

  lines_again : (ls : List (List ℕ)) → All (TakenLine roots) ls → lines_for roots (map (λ xs. leg_bytes (leg_of_line roots xs)) ls) ≡ flatten ls
  unfolding lines_for flatten
  lines_again [] a = refl
  lines_again (xs ∷ ls) a = rw (text_again xs a.0, lines_again ls a.1)

-- ---- the two calls

holdings_joined : (h : List ℕ) → whole_table Holdings (length h) ≡ true → flatten (records_of h) ≡ h
holdings_joined h w = let q = whole Holdings (length h) w in join_cut 32 (length h / 32) h (omega arith)

-- the lines of what is exported
module _ (t h : List ℕ) (x : Exports t h) where
  pub exported_lines : lines_of (list_of t h) ≡ map (line_of_record (roots_of t)) (records_of h)
  unfolding list_of lines_for
  exported_lines =
      lines_cut (map (line_of_record (roots_of t)) (records_of h))
      (map_all (line_of_record (roots_of t)) Ended (TakenRecord (roots_of t)) (records_of h) (ends_again t (roots_good t x.table)) x.records)

pub import_of_export : ImportOfExport
unfolding holdings_of
import_of_export t h a room n e =
    let x = (export_clear t h room n e).0 in
    let g = roots_good t x.table in
    let w = whole Holdings (length h) x.whole in
    let rs = records_of h in
    let c : length rs ≡ length h / 32 = length_chunks 32 (length h / 32) h in
    let lines = exported_lines t h x in
    let count : length (lines_of (list_of t h)) ≡ length h / 32 = rw (lines, length-map) c in
    let i : Imports t (list_of t h) = record {
      table = x.table;
      lines = rw lines (map_all (line_of_record (roots_of t)) (TakenLine (roots_of t)) (TakenRecord (roots_of t)) rs (line_again t g) x.records);
      few = omega arith;
    } in (
      λ table k. clear_import t (list_of t h) table i (omega arith) ∙ rw count,
      rw lines (records_again t g rs x.records (chunks_each (λ b. b < 256) 32 (length h / 32) h a) ∙ holdings_joined h x.whole),
    )

-- the records that import makes of a list
module _ (t list : List ℕ) (i : Imports t list) where
  abbrev made : List (List ℕ)
  made = map (λ xs. leg_bytes (leg_of_line (roots_of t) xs)) (lines_of list)

  pub made_records : records_of (holdings_of t list) ≡ made
  unfolding holdings_of records_for
  made_records =
      records_joined made
      (map_all (λ xs. leg_bytes (leg_of_line (roots_of t) xs)) (λ r. length r ≡ 32) (λ xs. Unit {0}) (lines_of list) (λ xs u. length_leg_bytes (leg_of_line (roots_of t) xs))
      (every (lines_of list) (λ xs. tt)))

  pub made_taken : All (TakenRecord (roots_of t)) (records_of (holdings_of t list))
  made_taken =
      rw made_records
      (map_all (λ xs. leg_bytes (leg_of_line (roots_of t) xs)) (TakenRecord (roots_of t)) (TakenLine (roots_of t)) (lines_of list) (record_again t (roots_good t i.table)) i.lines)

  pub made_length : length (holdings_of t list) ≡ 32 * length (lines_of list)
  unfolding holdings_of
  made_length = records_length (roots_of t) (lines_of list)

  pub made_whole : whole_table Holdings (length (holdings_of t list)) ≡ true
  made_whole =
      let f = i.few in
      let m : length (holdings_of t list) % 32 ≡ 0 = omega (arith, made_length) in
      let d : length (holdings_of t list) / 32 ≤ 256 = omega (arith, made_length) in
      rw (eq-eqb (length (holdings_of t list) % 32) 0 m, le-leb (length (holdings_of t list) / 32) 256 d)

  pub made_list : list_of t (holdings_of t list) ≡ list
  unfolding list_of
  made_list = rw made_records (lines_again t (roots_good t i.table) (lines_of list) i.lines ∙ lines_joined list)

  pub made_exports : Exports t (holdings_of t list)
  made_exports = record { table = i.table; whole = made_whole; records = made_taken }

pub export_of_import : ExportOfImport
export_of_import t list room n e =
    let i = (import_clear t list room n e).0 in
    let q = made_list t list i in
    (λ text k. clear_export t (holdings_of t list) text (made_exports t list i) (rw q k) ∙ rw q, q)

pub one_list : OneList
one_list t a b room n table m e f q = sym (export_of_import t a room n e).1 ∙ ap (list_of t) q ∙ (export_of_import t b table m f).1

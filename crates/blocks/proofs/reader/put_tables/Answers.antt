use Rattle.std.specs.Prelude.{Result, Ok, Err}
use Rattle.std.proofs.Common.{◌≡◌, ◌<◌, ◌≤◌, Bool, true, false, cond, ℕ, List, [], ◌∷◌, refl, ap, sym, ◌∙◌, length, arith}
use lib.Dec.{leb}
use borrow.Author.Tests.{leb-true, leb-false}
use Rattle.records.specs.Order.{refuse, ask, first_of}
use Rattle.records.specs.Tables.{table_number}
use Rattle.records.specs.declared.refusals.Refusal.{Refusal}
use Rattle.records.specs.declared.tables.Kind.{Kind}
use Rattle.records.specs.declared.tables.Kind.TheVariants.{Holdings, Placement, Claims}
use Rattle.records.proofs.ErrorLaws.{handed_on}
use Rattle.blocks.specs.File.{tables_of, tables_in, origin_in}
use Rattle.blocks.specs.Reader.{reading, read_checks, counts_of}
use Rattle.blocks.specs.declared.answers.Reading.{Reading}
use Rattle.blocks.specs.declared.forms.Origin.{Origin}
use Rattle.blocks.proofs.ReadLaws.{TableBytes, read_bytes, ByRoom, by_room}
use Rattle.blocks.proofs.reader.put_tables.Goals as goal

-- what was found in a file, as the function is asked for it
module _ (f : List ℕ) (r : Reading) (good : first_of (read_checks f) ≡ Ok tt) (e : r ≡ reading (counts_of (tables_in f)) (origin_in f)) where
  bytes : TableBytes f r.counts
  bytes = read_bytes f r.counts good (ap (λ (x : Reading). x.counts) e)

  answer : (h p c : ℕ) → ByRoom f h p c r.counts
  answer h p c = by_room f h p c r.counts good (ap (λ (x : Reading). x.counts) e)

one_err : (q : Bool) (x r : Refusal) → ◌≡◌ {A = Result Unit Refusal} (cond q (Ok tt) (Err x)) (Err r) → (q ≡ false) × (r ≡ x)
one_err true x r e = absurd (let z : ◌≡◌ {A = ℕ} 0 1 = cc in omega arith)
one_err false x r e = (refl, cc)

one_ok : (q : Bool) (x : Refusal) → ◌≡◌ {A = Result Unit Refusal} (cond q (Ok tt) (Err x)) (Ok tt) → q ≡ true
one_ok true x e = refl
one_ok false x e = absurd (let z : ◌≡◌ {A = ℕ} 0 1 = cc in omega arith)

-- a table that is asked for its room
module _ (kind : Kind) (needed bytes : ℕ) {x : Result Unit Refusal} (e : x ≡ first_of (ask (leb needed bytes) 17 (table_number kind) needed ∷ [])) where
  short : (r : Refusal) → x ≡ Err r → (bytes < needed) × (r ≡ refuse 17 (table_number kind) needed)
  unfolding first_of
  short r w =
      let s = one_err (leb needed bytes) (refuse 17 (table_number kind) needed) r (sym e ∙ w) in
      (leb-false needed bytes s.0, s.1)

  fits : x ≡ Ok tt → needed ≤ bytes
  unfolding first_of
  fits w = leb-true needed bytes (one_ok (leb needed bytes) (refuse 17 (table_number kind) needed) (sym e ∙ w))

pub overflow_mul-counts : goal.overflow_mul-counts
overflow_mul-counts c = omega (arith, (bytes _ _ c.requires.file_value c.requires.found_value).holdings.1)

pub overflow_mul-counts-2 : goal.overflow_mul-counts-2
overflow_mul-counts-2 c = omega (arith, (bytes _ _ c.requires.file_value c.requires.found_value).placement.1)

pub overflow_mul-counts-3 : goal.overflow_mul-counts-3
overflow_mul-counts-3 c = omega (arith, (bytes _ _ c.requires.file_value c.requires.found_value).claims.1)

pub returns-in_err-room_for-clause-value : goal.returns-in_err-room_for-clause-value
returns-in_err-room_for-clause-value c =
    let a = answer _ _ c.requires.file_value c.requires.found_value (length c.args.holdings.now) (length c.args.placement.now) (length c.args.claims.now) in
    let s = short Holdings _ _ c.room_for.ensures _ c.in_err-room_for.was in
    handed_on _ c.in_err-room_for.field-0.0 c.from_residual.ensures.1 ∙ ap Err s.1 ∙ sym (a.short_1 s.0)

pub returns-in_err-room_for-2-clause-value : goal.returns-in_err-room_for-2-clause-value
returns-in_err-room_for-2-clause-value c =
    let a = answer _ _ c.requires.file_value c.requires.found_value (length c.args.holdings.now) (length c.args.placement.now) (length c.args.claims.now) in
    let h = fits Holdings _ _ c.room_for.ensures c.in_ok-room_for.was in
    let s = short Placement _ _ c.room_for-2.ensures _ c.in_err-room_for-2.was in
    handed_on _ c.in_err-room_for-2.field-0.0 c.from_residual-in_err-room_for-2.ensures.1 ∙ ap Err s.1 ∙ sym (a.short_2 h s.0)

pub returns-in_err-room_for-3-clause-value : goal.returns-in_err-room_for-3-clause-value
returns-in_err-room_for-3-clause-value c =
    let a = answer _ _ c.requires.file_value c.requires.found_value (length c.args.holdings.now) (length c.args.placement.now) (length c.args.claims.now) in
    let h = fits Holdings _ _ c.room_for.ensures c.in_ok-room_for.was in
    let p = fits Placement _ _ c.room_for-2.ensures c.in_ok-room_for-2.was in
    let s = short Claims _ _ c.room_for-3.ensures _ c.in_err-room_for-3.was in
    handed_on _ c.in_err-room_for-3.field-0.0 c.from_residual-in_err-room_for-3.ensures.1 ∙ ap Err s.1 ∙ sym (a.short_3 h p s.0)

pub copy_kind-requires : goal.copy_kind-requires
unfolding tables_in tables_of
copy_kind-requires c =
    omega (arith, (bytes _ _ c.requires.file_value c.requires.found_value).holdings.0, fits Holdings _ _ c.room_for.ensures c.in_ok-room_for.was)

pub copy_kind-requires-2 : goal.copy_kind-requires-2
unfolding tables_in tables_of
copy_kind-requires-2 c =
    omega (arith, (bytes _ _ c.requires.file_value c.requires.found_value).placement.0, fits Placement _ _ c.room_for-2.ensures c.in_ok-room_for-2.was)

pub copy_kind-requires-3 : goal.copy_kind-requires-3
unfolding tables_in tables_of
copy_kind-requires-3 c =
    omega (arith, (bytes _ _ c.requires.file_value c.requires.found_value).claims.0, fits Claims _ _ c.room_for-3.ensures c.in_ok-room_for-3.was)

pub returns : goal.returns
unfolding tables_in tables_of
returns c =
    let a = answer _ _ c.requires.file_value c.requires.found_value (length c.args.holdings.now) (length c.args.placement.now) (length c.args.claims.now) in
    let h = fits Holdings _ _ c.room_for.ensures c.in_ok-room_for.was in
    let p = fits Placement _ _ c.room_for-2.ensures c.in_ok-room_for-2.was in
    let l = fits Claims _ _ c.room_for-3.ensures c.in_ok-room_for-3.was in
    record {
      value =
          ap (λ (o : Origin). Ok (reading c.args.found.counts o)) (ap (λ (x : Reading). x.origin) c.requires.found_value)
          ∙ sym (a.done h p l);
      holdings_after = c.copy_kind.ensures;
      placement_after = c.copy_kind-2.ensures;
      claims_after = c.copy_kind-3.ensures;
    }

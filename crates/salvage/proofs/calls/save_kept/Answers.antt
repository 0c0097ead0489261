use Rattle.std.proofs.Common.{◌≡◌, ℕ, List, Bool, sym, ◌∙◌, arith}
use Rattle.records.specs.Tables.{whole_tables}
use Rattle.records.specs.declared.tables.Kind.TheVariants.{Holdings, Placement, Claims}
use Rattle.blocks.specs.declared.forms.Origin.{Origin}
use Rattle.blocks.specs.File.{blocks_of, tables_in, table_of, within_limits}
use Rattle.salvage.specs.Steps.AllKept.{AllKept}
use Rattle.salvage.proofs.KeptTables.{kept_sound, sized_all}
use Rattle.salvage.proofs.CallLaws.{whole_limits, copied_tables, writes_file, end_3, end_rest}
use Rattle.salvage.proofs.calls.save_kept.Goals as goal
use lib.ListN.{length}

-- what the test says of the kept blocks
tested : (lead : Origin) (kept : List ℕ) (h p c : ℕ) (x y : Bool) → AllKept lead (blocks_of kept)
    → h ≡ length (table_of Holdings (tables_in kept)) → p ≡ length (table_of Placement (tables_in kept)) → c ≡ length (table_of Claims (tables_in kept))
    → x ≡ whole_tables h p c → x ≡ y → within_limits (blocks_of kept) ≡ y
tested lead kept h p c x y all eh ep ec e is =
    sym (whole_limits kept h p c (sized_all (blocks_of kept) (kept_sound lead (blocks_of kept) all)) eh ep ec) ∙ sym e ∙ is

pub returns-then-not-whole_tables-clause-value : goal.returns-then-not-whole_tables-clause-value
returns-then-not-whole_tables-clause-value c =
    let a = c.args in
    let over = tested a.lead a.kept.now _ _ _ _ _ c.requires.all_kept.0 c.copy_table-h.ensures.value c.copy_table-p.ensures.value
    c.copy_table-c.ensures.value c.whole_tables.ensures c.if-not-whole_tables.true in
    rw (c.refused.ensures, end_3 (blocks_of a.kept.now) _ _ _ _ _ over)

pub put_saved-requires-clause-claims_value : goal.put_saved-requires-clause-claims_value
put_saved-requires-clause-claims_value c =
    let a = c.args in
    let h = c.copy_table-h.ensures in
    let p = c.copy_table-p.ensures in
    let k = c.copy_table-c.ensures in
    let within = tested a.lead a.kept.now _ _ _ _ _ c.requires.all_kept.0 h.value p.value k.value c.whole_tables.ensures c.if-not-whole_tables.false in
    let same = copied_tables a.kept.now _ _ _ _ _ _ _ _ _ (sym c.whole_tables.ensures ∙ c.if-not-whole_tables.false) h.value p.value k.value
    h.table_after p.table_after k.table_after (omega arith) (omega arith) (omega arith) in
    rw same (writes_file a.lead a.kept.now c.requires.all_kept.0 c.requires.all_kept.1 within)

pub returns : goal.returns
returns c =
    let a = c.args in
    let h = c.copy_table-h.ensures in
    let p = c.copy_table-p.ensures in
    let k = c.copy_table-c.ensures in
    let within = tested a.lead a.kept.now _ _ _ _ _ c.requires.all_kept.0 h.value p.value k.value c.whole_tables.ensures c.if-not-whole_tables.false in
    let same = copied_tables a.kept.now _ _ _ _ _ _ _ _ _ (sym c.whole_tables.ensures ∙ c.if-not-whole_tables.false) h.value p.value k.value
    h.table_after p.table_after k.table_after (omega arith) (omega arith) (omega arith) in
    let s = c.put_saved.ensures in
    record {
      value = rw (end_rest (blocks_of a.kept.now) _ _ _ _ _ within) (rw same at s.value);
      out_after = rw same at s.out_after;
      indices_after = s.indices_after;
      numbers_after = s.numbers_after;
    }

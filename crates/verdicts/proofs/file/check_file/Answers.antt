use Rattle.std.proofs.Common.{◌≡◌, ℕ, ◌≤◌, sym, ◌∙◌, true, arith, ◌*◌}
use Rattle.verdicts.proofs.FileVerdicts.{file_refused, has_records, file_bytes_lem}
use mathlib.Core.Bool.{◌&&◌, and-eq-true_iff}
use lib.Dec.{leb}
use borrow.Author.Tests.{leb-true}
use Rattle.verdicts.proofs.file.check_file.Goals as goal

few : (h p c : ℕ) → (leb h 15 && leb p 15 && leb c 15) ≡ true → (h ≤ 15) × (p ≤ 15) × (c ≤ 15)
few h p c e =
    let x = (and-eq-true_iff (leb h 15 && leb p 15) (leb c 15)).0 e in
    let y = (and-eq-true_iff (leb h 15) (leb p 15)).0 x.0 in
    (leb-true h 15 y.0, leb-true p 15 y.1, leb-true c 15 x.1)

pub returns-in-Err : goal.returns-in-Err
returns-in-Err c = file_refused c.args.file.now _ (sym c.scan_file.ensures ∙ c.in-Err.is)

pub invariant_of-scanned : goal.invariant_of-scanned
invariant_of-scanned c = record { has_records = has_records _ _ _ (sym c.scan_file.ensures ∙ c.in-Ok.is) }

pub invariant_of-scanned-else-counts : goal.invariant_of-scanned-else-counts
invariant_of-scanned-else-counts c = record { has_records = has_records _ _ _ (sym c.scan_file.ensures ∙ c.in-Ok.is) }

pub check_with-requires-clause-has_room : goal.check_with-requires-clause-has_room
check_with-requires-clause-has_room c =
    let n = c.in-Ok.found.counts in
    let f = few n.holdings n.placement n.claims c.if-counts.true in
    let h : 32 * n.holdings ≤ 480 = omega arith in
    let p : 32 * n.placement ≤ 480 = omega arith in
    let q : 32 * n.claims ≤ 480 = omega arith in
    (h, p, q)

pub check_with-requires-else-counts-clause-has_room : goal.check_with-requires-else-counts-clause-has_room
check_with-requires-else-counts-clause-has_room c =
    let b = file_bytes_lem c.args.file.now _ (has_records _ _ _ (sym c.scan_file.ensures ∙ c.in-Ok.is)) in
    (b.holdings.1, b.placement.1, b.claims.1)

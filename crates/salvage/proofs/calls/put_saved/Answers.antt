use Rattle.std.specs.Prelude.{Result, ℕ}
use Rattle.std.proofs.Common.{◌≡◌, sym, ap, ◌∙◌, length, arith}
use lib.Seq.{length-take-le}
use Rattle.records.specs.Written.{left_after}
use Rattle.records.specs.declared.refusals.Refusal.{Refusal}
use Rattle.records.proofs.ErrorLaws.{handed_on}
use Rattle.blocks.specs.File.{tables, file_of}
use Rattle.blocks.specs.Writer.{has_written}
use Rattle.blocks.proofs.Laws.{length_file, file_bytes_lem, write_done}
use Rattle.salvage.proofs.CallLaws.{room_pass, put_first}
use Rattle.salvage.proofs.calls.put_saved.Goals as goal

pub returns-in_err-room_fault : goal.returns-in_err-room_fault
returns-in_err-room_fault c =
    let a = c.args in
    let t = tables a.holdings.now a.placement.now a.claims.now in
    let need : c.file_bytes-need.result ≡ length (file_of a.lead t) = c.file_bytes-need.ensures ∙ file_bytes_lem a.lead t c.requires.claims_value in
    let fault = rw need at (sym c.room_fault.ensures ∙ c.in_err-room_fault.was) in
    let e = handed_on c.from_residual.result c.in_err-room_fault.field-0.0 c.from_residual.ensures.1 in
    record { value = e ∙ rw fault; out_after = rw e; indices_after = rw e; numbers_after = rw e }

pub copy_indices-requires : goal.copy_indices-requires
copy_indices-requires c = (room_pass _ _ _ _ _ (sym c.room_fault.ensures ∙ c.in_ok-room_fault.was)).1

pub slice_bounds-copy_from_slice-end : goal.slice_bounds-copy_from_slice-end
slice_bounds-copy_from_slice-end c = (room_pass _ _ _ _ _ (sym c.room_fault.ensures ∙ c.in_ok-room_fault.was)).2

pub slice_bounds-copy_from_slice-end-2 : goal.slice_bounds-copy_from_slice-end-2
slice_bounds-copy_from_slice-end-2 c =
    sym (length-take-le _ _ (room_pass _ _ _ _ _ (sym c.room_fault.ensures ∙ c.in_ok-room_fault.was)).2)

pub copy_from_slice-requires : goal.copy_from_slice-requires
copy_from_slice-requires c =
    length-take-le _ _ (room_pass _ _ _ _ _ (sym c.room_fault.ensures ∙ c.in_ok-room_fault.was)).2 ∙ sym c.requires.reasons_len

pub returns : goal.returns
returns c =
    let a = c.args in
    let t = tables a.holdings.now a.placement.now a.claims.now in
    let out = a.out.now in
    let need : c.file_bytes-need.result ≡ length (file_of a.lead t) = c.file_bytes-need.ensures ∙ file_bytes_lem a.lead t c.requires.claims_value in
    let pass = rw need at (sym c.room_fault.ensures ∙ c.in_ok-room_fault.was) in
    let done = write_done a.lead t (length out) c.requires.claims_value (omega (arith, (room_pass _ _ _ _ _ pass).0, length_file a.lead t)) in
    record {
      value = rw (pass, need);
      out_after = c.write_file.ensures.1 ∙ ap (λ (r : Result ℕ Refusal). left_after (has_written r) (file_of a.lead t) out) (c.write_file.ensures.0 ∙ done);
      indices_after = c.copy_indices.ensures;
      numbers_after = rw c.copy_from_slice.ensures.after (put_first a.numbers.now a.reasons.now (length a.dropped.now) (sym c.requires.reasons_len));
    }

-- What a move answers in each case.
use Rattle.std.specs.Prelude.{Ok, Err}
use mathlib.Core.Path.{◌≡◌, refl, sym, ◌∙◌}
use mathlib.Core.Bool.{true, false}
use mathlib.Core.List.{List, [], ◌∷◌, ◌++◌, append_assoc}
use Prim.Native.Nat.{ℕ}
use native.Mathlib.Omega.{arith}
use lib.ListN.{length}
use Rattle.records.specs.Order.{Check, refuse, ask, first_of}
use Rattle.records.specs.declared.refusals.Refusal.{Refusal}
use Rattle.records.specs.declared.tables.Kind.TheVariants.{Holdings, Placement, Claims}
use Rattle.records.proofs.OrderLaws.{first_then, first_stop}
use Rattle.records.proofs.PassLaws.{clear, unclear, pass_left, pass_right}
use Rattle.blocks.specs.Forms.{named, same_form}
use Rattle.blocks.specs.File.{whole_file, tables_in, origin_in}
use Rattle.blocks.specs.Writer.{write_checks, write_room, write_call}
use Rattle.blocks.specs.Reader.{read_checks, read_call}
use Rattle.blocks.specs.Steps.Bounds.{most_table_bytes}
use Rattle.blocks.specs.Moves.{moved_to, move_checks, move_call}
use denote.Enum.Bare.{sameb}
use Rattle.blocks.specs.contracts.forms.Form.{the_type}
use Rattle.blocks.specs.declared.forms.Form.{Form}
use Rattle.blocks.specs.declared.forms.Form.TheVariants.{Old, New}
use Rattle.blocks.specs.declared.forms.Origin.{Origin}
use Rattle.blocks.proofs.ReadLaws.{judged_refused}
use Rattle.blocks.proofs.TablesFit.{read_roomy}
use Rattle.blocks.proofs.ReadThenWritten.{writes_as}
use Rattle.blocks.proofs.WriteLaws.{writing_wrote}

-- what a derived `==` says of two forms
pub same_form_is : (a b : Form) → sameb the_type a b ≡ same_form a b
same_form_is Old Old = refl
same_form_is Old New = refl
same_form_is New Old = refl
same_form_is New New = refl

module _ (from : Form) (to : Origin) (file : List ℕ) (room : ℕ) where
  pub move_1 : whole_file (length file) ≡ false → move_call from to file room ≡ Err (refuse 1 0 0)
  unfolding move_call move_checks first_of
  move_1 e = rw e

  pub move_20 : whole_file (length file) ≡ true → named to.form to.account ≡ false → move_call from to file room ≡ Err (refuse 20 0 0)
  unfolding move_call move_checks first_of
  move_20 w e = rw (w, e)

  -- what is asked at the end: the form, and the room
  abbrev ending : List Check
  ending = ask (same_form (origin_in file).form from) 3 0 0 ∷ write_room (length (moved_to to file)) room

  module _ (w : whole_file (length file) ≡ true) (k : named to.form to.account ≡ true) where
    after : first_of (move_checks from to file ++ write_room (length (moved_to to file)) room) ≡ first_of (read_checks file ++ ending)
    unfolding move_checks first_of
    after = rw (w, k, append_assoc (read_checks file) (ask (same_form (origin_in file).form from) 3 0 0 ∷ []) (write_room (length (moved_to to file)) room))

    pub move_refused : (r : Refusal) → first_of (read_checks file) ≡ Err r → move_call from to file room ≡ Err r
    unfolding move_call
    move_refused r e = rw (after, first_stop (read_checks file) ending r e)

    module _ (e : first_of (read_checks file) ≡ Ok tt) where
      pub move_3 : same_form (origin_in file).form from ≡ false → move_call from to file room ≡ Err (refuse 3 0 0)
      unfolding move_call first_of
      move_3 h = rw (after, first_then (read_checks file) ending e, h)

      pub move_written : same_form (origin_in file).form from ≡ true → move_call from to file room ≡ write_call to (tables_in file) room
      unfolding move_call write_call first_of
      move_written h =
          rw (
            after,
            first_then (read_checks file) ending e,
            h,
            first_then (write_checks to (tables_in file)) (write_room (length (moved_to to file)) room) (writes_as file e to k),
          )

  -- what was moved had no refusal
  pub move_wrote : (n : ℕ) → move_call from to file room ≡ Ok n
      → (named to.form to.account ≡ true) × (first_of (read_checks file) ≡ Ok tt) × (same_form (origin_in file).form from ≡ true)
      × (length (moved_to to file) ≡ n)
  unfolding move_call move_checks
  move_wrote n e =
      let last = write_room (length (moved_to to file)) room in
      let form = ask (same_form (origin_in file).form from) 3 0 0 ∷ [] in
      let w = writing_wrote (first_of (move_checks from to file ++ last)) (length (moved_to to file)) n e in
      let p = pass_left (move_checks from to file) last (clear (move_checks from to file ++ last) w.0) in
      (p.1.0, unclear (read_checks file) (pass_left (read_checks file) form p.1.1), (pass_right (read_checks file) form p.1.1).0, w.1)

-- ---- by the reader's answer for tables that have room for every sheet

pub move_unread : (from : Form) (to : Origin) (file : List ℕ) (room : ℕ) → whole_file (length file) ≡ true → named to.form to.account ≡ true
    → (r : Refusal) → read_call file (most_table_bytes Holdings) (most_table_bytes Placement) (most_table_bytes Claims) ≡ Err r → move_call from to file room ≡ Err r
move_unread from to file room w k r e =
    move_refused from to file room w k r
    (judged_refused file r (sym (read_roomy file (most_table_bytes Holdings) (most_table_bytes Placement) (most_table_bytes Claims) (omega arith) (omega arith) (omega arith)) ∙ e))

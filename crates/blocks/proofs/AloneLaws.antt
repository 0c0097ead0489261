-- What a block by itself is refused with, test by test.
use Rattle.std.specs.Prelude.{Ok, Err}
use mathlib.Core.Path.{◌≡◌, ap}
use mathlib.Core.Bool.{true, false}
use mathlib.Core.List.{List, [], ◌∷◌}
use Prim.Native.Nat.{ℕ, ◌/◌}
use native.Mathlib.Omega.{arith}
use lib.Dec.{eqb}
use lib.ListN.{length}
use lib.Seq.{take_all}
use borrow.Author.Tests.{eq-eqb}
use Rattle.records.specs.Chunks.{chunks}
use Rattle.records.specs.Order.{refuse, ask, first_of}
use Rattle.records.specs.declared.refusals.Refusal.{Refusal}
use Rattle.records.proofs.OrderLaws.{first_then, first_stop}
use Rattle.blocks.specs.Forms.{named}
use Rattle.blocks.specs.Block.{origin_of, sums_agree, shaped}
use Rattle.blocks.specs.File.{blocks_of, tables_of, tables_in, fields_of}
use Rattle.blocks.specs.Alone.{own_tables, alone_checks, alone_call}
use Rattle.blocks.specs.Steps.Bounds.{Sized}
use Rattle.blocks.proofs.BlockLaws.{shape_is}

-- ---- a block as a file of its own

pub one_block : (b : List ℕ) → length b ≡ 512 → blocks_of b ≡ b ∷ []
unfolding chunks
one_block b e =
    let n : length b / 512 ≡ 1 = omega arith in
    rw (n, take_all 512 b (omega arith))

pub own_tables_lem : (b : List ℕ) → length b ≡ 512 → tables_in b ≡ own_tables b
unfolding tables_in
own_tables_lem b e = ap tables_of (one_block b e)

-- a block that is shaped has its size
pub shaped_sized : (b : List ℕ) → length b ≡ 512 → shaped (origin_of b).form b ≡ true → Sized b
shaped_sized b e s = record { size = e; few = (shape_is (origin_of b).form b s).head.count.1 }

-- ---- its refusals

pub alone_torn : (b : List ℕ) → eqb (length b) 512 ≡ false → alone_call b ≡ Err (refuse 1 0 0)
unfolding alone_call alone_checks first_of
alone_torn b e = rw e

module _ (b : List ℕ) (w : length b ≡ 512) where
  whole : eqb (length b) 512 ≡ true
  whole = eq-eqb (length b) 512 w

  pub alone_2 : sums_agree b ≡ false → alone_call b ≡ Err (refuse 2 0 0)
  unfolding alone_call alone_checks first_of
  alone_2 e = rw (whole, e)

  module _ (s : sums_agree b ≡ true) where
    pub alone_3 : shaped (origin_of b).form b ≡ false → alone_call b ≡ Err (refuse 3 0 0)
    unfolding alone_call alone_checks first_of
    alone_3 e = rw (whole, s, e)

    module _ (h : shaped (origin_of b).form b ≡ true) where
      pub alone_4 : (r : Refusal) → first_of (fields_of (own_tables b)) ≡ Err r → alone_call b ≡ Err r
      unfolding alone_call alone_checks first_of
      alone_4 r e =
          let last = ask (named (origin_of b).form (origin_of b).account) 20 0 0 ∷ [] in
          rw (whole, s, h, first_stop (fields_of (own_tables b)) last r e)

      module _ (f : first_of (fields_of (own_tables b)) ≡ Ok tt) where
        pub alone_20 : named (origin_of b).form (origin_of b).account ≡ false → alone_call b ≡ Err (refuse 20 0 0)
        unfolding alone_call alone_checks first_of
        alone_20 e =
            let last = ask (named (origin_of b).form (origin_of b).account) 20 0 0 ∷ [] in
            rw (whole, s, h, first_then (fields_of (own_tables b)) last f, e)

        pub alone_sound : named (origin_of b).form (origin_of b).account ≡ true → alone_call b ≡ Ok (origin_of b)
        unfolding alone_call alone_checks first_of
        alone_sound e =
            let last = ask (named (origin_of b).form (origin_of b).account) 20 0 0 ∷ [] in
            rw (whole, s, h, first_then (fields_of (own_tables b)) last f, e)

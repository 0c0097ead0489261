-- Request [10], 'Salvage a damaged file': a block judged by itself, 'were numbering (bytes 6-9), order, short-block and limit rules
-- set aside'.
use Rattle.std.specs.Prelude.{List, [], ◌∷◌, ◌++◌, ℕ, eqb, length, Result, Ok, Err}
use Rattle.records.specs.Order.{Check, ask, first_of}
use Rattle.blocks.specs.Sizes.{block_bytes}
use Rattle.blocks.specs.Forms.{named}
use Rattle.blocks.specs.Block.{origin_of, sums_agree, shaped}
use Rattle.blocks.specs.File.{Tables, tables_of, fields_of}
use Rattle.blocks.specs.declared.forms.Origin.{Origin}
use Rattle.records.specs.declared.refusals.Refusal.{Refusal}

-- the records of a block by itself: one table has them, the others have none
abbrev pub own_tables : List ℕ → Tables
own_tables b = tables_of (b ∷ [])

-- 'a torn last block as 1'; then '2, 3, 4, 20', each in the form that the block's own mark says, 20 being 'a new-form block with
-- account zero'. Table and place are those within the block.
unfoldable pub alone_checks : List ℕ → List Check
alone_checks b =
    ask (eqb (length b) block_bytes) 1 0 0
    ∷ ask (sums_agree b) 2 0 0
    ∷ ask (shaped (origin_of b).form b) 3 0 0
    ∷ (fields_of (own_tables b)
    ++ (ask (named (origin_of b).form (origin_of b).account) 20 0 0 ∷ []))

-- the first refusal, or the form and the account that the block says
abbrev pub alone_answer : Result Unit Refusal → Origin → Result Origin Refusal
alone_answer (Ok _) o = Ok o
alone_answer (Err r) o = Err r

unfoldable pub alone_call : List ℕ → Result Origin Refusal
alone_call b = alone_answer (first_of (alone_checks b)) (origin_of b)

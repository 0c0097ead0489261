-- What the scan of a file's blocks keeps of those it has seen, and what it answers.
use Rattle.std.specs.Prelude.{ℕ, ◌+◌, ◌≤◌, Bool, true, List, [], Option, None, Some, Result, Ok, Err}
use Rattle.records.specs.Order.{Check, first_of}
use Rattle.records.specs.Tables.{limit_of}
use Rattle.records.specs.declared.tables.Kind.TheVariants.{Holdings, Placement, Claims}
use Rattle.blocks.specs.Block.{kind_of, count_of}
use Rattle.blocks.specs.File.{counted_as, blocks_of, may_follow, in_limits, ask_block, blocks_checks, tables_in, origin_in, frame_in}
use Rattle.blocks.specs.Reader.{read_answer, counts_of}
use Rattle.blocks.specs.declared.forms.Frame.{Frame}
use Rattle.blocks.specs.declared.scanner.Last.{Last}
use Rattle.blocks.specs.declared.scanner.SoFar.{SoFar}
use Rattle.records.specs.declared.refusals.Refusal.{Refusal}
use Rattle.blocks.specs.declared.answers.Reading.{Reading}

-- no block, and no record of any kind
abbrev pub nothing_yet : SoFar
nothing_yet = record { last = None; counts = record { holdings = 0; placement = 0; claims = 0 } }

-- the kind and the count of a block
abbrev pub last : ℕ → ℕ → Last
last kind count = record { kind = kind; count = count }

-- with one block more
abbrev pub grown : SoFar → ℕ → ℕ → SoFar
grown s kind count =
    record {
      last = Some (last kind count);
      counts =
          record {
            holdings = counted_as Holdings kind count + s.counts.holdings;
            placement = counted_as Placement kind count + s.counts.placement;
            claims = counted_as Claims kind count + s.counts.claims;
          };
    }

-- `follows`, of a block of this kind
abbrev pub may_come : Option Last → ℕ → Bool
may_come None kind = true
may_come (Some l) kind = may_follow l.kind l.count kind

-- `within_limits`, of what the scan keeps
abbrev pub small_enough : SoFar → Bool
small_enough s = in_limits s.counts.holdings s.counts.placement s.counts.claims

-- the same as numbers
pub record Small (s : SoFar) : Type 0 where
  pub holdings : s.counts.holdings ≤ limit_of Holdings
  pub placement : s.counts.placement ≤ limit_of Placement
  pub claims : s.counts.claims ≤ limit_of Claims

-- `block_checks`, of what the scan keeps
abbrev pub ask_after : Frame → SoFar → ℕ → List ℕ → List Check
ask_after f s i b = ask_block f i (may_come s.last (kind_of b)) (small_enough (grown s (kind_of b) (count_of b))) b

-- the first refusal, or what the scan keeps with this block
abbrev pub grown_answer : Result Unit Refusal → SoFar → List ℕ → Result SoFar Refusal
grown_answer (Ok tt) s b = Ok (grown s (kind_of b) (count_of b))
grown_answer (Err r) s b = Err r

-- refusals 2, 3 and 20 of the blocks, or what the file has
unfoldable pub scan_of : List ℕ → Result Reading Refusal
scan_of file = read_answer (first_of (blocks_checks (frame_in file) [] (blocks_of file))) (counts_of (tables_in file)) (origin_in file)

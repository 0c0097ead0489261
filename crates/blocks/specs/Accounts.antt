-- Request [6]: what an account's number on every block is for, and what a form leaves alone. The statements; their proofs stand in
-- proofs/Accounts.antt.
use Rattle.std.specs.Prelude.{ℕ, ◌/◌, ◌≤◌, ◌<◌, ◌≡◌, true, List, ◌⊎◌, length, take, Ok, Err}
use Rattle.records.specs.Bytes.{AllBytes}
use Rattle.records.specs.Chunks.{chunk_at}
use Rattle.records.specs.Lists.{All}
use Rattle.records.specs.Order.{refuse}
use Rattle.records.specs.Written.{left_after}
use Rattle.blocks.specs.Sizes.{block_bytes}
use Rattle.blocks.specs.Writer.{has_written}
use Rattle.blocks.specs.Forms.{kept, named, settled}
use Rattle.blocks.specs.Block.{origin_of}
use Rattle.blocks.specs.File.{Tables, whole_file, blocks_of, tables_in, origin_in, file_of}
use Rattle.blocks.specs.Reader.{read_call}
use Rattle.blocks.specs.Moves.{move_call}
use Rattle.blocks.specs.RoundTrips.{Writes, Reads}
use Rattle.blocks.specs.declared.forms.Form.{Form}
use Rattle.blocks.specs.declared.forms.Origin.{Origin}

-- ---- 'A mail tool joined two accounts' blocks.'

-- '.. an account number .., nonzero and equal in all blocks': every block of a file that the reader takes has the form and the account
-- that it answers; the number is not zero in the new form, and is 0 in the old one
abbrev pub OneAccount : Type 0
OneAccount =
    (file : List ℕ) → Reads file
    → All (λ b. origin_of b ≡ origin_in file) (blocks_of file)
    × (named (origin_in file).form (origin_in file).account ≡ true)
    × (kept (origin_in file).form (origin_in file).account ≡ (origin_in file).account)

-- the first k blocks are those of another file, k being not 0
abbrev pub Begins : ℕ → List ℕ → List ℕ → Type 0
Begins k joined one = (1 ≤ k) × ((i : ℕ) → i < k → chunk_at block_bytes joined i ≡ chunk_at block_bytes one i)

-- Of two files that the reader takes, of different forms or accounts: blocks of the one, and then a block of the other, in as many
-- blocks as the first had, are refused at the first block of the other, with 3 or 20.
abbrev pub JoinedRefused : Type 0
JoinedRefused =
    (one other joined : List ℕ) → Reads one → Reads other → (origin_in one ≡ origin_in other → ⊥)
    → length joined ≡ length one
    → (k j : ℕ) → Begins k joined one → k < length joined / block_bytes → j < length other / block_bytes → chunk_at block_bytes joined k ≡ chunk_at block_bytes other j
    → (h p c : ℕ) → (read_call joined h p c ≡ Err (refuse 3 0 k)) ⊎ (read_call joined h p c ≡ Err (refuse 20 0 k))

-- in more blocks than the first had, or fewer, at once: each block says how many there are
abbrev pub JoinedElsewhere : Type 0
JoinedElsewhere =
    (one joined : List ℕ) → Reads one → whole_file (length joined) ≡ true → (length joined / block_bytes ≡ length one / block_bytes → ⊥)
    → (k : ℕ) → Begins k joined one
    → (h p c : ℕ) → read_call joined h p c ≡ Err (refuse 3 0 0)

-- ---- 'all else as before'

-- what is in the tables does not depend on the form and the account that they are written in
abbrev pub FormsAlike : Type 0
FormsAlike = (o q : Origin) (t : Tables) → Writes o t → Writes q t → tables_in (file_of o t) ≡ tables_in (file_of q t)

-- a file that is moved is taken by the reader, with the same tables, in as many bytes, in the form and of the account that it was moved to
abbrev pub MovedAlike : Type 0
MovedAlike =
    (from : Form) (to : Origin) (file out : List ℕ) (n : ℕ) → AllBytes file → move_call from to file (length out) ≡ Ok n
    → (let moved = take n (left_after (has_written (Ok n)) (file_of to (tables_in file)) out) in
    Reads moved × (tables_in moved ≡ tables_in file) × (origin_in moved ≡ settled to) × (n ≡ length file))

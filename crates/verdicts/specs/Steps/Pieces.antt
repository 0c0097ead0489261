-- A piece of a line, as the code writes it.
use Rattle.std.specs.Prelude.{◌≡◌, List, ℕ, ◌+◌, length}
use Rattle.records.specs.Written.{put_at}

-- `text` stands from index `at` on, the rest as it was, and the next index is the one past it
pub record Piece (before : List ℕ) (at : ℕ) (text : List ℕ) (next : ℕ) (after : List ℕ) : Type 0 where
  pub ends : next ≡ at + length text
  pub puts : after ≡ put_at before at text

-- A claim record of 32 bytes: '0-1 group, 1 to 32; 2-7 zero; 8-15 margin, 0 to 2,560,000,000,000,000,000; 16-31 zero'.
use Rattle.std.specs.Prelude.{ℕ, Bool, ◌&&◌, cond, List, [], ◌++◌, eqb, leb, length, replicate}
use Rattle.records.specs.Bytes.{le_at, le_bytes, zero_in}
use Rattle.records.specs.Limits.{record_bytes, most_groups}
pub use Rattle.records.specs.Limits.{most_mills}
use Rattle.records.specs.Within.{within}
use Rattle.records.specs.declared.claims.Claim.{Claim}

-- where each field stands
unfoldable pub claim_fields : List ℕ → Claim
claim_fields xs = record { group = le_at xs 0 2; margin = le_at xs 8 8 }

-- the fields of a part of at least 32 bytes; those of a shorter one are all zero, as of no bytes
unfoldable pub claim_of : List ℕ → Claim
claim_of xs = claim_fields (cond (leb record_bytes (length xs)) xs [])

-- the 32 bytes that say these fields; all others are zero
unfoldable pub claim_bytes : Claim → List ℕ
claim_bytes c = le_bytes c.group 2 ++ replicate 6 0 ++ le_bytes c.margin 8 ++ replicate 16 0

unfoldable pub good_claim : List ℕ → Bool
good_claim xs =
    eqb (length xs) record_bytes
    && (within 1 most_groups (claim_of xs).group
    && zero_in xs 2 7
    && leb (claim_of xs).margin most_mills
    && zero_in xs 16 31)

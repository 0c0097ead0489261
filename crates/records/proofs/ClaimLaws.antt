-- A claim's fields said in bytes, and read again.
use Prim.Native.Nat.{ℕ, ◌+◌, ◌*◌, ◌/◌, ◌%◌}
use mathlib.Core.Path.{◌≡◌, refl}
use mathlib.Core.Bool.{true}
use native.Mathlib.Omega.{arith}
use lib.ListN.{length}
use borrow.Author.Tests.{le-leb}
use Rattle.records.specs.Bytes.{le_at, le_bytes, zero_in}
use Rattle.records.specs.Lists.{all_of}
use Rattle.records.specs.Limits.{most_mills}
use Rattle.records.specs.Claims.{claim_fields, claim_of, claim_bytes, good_claim}
use Rattle.records.specs.declared.claims.Claim.{Claim}
use Rattle.records.proofs.LegLaws.{two, four}
use Rattle.records.proofs.TableLaws.{ClaimRanges}

-- the low four bytes, and above them the others
low_four : (n : ℕ) → n % 256 + 256 * (n / 256 % 256 + 256 * (n / 256 / 256 % 256 + 256 * (n / 256 / 256 / 256 % 256 + 256 * (n / 256 / 256 / 256 / 256)))) ≡ n
low_four n = omega arith

pub length_claim_bytes : (c : Claim) → length (claim_bytes c) ≡ 32
unfolding claim_bytes le_bytes
length_claim_bytes c = refl

-- a claim all of whose fields are zero, as the one that its type has by default
pub claim_blank : (c : Claim) → (c.group ≡ 0) × (c.margin ≡ 0) → c ≡ record { group = 0; margin = 0 }
claim_blank c e = λ i. record { group = e.0 i; margin = e.1 i }

module _ (c : Claim) (r : ClaimRanges c) where
  fields_back : claim_fields (claim_bytes c) ≡ c
  unfolding claim_fields claim_bytes le_bytes le_at
  fields_back =
      rw (
        two c.group,
        four (c.margin / 256 / 256 / 256 / 256),
        low_four c.margin,
      )

  -- a claim in its ranges is read as it was said
  pub claim_back : claim_of (claim_bytes c) ≡ c
  unfolding claim_of
  claim_back = rw (length_claim_bytes c) fields_back

  first_zero : zero_in (claim_bytes c) 2 7 ≡ true
  unfolding zero_in all_of claim_bytes le_bytes
  first_zero = refl

  last_zero : zero_in (claim_bytes c) 16 31 ≡ true
  unfolding zero_in all_of claim_bytes le_bytes
  last_zero = refl

  -- and its bytes are a good record
  pub claim_good : good_claim (claim_bytes c) ≡ true
  unfolding good_claim
  claim_good =
      rw (
        length_claim_bytes c,
        claim_back,
        le-leb 1 c.group r.group.0,
        le-leb c.group 32 r.group.1,
        first_zero,
        le-leb c.margin most_mills r.margin,
        last_zero,
      )

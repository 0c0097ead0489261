-- The search for the first record of a line and side, from link to link.
-- A link is to a record, counted from 1, or to none, 0. There is one for each bucket and eight for each record.
use Rattle.std.specs.Prelude.{◌≡◌, Bool, true, false, cond, ◌&&◌, List, ℕ, suc, ◌+◌, ◌*◌, ◌/◌, ◌%◌, ◌≤◌, ◌<◌, ltb, eqb, length, get_or}
use Rattle.records.specs.declared.legs.Leg.{Leg}
use Rattle.sheets.specs.Steps.Pooled.{most_pooled, alike}
use Rattle.sheets.specs.declared.links.Digits.{Digits}

abbrev pub buckets : ℕ
buckets = 509

abbrev pub ways : ℕ
ways = 8

-- how many links n records have, and where those of record n start
abbrev pub links_of : ℕ → ℕ
links_of n = buckets + ways * n

-- which bucket a leg is in: legs of one line and side are in one
unfoldable pub bucket_of : Leg → ℕ
bucket_of l = (l.strike + 3 * l.expiry + 31 * l.underlying + 7 * l.side + 5 * l.right + 17 * l.size) % buckets

-- the fields of few values as one number
abbrev pub sorts_of : Leg → ℕ
sorts_of l = l.side + 2 * l.right + 4 * l.style + 8 * l.market + 16 * l.settlement

-- the line and side of a leg as one number in two words, read digit by digit to the base 8
unfoldable pub digits_of : Leg → Digits
digits_of l =
    record {
      low = l.strike + 134217728 * l.expiry;
      high = l.underlying + 4294967296 * l.size + 4398046511104 * sorts_of l;
    }

-- the digits after the first
unfoldable pub rest_of : Digits → Digits
rest_of d = cond (ltb d.low ways) (record { low = d.high; high = 0 }) (record { low = d.low / ways; high = d.high })

-- the link of record j for the first digit
unfoldable pub link_below : ℕ → Digits → ℕ
link_below j d = links_of j + d.low % ways

-- no link leads anywhere
abbrev pub Unlinked : List ℕ → Type 0
Unlinked links = (l : ℕ) → get_or links l 0 ≡ 0

-- links lead to the first k records, and each to one whose own links come after it
abbrev pub Rising : ℕ → List ℕ → Type 0
Rising k links = (l j : ℕ) → get_or links l 0 ≡ suc j → (j < k) × (l < links_of j)

-- the search for x, with these digits left, goes from link l to link `end`, which is free or leads to a record alike
pub data Ends (leg : ℕ → Leg) (links : List ℕ) (x : Leg) : Digits → ℕ → ℕ → Type 0 where
  free : {d : Digits} {l end : ℕ} → end ≡ l → get_or links l 0 ≡ 0 → Ends leg links x d l end
  met : {d : Digits} {l end : ℕ} (j : ℕ) → end ≡ l → get_or links l 0 ≡ suc j → alike leg x j ≡ true → Ends leg links x d l end
  on : {d : Digits} {l end : ℕ} (j : ℕ) → get_or links l 0 ≡ suc j → alike leg x j ≡ false → Ends leg links x (rest_of d) (link_below j d) end → Ends leg links x d l end

-- a line and side that its two words give back: each field has room in its part of them
pub record Packed (l : Leg) : Type 0 where
  pub side : (1 ≤ l.side) × (l.side ≤ 2)
  pub right : (1 ≤ l.right) × (l.right ≤ 2)
  pub style : (1 ≤ l.style) × (l.style ≤ 2)
  pub market : (1 ≤ l.market) × (l.market ≤ 2)
  pub size : l.size < 1024
  pub underlying : l.underlying < 4294967296
  pub strike : l.strike < 134217728

-- both words are the same
abbrev pub same_words : Digits → Digits → Bool
same_words a b = eqb a.low b.low && eqb a.high b.high

-- what stands at an index of a list of words
abbrev pub words_at : List Digits → ℕ → Digits
words_at words j = get_or words j (record { low = 0; high = 0 })

-- at the index of each linked record stand the words of its line and side
pub record Worded (leg : ℕ → Leg) (words : List Digits) (j : ℕ) : Type 0 where
  pub packed : Packed (leg j)
  pub digits : words_at words j ≡ digits_of (leg j)

abbrev pub AllWorded : (ℕ → Leg) → List Digits → List ℕ → Type 0
AllWorded leg words links = (l j : ℕ) → get_or links l 0 ≡ suc j → Worded leg words j

-- the lists of words and links are of one size
abbrev pub WordRooms : List Digits → List ℕ → Type 0
WordRooms words links = (length words ≤ most_pooled) × (links_of (length words) ≤ length links)

-- where a search by a bucket and two words ends, among records of which the words are known
abbrev pub EndsFor : List Digits → List ℕ → ℕ → Digits → ℕ → Type 0
EndsFor words links bucket whole end =
    (leg : ℕ → Leg) → AllWorded leg words links
    → (x : Leg) → Packed x → whole ≡ digits_of x → bucket ≡ bucket_of x → Ends leg links x (digits_of x) (bucket_of x) end

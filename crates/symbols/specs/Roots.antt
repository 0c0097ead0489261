-- 'A lent table of 1 to 256 roots has 16 bytes each: 0-5 root, 6 style, 7 market, 8-9 unit size, 10 settlement, 11 zero,
-- 12-15 underlying; roots differ, and so do those five taken together.'
use Rattle.std.specs.Prelude.{ℕ, ◌+◌, ◌/◌, ◌%◌, Bool, true, not, cond, ◌&&◌, ◌||◌, List, [], ◌∷◌, ◌++◌, eqb, length, get_or, take}
use Rattle.records.specs.Bytes.{le_at}
use Rattle.records.specs.Chunks.{chunks}
use Rattle.records.specs.Lists.{same, all_of}
use Rattle.records.specs.Order.{Check, ask}
use Rattle.records.specs.Within.{within}
use Rattle.records.specs.declared.legs.Leg.{Leg}
use Rattle.symbols.specs.Digits.{is_blank, is_letter, is_digit}
use Rattle.symbols.specs.declared.roots.Terms.{Terms}

-- 'A lent table of 1 to 256 roots has 16 bytes each: 0-5 root'
abbrev pub root_bytes : ℕ
root_bytes = 16

abbrev pub most_roots : ℕ
most_roots = 256

abbrev pub name_bytes : ℕ
name_bytes = 6

-- the entries of a table of roots
unfoldable pub roots_of : List ℕ → List (List ℕ)
roots_of t = chunks root_bytes (length t / root_bytes) t

-- ---- one entry

-- '0-5 root'
abbrev pub name_of : List ℕ → List ℕ
name_of e = take name_bytes e

-- '6 style, 7 market, 8-9 unit size, 10 settlement, .. 12-15 underlying'
unfoldable pub terms_of : List ℕ → Terms
terms_of e =
    record { style = le_at e 6 1; market = le_at e 7 1; size = le_at e 8 2; settlement = le_at e 10 1; underlying = le_at e 12 4 }

-- 'those five taken together'
abbrev pub five : Terms → List ℕ
five t = t.style ∷ t.market ∷ t.size ∷ t.settlement ∷ t.underlying ∷ []

unfoldable pub same_terms : Terms → Terms → Bool
same_terms a b = same (five a) (five b)

-- 'padded right with blanks': characters of A-Z and 0-9, and from the first blank on nothing but blanks
unfoldable pub padded : List ℕ → Bool
padded [] = true
padded (c ∷ cs) = cond (is_blank c) (all_of is_blank cs) ((is_letter c || is_digit c) && padded cs)

-- 'A root is 1 to 6 of A-Z and 0-9, a letter first', in 6 characters
unfoldable pub good_name : List ℕ → Bool
good_name cs = eqb (length cs) name_bytes && is_letter (get_or cs 0 0) && padded cs

-- the ranges that document 01 gives these fields of a leg
unfoldable pub good_terms : Terms → Bool
good_terms t =
    within 1 2 t.style
    && within 1 2 t.market
    && within 1 1000 t.size
    && within 0 2 t.settlement
    && within 1 4294967295 t.underlying

-- well formed and in range, byte 11 zero
unfoldable pub good_root : List ℕ → Bool
good_root e = good_name (name_of e) && good_terms (terms_of e) && eqb (le_at e 11 1) 0

-- ---- the table

-- two entries have one root, or the five the same
unfoldable pub repeats : List ℕ → List ℕ → Bool
repeats e f = same (name_of e) (name_of f) || same_terms (terms_of e) (terms_of f)

-- an entry repeats none of the earlier ones
unfoldable pub fresh : List (List ℕ) → List ℕ → Bool
fresh before e = all_of (λ f. not (repeats e f)) before

-- '23, root table ill formed, out of range or repeating an earlier one, table 5, place its first bad root': the first is entry i,
-- after those before it
unfoldable pub ask_roots : List (List ℕ) → ℕ → List (List ℕ) → List Check
ask_roots before i [] = []
ask_roots before i (e ∷ es) = ask (good_root e && fresh before e) 23 5 i ∷ ask_roots (before ++ e ∷ []) (i + 1) es

-- '1 to 256 roots' of 16 bytes each
abbrev pub whole_roots : ℕ → Bool
whole_roots bytes = eqb (bytes % root_bytes) 0 && within 1 most_roots (bytes / root_bytes)

-- '.. or 0 for a wrong size'
unfoldable pub root_checks : List ℕ → List Check
root_checks t = ask (whole_roots (length t)) 23 5 0 ∷ ask_roots [] 0 (roots_of t)

-- ---- looked up

-- the index of the first entry that passes the test; where none does, how many there are
unfoldable pub place_where : (List ℕ → Bool) → List (List ℕ) → ℕ
place_where t [] = 0
place_where t (e ∷ es) = cond (t e) 0 (place_where t es + 1)

-- the entry of a root
unfoldable pub place_of_name : List ℕ → List (List ℕ) → ℕ
place_of_name name es = place_where (λ e. same (name_of e) name) es

-- the entry of five terms
unfoldable pub place_of_terms : Terms → List (List ℕ) → ℕ
place_of_terms t es = place_where (λ e. same_terms (terms_of e) t) es

-- a leg's own
unfoldable pub leg_terms : Leg → Terms
leg_terms l =
    record { style = l.style; market = l.market; size = l.size; settlement = l.settlement; underlying = l.underlying }
